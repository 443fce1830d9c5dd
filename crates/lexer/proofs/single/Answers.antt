-- single: brackets and the comma are operators of one byte, by their definition.
use Prim.Native.Char.{code}
use native.Mathlib.Omega.{arith}
use mathlib.Core.Path.{refl}
use Rattle.token.specs.Kinds as K
use Rattle.numbers.specs.Numbers.{digit_value, is_digit}
use Rattle.operators.specs.Operators.{longest_operator, single}
use Rattle.strings.specs.Strings.{is_quote}
use Rattle.classes.specs.Promises.{is_ascii_start}
use Rattle.lexer.proofs.Glances.{mark_is, single_is}
use Rattle.lexer.proofs.single.Goals as goal

pub returns-in-40 : goal.returns-in-40
unfolding longest_operator single is_ascii_start is_digit digit_value is_quote
returns-in-40 c = single_is _ (code "(") K.lpar c.in-40.is (mark_is _ (omega arith) (omega arith) refl refl refl) refl (λ _ _. refl) (omega arith)

pub returns-in-41 : goal.returns-in-41
unfolding longest_operator single is_ascii_start is_digit digit_value is_quote
returns-in-41 c = single_is _ (code ")") K.rpar c.in-41.is (mark_is _ (omega arith) (omega arith) refl refl refl) refl (λ _ _. refl) (omega arith)

pub returns-in-91 : goal.returns-in-91
unfolding longest_operator single is_ascii_start is_digit digit_value is_quote
returns-in-91 c = single_is _ (code "[") K.lsqb c.in-91.is (mark_is _ (omega arith) (omega arith) refl refl refl) refl (λ _ _. refl) (omega arith)

pub returns-in-93 : goal.returns-in-93
unfolding longest_operator single is_ascii_start is_digit digit_value is_quote
returns-in-93 c = single_is _ (code "]") K.rsqb c.in-93.is (mark_is _ (omega arith) (omega arith) refl refl refl) refl (λ _ _. refl) (omega arith)

pub returns-in-123 : goal.returns-in-123
unfolding longest_operator single is_ascii_start is_digit digit_value is_quote
returns-in-123 c = single_is _ (code "{") K.lbrace c.in-123.is (mark_is _ (omega arith) (omega arith) refl refl refl) refl (λ _ _. refl) (omega arith)

pub returns-in-125 : goal.returns-in-125
unfolding longest_operator single is_ascii_start is_digit digit_value is_quote
returns-in-125 c = single_is _ (code "}") K.rbrace c.in-125.is (mark_is _ (omega arith) (omega arith) refl refl refl) refl (λ _ _. refl) (omega arith)

pub returns-in-44 : goal.returns-in-44
unfolding longest_operator single is_ascii_start is_digit digit_value is_quote
returns-in-44 c = single_is _ (code ",") K.comma c.in-44.is (mark_is _ (omega arith) (omega arith) refl refl refl) refl (λ _ _. refl) (omega arith)
