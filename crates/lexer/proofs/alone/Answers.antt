-- alone: before a character that stands apart these are operators of one byte, by their definition.
use Prim.Native.Char.{code}
use native.Mathlib.Omega.{arith}
use mathlib.Core.Path.{refl}
use Rattle.token.specs.Kinds as K
use Rattle.token.specs.Brackets.{is_opener, is_closer}
use Rattle.numbers.specs.Numbers.{digit_value, is_digit}
use Rattle.operators.specs.Operators.{longest_operator, before_equal, doubled, dash, dots}
use Rattle.strings.specs.Strings.{is_quote}
use Rattle.classes.specs.Promises.{is_ascii_start}
use Rattle.lexer.proofs.Glances.{mark_is, alone_is}
use Rattle.lexer.proofs.alone.Goals as goal

pub returns-in-46 : goal.returns-in-46
unfolding longest_operator before_equal doubled dash dots is_ascii_start is_digit digit_value is_quote is_opener is_closer
returns-in-46 c = alone_is _ (code ".") K.dot c.in-46.is (mark_is _ (omega arith) (omega arith) refl refl refl) (omega arith) refl refl (λ _ _ a. simp a.dot)

pub returns-in-58 : goal.returns-in-58
unfolding longest_operator before_equal doubled dash dots is_ascii_start is_digit digit_value is_quote is_opener is_closer
returns-in-58 c = alone_is _ (code ":") K.colon c.in-58.is (mark_is _ (omega arith) (omega arith) refl refl refl) (omega arith) refl refl (λ _ _ a. simp a.equal)

pub returns-in-61 : goal.returns-in-61
unfolding longest_operator before_equal doubled dash dots is_ascii_start is_digit digit_value is_quote is_opener is_closer
returns-in-61 c = alone_is _ (code "=") K.equal c.in-61.is (mark_is _ (omega arith) (omega arith) refl refl refl) (omega arith) refl refl (λ _ _ a. simp a.equal)

pub returns-in-43 : goal.returns-in-43
unfolding longest_operator before_equal doubled dash dots is_ascii_start is_digit digit_value is_quote is_opener is_closer
returns-in-43 c = alone_is _ (code "+") K.plus c.in-43.is (mark_is _ (omega arith) (omega arith) refl refl refl) (omega arith) refl refl (λ _ _ a. simp a.equal)

pub returns-in-45 : goal.returns-in-45
unfolding longest_operator before_equal doubled dash dots is_ascii_start is_digit digit_value is_quote is_opener is_closer
returns-in-45 c = alone_is _ (code "-") K.minus c.in-45.is (mark_is _ (omega arith) (omega arith) refl refl refl) (omega arith) refl refl (λ _ _ a. simp (a.more, a.equal))

pub returns-in-42 : goal.returns-in-42
unfolding longest_operator before_equal doubled dash dots is_ascii_start is_digit digit_value is_quote is_opener is_closer
returns-in-42 c = alone_is _ (code "*") K.star c.in-42.is (mark_is _ (omega arith) (omega arith) refl refl refl) (omega arith) refl refl (λ _ _ a. simp (a.equal, a.star))

pub returns-in-47 : goal.returns-in-47
unfolding longest_operator before_equal doubled dash dots is_ascii_start is_digit digit_value is_quote is_opener is_closer
returns-in-47 c = alone_is _ (code "/") K.slash c.in-47.is (mark_is _ (omega arith) (omega arith) refl refl refl) (omega arith) refl refl (λ _ _ a. simp (a.equal, a.slash))

pub returns-in-37 : goal.returns-in-37
unfolding longest_operator before_equal doubled dash dots is_ascii_start is_digit digit_value is_quote is_opener is_closer
returns-in-37 c = alone_is _ (code "%") K.percent c.in-37.is (mark_is _ (omega arith) (omega arith) refl refl refl) (omega arith) refl refl (λ _ _ a. simp a.equal)

pub returns-in-60 : goal.returns-in-60
unfolding longest_operator before_equal doubled dash dots is_ascii_start is_digit digit_value is_quote is_opener is_closer
returns-in-60 c = alone_is _ (code "<") K.less c.in-60.is (mark_is _ (omega arith) (omega arith) refl refl refl) (omega arith) refl refl (λ _ _ a. simp (a.equal, a.less))

pub returns-in-62 : goal.returns-in-62
unfolding longest_operator before_equal doubled dash dots is_ascii_start is_digit digit_value is_quote is_opener is_closer
returns-in-62 c = alone_is _ (code ">") K.greater c.in-62.is (mark_is _ (omega arith) (omega arith) refl refl refl) (omega arith) refl refl (λ _ _ a. simp (a.equal, a.more))
