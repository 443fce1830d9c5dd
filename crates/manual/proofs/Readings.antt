-- What a text is read to: answers, rounds, lines, the end, the second pass, re-reading; document 01's table of twelve texts; texts
-- with comments.
-- Assumes nothing.
use Prim.Native.Nat.{ℕ}
use Prim.Native.Char.{code}
use Prim.Native.String.{String}
use mathlib.Core.Path.{◌≡◌, refl}
use mathlib.Core.List.{List, [], ◌∷◌, ◌++◌, map}
use mathlib.Core.Logic.{inl}
use native.Mathlib.Omega.{arith}
use mathlib.Core.Bool.{Bool, true, false}
use Rattle.std.specs.Prelude.{None, Some}
use lib.ListN.{length, drop, set}
use Rattle.utf8.specs.declared.Fault.TheVariants.{Surrogate}
use Rattle.utf8.specs.Utf8.{within, least_second, greatest_second, fault_number, first_fault, cut_fault, second_fault, two_bytes, three_bytes, four_bytes, decode_four, decode_at}
use Rattle.utf8.specs.Chars.{decode_head, chars_from, ill_formed_from, checked_at, checked, width, letters}
use Rattle.classes.specs.Ranges.{in_ranges}
use Rattle.classes.specs.Tables.{xid_start, xid_continue, emoji_presentation}
use Rattle.classes.specs.Classes.{is_identifier_start, is_identifier_continuation, is_emoji}
use Rattle.window.specs.Place.{slid_by, slid, next_char, text_start}
use Rattle.lines.specs.Lines.{is_line_end, line_at}
use Rattle.token.specs.Kinds.{newline, indent, dedent, name, comment, non_logical_newline, lpar, rpar, colon, match, type}
use Rattle.token.specs.declared.Record.{Record}
use Rattle.token.specs.Codes.{string_kind, code_of, detail_of}
use Rattle.token.specs.declared.Ending.TheVariants.{TabError, TabsAfterSpaces, UnrecognizedToken}
use Rattle.operators.specs.Operators.{before_equal, doubled, dash, exclamation, dots, single, longest_operator}
use Rattle.names.specs.Runs.{skip_from, skip_while, taken, is_newline, not_newline, is_blank}
use Rattle.names.specs.Names.{keywords, soft_keywords, number_in, kind_of_name, name_token, name_at}
use Rattle.strings.specs.Strings.{is_quote, lower, one_letter, beside_r, two_letters, opening_of, ahead, length_of_next, triple_at, breaks, closes, unclosed, body_from, body, string_at}
use Rattle.numbers.specs.Numbers.{digit_value, is_digit, in_run, digits_from, digits, is_letter, is_sign, at_exponent, float_end, exponent_digits, exponent_sign, exponent, after_fraction, fraction, integer, after_digits, normal_number, radix_number, radix_of, number_at}
use Rattle.indentation.specs.Blanks.{blanks_from, blanks}
use Rattle.indentation.specs.Notes.{is_cr_lf, notes_from, notes}
use Rattle.indentation.specs.Levels.{level, compare_strict, top_of, pop_by, pop_from, change_by, change_of}
use Rattle.lexer.specs.Items.{starts_number, joined_line, continuation, other_at, operator_at, normal_at, open_at, item_at}
use Rattle.token.specs.Brackets.{is_opener, is_closer}
use Rattle.lexer.specs.Steps.{is_note, is_listed, nest_after, token_step, step_of, step_at}
use Rattle.rounds.specs.Rounds.{state, error, more, dedents, with_item, at_level, line_start, round, ended, prefixed, follow, raw_rounds, raw_reading, listed_records, listed_reading, view}
use Rattle.soft_keywords.specs.SoftKeywords.{keyword_colon, lambda_after, match_from, keeps_match, stands_for_name, square_count_after, is_zero, keyword_equals, passes, type_from, keeps_type, stays_keyword, soft_kind, line_start_after, soften}
use Rattle.records.specs.Records.{spanned, rec, span_of, rec_at, recs_in, set_rec, puts}
use Rattle.reading.specs.Modes.{lists_notes, starts_line}
use Rattle.reading.specs.Answers.{refuse, go, plan_measure, answered, written, plan_answer, plan_row, whole_plan, bytes_refusal, text_refusal, unless, read_plan, read_answer, read_row, measure_answer}
use Rattle.answers.specs.Answers.{answer, too_long, unknown_mode, wrong_edit, unsound, refusal, ill_formed_at, no_room_for}
use Rattle.answers.specs.declared.Answer.{Answer}
use Rattle.rereading.specs.declared.Effect.TheVariants.{Opens}
use Rattle.rereading.specs.Rereads.{is_cut, kept_up_to, run_length, indent_of, indent_in, effect_of, broken, built, applied, rebuild, ends_line, has_its_line, go_on, cut_plan, kept_plan, edit_refusal, reread_plan, reread_answer, reread_row}
use Rattle.edit_theorem.specs.Calls.{Edit, Anew}
use Rattle.comments.specs.Clear.{clear_from, clear_type, clear}
use Rattle.margin_comments.specs.Lines.NewlineBytes.{lf}
use Rattle.margin_comments.specs.Lines.CommentLine.{hash}
use Rattle.margin_comments.specs.Lines.CommentBefore.{line}
use Rattle.margin_comments.specs.Lines.Lines.{none}
use Rattle.margin_comments.specs.Moved.{moved_behind, all_moved_behind}
use Rattle.margin_comments.specs.PutIn.{CommentPutIn}
use Rattle.manual.proofs.Texts.{zeros, numbers_from, records, first_kind, read_of, reread_of}

pub on_the_page :
    -- what comes back
    ((measure_answer (letters "x = 3\n") 0 0 ≡ answer 0 4 6 0)
    × (measure_answer (letters "x$") 0 0 ≡ answer 26 1 2 (code "$"))
    × (measure_answer (letters "x)") 0 0 ≡ answer 22 1 2 0)
    × (text_refusal (letters "x") 0 4294967295 ≡ refusal too_long)
    × (text_refusal (letters "x") 6 0 ≡ refusal unknown_mode)
    × (text_refusal (0x61 ∷ 0xed ∷ 0xa0 ∷ 0x80 ∷ []) 0 100 ≡ ill_formed_at 101 Surrogate)
    × (text_refusal (0xff ∷ []) 6 0 ≡ refusal unknown_mode)
    × (read_answer (letters "x") 0 0 (zeros 7) ≡ no_room_for 2)
    × (read_row (letters "x") 0 0 (zeros 7) ≡ zeros 7)
    × (read_answer (letters "x") 0 100 (zeros 10) ≡ answer 0 2 101 0)
    × (read_row (letters "x") 0 100 (zeros 10) ≡ 3 ∷ 100 ∷ 101 ∷ 0 ∷ 0 ∷ 101 ∷ 101 ∷ 0 ∷ 0 ∷ 0 ∷ [])
    × (read_plan (letters "x") 0 0 ≡ go 0 0 false true [])
    × (read_plan (letters "x") 6 0 ≡ refuse (refusal unknown_mode))
    × (records 0 "'''\n'''\nx" ≡ rec 17 0 7 0 ∷ rec newline 7 8 1 ∷ rec name 8 9 2 ∷ rec newline 9 9 2 ∷ []))
    -- modes
    × ((lists_notes 3 ≡ true)
    × (starts_line 2 ≡ false)
    × (records 0 "x # c\n" ≡ rec name 0 1 0 ∷ rec newline 5 6 0 ∷ [])
    × (records 3 "x # c\n" ≡ rec name 0 1 0 ∷ rec comment 2 5 0 ∷ rec newline 5 6 0 ∷ [])
    × (listed_records false (spanned comment 0 3 ∷ spanned name 4 5 ∷ []) ≡ spanned name 4 5 ∷ []))
    -- rounds
    × ((round (letters "x y") (state 0 true 0 []) ≡ more (spanned name 0 1 ∷ []) (state 1 false 0 []))
    × (round (letters "x y") (state 1 false 0 []) ≡ more [] (state 2 false 0 []))
    × (round (letters " $") (state 0 true 0 []) ≡ error (UnrecognizedToken (code "$")) 2)
    × (raw_reading (letters "x$") (state 0 true 0 []) ≡ ended (spanned name 0 1 ∷ []) 26 2 (code "$")))
    -- line starts, levels
    × ((round (letters " \tx") (state 0 true 0 []) ≡ error TabsAfterSpaces 1)
    × (round (letters "  x") (state 0 true 0 (level 1 0 ∷ [])) ≡ error TabError 2)
    × (round (letters "\t x") (state 0 true 0 []) ≡ more (spanned indent 0 2 ∷ spanned name 2 3 ∷ []) (state 3 false 0 (level 1 1 ∷ [])))
    × (round (letters "x") (state 0 true 0 (level 0 1 ∷ [])) ≡ more (spanned dedent 0 0 ∷ spanned name 0 1 ∷ []) (state 1 false 0 []))
    × (records 0 " x\n# c\n y" ≡ rec indent 0 1 0 ∷ rec name 1 2 0 ∷ rec newline 2 3 0 ∷ rec name 8 9 2 ∷ rec newline 9 9 2 ∷ rec dedent 9 9 2 ∷ [])
    × (records 0 "  \\\n \tx" ≡ rec indent 0 2 0 ∷ rec name 6 7 1 ∷ rec newline 7 7 1 ∷ rec dedent 7 7 1 ∷ [])
    × (records 3 "# c\n x" ≡ rec comment 0 3 0 ∷ rec non_logical_newline 3 4 0 ∷ rec indent 4 5 1 ∷ rec name 5 6 1 ∷ rec newline 6 6 1 ∷ rec dedent 6 6 1 ∷ [])
    × (records 3 " x\n# c\ny" ≡ rec indent 0 1 0 ∷ rec name 1 2 0 ∷ rec newline 2 3 0 ∷ rec comment 3 6 1 ∷ rec non_logical_newline 6 7 1 ∷ rec dedent 7 7 2 ∷ rec name 7 8 2 ∷ rec newline 8 8 2 ∷ []))
    -- brackets, the end
    × ((records 0 "(\n)" ≡ rec lpar 0 1 0 ∷ rec rpar 2 3 1 ∷ rec newline 3 3 1 ∷ [])
    × (records 3 "(\n)" ≡ rec lpar 0 1 0 ∷ rec non_logical_newline 1 2 0 ∷ rec rpar 2 3 1 ∷ rec newline 3 3 1 ∷ [])
    × (records 0 "x\n" ≡ rec name 0 1 0 ∷ rec newline 1 2 0 ∷ [])
    × (records 0 " x" ≡ rec indent 0 1 0 ∷ rec name 1 2 0 ∷ rec newline 2 2 0 ∷ rec dedent 2 2 0 ∷ []))
    -- the second pass
    × ((line_start_after false indent ≡ true)
    × (line_start_after true comment ≡ true)
    × (soft_kind false match (spanned name 8 9 ∷ spanned colon 9 10 ∷ []) ≡ name)
    × (first_kind 2 "match x: y" ≡ name)
    × (first_kind 0 "match x: y" ≡ match)
    × (first_kind 0 "match: int" ≡ name)
    × (first_kind 0 "match (x: y)" ≡ name)
    × (first_kind 0 "match lambda x: y" ≡ name)
    × (first_kind 0 "match lambda x: y: z" ≡ match)
    × (first_kind 0 "match x\n: y" ≡ name)
    × (first_kind 0 "match x $: y" ≡ name)
    × (first_kind 0 "type X = y" ≡ type)
    × (first_kind 0 "type match[T] = y" ≡ type)
    × (first_kind 0 "type = 1" ≡ name)
    × (first_kind 0 "type X.y = 1" ≡ name)
    × (first_kind 0 "type X[(]][=1]" ≡ type)
    × (first_kind 0 "type X[(]]=1" ≡ name)
    × (first_kind 0 "type X[(]\n=1)" ≡ type)
    × (first_kind 3 "type X[(]\n=1)" ≡ name))
    -- re-reading
    × ((kept_up_to 3 (rec name 0 1 0 ∷ rec newline 1 2 0 ∷ rec name 2 3 1 ∷ rec newline 3 4 1 ∷ []) ≡ 2)
    × (kept_up_to 2 (rec name 0 1 0 ∷ rec newline 1 2 0 ∷ []) ≡ 0)
    × (reread_plan (letters "x") 0 [] 0 0 ≡ whole_plan (letters "x") 0)
    × (ends_line (letters "a\r\nb") 3 ≡ true)
    × (ends_line (letters "a\r\nb") 2 ≡ false)
    × (has_its_line (letters "a\nb") (rec newline 1 2 0) ≡ true)
    × (reread_answer (letters "a\nb") 0 (0 ∷ 1 ∷ 2 ∷ 1 ∷ []) 1 3 ≡ refusal unsound)
    × (reread_row (letters "a\nb") 0 (3 ∷ 0 ∷ 1 ∷ 7 ∷ 0 ∷ 1 ∷ 2 ∷ 0 ∷ zeros 8) 2 3 ≡ 3 ∷ 0 ∷ 1 ∷ 7 ∷ 0 ∷ 1 ∷ 2 ∷ 0 ∷ 3 ∷ 2 ∷ 3 ∷ 1 ∷ 0 ∷ 3 ∷ 3 ∷ 1 ∷ [])
    × (reread_row (letters "a\n\nb") 0 (0 ∷ 1 ∷ 3 ∷ 0 ∷ zeros 8) 1 4 ≡ 0 ∷ 1 ∷ 3 ∷ 0 ∷ 3 ∷ 3 ∷ 4 ∷ 2 ∷ 0 ∷ 4 ∷ 4 ∷ 2 ∷ [])
    × (indent_in (letters "\t x") 0 0 2 ≡ Some (Opens (level 1 1)))
    × (indent_in (letters " \tx") 0 0 2 ≡ None)
    × (effect_of (letters "x\n") 2 0 (rec dedent 0 0 0) ≡ None)
    × (effect_of (letters "x\n") 2 0 (rec name 0 3 0) ≡ None)
    × (rebuild (letters " x\n") 3 (rec indent 0 1 0 ∷ rec name 1 2 0 ∷ rec newline 2 3 0 ∷ []) [] ≡ built (level 0 1 ∷ []))
    × (go_on 3 2 5 (built (level 0 1 ∷ [])) ≡ go 2 5 true true (level 0 1 ∷ []))
    × (go_on 3 2 5 broken ≡ refuse (refusal unsound))
    × (edit_refusal 4 9 2 5 ≡ refusal wrong_edit)
    × (reread_answer (letters "a\nb") 0 (2 ∷ 0 ∷ 0 ∷ 0 ∷ 0 ∷ 1 ∷ 2 ∷ 0 ∷ []) 2 3 ≡ refusal unsound))
    -- an edit
    × (Edit (read_of "a\nb\n" (zeros 16)) (reread_of "a\nbb\n" 3 (read_of "a\nb\n" (zeros 16)))
    × Anew (reread_of "a\nbb\n" 3 (read_of "a\nb\n" (zeros 16))) (read_of "a\nbb\n" (numbers_from 7000 16)))
    -- the premise of the theorem about comments; a comment line that is put in
    × ((clear true (raw_reading (letters "x # c\n") (state 0 true 0 [])).recs ≡ true)
    × (clear true (raw_reading (letters "type X[(]\n=1)") (state 0 true 0 [])).recs ≡ false)
    × (all_moved_behind 3 4 (map span_of (records 0 " x\n y")) ≡ map span_of (records 0 " x\n# c\n y"))
    × CommentPutIn (read_of " x\n y" (zeros 24)) (read_of " x\n# c\n y" (zeros 24)))
unfolding within least_second greatest_second fault_number first_fault cut_fault second_fault two_bytes three_bytes four_bytes decode_four decode_at decode_head chars_from ill_formed_from checked_at checked width in_ranges xid_start
    xid_continue emoji_presentation is_identifier_start is_identifier_continuation is_emoji slid_by slid next_char text_start is_line_end line_at string_kind code_of detail_of
    before_equal doubled dash exclamation dots single longest_operator skip_from skip_while taken is_newline not_newline is_blank keywords soft_keywords
    number_in kind_of_name name_token name_at is_quote lower one_letter beside_r two_letters opening_of ahead length_of_next triple_at breaks closes unclosed body_from body string_at digit_value is_digit in_run digits_from
    digits is_letter is_sign at_exponent integer after_digits normal_number number_at blanks_from blanks is_cr_lf notes_from notes
    compare_strict top_of pop_by pop_from change_by change_of starts_number joined_line continuation other_at operator_at normal_at open_at item_at is_note is_listed
    is_opener is_closer nest_after token_step step_of step_at dedents with_item at_level line_start round prefixed follow raw_rounds raw_reading listed_records listed_reading view
    keyword_colon lambda_after match_from keeps_match stands_for_name square_count_after is_zero keyword_equals passes type_from keeps_type stays_keyword soft_kind
    line_start_after soften rec_at recs_in set_rec puts lists_notes starts_line plan_measure answered written plan_answer plan_row bytes_refusal text_refusal unless
    read_plan read_answer read_row measure_answer is_cut kept_up_to run_length indent_of indent_in effect_of applied rebuild ends_line has_its_line go_on cut_plan kept_plan
    edit_refusal reread_plan reread_answer reread_row clear_from clear_type clear moved_behind
on_the_page = (
  (refl, refl, refl, refl, refl, refl, refl, refl, refl, refl, refl, refl, refl, refl),
  (refl, refl, refl, refl, refl),
  (refl, refl, refl, refl),
  (refl, refl, refl, refl, refl, refl, refl, refl),
  (refl, refl, refl, refl),
  (refl, refl, refl, refl, refl, refl, refl, refl, refl, refl, refl, refl, refl, refl, refl, refl, refl, refl, refl),
  (refl, refl, refl, refl, refl, refl, refl, refl, refl, refl, refl, refl, refl, refl, refl, refl, refl, refl),
  (
    record { start = refl; records = inl refl; lent = refl; mode = refl; count = refl; in_old = omega arith; in_new = omega arith; same = refl },
    record { start = refl; text = refl; mode = refl; long = refl },
  ),
  (
    refl,
    refl,
    refl,
    record {
      front = letters " x\n";
      lines = [];
      bytes = letters "# c\n";
      back = letters " y";
      between = none;
      comment = line (letters " y") (hash 0 0 (letters " c") (refl, (refl, tt)) lf);
      old_text = refl;
      new_text = refl;
      mode = refl;
      no_notes = omega arith;
      old_start = refl;
      new_start = refl;
      old_records = inl refl;
      new_records = inl refl;
      before = spanned indent 0 1 ∷ spanned name 1 2 ∷ [];
      newline = spanned newline 2 3;
      behind = spanned name 4 5 ∷ spanned newline 5 5 ∷ spanned dedent 5 5 ∷ [];
      listed = refl;
      kind = refl;
      some = omega arith;
      ends = refl;
    },
  ),
)

-- read as a module at start 0 into the row 7000 to 7047, a text gives this answer, and leaves these numbers, and behind them the row's own
abbrev Reads : List ℕ → Answer → List ℕ → Type 0
Reads t a numbers =
    let row = numbers_from 7000 48 in (read_answer t 0 0 row ≡ a) × (read_row t 0 0 row ≡ numbers ++ drop (length numbers) row)

-- document 01, "Checked by eye, then by proof"
pub checked_by_eye : Reads (letters "") (answer 0 0 0 0) []
    × Reads (letters "x") (answer 0 2 1 0) (3 ∷ 0 ∷ 1 ∷ 0 ∷ 0 ∷ 1 ∷ 1 ∷ 0 ∷ [])
    × Reads (letters "x\r\ny") (answer 0 4 4 0) (3 ∷ 0 ∷ 1 ∷ 0 ∷ 0 ∷ 1 ∷ 3 ∷ 0 ∷ 3 ∷ 3 ∷ 4 ∷ 1 ∷ 0 ∷ 4 ∷ 4 ∷ 1 ∷ [])
    × Reads (letters "00") (answer 0 2 2 0) (4 ∷ 0 ∷ 2 ∷ 0 ∷ 0 ∷ 2 ∷ 2 ∷ 0 ∷ [])
    × Reads (letters "0_7") (answer 31 0 3 0) []
    × Reads (letters "1e") (answer 0 3 2 0) (4 ∷ 0 ∷ 1 ∷ 0 ∷ 3 ∷ 1 ∷ 2 ∷ 0 ∷ 0 ∷ 2 ∷ 2 ∷ 0 ∷ [])
    × Reads (letters "1.e") (answer 30 0 3 0) []
    × Reads (letters " \t\n") (answer 25 0 1 0) []
    × Reads (letters "x)") (answer 22 1 2 0) (3 ∷ 0 ∷ 1 ∷ 0 ∷ [])
    -- no Dedent
    × Reads (letters "if a:\n b\n!") (answer 26 7 9 33)
    (120 ∷ 0 ∷ 2 ∷ 0 ∷ 3 ∷ 3 ∷ 4 ∷ 0 ∷ 63 ∷ 4 ∷ 5 ∷ 0 ∷ 0 ∷ 5 ∷ 6 ∷ 0 ∷ 1 ∷ 6 ∷ 7 ∷ 1 ∷ 3 ∷ 7 ∷ 8 ∷ 1 ∷ 0 ∷ 8 ∷ 9 ∷ 1 ∷ [])
    -- two BOMs
    × Reads (0xef ∷ 0xbb ∷ 0xbf ∷ 0xef ∷ 0xbb ∷ 0xbf ∷ []) (answer 26 0 6 65279) []
    × Reads (letters "type X[(]][=1]") (answer 0 11 14 0)
    (142 ∷ 0 ∷ 4 ∷ 0 ∷ 3 ∷ 5 ∷ 6 ∷ 0 ∷ 59 ∷ 6 ∷ 7 ∷ 0 ∷ 57 ∷ 7 ∷ 8 ∷ 0 ∷ 60 ∷ 8 ∷ 9 ∷ 0 ∷ 60 ∷ 9 ∷ 10 ∷ 0 ∷ 59 ∷ 10 ∷ 11 ∷ 0 ∷
    30 ∷ 11 ∷ 12 ∷ 0 ∷ 4 ∷ 12 ∷ 13 ∷ 0 ∷ 60 ∷ 13 ∷ 14 ∷ 0 ∷ 0 ∷ 14 ∷ 14 ∷ 0 ∷ [])
unfolding within least_second greatest_second fault_number first_fault cut_fault second_fault two_bytes three_bytes four_bytes decode_four decode_at decode_head chars_from ill_formed_from checked_at checked width in_ranges xid_start
    xid_continue emoji_presentation is_identifier_start is_identifier_continuation is_emoji slid_by slid next_char text_start is_line_end line_at string_kind code_of detail_of
    before_equal doubled dash exclamation dots single longest_operator skip_from skip_while taken is_newline not_newline is_blank keywords soft_keywords
    number_in kind_of_name name_token name_at is_quote lower one_letter beside_r two_letters opening_of digit_value is_digit in_run digits_from
    digits is_letter is_sign at_exponent float_end exponent_digits exponent_sign exponent after_fraction fraction integer after_digits
    normal_number radix_number radix_of number_at blanks_from blanks is_cr_lf notes_from notes compare_strict top_of pop_by pop_from change_by
    change_of starts_number joined_line continuation other_at operator_at normal_at open_at item_at is_note is_listed is_opener is_closer token_step
    step_of step_at dedents with_item at_level line_start round prefixed follow raw_rounds raw_reading listed_records listed_reading view stands_for_name square_count_after is_zero keyword_equals
    passes type_from keeps_type stays_keyword soft_kind line_start_after soften set_rec puts lists_notes starts_line answered written plan_answer plan_row
    bytes_refusal text_refusal unless read_plan read_answer read_row
checked_by_eye =
    ((refl, refl), (refl, refl), (refl, refl), (refl, refl), (refl, refl), (refl, refl), (refl, refl), (refl, refl), (refl, refl), (refl, refl), (refl, refl), (refl, refl))

-- document 01, "What a proof here has to say": the records of `a\nb\n`, listed in a row of 18 numbers, the first kind altered to 4
abbrev altered : List ℕ
altered = set (read_row (letters "a\nb\n") 0 0 (numbers_from 7000 18)) 0 4

-- and the new text is `a\nbb\n`, whose first 3 bytes are as they were: the 4 stays, where a whole reading writes a 3
pub the_four_stays : (altered ≡ 4 ∷ 0 ∷ 1 ∷ 0 ∷ 0 ∷ 1 ∷ 2 ∷ 0 ∷ 3 ∷ 2 ∷ 3 ∷ 1 ∷ 0 ∷ 3 ∷ 4 ∷ 1 ∷ 7016 ∷ 7017 ∷ [])
    × (reread_answer (letters "a\nbb\n") 0 altered 4 3 ≡ answer 0 4 5 0)
    × (reread_row (letters "a\nbb\n") 0 altered 4 3 ≡ 4 ∷ 0 ∷ 1 ∷ 0 ∷ 0 ∷ 1 ∷ 2 ∷ 0 ∷ 3 ∷ 2 ∷ 4 ∷ 1 ∷ 0 ∷ 4 ∷ 5 ∷ 1 ∷ 7016 ∷ 7017 ∷ [])
    × (read_row (letters "a\nbb\n") 0 0 altered ≡ 3 ∷ 0 ∷ 1 ∷ 0 ∷ 0 ∷ 1 ∷ 2 ∷ 0 ∷ 3 ∷ 2 ∷ 4 ∷ 1 ∷ 0 ∷ 4 ∷ 5 ∷ 1 ∷ 7016 ∷ 7017 ∷ [])
unfolding decode_four decode_at decode_head chars_from ill_formed_from checked_at checked width in_ranges xid_start xid_continue is_identifier_start is_identifier_continuation slid_by slid
    next_char text_start is_line_end line_at string_kind code_of detail_of before_equal doubled dash exclamation dots single longest_operator skip_from skip_while taken
    is_newline not_newline is_blank keywords soft_keywords number_in kind_of_name name_token name_at is_quote lower one_letter beside_r two_letters opening_of
    digit_value is_digit in_run digits_from digits is_letter is_sign at_exponent integer after_digits normal_number number_at blanks_from blanks is_cr_lf notes_from
    notes compare_strict top_of pop_by pop_from change_by change_of starts_number joined_line continuation other_at operator_at normal_at open_at item_at is_note
    is_listed is_opener is_closer nest_after token_step step_of step_at dedents with_item at_level line_start round prefixed follow raw_rounds raw_reading
    listed_records listed_reading view stays_keyword soft_kind line_start_after soften rec_at recs_in set_rec puts lists_notes starts_line answered written
    plan_answer plan_row bytes_refusal text_refusal unless read_plan read_answer read_row is_cut kept_up_to effect_of applied rebuild ends_line has_its_line go_on cut_plan kept_plan
    edit_refusal reread_plan reread_answer reread_row
the_four_stays = (refl, refl, refl, refl)

-- whether the premise of the theorem about comments holds of a text; how its reading ends; its records in mode 3, and in mode 0
abbrev BothWays : String → Bool → ℕ → ℕ → ℕ → List Record → List Record → Type 0
BothWays s premise code place detail full plain =
    (clear true (raw_reading (letters s) (state 0 true 0 [])).recs ≡ premise)
    × (measure_answer (letters s) 3 0 ≡ answer code (length full) place detail) × (records 3 s ≡ full)
    × (measure_answer (letters s) 0 0 ≡ answer code (length plain) place detail) × (records 0 s ≡ plain)

-- in document 02's text, what stands between `type` and the newline, and what behind it
abbrev front : List Record
front = rec 3 5 6 0 ∷ rec 59 6 7 0 ∷ rec 57 7 8 0 ∷ rec 60 8 9 0 ∷ []

abbrev back : List Record
back = rec 30 10 11 1 ∷ rec 4 11 12 1 ∷ rec 58 12 13 1 ∷ rec 0 13 13 1 ∷ []

-- as the original answers with its feature full-lexer, and without
pub with_and_without_notes :
    -- document 02's text: the premise fails, and `type` is a Name in mode 3 and a keyword in mode 0; nothing else differs
    BothWays "type X[(]\n=1)" false 0 13 0
    (rec 3 0 4 0 ∷ front ++ rec 8 9 10 0 ∷ back)
    (rec 142 0 4 0 ∷ front ++ back)
    × BothWays "# c" true 0 3 0
    (rec 7 0 3 0 ∷ [])
    []
    × BothWays "if a:\n b\n# c\nd" true 0 14 0
    (rec 120 0 2 0 ∷ rec 3 3 4 0 ∷ rec 63 4 5 0 ∷ rec 0 5 6 0 ∷ rec 1 6 7 1 ∷ rec 3 7 8 1 ∷ rec 0 8 9 1 ∷ rec 7 9 12 2 ∷ rec 8 12 13 2 ∷ rec 2 13 13 3 ∷ rec 3 13 14 3 ∷ rec 0 14 14 3 ∷ [])
    (rec 120 0 2 0 ∷ rec 3 3 4 0 ∷ rec 63 4 5 0 ∷ rec 0 5 6 0 ∷ rec 1 6 7 1 ∷ rec 3 7 8 1 ∷ rec 0 8 9 1 ∷ rec 2 13 13 3 ∷ rec 3 13 14 3 ∷ rec 0 14 14 3 ∷ [])
    × BothWays "if a:\n b\n# c\n!" true 26 13 33
    (rec 120 0 2 0 ∷ rec 3 3 4 0 ∷ rec 63 4 5 0 ∷ rec 0 5 6 0 ∷ rec 1 6 7 1 ∷ rec 3 7 8 1 ∷ rec 0 8 9 1 ∷ [])
    (rec 120 0 2 0 ∷ rec 3 3 4 0 ∷ rec 63 4 5 0 ∷ rec 0 5 6 0 ∷ rec 1 6 7 1 ∷ rec 3 7 8 1 ∷ rec 0 8 9 1 ∷ [])
    × BothWays "# c\r\n\r\nx" true 0 8 0
    (rec 7 0 3 0 ∷ rec 8 3 5 0 ∷ rec 8 5 7 1 ∷ rec 3 7 8 2 ∷ rec 0 8 8 2 ∷ [])
    (rec 3 7 8 2 ∷ rec 0 8 8 2 ∷ [])
    × BothWays "(\r\n# d\n\ra)" true 0 10 0
    (rec 57 0 1 0 ∷ rec 8 1 3 0 ∷ rec 7 3 6 1 ∷ rec 8 6 7 1 ∷ rec 8 7 8 2 ∷ rec 3 8 9 3 ∷ rec 58 9 10 3 ∷ rec 0 10 10 3 ∷ [])
    (rec 57 0 1 0 ∷ rec 3 8 9 3 ∷ rec 58 9 10 3 ∷ rec 0 10 10 3 ∷ [])
    × BothWays "x # c" true 0 5 0
    (rec 3 0 1 0 ∷ rec 7 2 5 0 ∷ rec 0 5 5 0 ∷ [])
    (rec 3 0 1 0 ∷ rec 0 5 5 0 ∷ [])
    × BothWays "if a:\n # c\n\n  b # d\n" true 0 20 0
    (rec 120 0 2 0 ∷ rec 3 3 4 0 ∷ rec 63 4 5 0 ∷ rec 0 5 6 0 ∷ rec 7 7 10 1 ∷ rec 8 10 11 1 ∷ rec 8 11 12 2 ∷ rec 1 12 14 3 ∷ rec 3 14 15 3 ∷ rec 7 16 19 3 ∷ rec 0 19 20 3 ∷ rec 2 20 20 4 ∷ [])
    (rec 120 0 2 0 ∷ rec 3 3 4 0 ∷ rec 63 4 5 0 ∷ rec 0 5 6 0 ∷ rec 1 12 14 3 ∷ rec 3 14 15 3 ∷ rec 0 19 20 3 ∷ rec 2 20 20 4 ∷ [])
    × BothWays " # c\n x" true 0 7 0
    (rec 7 1 4 0 ∷ rec 8 4 5 0 ∷ rec 1 5 6 1 ∷ rec 3 6 7 1 ∷ rec 0 7 7 1 ∷ rec 2 7 7 1 ∷ [])
    (rec 1 5 6 1 ∷ rec 3 6 7 1 ∷ rec 0 7 7 1 ∷ rec 2 7 7 1 ∷ [])
    × BothWays "#a\n \t" true 25 4 0
    []
    []
    × BothWays "\n# c\ntype X=1" true 0 13 0
    (rec 8 0 1 0 ∷ rec 7 1 4 1 ∷ rec 8 4 5 1 ∷ rec 142 5 9 2 ∷ rec 3 10 11 2 ∷ rec 30 11 12 2 ∷ rec 4 12 13 2 ∷ rec 0 13 13 2 ∷ [])
    (rec 142 5 9 2 ∷ rec 3 10 11 2 ∷ rec 30 11 12 2 ∷ rec 4 12 13 2 ∷ rec 0 13 13 2 ∷ [])
    × BothWays "match x # y\n" true 0 12 0
    (rec 3 0 5 0 ∷ rec 3 6 7 0 ∷ rec 7 8 11 0 ∷ rec 0 11 12 0 ∷ [])
    (rec 3 0 5 0 ∷ rec 3 6 7 0 ∷ rec 0 11 12 0 ∷ [])
    × BothWays "x = \\\n# c\n" true 0 10 0
    (rec 3 0 1 0 ∷ rec 30 2 3 0 ∷ rec 7 6 9 1 ∷ rec 0 9 10 1 ∷ [])
    (rec 3 0 1 0 ∷ rec 30 2 3 0 ∷ rec 0 9 10 1 ∷ [])
    × BothWays "#\n\u{c}\n\rx" true 0 6 0
    (rec 7 0 1 0 ∷ rec 8 1 2 0 ∷ rec 8 3 4 1 ∷ rec 8 4 5 2 ∷ rec 3 5 6 3 ∷ rec 0 6 6 3 ∷ [])
    (rec 3 5 6 3 ∷ rec 0 6 6 3 ∷ [])
    × BothWays "(#" true 21 2 0
    (rec 57 0 1 0 ∷ rec 7 1 2 0 ∷ [])
    (rec 57 0 1 0 ∷ [])
unfolding within least_second greatest_second fault_number first_fault cut_fault second_fault two_bytes three_bytes four_bytes decode_four decode_at decode_head chars_from ill_formed_from checked_at checked width in_ranges xid_start
    xid_continue emoji_presentation is_identifier_start is_identifier_continuation is_emoji slid_by slid next_char text_start is_line_end line_at string_kind code_of detail_of
    before_equal doubled dash exclamation dots single longest_operator skip_from skip_while taken is_newline not_newline is_blank keywords soft_keywords
    number_in kind_of_name name_token name_at is_quote lower one_letter beside_r two_letters opening_of digit_value is_digit in_run digits_from
    digits is_letter is_sign at_exponent integer after_digits normal_number number_at blanks_from blanks is_cr_lf notes_from notes
    compare_strict top_of pop_by pop_from change_by change_of starts_number joined_line continuation other_at operator_at normal_at open_at item_at is_note is_listed
    is_opener is_closer nest_after token_step step_of step_at dedents with_item at_level line_start round prefixed follow raw_rounds raw_reading listed_records listed_reading view
    keyword_colon lambda_after match_from keeps_match stands_for_name square_count_after is_zero keyword_equals passes type_from keeps_type stays_keyword soft_kind
    line_start_after soften rec_at recs_in set_rec puts lists_notes starts_line plan_measure answered written plan_answer plan_row bytes_refusal text_refusal unless
    read_plan read_answer read_row measure_answer
    clear_from clear_type clear
with_and_without_notes = (
  (refl, refl, refl, refl, refl),
  (refl, refl, refl, refl, refl),
  (refl, refl, refl, refl, refl),
  (refl, refl, refl, refl, refl),
  (refl, refl, refl, refl, refl),
  (refl, refl, refl, refl, refl),
  (refl, refl, refl, refl, refl),
  (refl, refl, refl, refl, refl),
  (refl, refl, refl, refl, refl),
  (refl, refl, refl, refl, refl),
  (refl, refl, refl, refl, refl),
  (refl, refl, refl, refl, refl),
  (refl, refl, refl, refl, refl),
  (refl, refl, refl, refl, refl),
  (refl, refl, refl, refl, refl),
)
