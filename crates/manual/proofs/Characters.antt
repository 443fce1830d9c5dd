-- "Texts, characters, places", "Lines", "Window" and "Classes"; RFC 3629's own examples (section 7), and ill-formed texts.
-- Assumes nothing.
use Prim.Native.Char.{code}
use mathlib.Core.Path.{◌≡◌, refl}
use Prim.Native.Nat.{zero, suc}
use mathlib.Core.List.{[], ◌∷◌}
use mathlib.Core.Bool.{true, false}
use native.Mathlib.Omega.{arith}
use Rattle.utf8.specs.declared.Fault.TheVariants.{Stray, Unused, CutByEnd, CutByByte, Overlong, Surrogate, TooLarge}
use Rattle.utf8.specs.declared.Decoded.TheVariants.{Char, IllFormed, End}
use Rattle.utf8.specs.Utf8.{within, least_second, greatest_second, fault_number, first_fault, cut_fault, second_fault, two_bytes, three_bytes, four_bytes, decode_four, decode_at}
use Rattle.utf8.specs.Chars.{no_char, decode_head, chars_from, chars, ill_formed_from, first_ill_formed, well_formed, fault_at, checked_at, checked, width, letters}
use Rattle.utf8.specs.Faults.{Bytes, bits, least_of, FaultIn}
use Rattle.utf8.proofs.Told.{told}
use Rattle.utf8.proofs.Shown.{fault_in}
use Rattle.classes.specs.Ranges.{in_ranges}
use Rattle.classes.specs.Tables.{xid_start, xid_continue, emoji_presentation}
use Rattle.classes.specs.Classes.{is_identifier_start, is_identifier_continuation, is_emoji}
use Rattle.window.specs.Place.{place_at, nth, window, slid_by, slid, next_char, text_start}
use Rattle.lines.specs.Lines.{is_line_end, line_at}
use Rattle.exports.specs.Doors.{version, class_of}
use Rattle.manual.proofs.Texts.{start}

pub on_the_page : (decode_at (0x78 ∷ 0xe2 ∷ 0x89 ∷ 0xa2 ∷ []) 1 ≡ Char 0x2262 3)
    × (decode_at (0xc0 ∷ 0xae ∷ []) 0 ≡ IllFormed Unused)
    × (decode_at [] 0 ≡ End)
    × (chars (0x41 ∷ 0xe2 ∷ 0x89 ∷ 0xa2 ∷ 0xce ∷ 0x91 ∷ 0x2e ∷ []) ≡ 0x41 ∷ 0x2262 ∷ 0x391 ∷ 0x2e ∷ [])
    × (chars (0x61 ∷ 0xed ∷ 0xa0 ∷ 0x80 ∷ []) ≡ 0x61 ∷ 0x1100ed ∷ 0x1100a0 ∷ 0x110080 ∷ [])
    × (first_ill_formed (0x61 ∷ 0xed ∷ 0xa0 ∷ 0x80 ∷ []) ≡ 1)
    × (width 0x20ac ≡ 3)
    × (place_at (letters "ab") 1 ≡ record { at = 1; rest = letters "b" })
    × (nth (start "ab") 1 ≡ code "b")
    × (window (start "ab") ≡ code "a" ∷ code "b" ∷ no_char ∷ [])
    × ((slid (place_at (0xc3 ∷ 0xa9 ∷ 0x78 ∷ []) 0)).at ≡ 2)
    × ((next_char (start "\r\nx")).at ≡ 2)
    × ((next_char (start "\rx")).at ≡ 1)
    × ((text_start (0xef ∷ 0xbb ∷ 0xbf ∷ 0x78 ∷ [])).at ≡ 3)
    × (is_line_end (code "\n") (code "\r") ≡ true)
    × (is_line_end (code "\r") (code "\n") ≡ false)
    × (line_at (letters "a\r\nb") 3 ≡ 1)
    × (line_at (letters "a\r\nb") 2 ≡ 0)
    × (line_at (letters "a\rb") 2 ≡ 1)
    × (line_at (letters "a\n\rb") 3 ≡ 2)
    × (line_at (0xef ∷ 0xbb ∷ 0xbf ∷ 0x78 ∷ []) 3 ≡ 0)
    × (in_ranges (0x41 ∷ 0x5a ∷ 0x61 ∷ 0x7a ∷ []) 0x7a ≡ true)
    × (is_identifier_start (code "_") ≡ true)
    × (is_identifier_start (code "1") ≡ false)
    × (is_identifier_continuation (code "1") ≡ true)
    × (is_emoji 0x1f600 ≡ true)
    × (class_of (code "a") ≡ 3)
    × (version ≡ 5)
unfolding within least_second greatest_second first_fault two_bytes three_bytes four_bytes decode_four decode_at decode_head chars_from ill_formed_from width slid_by slid
    next_char text_start is_line_end line_at in_ranges xid_start xid_continue emoji_presentation is_identifier_start is_identifier_continuation is_emoji class_of
on_the_page = (refl, refl, refl, refl, refl, refl, refl, refl, refl, refl, refl, refl, refl, refl, refl, refl, refl, refl, refl, refl, refl, refl, refl, refl, refl, refl, refl, refl)

-- the seven faults, and what shows each
pub faults : (fault_number Stray ≡ 1)
    × (fault_number Unused ≡ 2)
    × (fault_number CutByEnd ≡ 3)
    × (fault_number CutByByte ≡ 4)
    × (fault_number Overlong ≡ 5)
    × (fault_number Surrogate ≡ 6)
    × (fault_number TooLarge ≡ 7)
    × (first_fault 0x80 ≡ Stray)
    × (cut_fault 0x41 ≡ CutByByte)
    × (second_fault 0xe0 0x80 ≡ Overlong)
    × (checked (letters "gold") ≡ well_formed)
    × (checked (0xe0 ∷ 0x80 ∷ []) ≡ fault_at 0 Overlong)
    × (checked (0xe0 ∷ []) ≡ fault_at 0 CutByEnd)
    × (checked (0xe0 ∷ 0x41 ∷ []) ≡ fault_at 0 CutByByte)
    × (checked (0xe1 ∷ 0x80 ∷ []) ≡ fault_at 0 CutByEnd)
    × (checked (0x61 ∷ 0xed ∷ 0xa0 ∷ []) ≡ fault_at 1 Surrogate)
    × (checked (0xf4 ∷ 0x90 ∷ []) ≡ fault_at 0 TooLarge)
    × (checked (0xf0 ∷ 0x80 ∷ []) ≡ fault_at 0 Overlong)
    × (checked (0xf0 ∷ 0xc0 ∷ []) ≡ fault_at 0 CutByByte)
    × (checked (0xc3 ∷ 0xa9 ∷ 0xe9 ∷ 0x0a ∷ []) ≡ fault_at 2 CutByByte)
    × (bits 0xe0 0x80 0xaf 0x80 ≡ 0x2f)
    × (least_of 0xe0 ≡ 0x800)
unfolding within least_second greatest_second fault_number first_fault cut_fault second_fault two_bytes three_bytes four_bytes decode_four decode_at decode_head ill_formed_from checked_at checked bits least_of
faults = (refl, refl, refl, refl, refl, refl, refl, refl, refl, refl, refl, refl, refl, refl, refl, refl, refl, refl, refl, refl, refl, refl)

-- a text that has a fault, and the byte that shows it
bytes : Bytes (0x61 ∷ 0xed ∷ 0xa0 ∷ [])
bytes zero h = omega arith
bytes (suc zero) h = omega arith
bytes (suc (suc zero)) h = omega arith
bytes (suc (suc (suc i))) h = absurd (omega arith)

pub surrogate : FaultIn (0x61 ∷ 0xed ∷ 0xa0 ∷ []) 1 Surrogate
unfolding within least_second greatest_second first_fault cut_fault second_fault two_bytes three_bytes four_bytes decode_four decode_at decode_head ill_formed_from checked_at checked
surrogate = fault_in (0x61 ∷ 0xed ∷ 0xa0 ∷ []) 1 Surrogate (told _ _ _ refl) bytes

-- "the Korean language"; a BOM, and a character of four bytes; the overlong form of a full stop, and a sequence that the text's end cuts off
pub besides : (chars (0xed ∷ 0x95 ∷ 0x9c ∷ 0xea ∷ 0xb5 ∷ 0xad ∷ 0xec ∷ 0x96 ∷ 0xb4 ∷ []) ≡ 0xd55c ∷ 0xad6d ∷ 0xc5b4 ∷ [])
    × (chars (0xef ∷ 0xbb ∷ 0xbf ∷ 0xf0 ∷ 0xa3 ∷ 0x8e ∷ 0xb4 ∷ []) ≡ 0xfeff ∷ 0x233b4 ∷ [])
    × (first_ill_formed (0xc0 ∷ 0xae ∷ []) ≡ 0)
    × (first_ill_formed (0x2e ∷ 0xe2 ∷ 0x89 ∷ []) ≡ 1)
unfolding within least_second greatest_second first_fault cut_fault two_bytes three_bytes four_bytes decode_four decode_head chars_from ill_formed_from
besides = (refl, refl, refl, refl)
