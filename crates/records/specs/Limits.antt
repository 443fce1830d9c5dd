-- Document 01's limits: the bytes of a text, the records of a reading, the places that a number of a record holds.
use Rattle.std.specs.Prelude.{ℕ, ◌+◌, ◌*◌}

-- code 1: the longest text, in bytes
abbrev pub most_bytes : ℕ
most_bytes = 16777216

-- code 5, document 02 item 13: no reading writes more records: two a byte, and one
abbrev pub most_records : ℕ
most_records = 2 * most_bytes + 1

-- a record's numbers have 32 bits: places, and counts, are below it
abbrev pub places : ℕ
places = 4294967296
