-- continue_part: the tests on the way to a part leave a stretch of characters, and the part has the ranges that meet it.
-- Written by tools/tables-to-rattle: no edit here lasts.
use mathlib.Core.Path.{refl}
use native.Mathlib.Omega.{arith}
use Rattle.classes.specs.Tables.{xid_continue}
use Rattle.classes.proofs.Parts.{keep, meets, paired, in_part}
use Rattle.classes.proofs.Order.{xid_continue_in_order}
use Rattle.classes.proofs.tables.continue_part.Goals as goal

pub returns-then-c-lt1476 : goal.returns-then-c-lt1476
unfolding xid_continue keep meets paired
returns-then-c-lt1476 c = in_part xid_continue_in_order 0x0 0x5c4 refl (omega arith) (omega arith)

pub returns-then-c-lt2507 : goal.returns-then-c-lt2507
unfolding xid_continue keep meets paired
returns-then-c-lt2507 c = in_part xid_continue_in_order 0x5c4 0x9cb refl (omega arith) (omega arith)

pub returns-then-c-lt2768 : goal.returns-then-c-lt2768
unfolding xid_continue keep meets paired
returns-then-c-lt2768 c = in_part xid_continue_in_order 0x9cb 0xad0 refl (omega arith) (omega arith)

pub returns-then-c-lt3024 : goal.returns-then-c-lt3024
unfolding xid_continue keep meets paired
returns-then-c-lt3024 c = in_part xid_continue_in_order 0xad0 0xbd0 refl (omega arith) (omega arith)

pub returns-then-c-lt3346 : goal.returns-then-c-lt3346
unfolding xid_continue keep meets paired
returns-then-c-lt3346 c = in_part xid_continue_in_order 0xbd0 0xd12 refl (omega arith) (omega arith)

pub returns-then-c-lt3754 : goal.returns-then-c-lt3754
unfolding xid_continue keep meets paired
returns-then-c-lt3754 c = in_part xid_continue_in_order 0xd12 0xeaa refl (omega arith) (omega arith)

pub returns-then-c-lt4746 : goal.returns-then-c-lt4746
unfolding xid_continue keep meets paired
returns-then-c-lt4746 c = in_part xid_continue_in_order 0xeaa 0x128a refl (omega arith) (omega arith)

pub returns-then-c-lt6160 : goal.returns-then-c-lt6160
unfolding xid_continue keep meets paired
returns-then-c-lt6160 c = in_part xid_continue_in_order 0x128a 0x1810 refl (omega arith) (omega arith)

pub returns-then-c-lt7968 : goal.returns-then-c-lt7968
unfolding xid_continue keep meets paired
returns-then-c-lt7968 c = in_part xid_continue_in_order 0x1810 0x1f20 refl (omega arith) (omega arith)

pub returns-then-c-lt8488 : goal.returns-then-c-lt8488
unfolding xid_continue keep meets paired
returns-then-c-lt8488 c = in_part xid_continue_in_order 0x1f20 0x2128 refl (omega arith) (omega arith)

pub returns-then-c-lt12449 : goal.returns-then-c-lt12449
unfolding xid_continue keep meets paired
returns-then-c-lt12449 c = in_part xid_continue_in_order 0x2128 0x30a1 refl (omega arith) (omega arith)

pub returns-then-c-lt43520 : goal.returns-then-c-lt43520
unfolding xid_continue keep meets paired
returns-then-c-lt43520 c = in_part xid_continue_in_order 0x30a1 0xaa00 refl (omega arith) (omega arith)

pub returns-then-c-lt64467 : goal.returns-then-c-lt64467
unfolding xid_continue keep meets paired
returns-then-c-lt64467 c = in_part xid_continue_in_order 0xaa00 0xfbd3 refl (omega arith) (omega arith)

pub returns-then-c-lt65856 : goal.returns-then-c-lt65856
unfolding xid_continue keep meets paired
returns-then-c-lt65856 c = in_part xid_continue_in_order 0xfbd3 0x10140 refl (omega arith) (omega arith)

pub returns-then-c-lt67872 : goal.returns-then-c-lt67872
unfolding xid_continue keep meets paired
returns-then-c-lt67872 c = in_part xid_continue_in_order 0x10140 0x10920 refl (omega arith) (omega arith)

pub returns-then-c-lt70096 : goal.returns-then-c-lt70096
unfolding xid_continue keep meets paired
returns-then-c-lt70096 c = in_part xid_continue_in_order 0x10920 0x111d0 refl (omega arith) (omega arith)

pub returns-then-c-lt71040 : goal.returns-then-c-lt71040
unfolding xid_continue keep meets paired
returns-then-c-lt71040 c = in_part xid_continue_in_order 0x111d0 0x11580 refl (omega arith) (omega arith)

pub returns-then-c-lt73728 : goal.returns-then-c-lt73728
unfolding xid_continue keep meets paired
returns-then-c-lt73728 c = in_part xid_continue_in_order 0x11580 0x12000 refl (omega arith) (omega arith)

pub returns-then-c-lt119210 : goal.returns-then-c-lt119210
unfolding xid_continue keep meets paired
returns-then-c-lt119210 c = in_part xid_continue_in_order 0x12000 0x1d1aa refl (omega arith) (omega arith)

pub returns-then-c-lt120782 : goal.returns-then-c-lt120782
unfolding xid_continue keep meets paired
returns-then-c-lt120782 c = in_part xid_continue_in_order 0x1d1aa 0x1d7ce refl (omega arith) (omega arith)

pub returns-then-c-lt126551 : goal.returns-then-c-lt126551
unfolding xid_continue keep meets paired
returns-then-c-lt126551 c = in_part xid_continue_in_order 0x1d7ce 0x1ee57 refl (omega arith) (omega arith)

pub returns : goal.returns
unfolding xid_continue keep meets paired
returns c = in_part xid_continue_in_order 0x1ee3b 0x100000000 refl (omega arith) (omega arith)
