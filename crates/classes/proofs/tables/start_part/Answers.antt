-- start_part: the tests on the way to a part leave a stretch of characters, and the part has the ranges that meet it.
-- Written by tools/tables-to-rattle: no edit here lasts.
use mathlib.Core.Path.{refl}
use native.Mathlib.Omega.{arith}
use Rattle.classes.specs.Tables.{xid_start}
use Rattle.classes.proofs.Parts.{keep, meets, paired, in_part}
use Rattle.classes.proofs.Order.{xid_start_in_order}
use Rattle.classes.proofs.tables.start_part.Goals as goal

pub returns-then-c-lt1765 : goal.returns-then-c-lt1765
unfolding xid_start keep meets paired
returns-then-c-lt1765 c = in_part xid_start_in_order 0x0 0x6e5 refl (omega arith) (omega arith)

pub returns-then-c-lt2524 : goal.returns-then-c-lt2524
unfolding xid_start keep meets paired
returns-then-c-lt2524 c = in_part xid_start_in_order 0x6e5 0x9dc refl (omega arith) (omega arith)

pub returns-then-c-lt2911 : goal.returns-then-c-lt2911
unfolding xid_start keep meets paired
returns-then-c-lt2911 c = in_part xid_start_in_order 0x9dc 0xb5f refl (omega arith) (omega arith)

pub returns-then-c-lt3346 : goal.returns-then-c-lt3346
unfolding xid_start keep meets paired
returns-then-c-lt3346 c = in_part xid_start_in_order 0xb5f 0xd12 refl (omega arith) (omega arith)

pub returns-then-c-lt3904 : goal.returns-then-c-lt3904
unfolding xid_start keep meets paired
returns-then-c-lt3904 c = in_part xid_start_in_order 0xd12 0xf40 refl (omega arith) (omega arith)

pub returns-then-c-lt4992 : goal.returns-then-c-lt4992
unfolding xid_start keep meets paired
returns-then-c-lt4992 c = in_part xid_start_in_order 0xf40 0x1380 refl (omega arith) (omega arith)

pub returns-then-c-lt7086 : goal.returns-then-c-lt7086
unfolding xid_start keep meets paired
returns-then-c-lt7086 c = in_part xid_start_in_order 0x1380 0x1bae refl (omega arith) (omega arith)

pub returns-then-c-lt8450 : goal.returns-then-c-lt8450
unfolding xid_start keep meets paired
returns-then-c-lt8450 c = in_part xid_start_in_order 0x1bae 0x2102 refl (omega arith) (omega arith)

pub returns-then-c-lt12293 : goal.returns-then-c-lt12293
unfolding xid_start keep meets paired
returns-then-c-lt12293 c = in_part xid_start_in_order 0x2102 0x3005 refl (omega arith) (omega arith)

pub returns-then-c-lt43250 : goal.returns-then-c-lt43250
unfolding xid_start keep meets paired
returns-then-c-lt43250 c = in_part xid_start_in_order 0x3005 0xa8f2 refl (omega arith) (omega arith)

pub returns-then-c-lt43888 : goal.returns-then-c-lt43888
unfolding xid_start keep meets paired
returns-then-c-lt43888 c = in_part xid_start_in_order 0xa8f2 0xab70 refl (omega arith) (omega arith)

pub returns-then-c-lt65474 : goal.returns-then-c-lt65474
unfolding xid_start keep meets paired
returns-then-c-lt65474 c = in_part xid_start_in_order 0xab70 0xffc2 refl (omega arith) (omega arith)

pub returns-then-c-lt67639 : goal.returns-then-c-lt67639
unfolding xid_start keep meets paired
returns-then-c-lt67639 c = in_part xid_start_in_order 0xffc2 0x10837 refl (omega arith) (omega arith)

pub returns-then-c-lt70019 : goal.returns-then-c-lt70019
unfolding xid_start keep meets paired
returns-then-c-lt70019 c = in_part xid_start_in_order 0x10837 0x11183 refl (omega arith) (omega arith)

pub returns-then-c-lt71840 : goal.returns-then-c-lt71840
unfolding xid_start keep meets paired
returns-then-c-lt71840 c = in_part xid_start_in_order 0x11183 0x118a0 refl (omega arith) (omega arith)

pub returns-then-c-lt94176 : goal.returns-then-c-lt94176
unfolding xid_start keep meets paired
returns-then-c-lt94176 c = in_part xid_start_in_order 0x118a0 0x16fe0 refl (omega arith) (omega arith)

pub returns-then-c-lt120598 : goal.returns-then-c-lt120598
unfolding xid_start keep meets paired
returns-then-c-lt120598 c = in_part xid_start_in_order 0x16fe0 0x1d716 refl (omega arith) (omega arith)

pub returns-then-c-lt126567 : goal.returns-then-c-lt126567
unfolding xid_start keep meets paired
returns-then-c-lt126567 c = in_part xid_start_in_order 0x1d716 0x1ee67 refl (omega arith) (omega arith)

pub returns : goal.returns
unfolding xid_start keep meets paired
returns c = in_part xid_start_in_order 0x1ee39 0x100000000 refl (omega arith) (omega arith)
