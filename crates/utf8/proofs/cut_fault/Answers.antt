-- cut_fault: the bytes that there are, from the second on, and then the end of the text. Assumes nothing.
use Rattle.utf8.proofs.Cuts.{ends_third, ends_fourth, cuts_third, shows_second}
use Rattle.utf8.proofs.cut_fault.Goals as goal
use Rattle.utf8.proofs.cut_fault.Goals.{then-c-ge-NO_BYTE-via-then-c-ge-NO_BYTE, then-c-ge-NO_BYTE-via-else-c-ge-NO_BYTE+then-tail}

pub returns-then-c-ge-NO_BYTE : goal.returns-then-c-ge-NO_BYTE
returns-then-c-ge-NO_BYTE c =
    elim c.then-c-ge-NO_BYTE.branch [ then-c-ge-NO_BYTE-via-then-c-ge-NO_BYTE w ↦ search ends_third | then-c-ge-NO_BYTE-via-else-c-ge-NO_BYTE+then-tail w ↦ search ends_fourth ]

pub returns-then-second : goal.returns-then-second
returns-then-second c = search cuts_third

pub returns : goal.returns
returns c = search shows_second
