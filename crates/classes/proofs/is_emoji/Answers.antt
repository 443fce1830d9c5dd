-- is_emoji: below the first emoji there is none, and elsewhere the part that is searched answers as the table.
use Rattle.classes.specs.Classes.{is_emoji}
use Rattle.classes.proofs.Laws.{no_emoji_below}
use Rattle.classes.proofs.is_emoji.Goals as goal

pub returns-then-c-lt8960 : goal.returns-then-c-lt8960
returns-then-c-lt8960 c = no_emoji_below _ c.if-c-lt8960.true

pub returns : goal.returns
unfolding is_emoji
returns c = cc
