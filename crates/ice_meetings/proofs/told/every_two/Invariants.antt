use Rattle.std.proofs.Common.{◌≡◌, ◌++◌, length, vec_items}
use Rattle.channels.specs.Settings.{settings}
use Rattle.ice_meetings.specs.Meets.{every_two, lines_in}
use Rattle.ice_meetings.proofs.told.every_two.Given as goal

-- what is left decides
abbrev pub invariant-loop-left : goal.invariant-loop-left
invariant-loop-left l = lines_in (vec_items l.lines) ++ every_two (settings l.channel) l.left ≡ every_two (settings l.channel) l.numbers

abbrev pub decreases-loop-left : goal.decreases-loop-left
decreases-loop-left l = length l.left
