use Rattle.std.proofs.Common.{length}
use Rattle.channels.specs.Settings.{settings}
use Rattle.ice_meetings.proofs.Counting.{Most}
use Rattle.ice_meetings.proofs.told.most.Given as goal

abbrev pub invariant-loop-left : goal.invariant-loop-left
invariant-loop-left l = Most l.limit (settings l.channel) l.numbers l.left l.top

abbrev pub decreases-loop-left : goal.decreases-loop-left
decreases-loop-left l = length l.left
