use Rattle.channels.specs.Settings.{settings}
use Rattle.ice_meetings.specs.Meets.{meets_in}
use Rattle.ice_meetings.proofs.Counting.{With}
use Rattle.ice_meetings.proofs.told.most_with.Given as goal

abbrev pub invariant-loop-other : goal.invariant-loop-other
invariant-loop-other l = With l.limit (meets_in (settings l.channel) l.number) l.others l.most l.other-index l.top
