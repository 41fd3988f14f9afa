use Rattle.std.proofs.Common.{◌≡◌, ◌++◌, map, take, vec_items}
use Rattle.channels.specs.Settings.{settings}
use Rattle.ice_meetings.specs.Meets.{lines_in, pair_text}
use Rattle.ice_meetings.proofs.told.meet_with.Given as goal

abbrev pub invariant-loop-other : goal.invariant-loop-other
invariant-loop-other l = lines_in (vec_items l.lines) ≡ lines_in (vec_items l.initial.lines) ++ map (pair_text (settings l.channel) l.number) (take l.other-index l.others)
