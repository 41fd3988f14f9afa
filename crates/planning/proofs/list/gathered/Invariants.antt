-- Found are all that serve and come before this side.
use Rattle.std.proofs.Common.{vec_items}
use Rattle.planning.specs.Wishes.{AllBefore, asked, settings_of}
use Rattle.planning.proofs.Sides.{side_at}
use Rattle.planning.proofs.list.gathered.Given as goal

abbrev pub invariant-loop-q : goal.invariant-loop-q
invariant-loop-q l = AllBefore l.wish (asked l.wish (side_at l.q-index) 1) (settings_of (vec_items l.found))
