-- No channel with a smaller q serves.
use Rattle.planning.proofs.Sides.{side_at}
use Rattle.planning.proofs.Search.{NoneNarrower}
use Rattle.planning.proofs.first.narrowest.Given as goal

abbrev pub invariant-loop-q : goal.invariant-loop-q
invariant-loop-q l = NoneNarrower l.wish (side_at l.q-index)
