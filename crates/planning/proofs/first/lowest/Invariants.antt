-- No channel with this q and a lower d serves.
use Rattle.planning.proofs.Search.{NoneLower}
use Rattle.planning.proofs.first.lowest.Given as goal

abbrev pub invariant-loop-d : goal.invariant-loop-d
invariant-loop-d l = NoneLower l.wish l.q l.d
