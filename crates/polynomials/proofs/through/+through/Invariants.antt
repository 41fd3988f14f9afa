-- The words left are fewer.
use Rattle.std.proofs.Common.{length}
use Rattle.polynomials.proofs.through.+through.Given as goal

abbrev pub decreases-through : goal.decreases-through
decreases-through l = length l.words.now
