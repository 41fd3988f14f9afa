-- The places passed hold the words' values.
use Rattle.std.proofs.Common.{◌≡◌, ℕ, ◌<◌, get_or}
use Rattle.polynomials.proofs.Sound.{value_at}
use Rattle.polynomials.proofs.through.fit.Given as goal

abbrev pub invariant-loop-i : goal.invariant-loop-i
invariant-loop-i l = (k : ℕ) → k < l.i → get_or l.values k 0 ≡ value_at l.words k
