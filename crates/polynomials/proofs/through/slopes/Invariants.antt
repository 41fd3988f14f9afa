-- The places passed hold slopes, and the others what they held.
use Rattle.std.proofs.Common.{◌≡◌, ℕ, ◌<◌, ◌≤◌, get_or}
use Rattle.polynomials.specs.Heard.{Reduced, Slope, part_at}
use Rattle.polynomials.proofs.through.slopes.Given as goal

abbrev pub invariant-loop-i : goal.invariant-loop-i
invariant-loop-i l =
    Reduced l.values ×
    ((k : ℕ) → k < l.i → Slope (part_at l.words k) (get_or l.initial.values k 0) l.x0 l.y0 (get_or l.values k 0)) ×
    ((k : ℕ) → l.i ≤ k → get_or l.values k 0 ≡ get_or l.initial.values k 0)
