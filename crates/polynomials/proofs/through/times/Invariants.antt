-- The places passed hold their coefficients, and the others what they held.
use Rattle.std.proofs.Common.{◌≡◌, ℕ, ◌-◌, ◌<◌, ◌≤◌, get_or}
use Rattle.polynomials.proofs.Points.{coefficient}
use Rattle.polynomials.specs.Heard.{Reduced}
use Rattle.polynomials.proofs.through.times.Given as goal

abbrev pub invariant-loop-i : goal.invariant-loop-i
invariant-loop-i l =
    Reduced l.values ×
    ((k : ℕ) → k < l.i - 1 → get_or l.values k 0 ≡ coefficient l.minus l.initial.values k) ×
    ((k : ℕ) → l.i - 1 ≤ k → get_or l.values k 0 ≡ get_or l.initial.values k 0)
