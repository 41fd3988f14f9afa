-- What the coefficients passed so far, the highest ones, come to.
use Rattle.std.proofs.Common.{◌≡◌, ◌<◌}
use Rattle.speakall.specs.Frame.{p, word_at}
use Rattle.polynomials.proofs.Backward.{passed}
use Rattle.polynomials.proofs.words.value.Given as goal

abbrev pub invariant-loop-number : goal.invariant-loop-number
invariant-loop-number l = (l.value < p) × (l.value ≡ word_at (passed l.message l.yielded) l.x)
