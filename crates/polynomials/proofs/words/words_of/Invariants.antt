-- The places passed hold their words.
use Rattle.std.proofs.Common.{◌≡◌, ℕ, ◌<◌, get_or}
use Rattle.speakall.specs.Frame.{word_at}
use Rattle.polynomials.proofs.words.words_of.Given as goal

abbrev pub invariant-loop-part : goal.invariant-loop-part
invariant-loop-part l = (x : ℕ) → x < l.part → get_or l.words x 0 ≡ word_at l.message x
