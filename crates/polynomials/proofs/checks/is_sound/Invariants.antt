-- The words passed, the last ones, are sound, and their parts are marked.
use Rattle.std.proofs.Common.{◌≡◌, ℕ, ◌<◌, true, false, length, get_or}
use Rattle.polynomials.proofs.Backward.{passed}
use Rattle.polynomials.proofs.checks.is_sound.Given as goal
use Rattle.polynomials.specs.Heard.{words_in}
use Rattle.speakall.specs.Code.{has_part, sound_in}

abbrev pub invariant-loop-word : goal.invariant-loop-word
invariant-loop-word l =
    (length l.seen ≡ 256) ×
    ((x : ℕ) → x < 256 → get_or l.seen x false ≡ has_part x (words_in (passed l.words l.yielded))) ×
    (sound_in l.parts (words_in (passed l.words l.yielded)) ≡ true)
