-- Five words of which no message is near enough (majority): leaving out any of their three blocks of two, the polynomial through three words left is no message, or is off two.
use Rattle.std.proofs.Common.{◌≡◌, ℕ, zero, suc, ◌<◌, T, eqb, List, [], ◌∷◌, ◌++◌, length, sym, refl, subst, arith}
use mir.Facts.{and_yes, yes_and}
use Rattle.readings.proofs.Answers.{below-p, few_units, made_reads, only_near}
use Rattle.readings.proofs.Chosen.{none_near}
use Rattle.readings.specs.Blocks.{Fails, is_among, left}
use Rattle.readings.specs.Damage.{Majority, one, split}
use Rattle.readings.specs.Reads.{Near}
use Rattle.speakall.proofs.Words.{agrees_off}
use Rattle.speakall.specs.Code.{Doubtful, has_part, off_of, sound_in}
use Rattle.speakall.specs.Frame.{Word, agrees, p, word_at}
use Rattle.speakall.specs.Plan.{below}

agrees-front : (m : List ℕ) (xs ys : List Word) → T (agrees m (xs ++ ys)) → T (agrees m xs)
unfolding agrees
agrees-front m [] ys h = tt
agrees-front m (x ∷ xs) ys h = let both = and_yes (eqb (word_at m x.part) x.word) (agrees m (xs ++ ys)) h in yes_and _ _ both.0 (agrees-front m xs ys both.1)

-- a message on three words is the polynomial through them
through : (f : List ℕ) (kept more : List Word) → length f ≡ 3 → T (below p f) → length kept ≡ 3 → T (sound_in 5 kept) → T (agrees f kept) → (Near 3 1 split f → ⊥) → (m : List ℕ) → Near 3 1 split m → T (agrees m (kept ++ more)) → ⊥
through f kept more lf bf lk sound on not-near m near on-all =
    let front = agrees-front m kept more on-all in
    let e = only_near 5 3 (few_units 5 (omega arith)) kept (omega arith) sound m f near.long lf (below-p m near.small) bf (omega (arith, agrees_off m kept front)) (omega (arith, agrees_off f kept on)) in
    not-near (subst (Near 3 1 split) e near)

word : ℕ → ℕ → Word
word x v = record { part = x; word = v }

fails : (i : ℕ) → i < 3 → Fails 3 1 split 2 (i ∷ [])
unfolding left is_among agrees word_at sound_in has_part below off_of word
fails zero h = through (2147483499 ∷ 1073742030 ∷ 1073741782 ∷ []) (word 2 99 ∷ word 3 98 ∷ word 4 14 ∷ []) [] refl tt refl tt tt (λ near. near.small)
fails (suc zero) h = through one (word 0 10 ∷ word 1 11 ∷ word 4 14 ∷ []) [] refl tt refl tt tt (λ near. let n = near.near in omega arith)
fails (suc (suc zero)) h = through (10 ∷ 1073741781 ∷ 1073741867 ∷ []) (word 0 10 ∷ word 1 11 ∷ word 2 99 ∷ []) (word 3 98 ∷ []) refl tt refl tt tt (λ near. near.small)
fails (suc (suc (suc i))) h = absurd (omega arith)

pub majority : Majority
unfolding off_of word_at below
majority = record {
  messages = (tt, tt);
  on_one = refl;
  on_other = refl;
  doubtful = sym (made_reads 5 3 (omega arith) split Doubtful (omega arith, λ sound m near. none_near 3 1 split 2 3 (omega arith) (omega arith) (omega arith) (omega arith) (omega arith) (λ i hi j a b k c d l e f. fails i hi) m near));
}
