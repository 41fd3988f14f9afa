-- The relation of what is made of words and the definition that gives it say the same (made_reads), and what damaged words can do (damaged).
-- Idea: only one polynomial of s coefficients is within half of the words above s (only_near), so the first message found is the only one.
use Rattle.std.proofs.Common.{◌≡◌, ℕ, ◌<◌, ◌≤◌, Bool, true, false, cond, T, ltb, leb, ◌⊎◌, List, [], ◌∷◌, length, sym, refl, ap, ◌∙◌, subst, ap₂, inl, inr, ⊎_elim, arith, ltb→lt, lt→ltb}
use mir.Facts.{and_yes, yes_and}
use Rattle.std.proofs.lemmas.Bool.{cases_Bool, cases_lt, le-leb, leb-true, le-ltb, lt-ltb}
use Rattle.readings.proofs.First.{first_read_any, first_read_none}
use Rattle.readings.specs.Damage.{Damage}
use Rattle.readings.specs.Reads.{Found, Made, Near, first_read, limit, read_as, reads, reads_in, spare}
use Rattle.speakall.proofs.Modulo.{Units}
use Rattle.speakall.proofs.Truth.{true_from}
use Rattle.speakall.proofs.Words.{only_one_in}
use Rattle.speakall.proofs.Inverses.{word-units}
use Rattle.speakall.specs.Code.{Read, TooFew, Reads, Doubtful, off_of, sound_in}
use Rattle.speakall.specs.Frame.{Word, p}
use Rattle.speakall.specs.Plan.{below}

pub below-p : (m : List ℕ) → T (below limit m) → T (below p m)
unfolding below
below-p [] h = tt
below-p (a ∷ m) h = let both = and_yes (ltb a limit) (below limit m) h in let lt : a < limit = ltb→lt a limit both.0 in yes_and _ _ (lt→ltb a p (omega arith)) (below-p m both.1)

pub few_units : (q : ℕ) → q < 252 → Units p q
few_units q small t pos lt = word-units t pos (omega arith)

-- words sound in q, of which the differences of parts have inverses
module _ (q s : ℕ) (us : Units p q) (ws : List Word) (enough : s ≤ length ws) (sound : T (sound_in q ws)) where
  pub only_near : (m n : List ℕ) → length m ≡ s → length n ≡ s → T (below p m) → T (below p n) → off_of m ws ≤ spare (length ws) s → off_of n ws ≤ spare (length ws) s → m ≡ n
  only_near m n lm ln bm bn om on = only_one_in q us ws sound s (spare (length ws) s) (omega arith) m n lm ln bm bn om on

  pub near_found : (m : List ℕ) → Near s (spare (length ws) s) ws m → Found q s ws m
  near_found m near = record {
    enough = enough;
    sound = sound;
    near = near;
    only = λ n l b o. only_near n m l near.long b (below-p m near.small) o near.near;
  }

  -- near messages are all the same, so the answer for each is doubtful or that message
  pub first_near : (m : List ℕ) → Near s (spare (length ws) s) ws m → first_read s limit (read_as (spare (length ws) s) ws) ≡ Reads m (length ws) (off_of m ws)
  first_near m near =
      let e = spare (length ws) s in
      let yes' : read_as e ws m ≡ Reads m (length ws) (off_of m ws) = rw (le-leb (off_of m ws) e near.near) refl in
      ⊎_elim (λ (d : first_read s limit (read_as e ws) ≡ Doubtful). never m (sym yes' ∙ first_read_none s limit (read_as e ws) d m near.long near.small)) (λ (r : first_read s limit (read_as e ws) ≡ Reads m (length ws) (off_of m ws)). r) (
      first_read_any (λ r. (r ≡ Doubtful) ⊎ (r ≡ Reads m (length ws) (off_of m ws))) s limit (read_as e ws) (inl refl) (λ n l b. each n l b (leb (off_of n ws) e) refl))
    where
      never : (m : List ℕ) {r t : Read} → Reads m (length ws) (off_of m ws) ≡ Doubtful → r ≡ t
      never m d = let z : ◌≡◌ {A = ℕ} 0 1 = cc in absurd (omega arith)

      each : (n : List ℕ) → length n ≡ s → T (below limit n) → (b : Bool) → leb (off_of n ws) (spare (length ws) s) ≡ b → (cond b (Reads n (length ws) (off_of n ws)) Doubtful ≡ Doubtful) ⊎ (cond b (Reads n (length ws) (off_of n ws)) Doubtful ≡ Reads m (length ws) (off_of m ws))
      each n l b false f = inl refl
      each n l b true f = inr (ap (λ (k : List ℕ). Reads k (length ws) (off_of k ws)) (only_near n m l near.long (below-p n b) (below-p m near.small) (leb-true _ _ f) near.near))

  pub reads_near : (m : List ℕ) → Near s (spare (length ws) s) ws m → reads s ws ≡ Reads m (length ws) (off_of m ws)
  unfolding reads
  reads_near m near = rw (le-ltb (length ws) s enough) (first_near m near)

-- where no message is near, none is found
reads_none : (s : ℕ) (ws : List Word) → s ≤ length ws → ((m : List ℕ) → Near s (spare (length ws) s) ws m → ⊥) → reads s ws ≡ Doubtful
unfolding reads
reads_none s ws enough none = rw (le-ltb (length ws) s enough) (first_read_any (λ r. r ≡ Doubtful) s limit (read_as (spare (length ws) s) ws) refl (λ m l b. each m l b (leb (off_of m ws) (spare (length ws) s)) refl))
  where
    each : (m : List ℕ) → length m ≡ s → T (below limit m) → (b : Bool) → leb (off_of m ws) (spare (length ws) s) ≡ b → cond b (Reads m (length ws) (off_of m ws)) Doubtful ≡ Doubtful
    each m l b false f = refl
    each m l b true f = absurd (none m (record { long = l; small = b; near = leb-true _ _ f }))

pub reads_few : (s : ℕ) (ws : List Word) → length ws < s → reads s ws ≡ TooFew (length ws)
unfolding reads
reads_few s ws few = rw (lt-ltb (length ws) s few) refl

-- the relation's answer is the definition's
module _ (q s : ℕ) (small : q < 252) (ws : List Word) where
  in-few : length ws < s → reads_in q s ws ≡ TooFew (length ws)
  in-few few = rw (lt-ltb (length ws) s few) (reads_few s ws few)

  in-sound : s ≤ length ws → T (sound_in q ws) → reads_in q s ws ≡ reads s ws
  in-sound enough sound = rw (le-ltb (length ws) s enough, true_from (sound_in q ws) sound) refl

  pub made_reads : (r : Read) → Made q s ws r → r ≡ reads_in q s ws
  made_reads (TooFew n) (e, few) = ap TooFew e ∙ sym (in-few few)
  made_reads (Reads m n o) (en, eo, found) = ap₂ (Reads m) en eo ∙ sym (reads_near q s (few_units q small) ws found.enough found.sound m found.near) ∙ sym (in-sound found.enough found.sound)
  made_reads Doubtful (enough, none) = sym (⊎_elim (λ (t : sound_in q ws ≡ true). rw (le-ltb (length ws) s enough, t) (reads_none s ws enough (none (subst T (sym t) tt)))) (
      λ (f : sound_in q ws ≡ false). rw (le-ltb (length ws) s enough, f) refl) (cases_Bool (sound_in q ws)))

  pub damaged : (r : Read) → Made q s ws r → Damage q s ws r
  damaged r made = record {
    still_read = λ m sound enough l b o. made_reads r made ∙ in-sound enough sound ∙ reads_near q s (few_units q small) ws enough sound m (record { long = l; small = b; near = o });
    not_believed = λ m n w o l b e ne. believed m n w o l b ne (subst (Made q s ws) e made);
  }
    where
      believed : (m n : List ℕ) (w o : ℕ) → length m ≡ s → T (below p m) → (n ≡ m → ⊥) → Made q s ws (Reads n w o) → spare (length ws) s < off_of m ws
      believed m n w o l b ne (ew, eo, found) = ⊎_elim (λ (lt : spare (length ws) s < off_of m ws). lt) (λ (le : off_of m ws ≤ spare (length ws) s). absurd (ne (sym (found.only m l b le)))) (cases_lt (spare (length ws) s) (off_of m ws))
