-- What was read is the only polynomial on the words, and where the polynomial through the first words is no message on all of them, none is.
use Rattle.std.proofs.Common.{◌≡◌, ℕ, zero, suc, ◌<◌, ◌≤◌, Bool, true, false, ◌&&◌, T, ltb, List, [], ◌∷◌, length, get_or, take, drop, replicate, sym, refl, ap, ◌∙◌, subst, arith, lit≤, ltb→lt, lt→ltb}
use Rattle.polynomials.proofs.Sound.{sound-take}
use Rattle.polynomials.specs.Heard.{Reduced, word_of, words_in}
use Rattle.messages.specs.Made.{Fits, Found, Zeros}
use Rattle.polynomials.specs.declared.words.PartWord.{PartWord}
use Rattle.speakall.proofs.Words.{agrees_off, only_one}
use Rattle.speakall.specs.Code.{sound_in}
use Rattle.speakall.specs.Frame.{agrees, p}
use Rattle.speakall.specs.Plan.{below}
use Rattle.std.proofs.lemmas.List.{length-map, length-take-le}
use mir.Facts.{and_yes, yes_and}
use Rattle.speakall.proofs.Truth.{from_true}

-- memory filled with 0
pub filled : (n : ℕ) (left : List ℕ) → left ≡ replicate n 0 → Zeros left
filled n left e k = ap (λ (l : List ℕ). get_or l k 0) e ∙ zeros n k
  where
    zeros : (n k : ℕ) → ◌≡◌ {A = ℕ} (get_or (replicate n 0) k 0) 0
    zeros zero k = refl
    zeros (suc n) zero = refl
    zeros (suc n) (suc k) = zeros n k

not-false : (b : Bool) → false ≡ b → T b → ⊥
not-false b e t = subst T (sym e) t

below_more : (n : ℕ) (m : List ℕ) → n ≤ p → T (below n m) → T (below p m)
unfolding below
below_more n [] le h = tt
below_more n (a ∷ m) le h = let both = and_yes (ltb a n) (below n m) h in let lt : a < n = ltb→lt a n both.0 in yes_and _ _ (lt→ltb a p (omega arith)) (below_more n m le both.1)

pub below_reduced : (m : List ℕ) → Reduced m → T (below p m)
unfolding below
below_reduced [] r = tt
below_reduced (a ∷ m) r = yes_and _ _ (lt→ltb _ _ (r 0)) (below_reduced m (λ k. r (suc k)))

-- all words are the first ones and the others
pub agrees-take : (m : List ℕ) (n : ℕ) (ws : List PartWord) → T (agrees m (words_in ws)) → T (agrees m (words_in (take n ws))) × T (agrees m (words_in (drop n ws)))
unfolding agrees
agrees-take m zero ws h = (tt, h)
agrees-take m (suc n) [] h = (tt, tt)
agrees-take m (suc n) (w ∷ ws) h = let both = and_yes _ _ h in let rest = agrees-take m n ws both.1 in (yes_and _ _ both.0 rest.0, rest.1)

agrees_from : (m : List ℕ) (n : ℕ) (ws : List PartWord) → T (agrees m (words_in (take n ws))) → T (agrees m (words_in (drop n ws))) → T (agrees m (words_in ws))
unfolding agrees
agrees_from m zero ws g h = h
agrees_from m (suc n) [] g h = tt
agrees_from m (suc n) (w ∷ ws) g h = let both = and_yes _ _ g in yes_and _ _ both.0 (agrees_from m n ws both.1 h)

-- two polynomials of s coefficients that lie on s or more sound words
same : (q s : ℕ) (ws : List PartWord) (f g : List ℕ) → q < 252 → s ≤ length ws → T (sound_in q (words_in ws)) → length f ≡ s → length g ≡ s → T (below p f) → T (below p g) → T (agrees f (words_in ws)) → T (agrees g (words_in ws)) → f ≡ g
same q s ws f g small le sound lf lg bf bg af ag =
    only_one q small (words_in ws) sound s 0 (omega (arith, length-map ws word_of)) f g lf lg bf bg (omega (arith, agrees_off f (words_in ws) af)) (omega (arith, agrees_off g (words_in ws) ag))

-- f goes through the first s of the words, which are sound and enough: on it stands what is read, and whether
module _ (q s : ℕ) (ws first others : List PartWord) (f : List ℕ) (small : q < 252) (le : s ≤ length ws) (long : length f ≡ s) (ef : first ≡ take s ws) (eo : others ≡ drop s ws) (on : T (agrees f (words_in first))) where
  pub found : true ≡ sound_in q (words_in ws) → true ≡ (below 1073741824 f && agrees f (words_in others)) → Found q s (words_in ws) f
  found sound fits =
      let enough : s ≤ length (words_in ws) = omega (arith, length-map ws word_of) in
      let both = and_yes _ _ (from_true _ fits) in
      let ok = from_true _ sound in
      let all = agrees_from f s ws (rw ef at on) (rw eo at both.1) in
      record {
        enough = enough;
        sound = ok;
        fits = record { long = long; small = both.0; on = all };
        only = λ m lm bm am. same q s ws m f small le ok lm long bm (below_more 1073741824 f (lit≤ tt) both.0) am all;
      }

  pub none : Reduced f → false ≡ (below 1073741824 f && agrees f (words_in others)) → T (sound_in q (words_in ws)) → (m : List ℕ) → Fits s (words_in ws) m → ⊥
  none reduced off sound m fits =
      let parts = agrees-take m s ws fits.on in
      let e : m ≡ f = same 251 s (take s ws) m f (omega arith) (rw (length-take-le s ws le) (omega arith)) (sound-take q 251 s ws (omega arith) sound) fits.long long (
      below_more 1073741824 m (lit≤ tt) fits.small) (below_reduced f reduced) parts.0 (rw ef at on) in
      not-false _ off (rw (← e, eo) (yes_and _ _ fits.small parts.1))
