-- What is heard where a speaker speaks: its word if it is alone there, else noise (own_part).
-- Idea: count the speakers in a slot (`crowd`): none is silence, one is that one's word, two or more are noise.
-- So the words heard of a speaker are its message's (own-agrees), and of different parts (own-sound).
use Rattle.std.proofs.Common.{◌≡◌, ℕ, zero, suc, ◌+◌, ◌<◌, ◌≤◌, min, Bool, true, false, cond, T, eqb, List, [], ◌∷◌, sym, refl, ap, ◌∙◌, subst, ⊎_elim, arith, lt→ltb}
use mathlib.Core.List.{Memᴰ}
use lib.Dec.{eqb_refl}
use mir.Facts.{yes_and}
use Rattle.std.proofs.lemmas.Bool.{cases_eq, eq-eqb, ne_eqb, or_from}
use Rattle.speakall.specs.Plan.{Plan, slot_at, same}
use Rattle.speakall.specs.Frame.{p, Speaker, Slot, Silence, One, Noise, with_one, heard, Word, words_of, word_at, agrees}
use Rattle.speakall.specs.Code.{has_part, sound_in}
use Rattle.speakall.proofs.Polynomial.{slot_at_lt, word_at_is}

-- how many have slot z in part x
unfoldable pub crowd : ℕ → List Speaker → ℕ → ℕ → ℕ
crowd q [] x z = 0
crowd q (t ∷ ts) x z = cond (eqb (slot_at q t.plan x) z) 1 0 + crowd q ts x z

-- how many may be in a slot, with two for two or more
loud : Slot → ℕ
loud Silence = 0
loud (One f w) = 1
loud Noise = 2

loud_silence : (s : Slot) → loud s ≡ 0 → s ≡ Silence
unfolding loud
loud_silence Silence e = refl
loud_silence (One f w) e = absurd (omega arith)
loud_silence Noise e = absurd (omega arith)

loud_noise : (s : Slot) → loud s ≡ 2 → s ≡ Noise
unfolding loud
loud_noise Silence e = absurd (omega arith)
loud_noise (One f w) e = absurd (omega arith)
loud_noise Noise e = refl

loud_with_one : (f : Plan) (w : ℕ) (s : Slot) → loud (with_one f w s) ≡ min 2 (1 + loud s)
unfolding loud
loud_with_one f w Silence = refl
loud_with_one f w (One g v) = refl
loud_with_one f w Noise = refl

loud-heard : (q : ℕ) (ss : List Speaker) (x z : ℕ) → loud (heard q ss x z) ≡ min 2 (crowd q ss x z)
unfolding loud crowd heard
loud-heard q [] x z = refl
loud-heard q (t ∷ ts) x z = go (eqb (slot_at q t.plan x) z) (heard q ts x z) (loud-heard q ts x z)
  where
    go : (b : Bool) (s : Slot) → loud s ≡ min 2 (crowd q ts x z) → loud (cond b (with_one t.plan (word_at t.message x) s) s) ≡ min 2 (cond b 1 0 + crowd q ts x z)
    go true s h = omega (arith, loud_with_one t.plan (word_at t.message x) s)
    go false s h = omega arith

crowd_pos : (q : ℕ) (ss : List Speaker) (x z : ℕ) (s : Speaker) → Memᴰ s ss → slot_at q s.plan x ≡ z → 0 < crowd q ss x z
unfolding crowd
crowd_pos q [] x z s m at = elim m [ ]
crowd_pos q (t ∷ ts) x z s m at =
    ⊎_elim (λ (e : s ≡ t). rw (eq-eqb (slot_at q t.plan x) z (ap (λ (u : Speaker). slot_at q u.plan x) (sym e) ∙ at)) (omega arith)) (
    λ (m : Memᴰ s ts). let r = crowd_pos q ts x z s m at in omega arith) (mathlib.Core.List.Memᴰ.cases_cons m)

-- what is heard is this speaker's word
abbrev Says : Slot → Speaker → ℕ → Type 0
Says h s x = h ≡ One s.plan (word_at s.message x)

alone : (q : ℕ) (ss : List Speaker) (x z : ℕ) (s : Speaker) → Memᴰ s ss → slot_at q s.plan x ≡ z → crowd q ss x z ≡ 1 → Says (heard q ss x z) s x
unfolding crowd heard loud
alone q [] x z s m at h = elim m [ ]
alone q (t ∷ ts) x z s m at h =
    ⊎_elim (λ (e : s ≡ t). subst (λ (u : Speaker). Says (heard q (t ∷ ts) x z) u x) (sym e) (first (ap (λ (u : Speaker). slot_at q u.plan x) (sym e) ∙ at))) (
    λ (m : Memᴰ s ts). later (eqb (slot_at q t.plan x) z) (crowd_pos q ts x z s m at) h (alone q ts x z s m at)) (mathlib.Core.List.Memᴰ.cases_cons m)
  where
    first : slot_at q t.plan x ≡ z → Says (heard q (t ∷ ts) x z) t x
    first at =
        let one : 1 + crowd q ts x z ≡ 1 = rw (eq-eqb (slot_at q t.plan x) z at) at h in
        rw (eq-eqb (slot_at q t.plan x) z at, loud_silence (heard q ts x z) (omega (arith, loud-heard q ts x z)))

    later : (b : Bool) → 0 < crowd q ts x z → cond b 1 0 + crowd q ts x z ≡ 1 → (crowd q ts x z ≡ 1 → Says (heard q ts x z) s x) → Says (cond b (with_one t.plan (word_at t.message x) (heard q ts x z)) (heard q ts x z)) s x
    later true pos h r = absurd (omega arith)
    later false pos h r = r (omega arith)

pub same_refl : (f : Plan) → same f f ≡ true
unfolding same
same_refl [] = refl
same_refl (a ∷ f) = rw (eq-eqb a a refl, same_refl f)

-- what a speaker says in part x
abbrev pub said : Speaker → ℕ → Word
said s x = record { part = x; word = word_at s.message x }

module _ (q : ℕ) (ss : List Speaker) (s : Speaker) (here : Memᴰ s ss) where
  -- in each part its word is heard, or two or more are in its slot
  pub own_part : (P : List Word → Type 0) (x n : ℕ) → (crowd q ss x (slot_at q s.plan x) ≡ 1 → P (said s x ∷ words_of q ss s.plan (x + 1) n)) → (1 < crowd q ss x (slot_at q s.plan x) → P (words_of q ss s.plan (x + 1) n)) → P (words_of q ss s.plan x (suc n))
  unfolding words_of loud
  own_part P x n one more =
      let z = slot_at q s.plan x in
      let pos = crowd_pos q ss x z s here refl in
      ⊎_elim (λ (e : crowd q ss x z ≡ 1). rw (alone q ss x z s here refl e, same_refl s.plan) (one e)) (
      λ (e : crowd q ss x z ≡ 1 → ⊥). rw (loud_noise (heard q ss x z) (omega (arith, loud-heard q ss x z))) (more (omega arith))) (cases_eq (crowd q ss x z) 1)

  pub own-agrees : (x n : ℕ) → T (agrees s.message (words_of q ss s.plan x n))
  unfolding agrees words_of
  own-agrees x zero = tt
  own-agrees x (suc n) = own_part (λ ws. T (agrees s.message ws)) x n (λ e. yes_and _ _ (eqb_refl (word_at s.message x)) (own-agrees (x + 1) n)) (λ e. own-agrees (x + 1) n)

  own-after : (y x n : ℕ) → y < x → has_part y (words_of q ss s.plan x n) ≡ false
  unfolding has_part words_of
  own-after y x zero h = refl
  own-after y x (suc n) h =
      let r = own-after y (x + 1) n (omega arith) in
      own_part (λ ws. has_part y ws ≡ false) x n (λ e. or_from _ _ (ne_eqb y x (omega arith)) r) (λ e. r)

  pub own-sound : (x n to : ℕ) → x + n ≤ to → T (sound_in to (words_of q ss s.plan x n))
  unfolding sound_in words_of
  own-sound x zero to h = tt
  own-sound x (suc n) to h =
      let r = own-sound (x + 1) n to (omega arith) in
      own_part (λ ws. T (sound_in to ws)) x n (
      λ e. rw (own-after x (x + 1) n (omega arith)) (yes_and _ _ (yes_and _ _ (lt→ltb x to (omega arith)) (lt→ltb _ p (rw word_at_is (slot_at_lt p s.message x (omega arith))))) r)) (λ e. r)
