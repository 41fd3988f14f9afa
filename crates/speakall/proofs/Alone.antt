-- Each speaker is alone in as many parts as its message has numbers, or more (often_alone).
-- Idea: in each part 2 ≤ words heard of it + speakers in its slot. Summed over the parts, the speakers in its slot are q for itself and at most d - 1 for each of the k others.
use Rattle.std.proofs.Common.{◌≡◌, ℕ, zero, suc, ◌+◌, ◌-◌, ◌*◌, ◌≤◌, true, not, T, eqb, List, [], ◌∷◌, length, sym, refl, ap, ◌∙◌, ⊎_elim, mul-le-mul_right, add-one, arith}
use mathlib.Core.List.Memᴰ
use mathlib.Core.List.{Memᴰ}
use mir.Facts.{and_yes}
use Rattle.std.proofs.lemmas.Bool.{or_left, or_right, cond_both}
use Rattle.speakall.specs.Plan.{Channel, Good, Plan, IsPlan, slot_at, same, is_in, different}
use Rattle.speakall.specs.Frame.{Speaker, words_of, plans_of}
use Rattle.speakall.specs.Promise.{meet, OftenAlone}
use Rattle.speakall.proofs.Meet.{seldom_meet}
use Rattle.speakall.proofs.Heard.{crowd, same_refl, own_part}

-- in how many of the first n parts others have the slot of plan f, added up over the speakers
meet_all : ℕ → List Speaker → Plan → ℕ → ℕ
meet_all q [] f n = 0
meet_all q (t ∷ ts) f n = meet q (slot_at q t.plan) (slot_at q f) n + meet_all q ts f n

meet_all_none : (q : ℕ) (ss : List Speaker) (f : Plan) → meet_all q ss f 0 ≡ 0
unfolding meet_all meet
meet_all_none q [] f = refl
meet_all_none q (t ∷ ts) f = let r = meet_all_none q ts f in omega arith

meet_all_more : (q : ℕ) (ss : List Speaker) (f : Plan) (n : ℕ) → meet_all q ss f (n + 1) ≡ crowd q ss n (slot_at q f n) + meet_all q ss f n
unfolding meet_all meet crowd
meet_all_more q ss f n = rw (add-one n) (go ss)
  where
    go : (ts : List Speaker) → meet_all q ts f (suc n) ≡ crowd q ts n (slot_at q f n) + meet_all q ts f n
    go [] = refl
    go (t ∷ ts) = let r = go ts in omega arith

-- the sum over the n parts from x on
many : (q : ℕ) (ss : List Speaker) (s : Speaker) → Memᴰ s ss → (x n y : ℕ) → y ≡ x + n → 2 * n + meet_all q ss s.plan x ≤ length (words_of q ss s.plan x n) + meet_all q ss s.plan y
unfolding words_of
many q ss s here x zero y e = let h : y ≡ x = omega arith in rw h (omega arith)
many q ss s here x (suc n) y e =
    let r = many q ss s here (x + 1) n y (omega arith) in
    let m = meet_all_more q ss s.plan x in
    own_part q ss s here (λ ws. 2 * suc n + meet_all q ss s.plan x ≤ length ws + meet_all q ss s.plan y) x n (λ one. omega arith) (λ more. omega arith)

meet_le : (q : ℕ) (f g : ℕ → ℕ) (n : ℕ) → meet q f g n ≤ n
unfolding meet
meet_le q f g zero = omega arith
meet_le q f g (suc n) = let r = meet_le q f g n in cond_both (eqb (f n) (g n)) 1 0 (λ k. k + meet q f g n ≤ suc n) (λ e. omega arith) (λ e. omega arith)

-- a plan that stands among the others' is found there
is_in_lem : (f : Plan) (ts : List Speaker) (t : Speaker) → Memᴰ t ts → f ≡ t.plan → is_in f (plans_of ts) ≡ true
unfolding is_in plans_of
is_in_lem f [] t m e = elim m [ ]
is_in_lem f (u ∷ ts) t m e =
    ⊎_elim (λ (h : t ≡ u). or_left _ _ (ap (same f) (sym (e ∙ ap (λ (v : Speaker). v.plan) h)) ∙ same_refl f)) (λ (m : Memᴰ t ts). or_right _ _ (is_in_lem f ts t m e)) (Memᴰ.cases_cons m)

-- the first of different plans is none of the others, and those are different
first_apart : (t : Speaker) (ts : List Speaker) → T (different (plans_of (t ∷ ts))) → ((u : Speaker) → Memᴰ u ts → t.plan ≡ u.plan → ⊥) × T (different (plans_of ts))
unfolding different plans_of
first_apart t ts h =
    let a = and_yes (not (is_in t.plan (plans_of ts))) (different (plans_of ts)) h in
    (λ u m e. rw (is_in_lem t.plan ts u m e) at a.0, a.1)

module _ (c : Channel) (good : Good c) where
  -- speakers of other plans, at most d - 1 parts each
  others : (f : Plan) → IsPlan c f → (ts : List Speaker) → ((t : Speaker) → Memᴰ t ts → IsPlan c t.plan × (t.plan ≡ f → ⊥)) → meet_all c.q ts f c.q ≤ length ts * (c.d - 1)
  unfolding meet_all
  others f hf [] h = omega arith
  others f hf (t ∷ ts) h =
      let a = h t (Memᴰ.head refl) in
      omega (arith, seldom_meet c good t.plan f a.0 hf a.1, others f hf ts (λ u m. h u (Memᴰ.tail m)))

  -- and one speaker more, whose plan it is, in all q parts
  all_meet : (ss : List Speaker) → ((t : Speaker) → Memᴰ t ss → IsPlan c t.plan) → T (different (plans_of ss)) → (s : Speaker) → Memᴰ s ss → meet_all c.q ss s.plan c.q + (c.d - 1) ≤ c.q + length ss * (c.d - 1)
  unfolding meet_all
  all_meet [] plans apart s m = elim m [ ]
  all_meet (t ∷ ts) plans apart s m =
      let f = first_apart t ts apart in
      ⊎_elim (λ (e : s ≡ t). rw e (omega (arith, meet_le c.q (slot_at c.q t.plan) (slot_at c.q t.plan) c.q, others t.plan (plans t (Memᴰ.head refl)) ts (λ u m. (plans u (Memᴰ.tail m), λ e. f.0 u m (sym e)))))) (
      λ (m : Memᴰ s ts). omega (arith, seldom_meet c good t.plan s.plan (plans t (Memᴰ.head refl)) (plans s (Memᴰ.tail m)) (f.0 s m), all_meet ts (λ u m. plans u (Memᴰ.tail m)) f.1 s m)) (
      Memᴰ.cases_cons m)

pub often_alone : OftenAlone
often_alone c good ss frame s m =
    let h = many c.q ss s m 0 c.q c.q (omega arith) in
    let z = meet_all_none c.q ss s.plan in
    let a = all_meet c good ss (λ t m. (frame.plans t m).0) frame.apart s m in
    let k = mul-le-mul_right (c.d - 1) frame.few in
    let l : (c.k + 1) * (c.d - 1) ≡ c.k * (c.d - 1) + (c.d - 1) = omega arith in
    omega arith
