-- The sides rise, which is one computed test; so between two neighbours there is none.
-- side_at, side_read, side_least, side_end, side_rises, side_next. Assumes nothing.
use Rattle.std.proofs.Common.{◌≡◌, ℕ, zero, suc, ◌+◌, ◌<◌, ◌≤◌, Bool, true, ◌&&◌, T, eqb, ltb, List, [], ◌∷◌, length, get_or, sym, refl, ap, ◌∙◌, ⊎_elim, add-one, arith}
use Rattle.std.proofs.lemmas.List.{get_or_default, get_or_past}
use Rattle.std.proofs.lemmas.Bool.{and_parts, eqb-true, ltb-true, or_cases}
use Rattle.speakall.specs.Plan.{listed, sides}
use Rattle.speakall.proofs.Truth.{true_from}

-- each number is below the next, and the last below e
rising : ℕ → List ℕ → Bool
rising e [] = true
rising e (x ∷ xs) = ltb x (get_or xs 0 e) && rising e xs

module _ (e : ℕ) where
  parts : (x : ℕ) (xs : List ℕ) → rising e (x ∷ xs) ≡ true → (x < get_or xs 0 e) × (rising e xs ≡ true)
  unfolding rising
  parts x xs r = let p = and_parts (ltb x (get_or xs 0 e)) (rising e xs) r in (ltb-true x (get_or xs 0 e) p.0, p.1)

  first_least : (xs : List ℕ) (i : ℕ) → rising e xs ≡ true → get_or xs 0 e ≤ get_or xs i e
  first_least [] i r = omega arith
  first_least (x ∷ xs) zero r = omega arith
  first_least (x ∷ xs) (suc i) r = let p = parts x xs r in let f = first_least xs i p.1 in omega arith

  listed_least : (xs : List ℕ) (q : ℕ) → rising e xs ≡ true → listed q xs ≡ true → get_or xs 0 e ≤ q
  unfolding listed
  listed_least [] q r l = let z : ◌≡◌ {A = ℕ} 0 1 = cc in absurd (omega arith)
  listed_least (x ∷ xs) q r l =
      let p = parts x xs r in
      ⊎_elim (λ t. let s = eqb-true q x t in omega arith) (λ t. let s = listed_least xs q p.1 t in omega arith) (or_cases (eqb q x) (listed q xs) l)

  rises : (xs : List ℕ) (i : ℕ) → i < length xs → rising e xs ≡ true → get_or xs i e < get_or xs (suc i) e
  rises [] i h r = absurd (omega arith)
  rises (x ∷ xs) zero h r = (parts x xs r).0
  rises (x ∷ xs) (suc i) h r = rises xs i (omega arith) (parts x xs r).1

  listed_next : (xs : List ℕ) (i q : ℕ) → i < length xs → rising e xs ≡ true → listed q xs ≡ true → get_or xs i e < q → get_or xs (suc i) e ≤ q
  unfolding listed
  listed_next [] i q h r l b = absurd (omega arith)
  listed_next (x ∷ xs) zero q h r l b =
      ⊎_elim (λ t. let s = eqb-true q x t in absurd (omega arith)) (listed_least xs q (parts x xs r).1) (or_cases (eqb q x) (listed q xs) l)
  listed_next (x ∷ xs) (suc i) q h r l b =
      let p = parts x xs r in
      let f = first_least xs i p.1 in
      ⊎_elim (λ t. let s = eqb-true q x t in absurd (omega arith)) (λ t. listed_next xs i q (omega arith) p.1 t b) (or_cases (eqb q x) (listed q xs) l)

-- the side at this index, and after the last one 256
pub side_at : ℕ → ℕ
side_at i = get_or sides i 256

in_order : rising 256 sides ≡ true
unfolding rising
in_order = refl

pub side_read : (xs : List ℕ) (i : ℕ) → xs ≡ sides → i < length xs → get_or xs i 0 ≡ side_at i
unfolding side_at
side_read xs i e h = get_or_default xs i 0 256 h ∙ ap (λ (l : List ℕ). get_or l i 256) e

pub side_least : (q : ℕ) → T (listed q sides) → side_at 0 ≤ q
unfolding side_at
side_least q l = listed_least 256 sides q in_order (true_from (listed q sides) l)

pub side_end : (xs : List ℕ) (i : ℕ) → xs ≡ sides → length xs ≤ i → side_at i ≡ 256
unfolding side_at
side_end xs i e h = ap (λ (l : List ℕ). get_or l i 256) (sym e) ∙ get_or_past xs i 256 h

pub side_rises : (xs : List ℕ) (i : ℕ) → xs ≡ sides → i < length xs → side_at i < side_at (i + 1)
unfolding side_at
side_rises xs i e h = rw (add-one i) (rises 256 sides i (rw e at h) in_order)

pub side_next : (xs : List ℕ) (i q : ℕ) → xs ≡ sides → i < length xs → T (listed q sides) → side_at i < q → side_at (i + 1) ≤ q
unfolding side_at
side_next xs i q e h l b = rw (add-one i) (listed_next 256 sides i q (rw e at h) in_order (true_from (listed q sides) l) b)
