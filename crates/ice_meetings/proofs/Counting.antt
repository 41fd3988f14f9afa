-- The highest count: what is left decides, and once the limit is reached nothing left can change it.
-- With, with_more, with_done, with_all; Most, most_more, most_all. Assumes nothing.
use Rattle.std.proofs.Common.{◌≡◌, ℕ, ◌+◌, ◌<◌, ◌≤◌, min, max, List, [], ◌∷◌, ◌++◌, map, length, get_or, drop, refl, ap, ◌∙◌, arith}
use Rattle.speakall.specs.Plan.{Channel}
use Rattle.std.proofs.lemmas.List.{at_drop_more, at_drop_all}
use Rattle.ice_meetings.specs.Meets.{counts_of, meets_in, most_of}

module _ (limit : ℕ) where
  most_low : (xs : List ℕ) → most_of limit xs ≤ limit
  unfolding most_of
  most_low [] = omega arith
  most_low (x ∷ xs) = let h = most_low xs in omega arith

  most_append : (xs ys : List ℕ) → most_of limit (xs ++ ys) ≡ max (most_of limit xs) (most_of limit ys)
  unfolding most_of
  most_append [] ys = omega arith
  most_append (x ∷ xs) ys = let h = most_append xs ys in omega arith

  most_first : (x : ℕ) (xs : List ℕ) → most_of limit (x ∷ xs) ≡ max (min x limit) (most_of limit xs)
  unfolding most_of
  most_first x xs = refl

  no_most : most_of limit [] ≡ 0
  unfolding most_of
  no_most = refl

module _ (limit : ℕ) (f : ℕ → ℕ) (xs : List ℕ) (most : ℕ) where
  -- the highest so far, and of what is left
  pub record With (i top : ℕ) : Type 0 where
    pub low : top ≤ limit
    pub left : max top (most_of limit (map f (drop i xs))) ≡ max most (most_of limit (map f xs))

  pub with_more : (i top x y t : ℕ) → i < length xs → x ≡ f (get_or xs i 0) → y ≡ min x limit → t ≡ max top y → With i top → With (i + 1) t
  with_more i top x y t h e a b so =
      let l = so.left in
      let k = so.low in
      let m : most_of limit (map f (drop i xs)) ≡ most_of limit (f (get_or xs i 0) ∷ map f (drop (i + 1) xs)) = at_drop_more (λ ys. most_of limit (map f ys)) xs i 0 h in
      let n = most_first limit (f (get_or xs i 0)) (map f (drop (i + 1) xs)) in
      record { low = omega arith; left = omega arith }

  pub with_done : (i top : ℕ) → limit ≤ top → With i top → (top ≤ limit) × (top ≡ max most (most_of limit (map f xs)))
  with_done i top h so =
      let l = so.left in
      let k = so.low in
      let n = most_low limit (map f (drop i xs)) in
      (k, omega arith)

  pub with_all : (i top : ℕ) → length xs ≤ i → With i top → (top ≤ limit) × (top ≡ max most (most_of limit (map f xs)))
  with_all i top h so =
      let l = so.left in
      let k = so.low in
      let n : most_of limit (map f (drop i xs)) ≡ most_of limit [] = at_drop_all (λ ys. most_of limit (map f ys)) xs i h in
      let z = no_most limit in
      (k, omega arith)

module _ (limit : ℕ) (c : Channel) (ns : List ℕ) where
  -- the highest so far, and of what is left
  pub record Most (ms : List ℕ) (top : ℕ) : Type 0 where
    pub low : top ≤ limit
    pub left : max top (most_of limit (counts_of c ms)) ≡ most_of limit (counts_of c ns)

  pub most_more : (ms : List ℕ) (n : ℕ) (os : List ℕ) (top t : ℕ) → ms ≡ n ∷ os → (t ≤ limit) × (t ≡ max top (most_of limit (map (meets_in c n) os))) → Most ms top → Most os t
  unfolding counts_of
  most_more ms n os top t m e so =
      let l = so.left in
      let k : most_of limit (counts_of c ms) ≡ max (most_of limit (map (meets_in c n) os)) (most_of limit (counts_of c os)) = ap (λ (z : List ℕ). most_of limit (counts_of c z)) m ∙ most_append limit (map (meets_in c n) os) (counts_of c os) in
      let q = e.1 in
      record { low = e.0; left = omega arith }

  pub most_all : (ms : List ℕ) (top : ℕ) → ms ≡ [] → Most ms top → top ≡ most_of limit (counts_of c ns)
  unfolding counts_of most_of
  most_all ms top m so =
      let l = so.left in
      let n : most_of limit (counts_of c ms) ≡ 0 = ap (λ (z : List ℕ). most_of limit (counts_of c z)) m in
      omega arith
