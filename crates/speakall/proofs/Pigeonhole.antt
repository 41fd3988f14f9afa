-- Different numbers below n are at most n many (pigeonhole), for numbers given by a function on 0 .. count - 1.
-- Idea: recursion on n. Leave the last number out, and put it where n - 1 stood: what is left is different numbers below n - 1.
use Rattle.std.proofs.Common.{◌≡◌, ℕ, zero, suc, ◌<◌, ◌≤◌, cond, eqb, suc-le-suc, arith}
use Rattle.std.proofs.lemmas.Bool.Decides.{nat_tests}

-- z put where n stood
moved_lt : (n x z : ℕ) → x < suc n → z < suc n → (x ≡ z → ⊥) → cond (eqb x n) z x < n
moved_lt n x z hx hz ne = grind (arith, nat_tests)

moved_apart : (n x y z : ℕ) → (x ≡ y → ⊥) → (x ≡ z → ⊥) → (y ≡ z → ⊥) → cond (eqb x n) z x ≡ cond (eqb y n) z y → ⊥
moved_apart n x y z xy xz yz = grind (arith, nat_tests)

pub pigeonhole : (n count : ℕ) (f : ℕ → ℕ) → ((i : ℕ) → i < count → f i < n) → ((i j : ℕ) → i < j → j < count → f i ≡ f j → ⊥) → count ≤ n
pigeonhole n zero f small apart = omega arith
pigeonhole zero (suc k) f small apart = absurd (let h = small 0 (omega arith) in omega arith)
pigeonhole (suc n) (suc k) f small apart =
    suc-le-suc (
    pigeonhole n k (λ i. cond (eqb (f i) n) (f k) (f i)) (λ i h. moved_lt n (f i) (f k) (small i (omega arith)) (small k (omega arith)) (apart i k h (omega arith))) (
    λ i j hi hj. moved_apart n (f i) (f j) (f k) (apart i j hi (omega arith)) (apart i k (omega arith) (omega arith)) (apart j k hj (omega arith))))
