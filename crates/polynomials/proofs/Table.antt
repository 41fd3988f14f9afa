-- The table of inverses modulo p: one computed test of the whole table, what it says of each entry, and the inverse of a difference of either sign.
use Rattle.std.proofs.Common.{◌≡◌, ℕ, zero, suc, ◌+◌, ◌-◌, ◌*◌, ◌%◌, ◌<◌, ◌≤◌, Bool, true, ◌&&◌, T, eqb, ltb, List, [], ◌∷◌, length, get_or, ap, arith}
use Rattle.speakall.specs.Frame.{p}
use Rattle.std.proofs.lemmas.Bool.{and_parts, eqb-true, ltb-true}
use Rattle.speakall.proofs.Truth.{true_from}

-- the numbers are the inverses of a, a + 1, ..
abbrev pub inverses_from : ℕ → List ℕ → Bool
inverses_from a [] = true
inverses_from a (v ∷ vs) = (ltb v p && eqb ((a * v) % p) 1) && inverses_from (a + 1) vs

at : (a : ℕ) (vs : List ℕ) (k b : ℕ) → inverses_from a vs ≡ true → k < length vs → b ≡ a + k → (get_or vs k 0 < p) × ((b * get_or vs k 0) % p ≡ 1)
at a [] k b t h e = absurd (omega arith)
at a (v ∷ vs) zero b t h e =
    let f : b ≡ a = omega arith in
    let both = and_parts (ltb v p) (eqb ((a * v) % p) 1) (and_parts (ltb v p && eqb ((a * v) % p) 1) (inverses_from (a + 1) vs) t).0 in
    (ltb-true v p both.0, rw f (eqb-true ((a * v) % p) 1 both.1))
at a (v ∷ vs) (suc k) b t h e = at (a + 1) vs k b (and_parts (ltb v p && eqb ((a * v) % p) 1) (inverses_from (a + 1) vs) t).1 (omega arith) (omega arith)

pub inverse_at : (vs : List ℕ) (a : ℕ) → T (inverses_from 1 vs && eqb (length vs) 250) → 0 < a → a < 251 → (get_or vs (a - 1) 0 < p) × ((a * get_or vs (a - 1) 0) % p ≡ 1)
inverse_at vs a t g h =
    let both = and_parts (inverses_from 1 vs) (eqb (length vs) 250) (true_from (inverses_from 1 vs && eqb (length vs) 250) t) in
    at 1 vs (a - 1) a both.0 (omega (arith, eqb-true (length vs) 250 both.1)) (omega arith)

pub inverse_above : (x a r : ℕ) → a < x → ((x - a) * r) % p ≡ 1 → (x * r) % p ≡ (a * r + 1) % p
inverse_above x a r h e = let f : x * r ≡ (a + (x - a)) * r = ap (λ (z : ℕ). z * r) (omega arith) in omega arith

pub inverse_under : (x a r : ℕ) → x ≤ a → r < p → ((a - x) * r) % p ≡ 1 → (x * (p - r)) % p ≡ (a * (p - r) + 1) % p
inverse_under x a r h g e =
    let v = p - r in
    let f : a * v ≡ (x + (a - x)) * v = ap (λ (z : ℕ). z * v) (omega arith) in
    let k : (a - x) * (v + r) ≡ (a - x) * p = ap (λ (z : ℕ). (a - x) * z) (omega arith) in
    omega arith
