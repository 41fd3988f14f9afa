-- Modulo p every number from 1 to p - 1 has an inverse (prime_units), as p is prime (undivided).
-- Idea: no number up to 46,341, whose square is above p, divides p, by computation; so none above it does. And if p is a t + r, then r, which is below a, has an inverse, and so has a.
use Rattle.std.proofs.Common.{◌≡◌, ℕ, zero, suc, ◌+◌, ◌-◌, ◌*◌, ◌/◌, ◌%◌, ◌<◌, ◌≤◌, Bool, true, not, ◌&&◌, T, eqb, sym, refl, ap, ◌∙◌, ⊎_elim, mul-le-mul_right, mod-lt, arith, T_not}
use native.Mathlib.Nat.{mod-add-div, mul-mod_right}
use lib.Dec.{eqb_refl}
use mir.Facts.{and_yes}
use Rattle.std.proofs.lemmas.Bool.{cases_eq, cases_lt}
use Rattle.speakall.proofs.Modulo.{Units, cancel, same_cong}
use Rattle.speakall.specs.Frame.{p}

-- none of 2, .., n + 1 divides p
divides_none : ℕ → Bool
divides_none zero = true
divides_none (suc n) = not (eqb (p % suc (suc n)) 0) && divides_none n

small_none : T (divides_none 46341)
unfolding divides_none
small_none = tt

none_at : (n a : ℕ) → T (divides_none n) → 1 < a → a ≤ n + 1 → p % a ≡ 0 → ⊥
unfolding divides_none
none_at zero a t g h e = omega arith
none_at (suc n) a t g h e =
    let both = and_yes (not (eqb (p % suc (suc n)) 0)) (divides_none n) t in
    ⊎_elim (λ (f : a ≡ suc (suc n)). T_not (eqb (p % suc (suc n)) 0) both.0 (rw (← f, e) (eqb_refl 0))) (λ (f : a ≡ suc (suc n) → ⊥). none_at n a both.1 g (omega arith) e) (cases_eq a (suc (suc n)))

undivided : (a : ℕ) → 1 < a → a < p → p % a ≡ 0 → ⊥
undivided a g h e = ⊎_elim (λ (k : a < 46343). none_at 46341 a small_none g (omega arith) e) (λ (k : 46343 ≤ a). above k) (cases_lt a 46343)
  where
    -- what is left of p divided by a is small, and divides p too
    above : 46343 ≤ a → ⊥
    above k =
        let t = p / a in
        let whole : t * a ≡ p = let f = mod-add-div p a in omega arith in
        let some : 1 < t = ⊎_elim (λ (l : t < 2). absurd (two t whole l)) (λ (l : 2 ≤ t). l) (cases_lt t 2) in
        let few : t ≤ 46342 = ⊎_elim (λ (l : t < 46343). omega arith) (λ (l : 46343 ≤ t). let f = mul-le-mul_right a l in absurd (omega arith)) (cases_lt t 46343) in
        none_at 46341 t small_none some few (ap (λ (z : ℕ). z % t) (sym whole) ∙ mul-mod_right t a)
      where
        two : (t : ℕ) → t * a ≡ p → t < 2 → ⊥
        two zero f l = omega arith
        two (suc zero) f l = omega arith
        two (suc (suc t)) f l = omega arith

-- from an inverse u of the remainder r of p by a, an inverse of a
inverse_from : (a t r u : ℕ) → r + a * t ≡ p → (r * u) % p ≡ 1 % p → (a * (t * (u * (p - 1)))) % p ≡ 1 % p
inverse_from a t r u e f =
    let n = u * (p - 1) in
    let left : a * (t * n) + r * n ≡ p * n = let g = ap (λ (z : ℕ). z * n) e in omega arith in
    let right : r * u + r * n ≡ p * (r * u) = omega arith in
    cancel p (a * (t * n)) (r * u) (r * n) (same_cong p left ∙ mul-mod_right p n ∙ sym (mul-mod_right p (r * u)) ∙ sym (same_cong p right)) ∙ f

abbrev Inverse : ℕ → Type 0
Inverse a = (u : ℕ) × ((a * u) % p ≡ 1 % p)

units-below : (n a : ℕ) → a < n → 0 < a → a < p → Inverse a
units-below zero a l g h = absurd (omega arith)
units-below (suc n) a l g h = ⊎_elim (λ (e : a ≡ 1). (1, rw e refl)) (λ (ne : a ≡ 1 → ⊥). more (omega arith) (units-below n)) (cases_eq a 1)
  where
    more : 1 < a → ((b : ℕ) → b < n → 0 < b → b < p → Inverse b) → Inverse a
    more k smaller =
        let lt = mod-lt p g in
        let some : 0 < p % a = ⊎_elim (λ (e : p % a ≡ 0). absurd (undivided a k h e)) (λ (ne : p % a ≡ 0 → ⊥). omega arith) (cases_eq (p % a) 0) in
        let u = smaller (p % a) (omega arith) some (omega arith) in
        (p / a * (u.0 * (p - 1)), inverse_from a (p / a) (p % a) u.0 (mod-add-div p a) u.1)

pub prime_units : Units p p
prime_units a g h = units-below p a h g h
