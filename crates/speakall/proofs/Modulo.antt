-- Congruences modulo m, each written x % m ≡ y % m, with no subtraction.
-- A product by its remainders (mul_mod_mod); sums, products and what can be cancelled (add_cong, mul_cong, cancel);
-- that two numbers have a difference with an inverse modulo m, said by products (Gap, gap_sym), as different numbers below n have if 1 to n - 1 have inverses (Units, gap_from_units).
-- Idea: m * (c / m) is a multiple of m, and (m - 1) * c undoes the sum with c.
use Rattle.std.proofs.Common.{◌≡◌, ℕ, zero, suc, ◌+◌, ◌-◌, ◌*◌, ◌/◌, ◌%◌, ◌<◌, ◌≤◌, sym, refl, ap, ◌∙◌, ⊎_elim, arith}
use native.Mathlib.Nat.{mod-add-div, add-mod, mod-zero, add-mul-mod_self_left}
use Rattle.std.proofs.lemmas.Bool.{cases_lt}

pub add_cong : (m a b c d : ℕ) → a % m ≡ b % m → c % m ≡ d % m → (a + c) % m ≡ (b + d) % m
add_cong m a b c d e f = rw (add-mod a c m, add-mod b d m, e, f)

pub mul_mod_mod : (m a c : ℕ) → (a * (c % m)) % m ≡ (a * c) % m
mul_mod_mod m a c =
    let e : a * (c % m) + m * (a * (c / m)) ≡ a * c = let h = ap (λ (z : ℕ). a * z) (mod-add-div c m) in omega arith in
    sym (add-mul-mod_self_left (a * (c % m)) m (a * (c / m))) ∙ ap (λ (z : ℕ). z % m) e

pub mul_cong : (m a c d : ℕ) → c % m ≡ d % m → (a * c) % m ≡ (a * d) % m
mul_cong m a c d e = sym (mul_mod_mod m a c) ∙ ap (λ (z : ℕ). (a * z) % m) e ∙ mul_mod_mod m a d

-- equal numbers are congruent
pub same_cong : (m : ℕ) {a b : ℕ} → a ≡ b → a % m ≡ b % m
same_cong m e = ap (λ (z : ℕ). z % m) e

pub cancel : (m a b c : ℕ) → (a + c) % m ≡ (b + c) % m → a % m ≡ b % m
cancel zero a b c e =
    let f : a + c ≡ b + c = sym (mod-zero (a + c)) ∙ e ∙ mod-zero (b + c) in
    same_cong 0 (omega arith)
cancel (suc n) a b c e = sym (back a) ∙ add_cong (suc n) (a + c) (b + c) (n * c) (n * c) e refl ∙ back b
  where
    back : (x : ℕ) → (x + c + n * c) % suc n ≡ x % suc n
    back x = same_cong (suc n) (omega arith) ∙ add-mul-mod_self_left x (suc n) c

-- x - a has an inverse modulo m
abbrev pub Gap : ℕ → ℕ → ℕ → Type 0
Gap m x a = (v : ℕ) × ((x * v) % m ≡ (a * v + 1) % m)

-- then a - x has one too
pub gap_sym : (m x a : ℕ) → 0 < m → Gap m x a → Gap m a x
gap_sym zero x a h g = absurd (omega arith)
gap_sym (suc n) x a h (v, e) =
    let f = mul_cong (suc n) n (x * v) (a * v + 1) e in
    let g = add_cong (suc n) (n * (x * v)) (n * (a * v + 1)) 1 1 f refl in
    (n * v, sym (same_cong (suc n) (omega arith) ∙ g ∙ same_cong (suc n) (omega arith) ∙ add-mul-mod_self_left (a * (n * v)) (suc n) 1))

-- each number from 1 to n - 1 has an inverse modulo m
abbrev pub Units : ℕ → ℕ → Type 0
Units m n = (t : ℕ) → 0 < t → t < n → (u : ℕ) × ((t * u) % m ≡ 1 % m)

-- so two different numbers below n have a difference with an inverse
pub gap_from_units : (m n : ℕ) → 0 < m → Units m n → (x a : ℕ) → x < n → a < n → (x ≡ a → ⊥) → Gap m x a
gap_from_units m n pos us x a hx ha ne = ⊎_elim (λ (h : x < a). gap_sym m a x pos (above x a h ha)) (λ (h : a ≤ x). above a x (omega arith) hx) (cases_lt x a)
  where
    above : (b y : ℕ) → b < y → y < n → Gap m y b
    above b y h hy =
        let u = us (y - b) (omega arith) (omega arith) in
        let e : y ≡ b + (y - b) = omega arith in
        (u.0, same_cong m (ap (λ (z : ℕ). z * u.0) e ∙ omega arith) ∙ add_cong m (b * u.0) (b * u.0) ((y - b) * u.0) 1 refl u.1)
