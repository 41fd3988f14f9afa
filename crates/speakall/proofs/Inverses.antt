-- Which numbers have inverses: from 1 to q - 1 modulo each q of `sides` (side_units), and from 1 to 250 modulo p (word-units).
-- Idea: one computed test that a given function gives the inverses; the inverse of t is t ^ (q - 2) modulo q, and (p * j + 1) / t for some j below t modulo p.
use Rattle.std.proofs.Common.{◌≡◌, ℕ, zero, suc, ◌+◌, ◌-◌, ◌*◌, ◌/◌, ◌%◌, ◌^◌, Bool, true, cond, ◌&&◌, T, eqb, List, [], ◌∷◌, ⊎_elim, arith, eqb→eq}
use mir.Facts.{and_yes, or_yes}
use Rattle.std.proofs.lemmas.Bool.{cases_eq}
use Rattle.speakall.specs.Plan.{sides, listed}
use Rattle.speakall.specs.Frame.{p}
use Rattle.speakall.proofs.Modulo.{Units}

-- inv t is an inverse of t modulo m, for t from 1 to n
inverts : (ℕ → ℕ) → ℕ → ℕ → Bool
inverts inv m zero = true
inverts inv m (suc n) = eqb ((suc n * inv (suc n)) % m) (1 % m) && inverts inv m n

units : (inv : ℕ → ℕ) (m n : ℕ) → T (inverts inv m n) → Units m (suc n)
unfolding inverts
units inv m zero h t pos lt = absurd (omega arith)
units inv m (suc n) h t pos lt = ⊎_elim (λ (e : t ≡ suc n). (inv t, rw e (eqb→eq _ _ (and_yes _ _ h).0))) (
    λ (e : t ≡ suc n → ⊥). units inv m n (and_yes _ _ h).1 t pos (omega arith)) (cases_eq t (suc n))

all_invert : List ℕ → Bool
all_invert [] = true
all_invert (q ∷ qs) = inverts (λ t. t ^ (q - 2)) q (q - 1) && all_invert qs

sides_invert : T (all_invert sides)
unfolding all_invert inverts
sides_invert = tt

one-inverts : (q : ℕ) (qs : List ℕ) → T (listed q qs) → T (all_invert qs) → T (inverts (λ t. t ^ (q - 2)) q (q - 1))
unfolding listed all_invert
one-inverts q [] h a = absurd h
one-inverts q (s ∷ ss) h a = ⊎_elim (λ (e : T (eqb q s)). rw (eqb→eq q s e) (and_yes _ _ a).0) (λ (r : T (listed q ss)). one-inverts q ss r (and_yes _ _ a).1) (or_yes _ _ h)

pub side_units : (q : ℕ) → T (listed q sides) → Units q q
side_units q h t pos lt = units (λ t. t ^ (q - 2)) q (q - 1) (one-inverts q sides h sides_invert) t pos (omega arith)

-- (p * i + 1) / a for an i below the second number with which p * i + 1 is a multiple of a: an inverse of a modulo p
dividing : ℕ → ℕ → ℕ
dividing a zero = 0
dividing a (suc i) = cond (eqb ((p * i + 1) % a) 0) ((p * i + 1) / a) (dividing a i)

few_invert : T (inverts (λ t. dividing t t) p 250)
unfolding inverts dividing
few_invert = tt

pub word-units : Units p 251
word-units = units (λ t. dividing t t) p 250 few_invert
