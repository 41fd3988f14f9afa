-- When each sender speaks: channels, plans, and the slot of a plan in a part.
-- Channel, Plan, slot_at, below, IsPlan, same, is_in, different, sides, listed, size, Good, digits, plan_of. Assumes nothing.
use Rattle.std.specs.Prelude.{◌≡◌, ℕ, zero, suc, ◌+◌, ◌-◌, ◌*◌, ◌/◌, ◌%◌, ◌^◌, ◌<◌, ◌≤◌, Bool, true, false, not, ◌&&◌, ◌||◌, T, List, [], ◌∷◌, length, ◌==◌, nat_lt}

-- q: parts of a frame, and slots of a part, one of `sides`. d: how many numbers a sender's plan has. k: how many others may speak in the same frame
pub record Channel : Type 0 where
  pub q : ℕ
  pub d : ℕ
  pub k : ℕ

-- a sender's plan: d numbers below q, the coefficients of a polynomial, the constant first
abbrev pub Plan : Type 0
Plan = List ℕ

-- the slot in which a plan speaks in part x: the polynomial's value at x, modulo q
unfoldable pub slot_at : ℕ → Plan → ℕ → ℕ
slot_at q [] x = 0
slot_at q (a ∷ as') x = (a + x * slot_at q as' x) % q

unfoldable pub below : ℕ → List ℕ → Bool
below n [] = true
below n (a ∷ as') = nat_lt a n && below n as'

abbrev pub IsPlan : Channel → Plan → Type 0
IsPlan c f = (length f ≡ c.d) × T (below c.q f)

unfoldable pub same : Plan → Plan → Bool
same [] [] = true
same [] (y ∷ ys) = false
same (x ∷ xs) [] = false
same (x ∷ xs) (y ∷ ys) = x == y && same xs ys

unfoldable pub is_in : Plan → List Plan → Bool
is_in f [] = false
is_in f (g ∷ gs) = same f g || is_in f gs

-- no plan stands twice
unfoldable pub different : List Plan → Bool
different [] = true
different (f ∷ fs) = not (is_in f fs) && different fs

-- the odd primes below 256: the numbers that q may be
abbrev pub sides : List ℕ
sides =
    3 ∷ 5 ∷ 7 ∷ 11 ∷ 13 ∷ 17 ∷ 19 ∷ 23 ∷ 29 ∷ 31 ∷ 37 ∷ 41 ∷ 43 ∷ 47 ∷ 53 ∷ 59 ∷ 61 ∷ 67 ∷ 71 ∷ 73 ∷ 79 ∷ 83 ∷ 89 ∷ 97 ∷ 101 ∷ 103 ∷ 107 ∷ 109 ∷ 113 ∷ 127 ∷ 131 ∷ 137 ∷ 139 ∷ 149 ∷ 151 ∷ 157 ∷ 163 ∷ 167 ∷ 173 ∷ 179 ∷ 181 ∷ 191 ∷ 193 ∷ 197 ∷ 199 ∷ 211 ∷ 223 ∷ 227 ∷ 229 ∷ 233 ∷ 239 ∷ 241 ∷ 251 ∷ []

unfoldable pub listed : ℕ → List ℕ → Bool
listed q [] = false
listed q (s ∷ ss) = q == s || listed q ss

-- a message has so many numbers
abbrev pub size : Channel → ℕ
size c = c.q - c.k * (c.d - 1)

abbrev pub Good : Channel → Type 0
Good c = T (listed c.q sides) × (0 < c.d) × (c.d ≤ c.q) × (c.k * (c.d - 1) < c.q) × (c.q < 252) × (c.q ^ c.d ≤ 65536)

-- a number written with so many digits to the base q, the lowest first
unfoldable pub digits : (q n count : ℕ) → List ℕ
digits q n zero = []
digits q n (suc count) = (n % q) ∷ digits q (n / q) count

-- the plan of the sender with this number
abbrev pub plan_of : Channel → ℕ → Plan
plan_of c n = digits c.q n c.d
