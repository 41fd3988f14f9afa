-- The value of a polynomial, coefficient by coefficient from the highest: with none, and one more. The point may be taken modulo p.
use Rattle.std.proofs.Common.{◌≡◌, ℕ, ◌+◌, ◌*◌, ◌%◌, List, [], ◌∷◌, refl, ap, ◌∙◌, arith}
use Rattle.speakall.specs.Frame.{p, word_at}
use native.Mathlib.Nat.{mod-add-div}

-- one coefficient more
pub word_at_more : (m rest : List ℕ) (x v a : ℕ) → m ≡ a ∷ rest → v ≡ word_at rest x → (a + x * v) % p ≡ word_at m x
unfolding word_at
word_at_more m rest x v a is e = rw (is, e) refl

word_at_mod : (m : List ℕ) (x : ℕ) → word_at m (x % p) ≡ word_at m x
unfolding word_at
word_at_mod [] x = refl
word_at_mod (a ∷ m) x = let e = ap (λ (z : ℕ). z * word_at m x) (mod-add-div x p) in rw (word_at_mod m x) (omega arith)

-- at a point taken modulo p
pub word_at_same : (m : List ℕ) (x y v : ℕ) → x ≡ y % p → v ≡ word_at m x → v ≡ word_at m y
word_at_same m x y v is e = e ∙ ap (word_at m) is ∙ word_at_mod m y

pub word_at_none : (x : ℕ) → 0 ≡ word_at [] x
unfolding word_at
word_at_none x = refl
