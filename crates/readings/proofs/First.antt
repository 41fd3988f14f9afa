-- The first answer that is not doubtful, among the answers for numbers and for lists: what holds of each answer holds of it (first_read_any), and if it is doubtful all are (first_read_none).
use Rattle.std.proofs.Common.{◌≡◌, ℕ, zero, suc, ◌<◌, T, ltb, List, [], ◌∷◌, length, refl, ap, ⊎_elim, arith, ltb→lt, lt→ltb}
use mir.Facts.{and_yes, yes_and}
use Rattle.std.proofs.lemmas.Bool.{cases_eq}
use Rattle.readings.specs.Reads.{first_of, first_read, or_else}
use Rattle.speakall.specs.Code.{Read, TooFew, Reads, Doubtful}
use Rattle.speakall.specs.Plan.{below}

or_else_any : (P : Read → Type 0) (r t : Read) → P r → P t → P (or_else r t)
or_else_any P (TooFew n) t a b = a
or_else_any P (Reads m n o) t a b = a
or_else_any P Doubtful t a b = b

or_else_none : (r t : Read) → or_else r t ≡ Doubtful → (r ≡ Doubtful) × (t ≡ Doubtful)
or_else_none (TooFew n) t e = let z : ◌≡◌ {A = ℕ} 0 1 = cc in absurd (omega arith)
or_else_none (Reads m n o) t e = let z : ◌≡◌ {A = ℕ} 0 1 = cc in absurd (omega arith)
or_else_none Doubtful t e = (refl, e)

first_of_any : (P : Read → Type 0) (n : ℕ) (f : ℕ → Read) → P Doubtful → ((a : ℕ) → a < n → P (f a)) → P (first_of n f)
unfolding first_of
first_of_any P zero f none each = none
first_of_any P (suc n) f none each = or_else_any P _ _ (first_of_any P n f none (λ a h. each a (omega arith))) (each n (omega arith))

first_of_none : (n : ℕ) (f : ℕ → Read) → first_of n f ≡ Doubtful → (a : ℕ) → a < n → f a ≡ Doubtful
unfolding first_of
first_of_none zero f e a h = absurd (omega arith)
first_of_none (suc n) f e a h =
    let both = or_else_none (first_of n f) (f n) e in
    ⊎_elim (λ (k : a ≡ n). rw k both.1) (λ (k : a ≡ n → ⊥). first_of_none n f both.0 a (omega arith)) (cases_eq a n)

pub first_read_any : (P : Read → Type 0) (s n : ℕ) (f : List ℕ → Read) → P Doubtful → ((m : List ℕ) → length m ≡ s → T (below n m) → P (f m)) → P (first_read s n f)
unfolding first_read below
first_read_any P zero n f none each = each [] refl tt
first_read_any P (suc s) n f none each =
    first_of_any P n (λ a. first_read s n (λ m. f (a ∷ m))) none (λ a h. first_read_any P s n (λ m. f (a ∷ m)) none (λ m l b. each (a ∷ m) (ap suc l) (yes_and _ _ (lt→ltb a n h) b)))

pub first_read_none : (s n : ℕ) (f : List ℕ → Read) → first_read s n f ≡ Doubtful → (m : List ℕ) → length m ≡ s → T (below n m) → f m ≡ Doubtful
unfolding first_read below
first_read_none zero n f e [] l b = e
first_read_none zero n f e (a ∷ m) l b = absurd (omega arith)
first_read_none (suc s) n f e [] l b = absurd (omega arith)
first_read_none (suc s) n f e (a ∷ m) l b =
    let both = and_yes (ltb a n) (below n m) b in
    first_read_none s n (λ m. f (a ∷ m)) (first_of_none n (λ a. first_read s n (λ m. f (a ∷ m))) e a (ltb→lt a n both.0)) m (omega arith) both.1
