-- A text is its front, the character and its back, by induction over the front.
-- shorter; cut_some, cut_none; reads_number, reads_none. Assumes nothing.
use Rattle.std.proofs.Common.{◌≡◌, ℕ, zero, suc, ◌<◌, Bool, true, false, cond, eqb, List, [], ◌∷◌, ◌++◌, length, get_or, Some, None, Option, sym, refl, ap, subst, ◌∙◌, arith}
use Rattle.command_words.specs.Numbers.{IsNumber, Reads}
use Rattle.std.specs.List.{AllByRecursion}
use Rattle.std.proofs.lemmas.Bool.{eq-eqb, ne_eqb}
use Rattle.sender_words.specs.Pieces.{Writes, after, up_to}

-- c stands nowhere in it
abbrev pub Lacks : ℕ → List ℕ → Type 0
Lacks c bs = (i : ℕ) → i < length bs → get_or bs i 0 ≡ c → ⊥

module _ (c : ℕ) where
  head_not : (b : ℕ) (bs : List ℕ) → Lacks c (b ∷ bs) → eqb b c ≡ false
  head_not b bs free = ne_eqb b c (λ e. free 0 (omega arith) e)

  tail_not : (b : ℕ) (bs : List ℕ) → Lacks c (b ∷ bs) → Lacks c bs
  tail_not b bs free = λ i h e. free (suc i) (omega arith) e

  up_to_cut : (xs ys : List ℕ) → Lacks c xs → up_to c (xs ++ (c ∷ ys)) ≡ xs
  unfolding up_to
  up_to_cut [] ys free = rw (eq-eqb c c refl)
  up_to_cut (x ∷ xs) ys free = rw (head_not x xs free, up_to_cut xs ys (tail_not x xs free))

  after_cut : (xs ys : List ℕ) → Lacks c xs → after c (xs ++ (c ∷ ys)) ≡ Some ys
  unfolding after
  after_cut [] ys free = rw (eq-eqb c c refl)
  after_cut (x ∷ xs) ys free = rw (head_not x xs free) (after_cut xs ys (tail_not x xs free))

  up_to_none : (bs : List ℕ) → Lacks c bs → up_to c bs ≡ bs
  unfolding up_to
  up_to_none [] free = refl
  up_to_none (b ∷ bs) free = rw (head_not b bs free, up_to_none bs (tail_not b bs free))

  after_none : (bs : List ℕ) → Lacks c bs → after c bs ≡ None
  unfolding after
  after_none [] free = refl
  after_none (b ∷ bs) free = rw (head_not b bs free) (after_none bs (tail_not b bs free))

  step_shorter : (b : ℕ) (bs ys : List ℕ) (o : Option (List ℕ)) (t : Bool) → (o ≡ Some ys → length ys < length bs) → cond t (Some bs) o ≡ Some ys → length ys < suc (length bs)
  step_shorter b bs ys o true more e = let k : bs ≡ ys = cc in rw (← k) (omega arith)
  step_shorter b bs ys o false more e = let k : length ys < length bs = more e in omega arith

  -- what stands after the first such character is shorter than the text
  pub shorter : (bs ys : List ℕ) → after c bs ≡ Some ys → length ys < length bs
  unfolding after
  shorter [] ys e = cc
  shorter (b ∷ bs) ys e = step_shorter b bs ys (after c bs) (eqb b c) (shorter bs ys) e

  pub cut_some : (bs xs ys : List ℕ) → (bs ≡ xs ++ (c ∷ ys)) × Lacks c xs → (xs ≡ up_to c bs) × (Some ys ≡ after c bs)
  cut_some bs xs ys h = (sym (ap (up_to c) h.0 ∙ up_to_cut xs ys h.1), sym (ap (after c) h.0 ∙ after_cut xs ys h.1))

  pub cut_none : (bs : List ℕ) → Lacks c bs → (bs ≡ up_to c bs) × (None ≡ after c bs)
  cut_none bs free = (sym (up_to_none bs free), sym (after_none bs free))

-- a text that is read as a number writes it
pub reads_number : (text : List ℕ) (n : ℕ) (o : Option ℕ) → o ≡ Some n → Reads text o → Writes text n
reads_number text n o e r = rw e at r

all_at : {X : Type 0} (P : X → Type 0) (xs : List X) (i : ℕ) (d : X) → i < length xs → AllByRecursion P xs → P (get_or xs i d)
all_at P [] i d h a = absurd (omega arith)
all_at P (x ∷ xs) zero d h a = a.0
all_at P (x ∷ xs) (suc i) d h a = all_at P xs i d (omega arith) a.1

-- where one of the pieces is read as no number, not all are numbers
pub reads_none : (text : List ℕ) (ps : List (List ℕ)) (i : ℕ) (o : Option ℕ) → o ≡ None → i < length ps → text ≡ get_or ps i text → Reads text o → AllByRecursion IsNumber ps → ⊥
reads_none text ps i o e h is r all =
    let none : IsNumber text → ⊥ = rw e at r in
    none (subst IsNumber (sym is) (all_at IsNumber ps i text h all))
