-- What the code takes for a sender's word is what the statement says is heard of it: senders with the same plan are the same.
-- there_at, own_in, Gathered, gathered_none, gathered_more, gathered_all, words_heard. Assumes nothing.
use Rattle.std.proofs.Common.{◌≡◌, ℕ, zero, suc, ◌+◌, ◌-◌, ◌*◌, ◌^◌, ◌<◌, ◌≤◌, Bool, true, false, cond, eqb, List, [], ◌∷◌, ◌++◌, get_or, Some, None, Option, sym, refl, ap, ◌∙◌, ap₂, ⊎_elim, arith}
use Rattle.std.proofs.lemmas.Bool.{cases_eq, eq-eqb, ne_eqb, eqb-true, ltb-true, and_parts, cases_Bool}
use Rattle.std.proofs.lemmas.List.{map-append, append_assoc, append-nil}
use Rattle.std.specs.Option.{option_to_list}
use Rattle.frames.specs.declared.slot.Slot.{Slot}
use Rattle.frames.specs.declared.slot.Slot.TheVariants.{Silence, One, Noise}
use Rattle.frames.specs.Slots.{Hears, is_there, own_word, slot_in, slot_of, there_in}
use Rattle.frames.specs.Heard.{words_from}
use Rattle.polynomials.specs.Heard.{words_in}
use Rattle.polynomials.specs.declared.words.PartWord.{PartWord}
use Rattle.speakall.specs.Frame as statement
use Rattle.speakall.specs.Frame.{Word, heard, word_if, words_of}
use Rattle.speakall.specs.Plan.{Channel, Plan, plan_of, same, slot_at}
use Rattle.speakall.proofs.Heard.{same_refl}
use Rattle.speakall.proofs.Polynomial.{slot_at_lt}
use Rattle.speakall.proofs.Reached.{digits_equal}

same_equal : (f g : Plan) → same f g ≡ true → f ≡ g
unfolding same
same_equal [] [] e = refl
same_equal [] (y ∷ ys) e = cc
same_equal (x ∷ xs) [] e = cc
same_equal (x ∷ xs) (y ∷ ys) e =
    let a = and_parts (eqb x y) (same xs ys) e in
    ap₂ (λ (z : ℕ) (zs : List ℕ). z ∷ zs) (eqb-true x y a.0) (same_equal xs ys a.1)

pub there_at : (n : ℕ) (ss : List Slot) (i : ℕ) → there_in n ss ≡ true → is_there n (get_or ss i Silence) ≡ true
unfolding there_in
there_at n [] i t = refl
there_at n (s ∷ ss) zero t = (and_parts (is_there n s) (there_in n ss) t).0
there_at n (s ∷ ss) (suc i) t = there_at n ss i (and_parts (is_there n s) (there_in n ss) t).1

same_plans : (c : Channel) (n m : ℕ) → 0 < c.q → n < c.q ^ c.d → m < c.q ^ c.d → same (plan_of c n) (plan_of c m) ≡ eqb m n
same_plans c n m pos h k =
    ⊎_elim (λ (e : m ≡ n). ap (λ (z : ℕ). same (plan_of c n) (plan_of c z)) e ∙ same_refl (plan_of c n) ∙ sym (eq-eqb m n e)) (
    λ (d : m ≡ n → ⊥). ⊎_elim (λ (t : same (plan_of c n) (plan_of c m) ≡ true). absurd (d (sym (digits_equal c.q n m c.d pos h k (same_equal (plan_of c n) (plan_of c m) t))))) (
    λ (f : same (plan_of c n) (plan_of c m) ≡ false). f ∙ sym (ne_eqb m n d)) (cases_Bool (same (plan_of c n) (plan_of c m)))) (cases_eq m n)

own-word : (c : Channel) (n x : ℕ) (s : Slot) → 0 < c.q → n < c.q ^ c.d → is_there (c.q ^ c.d) s ≡ true → words_in (option_to_list (own_word n x s)) ≡ word_if (plan_of c n) x (slot_of c s)
own-word c n x Silence pos h t = refl
own-word c n x Noise pos h t = refl
own-word c n x (One m w) pos h t = rw (same_plans c n m pos h (ltb-true m (c.q ^ c.d) t)) (go (eqb m n))
  where
    go : (b : Bool) → words_in (option_to_list (cond b (Some (record { part = x; value = w })) None)) ≡ cond b (record { part = x; word = w } ∷ []) []
    go true = refl
    go false = refl

-- what the code takes from the slot of the sender's plan
pub own_in : (c : Channel) (n x y q : ℕ) (slots : List Slot) (v : Slot) (o : Option PartWord) → 0 < c.q → n < c.q ^ c.d → there_in (c.q ^ c.d) slots ≡ true → q ≡ c.q → y ≡ slot_at c.q (plan_of c n) x →
    v ≡ slot_in q slots x y → o ≡ own_word n x v → words_in (option_to_list o) ≡ word_if (plan_of c n) x (slot_of c (slot_in c.q slots x (slot_at c.q (plan_of c n) x)))
own_in c n x y q slots v o pos h t eq ey ev eo =
    let own : o ≡ own_word n x (slot_in c.q slots x (slot_at c.q (plan_of c n) x)) = cc in
    ap (λ (z : Option PartWord). words_in (option_to_list z)) own ∙ own-word c n x (slot_in c.q slots x (slot_at c.q (plan_of c n) x)) pos h (there_at (c.q ^ c.d) slots (x * c.q + slot_at c.q (plan_of c n) x) t)

-- the words of the parts below i, and then those of the others, are all
pub Gathered : Channel → List Slot → Plan → (i : ℕ) → List PartWord → Type 0
Gathered c slots f i ws = words_in ws ++ words_from c slots f i (c.q - i) ≡ words_from c slots f 0 c.q

pub gathered_none : (c : Channel) (slots : List Slot) (f : Plan) → Gathered c slots f 0 []
unfolding Gathered
gathered_none c slots f = ap (words_from c slots f 0) (omega arith)

pub gathered_more : (c : Channel) (slots : List Slot) (f : Plan) (i : ℕ) (ws vs : List PartWord) → i < c.q → words_in vs ≡ word_if f i (slot_of c (slot_in c.q slots i (slot_at c.q f i))) →
    Gathered c slots f i ws → Gathered c slots f (i + 1) (ws ++ vs)
unfolding Gathered words_from
gathered_more c slots f i ws vs h e g =
    let n = c.q - (i + 1) in
    let k : c.q - i ≡ suc n = omega arith in
    let s : words_from c slots f i (c.q - i) ≡ words_in vs ++ words_from c slots f (i + 1) n = ap (words_from c slots f i) k ∙ ap (λ l. l ++ words_from c slots f (i + 1) n) (sym e) in
    ap (λ l. l ++ words_from c slots f (i + 1) n) (map-append _ ws vs) ∙ append_assoc (words_in ws) (words_in vs) (words_from c slots f (i + 1) n) ∙ ap (λ l. words_in ws ++ l) (sym s) ∙ g

pub gathered_all : (c : Channel) (slots : List Slot) (f : Plan) (i : ℕ) (ws : List PartWord) → c.q ≤ i → Gathered c slots f i ws → words_in ws ≡ words_from c slots f 0 c.q
unfolding Gathered words_from
gathered_all c slots f i ws h g =
    let e : c.q - i ≡ 0 = omega arith in
    sym (append-nil (words_in ws)) ∙ ap (λ n. words_in ws ++ words_from c slots f i n) (sym e) ∙ g

-- where the slots are what is heard when ss speak, so are the words
pub words_heard : (c : Channel) (ss : List statement.Speaker) (slots : List Slot) (f : Plan) → 0 < c.q → Hears c ss slots → (x n : ℕ) → x + n ≤ c.q → words_from c slots f x n ≡ words_of c.q ss f x n
unfolding words_from words_of
words_heard c ss slots f pos h x zero l = refl
words_heard c ss slots f pos h x (suc n) l =
    ap₂ (λ (a b : List Word). a ++ b) (ap (word_if f x) (h x (slot_at c.q f x) (omega arith) (slot_at_lt c.q f x pos))) (words_heard c ss slots f pos h (x + 1) n (omega arith))
