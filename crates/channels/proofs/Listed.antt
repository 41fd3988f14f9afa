-- A number is looked for in a list, place by place: what is left decides.
-- listed_any, listed_more, listed_none. Assumes nothing.
use Rattle.std.proofs.Common.{◌≡◌, ℕ, ◌+◌, ◌<◌, ◌≤◌, false, ◌||◌, eqb, List, [], ◌∷◌, length, get_or, drop, refl, ap, ◌∙◌, arith}
use Rattle.std.proofs.lemmas.List.{at_drop_more, at_drop_all}
use Rattle.std.proofs.lemmas.Bool.{ne_eqb}
use Rattle.std.proofs.lemmas.Bool.Decides.{nat_tests}
use Rattle.std.specs.List.{list_any}
use Rattle.speakall.specs.Plan.{listed}

same_test : (x y : ℕ) → eqb x y ≡ eqb y x
same_test x y = grind (arith, nat_tests)

pub listed_any : (q : ℕ) (xs : List ℕ) → list_any (λ x. eqb x q) xs ≡ listed q xs
unfolding listed
listed_any q [] = refl
listed_any q (x ∷ xs) = rw (same_test x q, listed_any q xs)

pub listed_more : (q : ℕ) (xs : List ℕ) (i : ℕ) → i < length xs → (q ≡ get_or xs i 0 → ⊥) → listed q (drop i xs) ≡ listed q (drop (i + 1) xs)
unfolding listed
listed_more q xs i h n =
    let s : listed q (drop i xs) ≡ (eqb q (get_or xs i 0) || listed q (drop (i + 1) xs)) = at_drop_more (listed q) xs i 0 h in
    s ∙ ap (λ b. b || listed q (drop (i + 1) xs)) (ne_eqb q (get_or xs i 0) n)

pub listed_none : (q : ℕ) (xs : List ℕ) (i : ℕ) → length xs ≤ i → listed q (drop i xs) ≡ false
unfolding listed
listed_none q xs i h = at_drop_all (listed q) xs i h
