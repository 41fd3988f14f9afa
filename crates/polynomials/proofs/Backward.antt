-- A loop over a slice from its end: what it has passed are the last elements, one more at each turn.
-- passed, begin, turn, end. Assumes nothing.
use Rattle.std.proofs.Common.{◌≡◌, ℕ, ◌+◌, ◌-◌, ◌<◌, List, [], ◌∷◌, ◌++◌, length, get_or, drop, Some, None, Option, Bor, refl, ap, ◌∙◌, arith, length-append}
use Rattle.std.proofs.lemmas.Iterator.Adapters.{YieldsList-from_rev_slice}
use Rattle.std.proofs.lemmas.Iterator.Consumers.{YieldsList-turn, YieldsList-end}
use Rattle.std.proofs.lemmas.List.{drop_all, drop_more, get_or-reverse, length-reverse}
use Rattle.std.specs.Iterator.{Yields}
use Rattle.std.specs.Iterator.Adapters.{rev_source, rev_steps}
use Rattle.std.specs.Slice.Iter.{iter_rest, iter_steps_back}
use Rattle.std.specs.declared.iter.Rev.{Rev}
use Rattle.std.specs.declared.slice.Iter.{Iter}

-- the elements of the list that are passed after so many turns
abbrev pub passed : {A : Type 0} → List A → List (Bor A) → List A
passed all xs = drop (length all - length xs) all

pub begin : {A : Type 0} (all : List A) → passed all [] ≡ []
begin all = drop_all (length all - 0) all (omega arith)

-- s is the loop's iterator as it begins, t and u that of a turn before and after its call of `next`, and xs what was yielded before the turn
module _ {A : Type 0} (all : List A) (s t u : Rev (Iter A)) (xs : List (Bor A)) (begins : iter_rest (rev_source s) ≡ all) (yielded : Yields (rev_steps iter_steps_back) s xs t) (r : Option (Bor A)) (step : rev_steps iter_steps_back t r u) where
  pub turn : (x : Bor A) → r ≡ Some x → passed all (xs ++ (x ∷ [])) ≡ x.now ∷ passed all xs
  turn x is =
      let at = YieldsList-turn (YieldsList-from_rev_slice {s = s} all begins) xs t yielded r u x is step in
      let n = length all - length xs in
      let lt : length xs < length all = omega (arith, length-reverse all, at.0) in
      let less : length all - length (xs ++ (x ∷ [])) ≡ n - 1 = omega (arith, length-append xs (x ∷ [])) in
      let e : length all - 1 - length xs ≡ n - 1 = omega arith in
      let same : x.now ≡ get_or all (n - 1) x.now = at.1 ∙ get_or-reverse all (length xs) x.now lt ∙ ap (λ (k : ℕ). get_or all k x.now) e in
      let back : n - 1 + 1 ≡ n = omega arith in
      rw (less, drop_more all (n - 1) x.now (omega arith), back, ← same) refl

  pub end : r ≡ None → passed all xs ≡ all
  end is =
      let at = YieldsList-end (YieldsList-from_rev_slice {s = s} all begins) xs t yielded r u is step in
      let none : length all - length xs ≡ 0 = omega (arith, length-reverse all, at.1) in
      ap (λ (n : ℕ). drop n all) none
