-- Numbers in bytes, one after the other.
-- numbers_more, numbers_few, length_numbers, Small, Large, small_told, numbers_chunks. Assumes nothing.
use Rattle.std.proofs.Common.{◌≡◌, ℕ, zero, suc, ◌*◌, ◌^◌, ◌<◌, ◌≤◌, ◌+◌, Bool, true, false, List, [], ◌∷◌, map, length, take, drop, sym, refl, ap, ◌∙◌, arith}
use Rattle.std.proofs.lemmas.List.{get_or-take, length-drop}
use Rattle.std.proofs.lemmas.Bool.Decides.{nat_tests}
use Rattle.std.specs.Bool.{MatchBool}
use Rattle.std.specs.List.{AllWithin, HoldsAt}
use Rattle.std.specs.Simd.{first_chunks}
use Rattle.records.specs.Numbers.{are_small, four_at, numbers_of}

pub numbers_more : (bs : List ℕ) → 4 ≤ length bs → numbers_of bs ≡ four_at 0 bs ∷ numbers_of (drop 4 bs)
unfolding numbers_of
numbers_more [] h = absurd (omega arith)
numbers_more (a ∷ []) h = absurd (omega arith)
numbers_more (a ∷ b ∷ []) h = absurd (omega arith)
numbers_more (a ∷ b ∷ c ∷ []) h = absurd (omega arith)
numbers_more (a ∷ b ∷ c ∷ d ∷ rest) h = refl

pub numbers_few : (bs : List ℕ) → length bs < 4 → numbers_of bs ≡ []
unfolding numbers_of
numbers_few [] h = refl
numbers_few (a ∷ []) h = refl
numbers_few (a ∷ b ∷ []) h = refl
numbers_few (a ∷ b ∷ c ∷ []) h = refl
numbers_few (a ∷ b ∷ c ∷ d ∷ rest) h = absurd (omega arith)

small_cons : (n : ℕ) (ns : List ℕ) → n < 2 ^ 30 → are_small (n ∷ ns) ≡ are_small ns
unfolding are_small
small_cons n ns h = grind (arith, nat_tests)

large_cons : (n : ℕ) (ns : List ℕ) → 2 ^ 30 ≤ n → are_small (n ∷ ns) ≡ false
unfolding are_small
large_cons n ns h = grind (arith, nat_tests)

small_none : (bs : List ℕ) → length bs < 4 → true ≡ are_small (numbers_of bs)
unfolding are_small
small_none bs h = sym (ap are_small (numbers_few bs h))

-- the first four bytes alone have the number of the first four
four_take : (bs : List ℕ) → four_at 0 (take 4 bs) ≡ four_at 0 bs
four_take bs = rw (get_or-take 4 bs 0 0 (omega arith), get_or-take 4 bs 1 0 (omega arith), get_or-take 4 bs 2 0 (omega arith), get_or-take 4 bs 3 0 (omega arith)) refl

later_large : (n : ℕ) (ns : List ℕ) → are_small ns ≡ false → are_small (n ∷ ns) ≡ false
unfolding are_small
later_large n ns h = grind (arith, nat_tests)

-- four bytes whose number is below 2^30, and those whose number is not
abbrev pub Small : List ℕ → Type 0
Small w = four_at 0 w < 1073741824

abbrev pub Large : List ℕ → Type 0
Large w = 1073741824 ≤ four_at 0 w

-- numbers that are all small in their bytes, and one that is not
small_all : (n : ℕ) (bs : List ℕ) → 4 * n ≤ length bs → length bs < 4 * n + 4 → AllWithin Small (first_chunks 4 n bs) 0 (length (first_chunks 4 n bs)) → true ≡ are_small (numbers_of bs)
small_all zero bs h l a = small_none bs (omega arith)
small_all (suc n) bs h l a =
    let here : four_at 0 bs < 2 ^ 30 = rw (four_take bs) at (a 0 [] (omega arith) (omega arith)) in
    let rest = small_all n (drop 4 bs) (simp length-drop (omega arith)) (simp length-drop (omega arith)) (λ k d i j. a (suc k) d (omega arith) (omega arith)) in
    rest ∙ sym (ap are_small (numbers_more bs (omega arith)) ∙ small_cons (four_at 0 bs) (numbers_of (drop 4 bs)) here)

large_at : (n : ℕ) (bs : List ℕ) → 4 * n ≤ length bs → (k : ℕ) → k < length (first_chunks 4 n bs) → HoldsAt Large (first_chunks 4 n bs) k → are_small (numbers_of bs) ≡ false
large_at zero bs h k j a = absurd (omega arith)
large_at (suc n) bs h zero j a = ap are_small (numbers_more bs (omega arith)) ∙ large_cons (four_at 0 bs) (numbers_of (drop 4 bs)) (rw (four_take bs) at (a []))
large_at (suc n) bs h (suc k) j a =
    let rest = large_at n (drop 4 bs) (simp length-drop (omega arith)) k (omega arith) a in
    ap are_small (numbers_more bs (omega arith)) ∙ later_large (four_at 0 bs) (numbers_of (drop 4 bs)) rest

pub small_told : (r : Bool) (n : ℕ) (bs : List ℕ) → 4 * n ≤ length bs → length bs < 4 * n + 4 →
    MatchBool r (AllWithin Small (first_chunks 4 n bs) 0 (length (first_chunks 4 n bs))) ((k : ℕ) × (k < length (first_chunks 4 n bs)) × HoldsAt Large (first_chunks 4 n bs) k) → r ≡ are_small (numbers_of bs)
small_told true n bs h l m = small_all n bs h l m
small_told false n bs h l m = sym (large_at n bs h m.0 m.1 m.2)

pub length_numbers : (n : ℕ) (bs : List ℕ) → length bs ≡ 4 * n → length (numbers_of bs) ≡ n
length_numbers zero bs h = ap length (numbers_few bs (omega arith))
length_numbers (suc n) bs h =
    let rest = length_numbers n (drop 4 bs) (simp length-drop (omega arith)) in
    ap length (numbers_more bs (omega arith)) ∙ omega arith

-- the numbers, four bytes after four bytes
pub numbers_chunks : (n : ℕ) (bs : List ℕ) → 4 * n ≤ length bs → length bs < 4 * n + 4 → map (λ (w : List ℕ). four_at 0 w) (first_chunks 4 n bs) ≡ numbers_of bs
numbers_chunks zero bs h l = sym (numbers_few bs (omega arith))
numbers_chunks (suc n) bs h l =
    let rest = numbers_chunks n (drop 4 bs) (simp length-drop (omega arith)) (simp length-drop (omega arith)) in
    rw (four_take bs, rest) (sym (numbers_more bs (omega arith)))
