-- The tables of our q^d plans are q^d many and meet as seldom (reached).
-- Idea: a number below q^d is told by its d digits, so different senders have different plans, which seldom meet;
-- `tables` and `table_of` are lists made from functions of the place.
use Rattle.std.proofs.Common.{◌≡◌, ℕ, zero, suc, ◌+◌, ◌*◌, ◌/◌, ◌%◌, ◌^◌, ◌<◌, cond, T, eqb, List, [], ◌∷◌, ◌++◌, map, length, get_or, sym, refl, ap, ◌∙◌, ap₂, mod-lt, div-lt_iff_lt-mul, pow-suc, add-one, arith, lt→ltb}
use native.Mathlib.Nat.{pow-zero, mod-add-div}
use mir.Facts.{yes_and}
use Rattle.std.specs.List.{range_with_len}
use Rattle.std.proofs.lemmas.List.FromFn.{length-map-range_with_len, get_or-map-range_with_len, map-range_with_len_more}
use Rattle.std.proofs.ByRecursion.{All-from_get_or}
use Rattle.speakall.specs.Plan.{Channel, Plan, IsPlan, slot_at, below, digits, plan_of}
use Rattle.speakall.specs.Promise.{meet, IsTable, table_of, tables, Reached}
use Rattle.speakall.proofs.Members.{all_mem}
use Rattle.speakall.proofs.Polynomial.{slot_at_lt}
use Rattle.speakall.proofs.Meet.{seldom_meet}

length_digits : (q n count : ℕ) → length (digits q n count) ≡ count
unfolding digits
length_digits q n zero = refl
length_digits q n (suc count) = ap suc (length_digits q (n / q) count)

pub below-digits : (q n count : ℕ) → 0 < q → T (below q (digits q n count))
unfolding digits below
below-digits q n zero h = tt
below-digits q n (suc count) h = yes_and _ _ (lt→ltb (n % q) q (mod-lt n h)) (below-digits q (n / q) count h)

-- the plan of each number is a plan
pub plan_of_plan : (c : Channel) (n : ℕ) → 0 < c.q → IsPlan c (plan_of c n)
plan_of_plan c n h = (length_digits c.q n c.d, below-digits c.q n c.d h)

-- numbers with the same digits are equal
pub digits_equal : (q m n count : ℕ) → 0 < q → m < q ^ count → n < q ^ count → digits q m count ≡ digits q n count → m ≡ n
unfolding digits
digits_equal q m n zero pos hm hn e = let o = pow-zero q in omega arith
digits_equal q m n (suc count) pos hm hn e =
    let low : m % q ≡ n % q = cc in
    let high : m / q ≡ n / q = digits_equal q (m / q) (n / q) count pos ((div-lt_iff_lt-mul pos).1 (rw pow-suc at hm)) ((div-lt_iff_lt-mul pos).1 (rw pow-suc at hn)) (cc) in
    sym (mod-add-div m q) ∙ ap₂ (λ (a b : ℕ). a + q * b) low high ∙ mod-add-div n q

-- a list that grows at its end by f n is made from f
counted : {X : Type 0} (xs : ℕ → List X) (f : ℕ → X) → xs 0 ≡ [] → ((n : ℕ) → xs (suc n) ≡ xs n ++ (f n ∷ [])) → (n : ℕ) → xs n ≡ map f (range_with_len 0 n)
counted xs f none more zero = none
counted xs f none more (suc n) = more n ∙ ap (λ l. l ++ (f n ∷ [])) (counted xs f none more n) ∙ sym (map-range_with_len_more f 0 n n (omega arith)) ∙ ap (λ k. map f (range_with_len 0 k)) (add-one n)

table_of-counted : (q : ℕ) (f : Plan) (n : ℕ) → table_of q f n ≡ map (slot_at q f) (range_with_len 0 n)
unfolding table_of
table_of-counted q f = counted (table_of q f) (slot_at q f) refl (λ n. refl)

tables-counted : (c : Channel) (n : ℕ) → tables c n ≡ map (λ i. table_of c.q (plan_of c i) c.q) (range_with_len 0 n)
unfolding tables
tables-counted c = counted (tables c) (λ i. table_of c.q (plan_of c i) c.q) refl (λ n. refl)

length-tables : (c : Channel) (n : ℕ) → length (tables c n) ≡ n
length-tables c n = ap length (tables-counted c n) ∙ length-map-range_with_len (λ i. table_of c.q (plan_of c i) c.q) 0 n

get_d_tables : (c : Channel) (n i : ℕ) → i < n → get_or (tables c n) i [] ≡ table_of c.q (plan_of c i) c.q
get_d_tables c n i h = rw (tables-counted c n) (get_or-map-range_with_len (λ i. table_of c.q (plan_of c i) c.q) 0 n i i [] h (omega arith))

length-table_of : (q : ℕ) (f : Plan) (n : ℕ) → length (table_of q f n) ≡ n
length-table_of q f n = ap length (table_of-counted q f n) ∙ length-map-range_with_len (slot_at q f) 0 n

get_d_table_of : (q : ℕ) (f : Plan) (n x : ℕ) → x < n → get_or (table_of q f n) x 0 ≡ slot_at q f x
get_d_table_of q f n x h = rw (table_of-counted q f n) (get_or-map-range_with_len (slot_at q f) 0 n x x 0 h (omega arith))

below_from_get_d : (q : ℕ) (t : List ℕ) → ((x : ℕ) → x < length t → get_or t x 0 < q) → T (below q t)
unfolding below
below_from_get_d q [] h = tt
below_from_get_d q (a ∷ t) h = yes_and _ _ (lt→ltb a q (h 0 (omega arith))) (below_from_get_d q t (λ x l. h (suc x) (omega arith)))

table_of-table : (c : Channel) (f : Plan) → 0 < c.q → IsTable c (table_of c.q f c.q)
table_of-table c f pos =
    let len = length-table_of c.q f c.q in
    (len, below_from_get_d c.q (table_of c.q f c.q) (λ x h. rw (get_d_table_of c.q f c.q x (omega arith)) (slot_at_lt c.q f x pos)))

meet_cong : (q : ℕ) (f g s t : ℕ → ℕ) (n : ℕ) → ((x : ℕ) → x < n → f x ≡ s x) → ((x : ℕ) → x < n → g x ≡ t x) → meet q f g n ≡ meet q s t n
unfolding meet
meet_cong q f g s t zero hf hg = refl
meet_cong q f g s t (suc n) hf hg =
    ap₂ (λ (a b : ℕ). cond (eqb a b) 1 0 + meet q f g n) (hf n (omega arith)) (hg n (omega arith)) ∙
    ap (λ (k : ℕ). cond (eqb (s n) (t n)) 1 0 + k) (meet_cong q f g s t n (λ x l. hf x (omega arith)) (λ x l. hg x (omega arith)))

pub reached : Reached
reached c good =
    let pos : 0 < c.q = let a = good.1 in let b = good.2 in omega arith in
    let n = c.q ^ c.d in
    let len = length-tables c n in (
      len,
      record {
        tabled = λ t m. all_mem (IsTable c) (tables c n) t (All-from_get_or (IsTable c) (tables c n) [] (λ i h. rw (get_d_tables c n i (omega arith)) (table_of-table c (plan_of c i) pos))) m;
        seldom = λ i j hi hj. rw (get_d_tables c n i (omega arith), get_d_tables c n j (omega arith)) (
            rw (meet_cong c.q (λ x. get_or (table_of c.q (plan_of c i) c.q) x 0) (λ x. get_or (table_of c.q (plan_of c j) c.q) x 0) (slot_at c.q (plan_of c i)) (slot_at c.q (plan_of c j)) c.q (
            get_d_table_of c.q (plan_of c i) c.q) (get_d_table_of c.q (plan_of c j) c.q)) (
            seldom_meet c good (plan_of c i) (plan_of c j) (plan_of_plan c i pos) (plan_of_plan c j pos) (
            λ e. let d = digits_equal c.q i j c.d pos (omega arith) (omega arith) e in omega arith)));
      },
    )
