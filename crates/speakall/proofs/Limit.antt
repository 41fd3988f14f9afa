-- Tables that meet in at most d - 1 parts, each two of them, are at most q^d many (no_more).
-- Idea: the first d slots of a table are a number below q^d (`code`); tables with one number have one slot in d parts, so different tables have
-- different numbers, and those are at most q^d many.
use Rattle.std.proofs.Common.{◌≡◌, ℕ, zero, suc, ◌+◌, ◌*◌, ◌/◌, ◌%◌, ◌^◌, ◌<◌, ◌≤◌, T, List, [], ◌∷◌, length, get_or, sym, ap, ◌∙◌, ⊎_elim, pow-suc, arith, ltb→lt}
use native.Mathlib.Nat.{pow-zero}
use lib.Arith.{digits_lt, digits_div, digits_mod}
use mir.Facts.{and_yes}
use Rattle.std.proofs.lemmas.Bool.{cases_lt, cases_eq, eq-eqb}
use Rattle.speakall.specs.Plan.{below}
use Rattle.speakall.specs.Promise.{meet, NoMore}
use Rattle.speakall.proofs.Members.{mem_get_d}
use Rattle.speakall.proofs.Pigeonhole.{pigeonhole}

-- the first n slots of a table as a number to the base q
code : ℕ → (ℕ → ℕ) → ℕ → ℕ
code q t zero = 0
code q t (suc n) = code q t n * q + t n

code_lt : (q : ℕ) (t : ℕ → ℕ) (n : ℕ) → ((x : ℕ) → x < n → t x < q) → code q t n < q ^ n
unfolding code
code_lt q t zero h = omega (arith, pow-zero q)
code_lt q t (suc n) h = rw (pow-suc q n) (digits_lt (code_lt q t n (λ x l. h x (omega arith))) (h n (omega arith)))

code_equal : (q : ℕ) (s t : ℕ → ℕ) (n : ℕ) → ((x : ℕ) → x < n → s x < q) → ((x : ℕ) → x < n → t x < q) → code q s n ≡ code q t n → (x : ℕ) → x < n → s x ≡ t x
unfolding code
code_equal q s t zero hs ht e x h = absurd (omega arith)
code_equal q s t (suc n) hs ht e x h = ⊎_elim (λ (l : x ≡ n). rw l last) (λ (l : x ≡ n → ⊥). code_equal q s t n (λ y k. hs y (omega arith)) (λ y k. ht y (omega arith)) front x (omega arith)) (cases_eq x n)
  where
    last : s n ≡ t n
    last = sym (digits_mod (code q s n) (hs n (omega arith))) ∙ ap (λ (z : ℕ). z % q) e ∙ digits_mod (code q t n) (ht n (omega arith))

    front : code q s n ≡ code q t n
    front = sym (digits_div (code q s n) (hs n (omega arith))) ∙ ap (λ (z : ℕ). z / q) e ∙ digits_div (code q t n) (ht n (omega arith))

-- functions that agree at the first d places meet there
le_meet : (q : ℕ) (f g : ℕ → ℕ) (d n : ℕ) → d ≤ n → ((x : ℕ) → x < d → f x ≡ g x) → d ≤ meet q f g n
unfolding meet
le_meet q f g d zero h e = h
le_meet q f g d (suc n) h e = ⊎_elim (λ (l : n < d). rw (eq-eqb (f n) (g n) (e n l)) (let r = le_meet q f g n n (omega arith) (λ x k. e x (omega arith)) in omega arith)) (
    λ (l : d ≤ n). let r = le_meet q f g d n l e in omega arith) (cases_lt n d)

below_get_d : (q : ℕ) (t : List ℕ) (x : ℕ) → T (below q t) → x < length t → get_or t x 0 < q
unfolding below
below_get_d q [] x b h = absurd (omega arith)
below_get_d q (a ∷ t) zero b h = ltb→lt a q (and_yes _ _ b).0
below_get_d q (a ∷ t) (suc x) b h = below_get_d q t x (and_yes _ _ b).1 (omega arith)

pub no_more : NoMore
no_more c (_, dpos, dq, _, _, _) ts tabled seldom =
    pigeonhole (c.q ^ c.d) (length ts) (λ i. code c.q (slots i) c.d) (λ i h. code_lt c.q (slots i) c.d (small i h)) (
    λ i j hi hj e. let m = le_meet c.q (slots i) (slots j) c.d c.q dq (code_equal c.q (slots i) (slots j) c.d (small i (omega arith)) (small j hj) e) in let s = seldom i j hi hj in omega arith)
  where
    slots : ℕ → ℕ → ℕ
    slots i x = get_or (get_or ts i []) x 0

    small : (i : ℕ) → i < length ts → (x : ℕ) → x < c.d → slots i x < c.q
    small i h x l = let t = tabled (get_or ts i []) (mem_get_d ts i [] h) in below_get_d c.q (get_or ts i []) x t.1 (omega arith)
