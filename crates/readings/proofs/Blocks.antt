-- Words left when blocks of b words are left out: they are sound (sound-left), all but b for each block (length-left),
-- and a message lies on them if no word of another block is off it (agrees-left). The words off a message are those off in each block (off_blocks).
use Rattle.std.proofs.Common.{◌≡◌, ℕ, zero, suc, ◌+◌, ◌-◌, ◌*◌, ◌/◌, ◌%◌, ◌<◌, ◌≤◌, Bool, true, false, cond, not, ◌||◌, T, eqb, ltb, List, [], ◌∷◌, map, length, sym, refl, ap, ◌∙◌, ⊎_elim, mod-lt, div-lt_iff_lt-mul, arith}
use native.Mathlib.Nat.{mod-add-div}
use mir.Facts.{and_yes, or_no, yes_and}
use Rattle.std.proofs.lemmas.Bool.{cases_eq, cond_both, eq-eqb, ne_eqb}
use Rattle.std.proofs.lemmas.Bool.Decides.{nat_tests}
use Rattle.readings.specs.Blocks.{is_among, left}
use Rattle.speakall.specs.Code.{has_part, off_of, sound_in}
use Rattle.speakall.specs.Frame.{Word, agrees, p, word_at}

pub map-left : {X Y : Type 0} (f : X → Y) (b : ℕ) (out : List ℕ) (x : ℕ) (ws : List X) → map f (left b out x ws) ≡ left b out x (map f ws)
unfolding left
map-left f b out x [] = refl
map-left f b out x (w ∷ ws) = go (is_among (x / b) out) (map-left f b out (x + 1) ws)
  where
    go : (t : Bool) → map f (left b out (x + 1) ws) ≡ left b out (x + 1) (map f ws) → map f (cond t (left b out (x + 1) ws) (w ∷ left b out (x + 1) ws)) ≡ cond t (left b out (x + 1) (map f ws)) (f w ∷ left b out (x + 1) (map f ws))
    go true e = e
    go false e = ap (λ l. f w ∷ l) e

-- of n places from x on, how many lie in block y
hits : (b y x n : ℕ) → ℕ
hits b y x zero = 0
hits b y x (suc n) = cond (eqb (x / b) y) 1 0 + hits b y (x + 1) n

hits_le : (b y x n : ℕ) → 0 < b → (hits b y x n ≤ b) × (hits b y x n ≤ y * b + b - x)
unfolding hits
hits_le b y x zero pos = (omega arith, omega arith)
hits_le b y x (suc n) pos =
    let r = hits_le b y (x + 1) n pos in
    ⊎_elim (λ (e : x / b ≡ y). rw (eq-eqb (x / b) y e) (here e r)) (λ (ne : x / b ≡ y → ⊥). rw (ne_eqb (x / b) y ne) (omega (arith, r.0), omega (arith, r.1))) (cases_eq (x / b) y)
  where
    here : x / b ≡ y → (hits b y (x + 1) n ≤ b) × (hits b y (x + 1) n ≤ y * b + b - (x + 1)) → (1 + hits b y (x + 1) n ≤ b) × (1 + hits b y (x + 1) n ≤ y * b + b - x)
    here e r =
        let split : x % b + y * b ≡ x = ap (λ (z : ℕ). x % b + z * b) (sym e) ∙ omega (arith, mod-add-div x b) in
        let low = mod-lt x pos in
        (omega (arith, r.1), omega (arith, r.1))

left_none : {X : Type 0} (b x : ℕ) (ws : List X) → left b [] x ws ≡ ws
unfolding left is_among
left_none b x [] = refl
left_none b x (w ∷ ws) = ap (λ l. w ∷ l) (left_none b (x + 1) ws)

-- one block more
left_more : {X : Type 0} (b y : ℕ) (out : List ℕ) (x : ℕ) (ws : List X) → length (left b out x ws) ≤ length (left b (y ∷ out) x ws) + hits b y x (length ws)
unfolding left is_among hits
left_more b y out x [] = omega arith
left_more {X} b y out x (w ∷ ws) = go (eqb (x / b) y) (is_among (x / b) out) (left b out (x + 1) ws) (left b (y ∷ out) (x + 1) ws) (hits b y (x + 1) (length ws)) (left_more b y out (x + 1) ws)
  where
    go : (t u : Bool) (l k : List X) (h : ℕ) → length l ≤ length k + h → length (cond u l (w ∷ l)) ≤ length (cond (t || u) k (w ∷ k)) + (cond t 1 0 + h)
    go true true l k h e = omega arith
    go true false l k h e = omega arith
    go false true l k h e = omega arith
    go false false l k h e = omega arith

-- each block takes at most b of the words
pub length-left : {X : Type 0} (b : ℕ) (out : List ℕ) (x : ℕ) (ws : List X) → 0 < b → length ws ≤ length (left b out x ws) + length out * b
length-left b [] x ws pos = rw (left_none b x ws) (omega arith)
length-left b (y ∷ out) x ws pos = omega (arith, length-left b out x ws pos, left_more b y out x ws, (hits_le b y x (length ws) pos).0)

-- how many words of block y are off a message
unfoldable pub off_in : List ℕ → (b x : ℕ) → List Word → (y : ℕ) → ℕ
off_in m b x [] y = 0
off_in m b x (w ∷ ws) y = cond (eqb (x / b) y) (cond (eqb (word_at m w.part) w.word) 0 1) 0 + off_in m b (x + 1) ws y

-- the sum of a function below n
unfoldable pub sum_to : (ℕ → ℕ) → ℕ → ℕ
sum_to g zero = 0
sum_to g (suc n) = g n + sum_to g n

sum_to_both : (g h : ℕ → ℕ) (n : ℕ) → sum_to (λ y. g y + h y) n ≡ sum_to g n + sum_to h n
unfolding sum_to
sum_to_both g h zero = refl
sum_to_both g h (suc n) = let r = sum_to_both g h n in omega arith

sum_to_none : (n : ℕ) → sum_to (λ y. 0) n ≡ 0
unfolding sum_to
sum_to_none zero = refl
sum_to_none (suc n) = let r = sum_to_none n in omega arith

sum_to-one : (z v n : ℕ) → sum_to (λ y. cond (eqb z y) v 0) n ≤ cond (ltb z n) v 0
unfolding sum_to
sum_to-one z v zero = grind (arith, nat_tests)
sum_to-one z v (suc n) = let r = sum_to-one z v n in grind (arith, nat_tests)

sum_to_le : (z v n : ℕ) → sum_to (λ y. cond (eqb z y) v 0) n ≤ v
sum_to_le z v n = let r = sum_to-one z v n in grind (arith, nat_tests)

pub off_blocks : (m : List ℕ) (b x n : ℕ) (ws : List Word) → sum_to (off_in m b x ws) n ≤ off_of m ws
unfolding off_in off_of
off_blocks m b x n [] = rw (sum_to_none n) (omega arith)
off_blocks m b x n (w ∷ ws) =
    let v : ℕ = cond (eqb (word_at m w.part) w.word) 0 1 in
    rw (sum_to_both (λ y. cond (eqb (x / b) y) v 0) (off_in m b (x + 1) ws) n) (omega (arith, sum_to_le (x / b) v n, off_blocks m b (x + 1) n ws))

-- where no word of a block that stays is off, the message lies on the words left
pub agrees-left : (m : List ℕ) (b n x : ℕ) (out : List ℕ) (ws : List Word) → 0 < b → x + length ws ≤ n * b → ((y : ℕ) → y < n → is_among y out ≡ false → off_in m b x ws y ≡ 0) → T (agrees m (left b out x ws))
unfolding left agrees off_in
agrees-left m b n x out [] pos le none = tt
agrees-left m b n x out (w ∷ ws) pos le none =
    let rest = agrees-left m b n (x + 1) out ws pos (omega arith) (λ y lt out. let z = none y lt out in omega arith) in
    let lt : x / b < n = (div-lt_iff_lt-mul pos).1 (omega arith) in
    cond_both (is_among (x / b) out) (left b out (x + 1) ws) (w ∷ left b out (x + 1) ws) (λ l. T (agrees m l)) (λ e. rest) (
    λ e. yes_and _ _ (here (eqb (word_at m w.part) w.word) (off_in m b (x + 1) ws (x / b)) (rw (eq-eqb (x / b) (x / b) refl) at (none (x / b) lt e))) rest)
  where
    here : (t : Bool) (n : ℕ) → cond t 0 1 + n ≡ 0 → T t
    here true n e = tt
    here false n e = absurd (omega arith)

apart_left : (a b x : ℕ) (out : List ℕ) (ws : List Word) → T (not (has_part a ws)) → T (not (has_part a (left b out x ws)))
unfolding has_part left
apart_left a b x out [] h = tt
apart_left a b x out (w ∷ ws) h =
    let both = or_no (eqb a w.part) (has_part a ws) h in
    let rest = apart_left a b (x + 1) out ws both.1 in
    cond_both (is_among (x / b) out) (left b out (x + 1) ws) (w ∷ left b out (x + 1) ws) (λ l. T (not (has_part a l))) (λ e. rest) (λ e. neither (eqb a w.part) _ both.0 rest)
  where
    neither : (s t : Bool) → T (not s) → T (not t) → T (not (s || t))
    neither true t g h = g
    neither false t g h = h

pub sound-left : (q b x : ℕ) (out : List ℕ) (ws : List Word) → T (sound_in q ws) → T (sound_in q (left b out x ws))
unfolding sound_in left
sound-left q b x out [] h = tt
sound-left q b x out (w ∷ ws) h =
    let all = and_yes _ (sound_in q ws) h in
    let value = and_yes _ (ltb w.word p) all.0 in
    let part = and_yes (not (has_part w.part ws)) (ltb w.part q) value.0 in
    let rest = sound-left q b (x + 1) out ws all.1 in
    cond_both (is_among (x / b) out) (left b out (x + 1) ws) (w ∷ left b out (x + 1) ws) (λ l. T (sound_in q l)) (λ e. rest) (
    λ e. yes_and _ _ (yes_and _ _ (yes_and _ _ (apart_left w.part b (x + 1) out ws part.0) part.1) value.1) rest)
