-- The polynomial y₀ + (X - x₀) · g through points, from the slopes that g goes through: what each of its steps gives, modulo p.
-- Congruences are written without minus: f is y₀ + (X - x₀) · g where f + x₀ · g ≡ y₀ + X · g.
use Rattle.std.proofs.Common.{◌≡◌, ℕ, zero, suc, ◌+◌, ◌-◌, ◌*◌, ◌%◌, ◌<◌, ◌≤◌, T, List, [], ◌∷◌, length, get_or, drop, sym, refl, ap, ◌∙◌, ⊎_elim, append-nil, mul-zero, arith, lit<}
use Rattle.polynomials.proofs.Sound.{value_at_lem, value_at}
use Rattle.polynomials.specs.Heard.{Product, Reduced, Slope, part_at, words_in}
use Rattle.polynomials.specs.declared.words.PartWord.{PartWord}
use Rattle.speakall.proofs.Modulo.{add_cong, mul_cong, mul_mod_mod}
use Rattle.speakall.proofs.Polynomial.{slot_at_lt, word_at_is}
use Rattle.speakall.specs.Code.{sound_in}
use Rattle.speakall.specs.Frame.{agrees, p, word_at}
use Rattle.std.proofs.lemmas.List.{drop_all, get_or-drop, get_or_past}
use Rattle.std.proofs.lemmas.Bool.{cases_lt}
use borrow.Rule.Slice.PartMut.{put_mid}
use lib.Dec.{eqb_refl}
use mir.Facts.{yes_and}
use native.Mathlib.Nat.{mod-add-mod}

pub slope_is : (x y x₀ y₀ v : ℕ) → y₀ < p → (x * v) % p ≡ (x₀ * v + 1) % p → Slope x y x₀ y₀ (((y + (p - y₀)) * v) % p)
slope_is x y x₀ y₀ v h e =
    let d = y + (p - y₀) in
    let s : d + y₀ ≡ y + p = omega arith in
    let f = mul_cong p d (x * v) (x₀ * v + 1) e in
    let g = mul_mod_mod p x (d * v) in
    let k = mul_mod_mod p x₀ (d * v) in
    omega arith

-- the coefficient of y₀ + (X - x₀) · g at place k, with n for minus x₀
abbrev pub coefficient : ℕ → List ℕ → ℕ → ℕ
coefficient n ys k = (get_or ys k 0 + n * get_or ys (suc k) 0) % p

-- where there is no place after k, the coefficient is the value itself
pub coefficients_all : (n i : ℕ) (xs ys : List ℕ) → Reduced ys → length ys ≤ i → ((k : ℕ) → k < i - 1 → get_or xs k 0 ≡ coefficient n ys k) → ((k : ℕ) → i - 1 ≤ k → get_or xs k 0 ≡ get_or ys k 0) → (k : ℕ) → get_or xs k 0 ≡ coefficient n ys k
coefficients_all n i xs ys r h done same k = ⊎_elim (done k) last (cases_lt k (i - 1))
  where
    last : i - 1 ≤ k → get_or xs k 0 ≡ coefficient n ys k
    last le = rw (get_or_past ys (suc k) 0 (omega arith), mul-zero n) (let e = same k le in let f = r k in omega arith)

opened : (v a t : ℕ) → (v + a * (t % p)) % p ≡ (v + a * t) % p
opened v a t = let e = mul_mod_mod p a t in omega arith

joined : (a n x y z u f : ℕ) → a + n ≡ p → ((y + n * z) % p + x * f + a * (z + x * u)) % p ≡ (y + x * (f + a * u)) % p
joined a n x y z u f s = let b = ap (λ (t : ℕ). t * z) s in omega arith

-- one coefficient more
turn : (a n x y z u f : ℕ) → a + n ≡ p → (f + a * u) % p ≡ (z + x * u) % p → (((y + n * z) % p + x * f) % p + a * ((z + x * u) % p)) % p ≡ (y + x * ((z + x * u) % p)) % p
turn a n x y z u f s e =
    opened (((y + n * z) % p + x * f) % p) a (z + x * u) ∙ mod-add-mod ((y + n * z) % p + x * f) p (a * (z + x * u)) ∙ joined a n x y z u f s ∙
    add_cong p y y (x * (f + a * u)) (x * (z + x * u)) refl (mul_cong p x (f + a * u) (z + x * u) e) ∙ sym (opened y x (z + x * u))

word_at_lt : (f : List ℕ) (x : ℕ) → word_at f x < p
word_at_lt f x = rw (word_at_is f x) (slot_at_lt p f x (lit< tt))

headed : (ys : List ℕ) (x : ℕ) → word_at ys x ≡ (get_or ys 0 0 + x * word_at (drop 1 ys) x) % p
unfolding word_at
headed [] x = simp mul-zero
headed (y ∷ ys) x = refl

pub product_is : (a n : ℕ) (ys fs : List ℕ) → a + n ≡ p → length fs ≡ length ys → ((k : ℕ) → get_or fs k 0 ≡ coefficient n ys k) → Product a (get_or ys 0 0) (drop 1 ys) fs
unfolding word_at
product_is a n [] [] s e h x = simp mul-zero
product_is a n [] (f ∷ fs) s e h x = absurd (omega arith)
product_is a n (y ∷ ys) [] s e h x = absurd (omega arith)
product_is a n (y ∷ ys) (f ∷ fs) s e h x =
    let rest = product_is a n ys fs s (omega arith) (λ k. h (suc k)) x in
    rw (h 0, headed ys x) (turn a n x y (get_or ys 0 0) (word_at (drop 1 ys) x) (word_at fs x) s rest)

-- what the values are after the part behind the first was lent and is now g
first-kept : (ys g : List ℕ) → 0 < length ys → put_mid 1 (length ys - 1) ys g ≡ get_or ys 0 0 ∷ g
first-kept [] g h = absurd (omega arith)
first-kept (y ∷ ys) g h = let e : suc (length ys) - 1 ≡ length ys = omega arith in rw (e, drop_all (length ys) ys (omega arith), append-nil g) refl

at_first : (x₀ y₀ : ℕ) (f g : List ℕ) → y₀ < p → Product x₀ y₀ g f → word_at f x₀ ≡ y₀
at_first x₀ y₀ f g h e = let k = e x₀ in let l = word_at_lt f x₀ in omega arith

at_other : (x y x₀ y₀ : ℕ) (f g : List ℕ) → y < p → Product x₀ y₀ g f → Slope x y x₀ y₀ (word_at g x) → word_at f x ≡ y
at_other x y x₀ y₀ f g h e s = let k = e x in let l = word_at_lt f x in omega arith

pub reduced_left : (ys left : List ℕ) → left ≡ drop 1 ys → Reduced ys → Reduced left
reduced_left ys left e r k = rw (e, get_or-drop 1 ys k 0) (r (1 + k))

pub reduced_first : (ys g : List ℕ) → 0 < length ys → Reduced ys → Reduced g → Reduced (put_mid 1 (length ys - 1) ys g)
reduced_first ys g lt r s k = rw (first-kept ys g lt) (at k)
  where
    at : (k : ℕ) → get_or (get_or ys 0 0 ∷ g) k 0 < p
    at zero = r 0
    at (suc k) = s k

-- g has at each word left the slope from the first, so f goes through all
pub through_more : (ws left : List PartWord) (ys rest zs g f : List ℕ) → left ≡ drop 1 ws → rest ≡ drop 1 ys → length ws ≡ length ys → 0 < length ys → Reduced ys → ((k : ℕ) → k < length left → Slope (part_at left k) (get_or rest k 0) (part_at ws 0) (get_or ys 0 0) (get_or zs k 0)) → ((k : ℕ) → k < length left → word_at g (part_at left k) ≡ get_or zs k 0) → Product (part_at ws 0) (get_or (put_mid 1 (length ys - 1) ys g) 0 0) (drop 1 (put_mid 1 (length ys - 1) ys g)) f → (k : ℕ) → k < length ws → word_at f (part_at ws k) ≡ get_or ys k 0
through_more ws left ys rest zs g f e d l lt r slopes through product = go ws ys l r (rw (e, d) at slopes) (rw e at through) (rw (first-kept ys g lt) at product)
  where
    go : (ws : List PartWord) (ys : List ℕ) → length ws ≡ length ys → Reduced ys → ((k : ℕ) → k < length (drop 1 ws) → Slope (part_at (drop 1 ws) k) (get_or (drop 1 ys) k 0) (part_at ws 0) (get_or ys 0 0) (get_or zs k 0)) → ((k : ℕ) → k < length (drop 1 ws) → word_at g (part_at (drop 1 ws) k) ≡ get_or zs k 0) → Product (part_at ws 0) (get_or ys 0 0) g f → (k : ℕ) → k < length ws → word_at f (part_at ws k) ≡ get_or ys k 0
    go [] ys l r slopes through product k h = absurd (omega arith)
    go (w ∷ ws) [] l r slopes through product k h = absurd (omega arith)
    go (w ∷ ws) (y ∷ ys) l r slopes through product zero h = at_first w.part y f g (r 0) product
    go (w ∷ ws) (y ∷ ys) l r slopes through product (suc k) h =
        at_other (part_at ws k) (get_or ys k 0) w.part y f g (r (suc k)) product (rw (through k (omega arith)) (slopes k (omega arith)))

-- the values of sound words
pub reduced_values : (q i : ℕ) (ws : List PartWord) (ys : List ℕ) → length ws ≡ length ys → T (sound_in q (words_in ws)) → length ys ≤ i → ((k : ℕ) → k < i → get_or ys k 0 ≡ value_at ws k) → Reduced ys
reduced_values q i ws ys l s le filled k = ⊎_elim (λ (lt : k < length ys). rw (filled k (omega arith)) (value_at_lem q ws k s (omega arith))) (
    λ (past : length ys ≤ k). rw (get_or_past ys k 0 past) (lit< tt)) (cases_lt k (length ys))

pub agrees_values : (f : List ℕ) (ws : List PartWord) → ((k : ℕ) → k < length ws → word_at f (part_at ws k) ≡ value_at ws k) → T (agrees f (words_in ws))
unfolding agrees
agrees_values f [] h = tt
agrees_values f (w ∷ ws) h = yes_and _ _ (rw (h 0 (omega arith)) (eqb_refl w.value)) (agrees_values f ws (λ k lt. h (suc k) (omega arith)))
