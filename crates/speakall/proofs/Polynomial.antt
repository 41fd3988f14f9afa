-- Polynomials modulo m as the lists of their coefficients, with slot_at m f x as the value of f at x; words are such values modulo p (word_at_is).
-- The key lemma, agree_equal: two polynomials of n coefficients below m that agree at n points or more, each two of whose differences have inverses modulo m (Gaps), are equal.
-- Also the remainder after division by a point (divided), values below m (slot_at_lt), and that different points below n do, if 1 to n - 1 have inverses (Spread, gaps_from_units).
-- Idea: recursion on the points. The quotient of f by a point a is the list of the values at a of f's tails (`tails`);
-- the quotients agree at the other points, and f can be told from its quotient and its value at a.
use Rattle.std.proofs.Common.{◌≡◌, ℕ, suc, ◌+◌, ◌*◌, ◌%◌, ◌<◌, ◌≤◌, T, List, [], ◌∷◌, length, sym, refl, ap, ◌∙◌, mod-lt, mod-eq_of_lt, mul-zero, arith, ltb→lt, lt→ltb}
use native.Mathlib.Nat.{mod-add-mod}
use mir.Facts.{and_yes, yes_and}
use Rattle.std.specs.List.{AllByRecursion}
use Rattle.speakall.specs.Plan.{slot_at, below}
use Rattle.speakall.specs.Frame.{p, word_at}
use Rattle.speakall.proofs.Modulo.{add_cong, mul_mod_mod, mul_cong, same_cong, cancel, Gap, Units, gap_from_units}

-- the values at a of a polynomial and of its tails
unfoldable pub tails : ℕ → ℕ → List ℕ → List ℕ
tails m a [] = []
tails m a (c ∷ cs) = slot_at m (c ∷ cs) a ∷ tails m a cs

pub length-tails : (m a : ℕ) (f : List ℕ) → length (tails m a f) ≡ length f
unfolding tails
length-tails m a [] = refl
length-tails m a (c ∷ cs) = ap suc (length-tails m a cs)

pub slot_at_lt : (m : ℕ) (f : List ℕ) (x : ℕ) → 0 < m → slot_at m f x < m
unfolding slot_at
slot_at_lt m [] x h = h
slot_at_lt m (c ∷ cs) x h = mod-lt (c + x * slot_at m cs x) h

step : (m a x c u v w : ℕ) → (u + a * w) % m ≡ (v + x * w) % m → ((c + x * u) % m + a * ((v + x * w) % m)) % m ≡ ((c + a * v) % m + x * ((v + x * w) % m)) % m
step m a x c u v w e =
    opened (c + x * u) a ∙ same_cong m (omega arith) ∙ add_cong m (c + a * v) (c + a * v) (x * (u + a * w)) (x * (v + x * w)) refl (mul_cong m x (u + a * w) (v + x * w) e) ∙
    sym (opened (c + a * v) x)
  where
    opened : (b y : ℕ) → (b % m + y * ((v + x * w) % m)) % m ≡ (b + y * (v + x * w)) % m
    opened b y = mod-add-mod b m (y * ((v + x * w) % m)) ∙ add_cong m b b (y * ((v + x * w) % m)) (y * (v + x * w)) refl (mul_mod_mod m y (v + x * w))

-- c + x * .. divided by x - a has the remainder c + a * .., and the quotient `tails m a cs`
pub divided : (m a x c : ℕ) (cs : List ℕ) → (slot_at m (c ∷ cs) x + a * slot_at m (tails m a cs) x) % m ≡ (slot_at m (c ∷ cs) a + x * slot_at m (tails m a cs) x) % m
unfolding slot_at tails
divided m a x c [] = simp mul-zero
divided m a x c (d ∷ ds) = step m a x c (slot_at m (d ∷ ds) x) (slot_at m (d ∷ ds) a) (slot_at m (tails m a ds) x) (divided m a x d ds)

-- quotients agree where the polynomials do: from y + a * r ≡ z + x * r and the same with t, as x - a has an inverse
quotients : (m a x y z r t : ℕ) → Gap m x a → (y + a * r) % m ≡ (z + x * r) % m → (y + a * t) % m ≡ (z + x * t) % m → r % m ≡ t % m
quotients m a x y z r t (v, e) er et =
    let one = add_cong m (v * (y + a * r)) (v * (z + x * r)) (t * (a * v + 1)) (t * (x * v)) (mul_cong m v (y + a * r) (z + x * r) er) (sym (mul_cong m t (x * v) (a * v + 1) e)) in
    let two = add_cong m (r * (x * v)) (r * (a * v + 1)) (v * (z + x * t)) (v * (y + a * t)) (mul_cong m r (x * v) (a * v + 1) e) (sym (mul_cong m v (y + a * t) (z + x * t) et)) in
    sym (cancel m t r (v * (a * r + a * t + y)) (same_cong m (omega arith) ∙ one ∙ same_cong m (omega arith) ∙ two ∙ same_cong m (omega arith)))

-- the first coefficient is told by the others and a value
first : (m a c e v : ℕ) → c < m → e < m → (c + a * v) % m ≡ (e + a * v) % m → c ≡ e
first m a c e v hc he h = sym (mod-eq_of_lt hc) ∙ cancel m c e (a * v) h ∙ mod-eq_of_lt he

headed : (m a c d : ℕ) (cs ds : List ℕ) → T (below m (c ∷ cs)) → T (below m (d ∷ ds)) → slot_at m (c ∷ cs) a ≡ slot_at m (d ∷ ds) a → cs ≡ ds → c ∷ cs ≡ d ∷ ds
unfolding slot_at below
headed m a c d cs ds bc bd e tl =
    let same : c ≡ d = first m a c d (slot_at m cs a) (ltb→lt c m (and_yes _ _ bc).0) (ltb→lt d m (and_yes _ _ bd).0) (e ∙ ap (λ (t : List ℕ). (d + a * slot_at m t a) % m) (sym tl)) in
    cc

-- and all coefficients by the values of the tails
tails_equal : (m a : ℕ) (f g : List ℕ) → T (below m f) → T (below m g) → tails m a f ≡ tails m a g → f ≡ g
unfolding slot_at below tails
tails_equal m a [] [] bf bg e = refl
tails_equal m a [] (d ∷ ds) bf bg e = let z : ◌≡◌ {A = ℕ} 0 (suc (length (tails m a ds))) = ap length e in absurd (omega arith)
tails_equal m a (c ∷ cs) [] bf bg e = let z : ◌≡◌ {A = ℕ} (suc (length (tails m a cs))) 0 = ap length e in absurd (omega arith)
tails_equal m a (c ∷ cs) (d ∷ ds) bf bg e = headed m a c d cs ds bf bg (cc) (tails_equal m a cs ds (and_yes _ _ bf).1 (and_yes _ _ bg).1 (cc))

below_rest : (m c : ℕ) (cs : List ℕ) → T (below m (c ∷ cs)) → T (below m cs)
unfolding below
below_rest m c cs h = (and_yes _ _ h).1

below-tails : (m a : ℕ) (f : List ℕ) → 0 < m → T (below m (tails m a f))
unfolding below tails
below-tails m a [] h = tt
below-tails m a (c ∷ cs) h = yes_and _ _ (lt→ltb _ _ (slot_at_lt m (c ∷ cs) a h)) (below-tails m a cs h)

-- each two of the points have a difference with an inverse
abbrev pub Gaps : ℕ → List ℕ → Type 0
Gaps m [] = Unit {0}
Gaps m (a ∷ ps) = AllByRecursion (λ x. Gap m x a) ps × Gaps m ps

abbrev pub Agree : ℕ → List ℕ → List ℕ → List ℕ → Type 0
Agree m f g ps = AllByRecursion (λ x. slot_at m f x ≡ slot_at m g x) ps

-- the quotients by a agree at the other points
carried : (m a c d : ℕ) (cs ds ps : List ℕ) → 0 < m → slot_at m (c ∷ cs) a ≡ slot_at m (d ∷ ds) a → AllByRecursion (λ x. Gap m x a) ps → Agree m (c ∷ cs) (d ∷ ds) ps → Agree m (tails m a cs) (tails m a ds) ps
carried m a c d cs ds [] pos e gaps ag = tt
carried m a c d cs ds (x ∷ ps) pos e (gap, gaps) (at, ag) = (
  sym (mod-eq_of_lt (slot_at_lt m (tails m a cs) x pos)) ∙
      quotients m a x (slot_at m (c ∷ cs) x) (slot_at m (c ∷ cs) a) (slot_at m (tails m a cs) x) (slot_at m (tails m a ds) x) gap (divided m a x c cs) (rw (at, e) (divided m a x d ds)) ∙
      mod-eq_of_lt (slot_at_lt m (tails m a ds) x pos),
  carried m a c d cs ds ps pos e gaps ag,
)

-- THE KEY LEMMA
pub agree_equal : (m : ℕ) (ps f g : List ℕ) → 0 < m → Gaps m ps → length f ≡ length g → length f ≤ length ps → T (below m f) → T (below m g) → Agree m f g ps → f ≡ g
agree_equal m [] [] [] pos gaps e h bf bg ag = refl
agree_equal m [] [] (d ∷ ds) pos gaps e h bf bg ag = absurd (omega arith)
agree_equal m [] (c ∷ cs) g pos gaps e h bf bg ag = absurd (omega arith)
agree_equal m (a ∷ ps) [] [] pos gaps e h bf bg ag = refl
agree_equal m (a ∷ ps) [] (d ∷ ds) pos gaps e h bf bg ag = absurd (omega arith)
agree_equal m (a ∷ ps) (c ∷ cs) [] pos gaps e h bf bg ag = absurd (omega arith)
agree_equal m (a ∷ ps) (c ∷ cs) (d ∷ ds) pos gaps e h bf bg (at, ag) =
    let rest = agree_equal m ps (tails m a cs) (tails m a ds) pos gaps.1 (simp length-tails (omega arith)) (simp length-tails (omega arith)) (below-tails m a cs pos) (below-tails m a ds pos) (carried m a c d cs ds ps pos at gaps.0 ag) in
    headed m a c d cs ds bf bg at (tails_equal m a cs ds (below_rest m c cs bf) (below_rest m d ds bg) rest)

-- points below n that are all different
abbrev pub Spread : ℕ → List ℕ → Type 0
Spread n [] = Unit {0}
Spread n (a ∷ ps) = (a < n) × AllByRecursion (λ x. x ≡ a → ⊥) ps × Spread n ps

pub gaps_from_units : (m n : ℕ) (ps : List ℕ) → 0 < m → Units m n → Spread n ps → Gaps m ps
gaps_from_units m n [] pos us h = tt
gaps_from_units m n (a ∷ ps) pos us (ha, ne, rest) = (each ps ne rest, gaps_from_units m n ps pos us rest)
  where
    each : (xs : List ℕ) → AllByRecursion (λ x. x ≡ a → ⊥) xs → Spread n xs → AllByRecursion (λ x. Gap m x a) xs
    each [] ne h = tt
    each (x ∷ xs) (d, ds) (hx, _, hs) = (gap_from_units m n pos us x a hx ha d, each xs ds hs)

-- a message's word is its value modulo p
pub word_at_is : (f : List ℕ) (x : ℕ) → word_at f x ≡ slot_at p f x
unfolding word_at slot_at
word_at_is [] x = refl
word_at_is (a ∷ f) x = ap (λ (z : ℕ). (a + x * z) % p) (word_at_is f x)
