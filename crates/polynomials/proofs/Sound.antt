-- What sound words are, one by one: the first, those left, and each of them against the first.
-- And the loop that finds out from the last word on, with the parts seen so far marked.
use Rattle.std.proofs.Common.{◌≡◌, ℕ, zero, suc, ◌<◌, ◌≤◌, Bool, true, false, not, ◌&&◌, ◌||◌, T, eqb, ltb, List, [], ◌∷◌, length, get_or, take, drop, set, replicate, sym, refl, ap, ⊎_elim, arith, ltb→lt, lt→ltb, T_not}
use Rattle.polynomials.specs.Heard.{part_at, words_in}
use Rattle.polynomials.specs.declared.words.PartWord.{PartWord}
use Rattle.speakall.proofs.Pigeonhole.{pigeonhole}
use Rattle.speakall.specs.Code.{has_part, sound_in}
use Rattle.speakall.specs.Frame.{p, Word}
use Rattle.std.proofs.lemmas.List.{get_or-replicate, get_or-set_other, get_or-set_same, take_all}
use Rattle.std.proofs.lemmas.Bool.{cases_eq, eq-eqb, ne_eqb}
use lib.Dec.{eqb_refl}
use mir.Facts.{and_yes, or_no, yes_and}

abbrev pub value_at : List PartWord → ℕ → ℕ
value_at ws k = (get_or ws k (record { part = 0; value = 0 })).value

-- what sound_in asks of a first word
sound_cons : (q : ℕ) (w : Word) (ws : List Word) → T (sound_in q (w ∷ ws)) → T (not (has_part w.part ws)) × (w.part < q) × (w.word < p) × T (sound_in q ws)
unfolding sound_in
sound_cons q w ws h =
    let a = and_yes _ _ h in
    let b = and_yes _ _ a.0 in
    let c = and_yes _ _ b.0 in
    (c.0, ltb→lt _ _ c.1, ltb→lt _ _ b.1, a.1)

apart_at : (x : ℕ) (ws : List PartWord) (k : ℕ) → T (not (has_part x (words_in ws))) → k < length ws → part_at ws k ≡ x → ⊥
unfolding has_part
apart_at x [] k h lt e = absurd (omega arith)
apart_at x (w ∷ ws) zero h lt e = T_not (eqb x w.part) (or_no _ _ h).0 (rw e (eqb_refl x))
apart_at x (w ∷ ws) (suc k) h lt e = apart_at x ws k (or_no _ _ h).1 (omega arith) e

part_at_lem : (q : ℕ) (ws : List PartWord) (k : ℕ) → T (sound_in q (words_in ws)) → k < length ws → part_at ws k < q
part_at_lem q [] k h lt = absurd (omega arith)
part_at_lem q (w ∷ ws) zero h lt = (sound_cons q _ _ h).1
part_at_lem q (w ∷ ws) (suc k) h lt = part_at_lem q ws k (sound_cons q _ _ h).3 (omega arith)

pub sound-first : (q : ℕ) (ws : List PartWord) → 0 < length ws → T (sound_in q (words_in ws)) → part_at ws 0 < q
sound-first q ws lt h = part_at_lem q ws 0 h lt

pub sound-left : (q : ℕ) (ws left : List PartWord) → left ≡ drop 1 ws → T (sound_in q (words_in ws)) → T (sound_in q (words_in left))
sound-left q [] left e h = rw e h
sound-left q (w ∷ ws) left e h = rw e (sound_cons q _ _ h).3

pub sound_apart : (q : ℕ) (ws left : List PartWord) → left ≡ drop 1 ws → 0 < length ws → T (sound_in q (words_in ws)) → (k : ℕ) → k < length left → (part_at left k < q) × (part_at left k ≡ part_at ws 0 → ⊥)
sound_apart q [] left e lt h = absurd (omega arith)
sound_apart q (w ∷ ws) left e lt h =
    let all : (k : ℕ) → k < length ws → (part_at ws k < q) × (part_at ws k ≡ w.part → ⊥) = λ k l. (part_at_lem q ws k (sound_cons q _ _ h).3 l, apart_at w.part ws k (sound_cons q _ _ h).0 l) in
    rw e all

pub value_at_lem : (q : ℕ) (ws : List PartWord) (k : ℕ) → T (sound_in q (words_in ws)) → k < length ws → value_at ws k < p
value_at_lem q [] k h lt = absurd (omega arith)
value_at_lem q (w ∷ ws) zero h lt = (sound_cons q _ _ h).2
value_at_lem q (w ∷ ws) (suc k) h lt = value_at_lem q ws k (sound_cons q _ _ h).3 (omega arith)

sound-drop : (q : ℕ) (ws : List PartWord) (n : ℕ) → T (sound_in q (words_in ws)) → T (sound_in q (words_in (drop n ws)))
sound-drop q ws zero h = h
sound-drop q [] (suc n) h = h
sound-drop q (w ∷ ws) (suc n) h = sound-drop q ws n (sound_cons q _ _ h).3

pub seen_none : (x : ℕ) → x < 256 → get_or (replicate 256 false) x false ≡ has_part x []
unfolding has_part
seen_none x h = get_or-replicate 256 x false false h

pub sound_none : (q : ℕ) → sound_in q [] ≡ true
unfolding sound_in
sound_none q = refl

neither : (a b : Bool) → T (not a) → T (not b) → T (not (a || b))
neither true b g h = g
neither false b g h = h

apart_take : (x n : ℕ) (ws : List PartWord) → T (not (has_part x (words_in ws))) → T (not (has_part x (words_in (take n ws))))
unfolding has_part
apart_take x zero ws h = tt
apart_take x (suc n) [] h = tt
apart_take x (suc n) (w ∷ ws) h = let parts = or_no _ _ h in neither _ _ parts.0 (apart_take x n ws parts.1)

-- the first of sound words are sound, with more parts too
pub sound-take : (q r n : ℕ) (ws : List PartWord) → q ≤ r → T (sound_in q (words_in ws)) → T (sound_in r (words_in (take n ws)))
unfolding sound_in
sound-take q r zero ws le h = tt
sound-take q r (suc n) [] le h = tt
sound-take q r (suc n) (w ∷ ws) le h =
    let first = sound_cons q _ _ h in
    let lt : w.part < r = let k = first.1 in omega arith in
    yes_and _ _ (yes_and _ _ (yes_and _ _ (apart_take w.part n ws first.0) (lt→ltb _ _ lt)) (lt→ltb _ _ first.2)) (sound-take q r n ws le first.3)

pub sound_wider : (q r : ℕ) (ws : List PartWord) → q ≤ r → T (sound_in q (words_in ws)) → T (sound_in r (words_in ws))
sound_wider q r ws le h = rw (← take_all (length ws) ws (omega arith)) (sound-take q r (length ws) ws le h)

-- as their parts are different, there are at most q
pub sound_few : (q : ℕ) (ws : List PartWord) → T (sound_in q (words_in ws)) → length ws ≤ q
sound_few q ws h = pigeonhole q (length ws) (part_at ws) (λ i lt. part_at_lem q ws i h lt) (apart ws h)
  where
    apart : (ws : List PartWord) → T (sound_in q (words_in ws)) → (i j : ℕ) → i < j → j < length ws → part_at ws i ≡ part_at ws j → ⊥
    apart [] h i j a b e = absurd (omega arith)
    apart (w ∷ ws) h i zero a b e = absurd (omega arith)
    apart (w ∷ ws) h zero (suc j) a b e = apart_at w.part ws j (sound_cons q _ _ h).0 (omega arith) (sym e)
    apart (w ∷ ws) h (suc i) (suc j) a b e = apart ws (sound_cons q _ _ h).3 i j (omega arith) (omega arith) e

-- one word more, before the others
module _ (ws rest : List PartWord) (w : PartWord) (x : ℕ) (is : ws ≡ w ∷ rest) (part : x ≡ w.part) where
  pub seen_more : (seen : List Bool) → length seen ≡ 256 → w.part < 256 → ((y : ℕ) → y < 256 → get_or seen y false ≡ has_part y (words_in rest)) → (y : ℕ) → y < 256 → get_or (set seen x true) y false ≡ has_part y (words_in ws)
  unfolding has_part
  seen_more seen l in' marks y h = rw (is, part) (⊎_elim here other (cases_eq y w.part))
    where
      here : y ≡ w.part → get_or (set seen w.part true) y false ≡ (eqb y w.part || has_part y (words_in rest))
      here e = let f : w.part < length seen = omega arith in rw (eq-eqb y w.part e, e, get_or-set_same seen w.part true false f) refl

      other : (y ≡ w.part → ⊥) → get_or (set seen w.part true) y false ≡ (eqb y w.part || has_part y (words_in rest))
      other ne = rw (ne_eqb y w.part ne, get_or-set_other seen w.part y true false ne) (marks y h)

  pub sound_more : (q : ℕ) → has_part w.part (words_in rest) ≡ false → true ≡ (ltb w.part q && ltb w.value p) → sound_in q (words_in rest) ≡ true → sound_in q (words_in ws) ≡ true
  unfolding sound_in
  sound_more q new both s = rw (is, new, s) (good (ltb w.part q) (ltb w.value p) both)
    where
      good : (a b : Bool) → true ≡ (a && b) → (a && b && true) ≡ true
      good true true e = refl
      good true false e = sym e
      good false b e = sym e

  -- where these are the last words of all, not all are sound
  module _ (q n : ℕ) (all : List PartWord) (last : ws ≡ drop n all) where
    fails : sound_in q (words_in ws) ≡ false → false ≡ sound_in q (words_in all)
    fails e = first _ _ (sound-drop q all n) (rw last at e)
      where
        first : (a b : Bool) → (T a → T b) → b ≡ false → false ≡ a
        first false b f e = refl
        first true true f e = sym e
        first true false f e = absurd (f tt)

    pub sound_twice : has_part w.part (words_in rest) ≡ true → false ≡ sound_in q (words_in all)
    unfolding sound_in
    sound_twice has = fails (rw (is, has) refl)

    pub sound_off : false ≡ (ltb w.part q && ltb w.value p) → false ≡ sound_in q (words_in all)
    unfolding sound_in
    sound_off off = fails (rw is (bad (has_part w.part (words_in rest)) (ltb w.part q) (ltb w.value p) (sound_in q (words_in rest)) off))
      where
        bad : (h a b s : Bool) → false ≡ (a && b) → (not h && a && b && s) ≡ false
        bad true a b s e = refl
        bad false true true s e = ap (λ (t : Bool). t && s) (sym e)
        bad false true false s e = refl
        bad false false b s e = refl
