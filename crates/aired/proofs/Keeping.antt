-- What is heard when some senders speak comes back from its records: by induction over the slots, what is put into
-- silent slots by the records of the first n is what stands in those n.
-- kept, framed. Assumes nothing.
use Rattle.std.proofs.Common.{◌≡◌, ℕ, zero, suc, ◌+◌, ◌*◌, ◌/◌, ◌%◌, ◌^◌, ◌<◌, ◌≤◌, true, cond, List, [], ◌∷◌, ◌++◌, length, get_or, set, replicate, Some, None, sym, refl, ap, ◌∙◌, subst, ⊎_elim, arith}
use Rattle.std.proofs.lemmas.List.{ext_get_or, get_or-set_same, get_or-set_other, length-set, length-replicate}
use Rattle.std.proofs.lemmas.Bool.{cases_eq, eq-eqb, ne_eqb, ltb-true}
use Rattle.frames.specs.declared.slot.Slot.{Slot}
use Rattle.frames.specs.declared.slot.Slot.TheVariants.{Silence, One, Noise}
use Rattle.frames.specs.Slots.{Hears, is_there, slot_of, there_in}
use Rattle.records.specs.declared.heard.Heard.{Heard}
use Rattle.records.specs.declared.heard.What.{What}
use Rattle.records.specs.declared.heard.What.TheVariants.{Word, Noise as NoiseHeard}
use Rattle.speakall.specs.Frame as statement
use Rattle.speakall.specs.Frame.{Speaker, heard, p, word_at, with_one}
use Rattle.speakall.specs.Plan.{Channel, Plan, plan_of, slot_at}
use Rattle.speakall.proofs.Polynomial.{slot_at_lt, word_at_is}
use Rattle.words.specs.Bytes.{air_bytes}
use Rattle.words.specs.Counting.{Speaks, sender_in, word_in}
use Rattle.words.proofs.Tested.{tested_some}
use Rattle.aired.specs.Aired.{Kept, outside, placed, placed_one, record_with, records_of, records_to, taken_for, what_if}
use Rattle.aired.proofs.Recording.{part_lt}
use Rattle.frames.proofs.Own.{there_at}

-- a word that is heard alone in a slot is one that was said in the slot of its plan
said-alone : (q : ℕ) (ss : List Speaker) (x y : ℕ) (f : Plan) (w : ℕ) → heard q ss x y ≡ statement.One f w → (slot_at q f x ≡ y) × (w < p)
unfolding heard
said-alone q [] x y f w e = cc
said-alone q (a ∷ as') x y f w e = ⊎_elim (λ h. joins (heard q as' x y) h (sym (ap (λ t. cond t (with_one a.plan (word_at a.message x) (heard q as' x y)) (heard q as' x y)) (eq-eqb (slot_at q a.plan x) y h)) ∙ e))
    (λ n. said-alone q as' x y f w (sym (ap (λ t. cond t (with_one a.plan (word_at a.message x) (heard q as' x y)) (heard q as' x y)) (ne_eqb (slot_at q a.plan x) y n)) ∙ e)) (cases_eq (slot_at q a.plan x) y)
  where
    joins : (v : statement.Slot) → slot_at q a.plan x ≡ y → with_one a.plan (word_at a.message x) v ≡ statement.One f w → (slot_at q f x ≡ y) × (w < p)
    joins statement.Silence h o =
        let same : a.plan ≡ f = cc in
        let word : word_at a.message x ≡ w = cc in
        (subst (λ (g : Plan). slot_at q g x ≡ y) same h, subst (λ (u : ℕ). u < p) word (rw (word_at_is a.message x) (slot_at_lt p a.message x (omega arith))))
    joins (statement.One g v) h o = cc
    joins statement.Noise h o = cc

-- what stands in a slot could be said there
abbrev Sayable : Channel → (x y : ℕ) → Slot → Type 0
Sayable c x y Silence = Unit {0}
Sayable c x y (One n w) = Speaks c n x y × (w < p)
Sayable c x y Noise = Unit {0}

sayable : (c : Channel) (ss : List Speaker) (x y : ℕ) (v : Slot) → x < c.q → is_there (c.q ^ c.d) v ≡ true → slot_of c v ≡ heard c.q ss x y → Sayable c x y v
sayable c ss x y Silence l t e = tt
sayable c ss x y (One n w) l t e =
    let s = said-alone c.q ss x y (plan_of c n) w (sym e) in
    (record { there = ltb-true _ _ t; in-part = l; in-slot = sym s.0 }, s.1)
sayable c ss x y Noise l t e = tt

-- the bytes of a word are taken for that word
taken_back : (c : Channel) (f x y n w : ℕ) → c.q ^ c.d ≤ 65536 → Speaks c n x y → w < p → taken_for c f x y (Word (air_bytes n (f % 256) w x)) ≡ One n w
taken_back c f x y n w h s l =
    let bs = air_bytes n (f % 256) w x in
    let t = tested_some c f x y bs n w h (record { said = refl; speaks = s; below = l }) in
    ap (λ b. cond b (One (sender_in bs) (word_in bs)) Noise) t.0 ∙ ap (λ (z : ℕ). One z (word_in bs)) (sym t.1) ∙ ap (One n) (sym t.2)

placed_one_lem : (c : Channel) (f x y : ℕ) (what : What) (s : List Slot) → placed c f (record_with f x y (Some what)) s ≡ set s (x * c.q + y) (taken_for c f x y what)
unfolding placed
placed_one_lem c f x y what s = ap (λ b. cond b (set s (x * c.q + y) (taken_for c f x y what)) s) (eq-eqb f f refl)

placed-append : (c : Channel) (f : ℕ) (as' bs : List Heard) (s : List Slot) → placed c f (as' ++ bs) s ≡ placed c f bs (placed c f as' s)
unfolding placed
placed-append c f [] bs s = refl
placed-append c f (a ∷ as') bs s = placed-append c f as' bs (placed_one c f a s)

-- the first n slots are as they were, and the others silent
record Filled (slots : List Slot) (n : ℕ) (s : List Slot) : Type 0 where
  long : length s ≡ length slots
  done : (i : ℕ) → i < n → get_or s i Silence ≡ get_or slots i Silence
  rest : (i : ℕ) → n ≤ i → get_or s i Silence ≡ Silence

silent_at : (k i : ℕ) → get_or (replicate k Silence) i Silence ≡ Silence
silent_at zero i = refl
silent_at (suc k) zero = refl
silent_at (suc k) (suc i) = silent_at k i

filled_none : (slots : List Slot) (k : ℕ) → length slots ≡ k → Filled slots 0 (replicate k Silence)
filled_none slots k e = record { long = length-replicate k Silence ∙ sym e; done = λ i h. absurd (omega arith); rest = λ i h. silent_at k i }

filled-set : (slots : List Slot) (n : ℕ) (s : List Slot) (v : Slot) → n < length slots → v ≡ get_or slots n Silence → Filled slots n s → Filled slots (n + 1) (set s n v)
filled-set slots n s v l e h =
    let here : n < length s = let k = h.long in omega arith in
    record {
      long = length-set s n v ∙ h.long;
      done = λ i k. ⊎_elim (λ (q : i ≡ n). subst (λ (j : ℕ). get_or (set s n v) j Silence ≡ get_or slots j Silence) (sym q) (get_or-set_same s n v Silence here ∙ e))
          (λ q. get_or-set_other s n i v Silence q ∙ h.done i (omega arith)) (cases_eq i n);
      rest = λ i k. get_or-set_other s n i v Silence (λ q. omega arith) ∙ h.rest i (omega arith);
    }

filled_silent : (slots : List Slot) (n : ℕ) (s : List Slot) → Silence ≡ get_or slots n Silence → Filled slots n s → Filled slots (n + 1) s
filled_silent slots n s e h = record {
  long = h.long;
  done = λ i k. ⊎_elim (λ (q : i ≡ n). subst (λ (j : ℕ). get_or s j Silence ≡ get_or slots j Silence) (sym q) (h.rest n (omega arith) ∙ e)) (λ q. h.done i (omega arith)) (cases_eq i n);
  rest = λ i k. h.rest i (omega arith);
}

-- the record of one slot more
filled_more : (c : Channel) (f : ℕ) (slots : List Slot) (n x y : ℕ) (s : List Slot) (v : Slot) → c.q ^ c.d ≤ 65536 → n < length slots → x * c.q + y ≡ n → v ≡ get_or slots n Silence → Sayable c x y v →
    Filled slots n s → Filled slots (n + 1) (placed c f (record_with f x y (what_if f x v)) s)
unfolding placed
filled_more c f slots n x y s Silence h l at e o k = filled_silent slots n s e k
filled_more c f slots n x y s (One m w) h l at e o k =
    rw (placed_one_lem c f x y (Word (air_bytes m (f % 256) w x)) s, at, taken_back c f x y m w h o.0 o.1) (filled-set slots n s (One m w) l e k)
filled_more c f slots n x y s Noise h l at e o k = rw (placed_one_lem c f x y NoiseHeard s, at) (filled-set slots n s Noise l e k)

filled : (c : Channel) (f : ℕ) (ss : List Speaker) (slots : List Slot) → c.q ^ c.d ≤ 65536 → 0 < c.q → length slots ≡ c.q * c.q → there_in (c.q ^ c.d) slots ≡ true → Hears c ss slots →
    (n : ℕ) → n ≤ c.q * c.q → Filled slots n (placed c f (records_to c.q f slots n) (replicate (c.q * c.q) Silence))
unfolding records_to placed
filled c f ss slots h pos long t hears zero l = filled_none slots (c.q * c.q) long
filled c f ss slots h pos long t hears (suc n) l =
    let q = c.q in
    let v = get_or slots n Silence in
    let x = n / q in
    let y = n % q in
    let hx = part_lt q n pos (omega arith) in
    let hy : y < q = omega arith in
    let at : x * q + y ≡ n = omega arith in
    let own : slot_of c v ≡ heard q ss x y = ap (λ (i : ℕ). slot_of c (get_or slots i Silence)) (sym at) ∙ hears x y hx hy in
    let r = filled c f ss slots h pos long t hears n (omega arith) in
    let before = placed c f (records_to q f slots n) (replicate (q * q) Silence) in
    let now = placed c f (record_with f x y (what_if f x v)) before in
    let next = filled_more c f slots n x y before v h (omega arith) at refl (sayable c ss x y v hx (there_at _ slots n t) own) r in
    subst (Filled slots (suc n)) (sym (placed-append c f (records_to q f slots n) (record_with f x y (what_if f x v)) (replicate (q * q) Silence))) (subst (λ (m : ℕ). Filled slots m now) (omega arith) next)

pub kept : (c : Channel) (f : ℕ) (records : List Heard) (after : List Slot) → c.q ^ c.d ≤ 65536 → 0 < c.q → after ≡ placed c f records (replicate (c.q * c.q) Silence) → Kept c f records after
kept c f records after h pos e ss slots long t hears from =
    let k = filled c f ss slots h pos long t hears (c.q * c.q) (omega arith) in
    let s = placed c f (records_of c f slots) (replicate (c.q * c.q) Silence) in
    e ∙ ap (λ (hs : List Heard). placed c f hs (replicate (c.q * c.q) Silence)) from ∙ ext_get_or Silence s slots k.long (λ i l. k.done i (let a = k.long in omega arith))

-- records put into a silent frame of the same channel
pub framed : (c g : Channel) (f : ℕ) (records : List Heard) (s after : List Slot) → g ≡ c → s ≡ replicate (c.q * c.q) Silence → (outside g f records ≡ None) × (after ≡ placed g f records s) →
    (outside c f records ≡ None) × (after ≡ placed c f records (replicate (c.q * c.q) Silence))
framed c g f records s after same e m = (
  ap (λ (z : Channel). outside z f records) (sym same) ∙ m.0,
  m.1 ∙ ap (λ (z : Channel). placed z f records s) same ∙ ap (placed c f records) e,
)
