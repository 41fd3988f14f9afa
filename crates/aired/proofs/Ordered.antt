-- The records of a frame stand in their order, and their parts and slots are there, so that they are read back as they were written.
-- records_ordered, records_inside, read_back. Assumes nothing.
use Rattle.std.proofs.Common.{◌≡◌, ℕ, zero, suc, ◌+◌, ◌*◌, ◌/◌, ◌%◌, ◌<◌, ◌≤◌, Bool, true, false, cond, ◌&&◌, eqb, ltb, List, [], ◌∷◌, ◌++◌, get_or, Some, None, vec_items, sym, refl, ap, ◌∙◌, subst, ⊎_elim, arith}
use lib.Arith.{digits_div, digits_mod}
use Rattle.std.proofs.lemmas.Bool.{cases_eq, lt-ltb}
use Rattle.channels.specs.declared.fault.Fault.TheVariants.{Order}
use Rattle.frames.specs.Speakers.{or_else}
use Rattle.frames.specs.declared.slot.Slot.{Slot}
use Rattle.frames.specs.declared.slot.Slot.TheVariants.{Silence, One, Noise}
use Rattle.records.specs.declared.heard.Heard.{Heard}
use Rattle.records.specs.Hearing.{place_of}
use Rattle.reading.specs.Formats.{heard_format}
use Rattle.reading.specs.Reading.{finished}
use Rattle.readers.specs.Inputs.{HeardInputIs, Input, read_input, settings_if}
use Rattle.readers.specs.declared.input_read.InputRead.{InputRead}
use Rattle.speakall.specs.Plan.{Channel}
use Rattle.writers.specs.Order.{InOrder}
use Rattle.aired.specs.Aired.{outside, record_with, records_of, records_to, what_if}
use Rattle.aired.proofs.Recording.{part_lt}

-- the lowest place that a record may have after these
end_of : ℕ → List Heard → ℕ
end_of low [] = low
end_of low (h ∷ hs) = end_of (place_of h + 1) hs

end_append : (low : ℕ) (as' bs : List Heard) → end_of low (as' ++ bs) ≡ end_of (end_of low as') bs
unfolding end_of
end_append low [] bs = refl
end_append low (a ∷ as') bs = end_append (place_of a + 1) as' bs

order_append : (q low : ℕ) (as' bs : List Heard) → InOrder q low as' → InOrder q (end_of low as') bs → InOrder q low (as' ++ bs)
unfolding end_of
order_append q low [] bs a b = b
order_append q low (h ∷ as') bs a b = (a.0, a.1, a.2, order_append q (place_of h + 1) as' bs a.3 b)

-- the place of the n-th slot of frame f
abbrev place_at : (q f n : ℕ) → ℕ
place_at q f n = f * 65536 + n / q * 256 + n % q

place_next : (q f n : ℕ) → 0 < q → q < 252 → place_at q f n + 1 ≤ place_at q f (suc n)
place_next q f n pos h =
    let x = n / q in
    let y = n % q in
    let at : n ≡ x * q + y = omega arith in
    let low : y < q = omega arith in
    ⊎_elim
    (λ (e : suc y ≡ q). let up : suc n ≡ suc x * q + 0 = omega arith in
    let d : suc n / q ≡ suc x = ap (λ (z : ℕ). z / q) up ∙ digits_div (suc x) pos in
    let m : suc n % q ≡ 0 = ap (λ (z : ℕ). z % q) up ∙ digits_mod (suc x) pos in
    rw (d, m) (omega arith))
    (λ (ne : suc y ≡ q → ⊥). let up : suc n ≡ x * q + suc y = omega arith in
    let l : suc y < q = omega (arith, ne) in
    let d : suc n / q ≡ x = ap (λ (z : ℕ). z / q) up ∙ digits_div x l in
    let m : suc n % q ≡ suc y = ap (λ (z : ℕ). z % q) up ∙ digits_mod x l in
    rw (d, m) (omega arith)) (cases_eq (suc y) q)

-- one record more, or none
one_more : (q low f x y : ℕ) (v : Slot) → x < q → y < q → low ≤ f * 65536 + x * 256 + y →
    InOrder q low (record_with f x y (what_if f x v)) × (end_of low (record_with f x y (what_if f x v)) ≤ f * 65536 + x * 256 + y + 1)
unfolding end_of
one_more q low f x y Silence hx hy l = (tt, omega arith)
one_more q low f x y (One n w) hx hy l = ((hx, hy, l, tt), omega arith)
one_more q low f x y Noise hx hy l = ((hx, hy, l, tt), omega arith)

to_place : (q f : ℕ) (slots : List Slot) → 0 < q → q < 252 → (n : ℕ) → n ≤ q * q → InOrder q 0 (records_to q f slots n) × (end_of 0 (records_to q f slots n) ≤ place_at q f n)
unfolding end_of records_to
to_place q f slots pos h zero l = (tt, omega arith)
to_place q f slots pos h (suc n) l =
    let r = to_place q f slots pos h n (omega arith) in
    let v = get_or slots n Silence in
    let more = record_with f (n / q) (n % q) (what_if f (n / q) v) in
    let o = one_more q (end_of 0 (records_to q f slots n)) f (n / q) (n % q) v (part_lt q n pos (omega arith)) (omega arith) r.1 in
    let next = place_next q f n pos h in
    let e = end_append 0 (records_to q f slots n) more in
    (order_append q 0 (records_to q f slots n) more r.0 o.0, let b = o.1 in rw e (omega arith))

pub records_ordered : (c : Channel) (f : ℕ) (slots : List Slot) → 0 < c.q → c.q < 252 → InOrder c.q 0 (records_of c f slots)
records_ordered c f slots pos h = (to_place c.q f slots pos h (c.q * c.q) (omega arith)).0

-- records that stand in their order have parts and slots that are there
outside_none : (c : Channel) (f low : ℕ) (hs : List Heard) → InOrder c.q low hs → outside c f hs ≡ None
unfolding outside
outside_none c f low [] o = refl
outside_none c f low (h ∷ hs) o =
    ap (λ t. or_else t (outside c f hs)) (go (eqb h.frame f) (ltb h.part c.q) (ltb h.slot c.q) (lt-ltb _ _ o.0) (lt-ltb _ _ o.1)) ∙ outside_none c f (place_of h + 1) hs o.3
  where
    go : (a b d : Bool) → b ≡ true → d ≡ true → cond a (cond (b && d) None (Some Order)) None ≡ None
    go true true true x y = refl
    go true true false x y = cc
    go true false d x y = cc
    go false b d x y = refl

pub records_inside : (c g : Channel) (f : ℕ) (slots : List Slot) (rs : List Heard) → 0 < c.q → c.q < 252 → g ≡ c → rs ≡ records_of c f slots → outside g f rs ≡ None
records_inside c g f slots rs pos h same e =
    ap (λ (z : Channel). outside z f rs) same ∙ ap (outside c f) e ∙ outside_none c f 0 (records_of c f slots) (records_ordered c f slots pos h)

-- what is read of an input that was written of the records of a frame
pub read_back : (c : Channel) (f : ℕ) (slots : List Slot) (rs : List Heard) (bs : List ℕ) (i : InputRead Heard) → 0 < c.q → c.q < 252 → rs ≡ records_of c f slots →
    (InOrder c.q 0 rs → read_input (λ c. heard_format c.q) bs ≡ record { channel = Some c; reading = record { given = rs; ending = finished } }) →
    HeardInputIs i (read_input (λ c. heard_format c.q) bs) → (settings_if i.channel ≡ Some c) × (vec_items i.read.records ≡ records_of c f slots)
read_back c f slots rs bs i pos h e back is =
    let r = back (subst (InOrder c.q 0) (sym e) (records_ordered c f slots pos h)) in
    (is.channel ∙ ap (λ (z : Input Heard). z.channel) r, is.heard.given ∙ ap (λ (z : Input Heard). z.reading.given) r ∙ e)
