-- Slots by part and slot: a place is part × q + slot, so that different ones have different places.
-- place_lt, said_more. Assumes nothing.
use Rattle.std.proofs.Common.{◌≡◌, ℕ, ◌+◌, ◌*◌, ◌/◌, ◌%◌, ◌<◌, ◌≢◌, List, length, set, sym, ap, ◌∙◌, subst, ⊎_elim, arith}
use lib.Arith.{digits_lt, digits_div, digits_mod}
use Rattle.std.proofs.lemmas.List.{get_or-set_same, get_or-set_other, length-set}
use Rattle.std.proofs.lemmas.Bool.{cases_eq}
use Rattle.frames.specs.declared.slot.Slot.{Slot}
use Rattle.frames.specs.declared.slot.Slot.TheVariants.{Silence}
use Rattle.frames.specs.Slots.{Said, joined, slot_in}
use Rattle.speakall.proofs.Polynomial.{slot_at_lt}
use Rattle.speakall.specs.Frame.{word_at}
use Rattle.speakall.specs.Plan.{Plan, slot_at}

pub place_lt : (q x y : ℕ) → x < q → y < q → x * q + y < q * q
place_lt q x y h k = digits_lt h k

place_apart : (q x y i s : ℕ) → y < q → s < q → (x ≡ i → y ≡ s → ⊥) → x * q + y ≢ i * q + s
place_apart q x y i s h k n e =
    n (sym (digits_div x h) ∙ ap (λ (z : ℕ). z / q) e ∙ digits_div i k) (sym (digits_mod x h) ∙ ap (λ (z : ℕ). z % q) e ∙ digits_mod i k)

elsewhere : (q : ℕ) (slots : List Slot) (x y i s : ℕ) (v : Slot) → y < q → s < q → (x ≡ i → y ≡ s → ⊥) → slot_in q (set slots (i * q + s) v) x y ≡ slot_in q slots x y
elsewhere q slots x y i s v h k n = get_or-set_other slots (i * q + s) (x * q + y) v Silence (place_apart q x y i s h k n)

-- one part more
pub said_more : (q : ℕ) (f : Plan) (sender : ℕ) (m : List ℕ) (i y w : ℕ) (before now after : List Slot) → 0 < q → i < q → length before ≡ q * q →
    Said q f sender m i before now → y ≡ slot_at q f i → w ≡ word_at m i → after ≡ set now (i * q + y) (joined sender w (slot_in q now i y)) → Said q f sender m (i + 1) before after
said_more q f sender m i y w before now after pos h long s ey ew ea =
    let low : (x : ℕ) → slot_at q f x < q = λ x. slot_at_lt q f x pos in
    let same : set now (i * q + slot_at q f i) (joined sender (word_at m i) (slot_in q now i (slot_at q f i))) ≡ after = cc in
    subst (λ (l : List Slot). Said q f sender m (i + 1) before l) same (step low)
  where
    step : ((x : ℕ) → slot_at q f x < q) → Said q f sender m (i + 1) before (set now (i * q + slot_at q f i) (joined sender (word_at m i) (slot_in q now i (slot_at q f i))))
    step low =
        let v = joined sender (word_at m i) (slot_in q now i (slot_at q f i)) in
        let place : i * q + slot_at q f i < length now = let a = place_lt q i (slot_at q f i) h (low i) in let b = s.long in omega arith in
        let away : (x y : ℕ) → y < q → (x ≡ i → y ≡ slot_at q f i → ⊥) → slot_in q (set now (i * q + slot_at q f i) v) x y ≡ slot_in q now x y = λ x y k n. elsewhere q now x y i (slot_at q f i) v k (low i) n in
        record {
          long = length-set now (i * q + slot_at q f i) v ∙ s.long;
          own = λ x k. ⊎_elim
              (λ e. subst (λ (z : ℕ). slot_in q (set now (i * q + slot_at q f i) v) z (slot_at q f z) ≡ joined sender (word_at m z) (slot_in q before z (slot_at q f z))) (sym e)
              (get_or-set_same now (i * q + slot_at q f i) v Silence place ∙ ap (joined sender (word_at m i)) (s.later i (slot_at q f i) (omega arith) (low i))))
              (λ n. away x (slot_at q f x) (low x) (λ e _. n e) ∙ s.own x (omega arith)) (cases_eq x i);
          others = λ x y k l n. away x y l (λ e d. n (ap (slot_at q f) e ∙ sym d)) ∙
              ⊎_elim (λ e. s.later x y (omega arith) l) (λ d. s.others x y (omega arith) l n) (cases_eq x i);
          later = λ x y k l. away x y l (λ e _. absurd (omega arith)) ∙ s.later x y (omega arith) l;
        }
