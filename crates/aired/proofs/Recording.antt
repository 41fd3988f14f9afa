-- The records of slots, one slot after the other.
-- part_lt, records_more. Assumes nothing.
use Rattle.std.proofs.Common.{◌≡◌, ℕ, suc, ◌+◌, ◌*◌, ◌/◌, ◌<◌, ◌≤◌, List, ◌++◌, get_or, ap, ◌∙◌, ⊎_elim, mul-le-mul, ap₂, arith}
use Rattle.std.proofs.lemmas.Bool.{cases_order}
use Rattle.frames.specs.declared.slot.Slot.{Slot}
use Rattle.frames.specs.declared.slot.Slot.TheVariants.{Silence}
use Rattle.frames.specs.Slots.{slot_in}
use lib.Arith.{digits_div, digits_mod}
use Rattle.aired.specs.Aired.{record_with, records_to, what_if}

-- the part of a place among q × q
pub part_lt : (q i : ℕ) → 0 < q → i < q * q → i / q < q
part_lt q i h l =
    let big : q ≤ i / q → ⊥ = λ g. let m : q * q ≤ q * (i / q) = mul-le-mul (omega arith) g in omega arith in
    ⊎_elim (λ e. absurd (big (omega arith))) (λ o. ⊎_elim (λ x. x) (λ g. absurd (big (omega arith))) o) (cases_order (i / q) q)

-- the record of slot y of part x after those before it
pub records_more : (q f : ℕ) (slots : List Slot) (x y : ℕ) → y < q → records_to q f slots (x * q + (y + 1)) ≡ records_to q f slots (x * q + y) ++ record_with f x y (what_if f x (slot_in q slots x y))
unfolding records_to
records_more q f slots x y h =
    let n = x * q + y in
    let next : x * q + (y + 1) ≡ suc n = omega arith in
    ap (records_to q f slots) next ∙
    ap₂ (λ (i j : ℕ). records_to q f slots n ++ record_with f i j (what_if f i (get_or slots n Silence))) (digits_div x h) (digits_mod x h)
