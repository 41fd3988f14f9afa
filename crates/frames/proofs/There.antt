-- Whose words are heard, when one slot changes.
-- there_set, there_joined. Assumes nothing.
use Rattle.std.proofs.Common.{◌≡◌, ℕ, zero, suc, ◌<◌, true, List, [], ◌∷◌, set, refl}
use Rattle.std.proofs.lemmas.Bool.{and_parts, and_from, lt-ltb}
use Rattle.frames.specs.declared.slot.Slot.{Slot}
use Rattle.frames.specs.declared.slot.Slot.TheVariants.{Silence, One, Noise}
use Rattle.frames.specs.Slots.{is_there, joined, there_in}

pub there_set : (n : ℕ) (ss : List Slot) (i : ℕ) (v : Slot) → is_there n v ≡ true → there_in n ss ≡ true → there_in n (set ss i v) ≡ true
unfolding there_in
there_set n [] i v e t = t
there_set n (s ∷ ss) zero v e t = and_from (is_there n v) (there_in n ss) e (and_parts (is_there n s) (there_in n ss) t).1
there_set n (s ∷ ss) (suc i) v e t =
    let a = and_parts (is_there n s) (there_in n ss) t in
    and_from (is_there n s) (there_in n (set ss i v)) a.0 (there_set n ss i v e a.1)

pub there_joined : (n sender word : ℕ) (s : Slot) → sender < n → is_there n (joined sender word s) ≡ true
there_joined n sender word Silence h = lt-ltb sender n h
there_joined n sender word (One m w) h = refl
there_joined n sender word Noise h = refl
