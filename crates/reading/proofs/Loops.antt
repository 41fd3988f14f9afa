-- The turns of a loop that reads records: what was read, and then what is left.
-- loop-more, left_more, loop-unread, loop-none. Assumes nothing.
use Rattle.std.proofs.Common.{◌≡◌, ℕ, ◌+◌, ◌-◌, ◌<◌, ◌≤◌, List, [], ◌∷◌, ◌++◌, length, take, drop, Some, None, sym, ap, ◌∙◌, arith, Ok, Err}
use Rattle.std.proofs.lemmas.List.{append_assoc, append-nil, length-drop, take_rest}
use Rattle.records.specs.Faults.{fault_of}
use Rattle.records.specs.declared.unread.Unread.{Unread}
use Rattle.records.specs.declared.unread.Unread.TheVariants.{Wrong, Short}
use Rattle.reading.specs.Reading.{Lawful, Ending, Format, Reading, finished, cut_at, fault_at, onto, read_from, stopped_at}
use Rattle.reading.proofs.Steps.{read_none, read_more, read_wrong, read_short}

module _ {A : Type 0} (f : Format A) (law : Lawful f) (read : List A) (low byte : ℕ) (left : List ℕ) (all : Reading A) (so : onto read (read_from f low byte 0 left) ≡ all) where
  pub loop-more : (more : List A) (low' size : ℕ) (x : A) → f.first low left ≡ Ok x → more ≡ read ++ (x ∷ []) → low' ≡ f.after x → size ≡ f.size x →
      onto more (read_from f low' (byte + size) 0 (take (length left - size) (drop size left))) ≡ all
  loop-more more low' size x o m a s =
      let z = law.sized low left x o in
      let step = read_more f low byte left x z.0 z.1 o in
      rw (m, a, s, take_rest left (f.size x), append_assoc read (x ∷ []) (read_from f (f.after x) (byte + f.size x) 0 (drop (f.size x) left)).given) (ap (onto read) (sym step) ∙ so)

  -- where a reading ends, all was read
  ended : (e : Ending) → read_from f low byte 0 left ≡ record { given = []; ending = e } → (read ≡ all.given) × (all.ending ≡ e)
  ended e h = (sym (append-nil read) ∙ ap (λ (r : Reading A). read ++ r.given) (sym h) ∙ ap (λ r. r.given) so, sym (ap (λ r. r.ending) so) ∙ ap (λ r. r.ending) h)

  pub loop-unread : (u : Unread) → 0 < length left → f.first low left ≡ Err u → (read ≡ all.given) × (Some (record { fault = fault_of u; byte = byte }) ≡ stopped_at all.ending)
  loop-unread (Wrong g) p o = let w = ended (fault_at g byte) (read_wrong f low byte left g p o) in (w.0, ap stopped_at (sym w.1))
  loop-unread Short p o = let w = ended (cut_at byte) (read_short f low byte left p o) in (w.0, ap stopped_at (sym w.1))

  pub loop-none : length left ≡ 0 → (read ≡ all.given) × (None ≡ stopped_at all.ending)
  loop-none z = let w = ended finished (read_none f low byte left z) in (w.0, ap stopped_at (sym w.1))

-- the bytes read and those left are all
pub left_more : (left : List ℕ) (byte size whole : ℕ) → size ≤ length left → byte + length left ≡ whole → byte + size + length (take (length left - size) (drop size left)) ≡ whole
left_more left byte size whole h e = simp (take_rest, length-drop) (omega arith)
