-- Records one after the other, read to their end or to the first fault.
-- Format, Ending, Reading, stopped_at, onto, stepped, read_from; Lawful, begun_before, FaultStays, LastLost. Assumes nothing.
use Rattle.std.specs.Prelude.{◌≡◌, ℕ, zero, suc, ◌+◌, ◌-◌, ◌<◌, ◌≤◌, List, [], ◌∷◌, ◌++◌, length, take, Some, None, Option, Ok, Err, Result}
use Rattle.channels.specs.declared.fault.Fault.{Fault}
use Rattle.channels.specs.declared.fault.Fault.TheVariants.{Kind as FaultKind}
use Rattle.records.specs.declared.unread.Unread.{Unread}
use Rattle.records.specs.declared.unread.Unread.TheVariants.{Wrong, Short}
use Rattle.reading.specs.declared.Stopped.{Stopped}

-- how records of a kind are told apart: what stands first in some bytes, where the record's place must be low or above; how many
-- bytes a record has; and the lowest place that the next may have
pub record Format (A : Type 0) : Type 0 where
  pub first : (low : ℕ) → List ℕ → Result A Unread
  pub size : A → ℕ
  pub after : A → ℕ

-- where a reading stops: at the end of the bytes; in a record that begins at a byte and is cut by the end; or at a record that
-- begins at a byte and is faulty, whatever follows
pub data Ending : Type 0 where
  finished : Ending
  cut_at : (byte : ℕ) → Ending
  fault_at : Fault → (byte : ℕ) → Ending

-- what is read: the records before the end, the cut or the fault
pub record Reading (A : Type 0) : Type 0 where
  pub given : List A
  pub ending : Ending

-- a record that is cut has fault 1
abbrev pub stopped_at : Ending → Option Stopped
stopped_at finished = None
stopped_at (cut_at b) = Some (record { fault = FaultKind; byte = b })
stopped_at (fault_at f b) = Some (record { fault = f; byte = b })

-- records, and then what is read after them
abbrev pub onto : {A : Type 0} → List A → Reading A → Reading A
onto xs r = record { given = xs ++ r.given; ending = r.ending }

-- one step, with what is read after a record
abbrev pub stepped : {A : Type 0} → (at : ℕ) → Result A Unread → (A → Reading A) → Reading A
stepped at (Ok x) rest = onto (x ∷ []) (rest x)
stepped at (Err (Wrong f)) rest = record { given = []; ending = fault_at f at }
stepped at (Err Short) rest = record { given = []; ending = cut_at at }

-- the records in some bytes, of which the first stands at byte `at` of the input, after `skip` bytes that are left of the record before
unfoldable pub read_from : {A : Type 0} → Format A → (low at skip : ℕ) → List ℕ → Reading A
read_from f low at skip [] = record { given = []; ending = finished }
read_from f low at (suc skip) (b ∷ bs) = read_from f low (at + 1) skip bs
read_from f low at zero (b ∷ bs) = stepped at (f.first low (b ∷ bs)) (λ x. read_from f (f.after x) (at + 1) (f.size x - 1) bs)

-- a record is found by its own bytes: it has some, they are there, and others after them change nothing
pub record Lawful {A : Type 0} (f : Format A) : Type 0 where
  pub sized : (low : ℕ) (bs : List ℕ) (x : A) → f.first low bs ≡ Ok x → (0 < f.size x) × (f.size x ≤ length bs)
  pub whole_more : (low : ℕ) (bs more : List ℕ) (x : A) → f.first low bs ≡ Ok x → f.first low (bs ++ more) ≡ Ok x
  pub wrong_more : (low : ℕ) (bs more : List ℕ) (g : Fault) → f.first low bs ≡ Err (Wrong g) → f.first low (bs ++ more) ≡ Err (Wrong g)
  pub whole-own : (low : ℕ) (bs : List ℕ) (x : A) → f.first low bs ≡ Ok x → f.first low (take (f.size x) bs) ≡ Ok x

-- how many of these records, one after the other, begin before a byte
unfoldable pub begun_before : {A : Type 0} → (A → ℕ) → (byte : ℕ) → List A → ℕ
begun_before size byte [] = 0
begun_before size zero (x ∷ xs) = 0
begun_before size (suc byte) (x ∷ xs) = suc (begun_before size (suc byte - size x) xs)

-- bytes after a record that is faulty change no answer
abbrev pub FaultStays : {A : Type 0} → Format A → Type 0
FaultStays f = (low at byte : ℕ) (fault : Fault) (bs more : List ℕ) → (read_from f low at 0 bs).ending ≡ fault_at fault byte → read_from f low at 0 (bs ++ more) ≡ read_from f low at 0 bs

-- where the bytes are cut, the records before are read as they were, and of those that begin before the cut at most the last is lost
abbrev pub LastLost : {A : Type 0} → Format A → Type 0
LastLost f = (low at cut : ℕ) (bs : List ℕ) →
    let kept = (read_from f low at 0 (take cut bs)).given in
    let all = (read_from f low at 0 bs).given in
    (kept ≡ take (length kept) all) × (begun_before f.size cut all ≤ length kept + 1)
