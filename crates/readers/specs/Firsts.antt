-- A record that stands first in some bytes, as a reader gives it.
-- FirstIs. Assumes nothing.
use Rattle.std.specs.Prelude.{◌≡◌, ℕ, List, Ok, Err, Result}
use Rattle.records.specs.declared.unread.Unread.{Unread}
use Rattle.reading.specs.Reading.{Format}
use Rattle.readers.specs.declared.record.First.{First}

-- what a format finds first in some bytes, with the record's size and the lowest place that the next may have
abbrev pub FirstIs : {R A : Type 0} → (seen : R → A) → Format A → (low : ℕ) → List ℕ → Result (First R) Unread → Type 0
FirstIs seen f low bs (Ok x) = (f.first low bs ≡ Ok (seen x.record)) × (x.size ≡ f.size (seen x.record)) × (x.next ≡ f.after (seen x.record))
FirstIs seen f low bs (Err u) = f.first low bs ≡ Err u
