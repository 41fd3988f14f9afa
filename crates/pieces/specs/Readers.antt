-- What a reader will still give, and what a piece makes of it.
-- coming_of, Fed. Assumes nothing.
use Rattle.std.specs.Prelude.{◌≡◌, ℕ, List, ◌++◌}
use Rattle.records.specs.declared.heard.Heard.{Heard}
use Rattle.pieces.specs.Waiting.{held_in}
use Rattle.pieces.specs.Coming.{Answer, after, coming}
use Rattle.pieces.specs.declared.heard_reader.HeardReader.{HeardReader}

abbrev pub coming_of : HeardReader → (more : List ℕ) → Answer
coming_of r more = coming r.phase r.byte (held_in r.held) more

-- a piece gave some records, behind those before; with them the reader gives what it would have given of the piece and all that follows
abbrev pub Fed : HeardReader → (piece : List ℕ) → (before : List Heard) → HeardReader → (now : List Heard) → Type 0
Fed r piece before s now = (given : List Heard) × (now ≡ before ++ given) × ((more : List ℕ) → coming_of r (piece ++ more) ≡ after given (coming_of s more))
