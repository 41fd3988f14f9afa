-- The words of a command line, and the line that tells which of them is wrong, and why.
-- words_in, WordAt, plain_line, named_line, Told. Assumes nothing.
use Rattle.std.specs.Prelude.{◌≡◌, ℕ, ◌<◌, ◌≤◌, List, [], ◌++◌, map, length, Some, None, string_bytes, codes, Option, String, slice_index_or}
use Rattle.std.specs.Borrow.{Bor}
use Rattle.std.specs.declared.alloc.Global.{Global}

-- what the texts hold
abbrev pub words_in : List (String Global) → List (List ℕ)
words_in texts = map string_bytes texts

-- the word in a place, from 0, and none past the last
abbrev pub WordAt : List (List ℕ) → ℕ → Option (Bor (List ℕ)) → Type 0
WordAt ws i None = length ws ≤ i
WordAt ws i (Some w) = (i < length ws) × (w.now ≡ slice_index_or ws i [])

-- the program, and what is wrong
abbrev pub plain_line : (program cause : List ℕ) → List ℕ
plain_line program cause = program ++ (codes ": " ++ cause)

-- the program, the word that is wrong, and what is wrong with it
abbrev pub named_line : (program word cause : List ℕ) → List ℕ
named_line program word cause = program ++ (codes ": " ++ (word ++ (codes ": " ++ cause)))

-- the word is named where there is one in the place
abbrev pub Told : (program : List ℕ) (words : List (List ℕ)) → Option ℕ → (cause line : List ℕ) → Type 0
Told program ws None cause line = line ≡ plain_line program cause
Told program ws (Some i) cause line = (i < length ws → line ≡ named_line program (slice_index_or ws i []) cause) × (length ws ≤ i → line ≡ plain_line program cause)
