-- Records that are read back as they were written.
-- InOrder, ReadBack, MessagesBack. Assumes nothing.
use Rattle.std.specs.Prelude.{◌≡◌, ℕ, ◌+◌, ◌<◌, ◌≤◌, true, List, [], ◌∷◌, ◌++◌, length, Ok}
use Rattle.std.specs.List.{flat_map, AllByRecursion}
use Rattle.records.specs.declared.heard.Heard.{Heard}
use Rattle.records.specs.Hearing.{bytes_of_heard, heard_size, place_of, whole_in}
use Rattle.records.specs.Messages.{bytes_of_message}
use Rattle.records.specs.Numbers.{are_small}
use Rattle.reading.specs.Formats.{message_format}
use Rattle.reading.specs.Reading.{finished, read_from}

-- parts and slots that are there, of q, and each record in a higher place than the one before; the first at low or above
abbrev pub InOrder : (q low : ℕ) → List Heard → Type 0
InOrder q low [] = Unit {0}
InOrder q low (h ∷ hs) = (h.part < q) × (h.slot < q) × (low ≤ place_of h) × InOrder q (place_of h + 1) hs

-- the bytes of what was heard are as many as it has, and whatever follows them, they are read as it
abbrev pub ReadBack : Heard → Type 0
ReadBack h = (length (bytes_of_heard h) ≡ heard_size h) × ((more : List ℕ) → whole_in (bytes_of_heard h ++ more) ≡ Ok h)

-- messages of s numbers, each below 2^30, written one after the other, are read as they were, to the end
abbrev pub MessagesBack : Type 0
MessagesBack = (s at : ℕ) (ms : List (List ℕ)) → AllByRecursion (λ (m : List ℕ). (length m ≡ s) × (are_small m ≡ true)) ms → read_from (message_format s) 0 at 0 (flat_map bytes_of_message ms) ≡ record { given = ms; ending = finished }
