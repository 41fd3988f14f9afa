-- Pieces fed one after the other.
-- Joins, joins_more, joins_all. Assumes nothing.
use Rattle.std.proofs.Common.{◌≡◌, ℕ, ◌+◌, ◌<◌, ◌≤◌, List, [], ◌∷◌, ◌++◌, length, get_or, take, sym, ap, ◌∙◌}
use Rattle.std.proofs.lemmas.List.{append_assoc, append-nil, flat_map_more, take_all, take_more}
use Rattle.std.specs.List.{flat_map}
use Rattle.records.specs.declared.heard.Heard.{Heard}
use Rattle.reading.specs.Formats.{heard_format}
use Rattle.readers.specs.Inputs.{read_input}
use Rattle.pieces.specs.Coming.{after, answered}
use Rattle.pieces.specs.Readers.{Fed, coming_of}
use Rattle.pieces.specs.declared.heard_reader.HeardReader.{HeardReader}

joined_push : {X : Type 0} (f : X → List ℕ) (xs : List X) (x : X) → flat_map f (xs ++ (x ∷ [])) ≡ flat_map f xs ++ f x
joined_push f xs x = sym (flat_map_more f [] xs x)

module _ {X : Type 0} (f : X → List ℕ) (xs : List X) where
  -- what the first pieces gave, and what will come, is what the whole gives
  abbrev pub Joins : (i : ℕ) → List Heard → HeardReader → Type 0
  Joins i given r = (more : List ℕ) → answered (read_input (λ c. heard_format c.q) (flat_map f (take i xs) ++ more)) ≡ after given (coming_of r more)

  pub joins_more : (i : ℕ) (x : X) (piece : List ℕ) (given now : List Heard) (r s : HeardReader) → i < length xs → x ≡ get_or xs i x → piece ≡ f x → Joins i given r → Fed r piece given s now → Joins (i + 1) now s
  joins_more i x piece given now r s l e p j (new, is, so) more =
      let one = joined_push f (take i xs) x in
      let front : flat_map f (take (i + 1) xs) ++ more ≡ flat_map f (take i xs) ++ (piece ++ more) = ap (λ (ys : List X). flat_map f ys ++ more) (take_more xs i x l ∙ ap (λ (y : X). take i xs ++ (y ∷ [])) (sym e)) ∙ ap (λ (bs : List ℕ). bs ++ more) one ∙ append_assoc (flat_map f (take i xs)) (f x) more ∙ ap (λ (bs : List ℕ). flat_map f (take i xs) ++ (bs ++ more)) (sym p) in
      ap (λ (bs : List ℕ). answered (read_input (λ c. heard_format c.q) bs)) front ∙ j (piece ++ more) ∙ ap (after given) (so more)
      ∙ ap (λ (ys : List Heard). record { channel = (coming_of s more).channel; given = ys; stopped = (coming_of s more).stopped }) (sym (append_assoc given new (coming_of s more).given) ∙ ap (λ (ys : List Heard). ys ++ (coming_of s more).given) (sym is))

  -- at the end of the pieces nothing more comes
  pub joins_all : (i : ℕ) (given : List Heard) (r : HeardReader) → length xs ≤ i → Joins i given r → (coming_of r []).given ≡ [] →
      answered (read_input (λ c. heard_format c.q) (flat_map f xs)) ≡ record { channel = (coming_of r []).channel; given = given; stopped = (coming_of r []).stopped }
  joins_all i given r l j n =
      ap (λ (bs : List ℕ). answered (read_input (λ c. heard_format c.q) bs)) (sym (append-nil (flat_map f xs)) ∙ ap (λ (ys : List X). flat_map f ys ++ []) (sym (take_all i xs l))) ∙ j []
      ∙ ap (λ (ys : List Heard). record { channel = (coming_of r []).channel; given = ys; stopped = (coming_of r []).stopped }) (ap (λ (ys : List Heard). given ++ ys) n ∙ append-nil given)
