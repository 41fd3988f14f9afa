-- Options among the words of a command line, each word by its bytes.
-- is_given, kept_word, without. Assumes nothing.
use Rattle.std.specs.Prelude.{ℕ, Bool, cond, List, [], ◌∷◌, ◌++◌}
use Rattle.std.specs.List.{list_any}
use Rattle.std.specs.Str.{bytes_eq}

-- the option stands among the words
abbrev pub is_given : (option : List ℕ) → List (List ℕ) → Bool
is_given o ws = list_any (λ w. bytes_eq w o) ws

-- a word that isn't the option
abbrev pub kept_word : (option word : List ℕ) → List (List ℕ)
kept_word o w = cond (bytes_eq w o) [] (w ∷ [])

-- the words that aren't the option
unfoldable pub without : (option : List ℕ) → List (List ℕ) → List (List ℕ)
without o [] = []
without o (w ∷ ws) = kept_word o w ++ without o ws
