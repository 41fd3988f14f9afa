-- What the arguments of the program `plan` mean, each by itself and all together.
-- Dashed, Means; numbers_of, is_raw, Fine, Sound, StopsAt, wished, Answer; Stops, Joins, stopped_by, ended_with, place_of, AllMeant. Assumes nothing.
use Rattle.std.specs.Prelude.{◌≡◌, ℕ, ◌<◌, ◌≤◌, Bool, true, false, cond, ◌||◌, List, [], ◌∷◌, ◌++◌, length, take, Some, None, Ok, Err, string_bytes, codes, Option, Result, String, ◌≢◌, slice_index, slice_index_or}
use Rattle.std.specs.List.{AllByRecursion}
use Rattle.std.specs.declared.alloc.Global.{Global}
use Rattle.command_words.specs.Numbers.{IsNumber, number_of}
use Rattle.planning.specs.declared.wish.Wish.{Wish}
use Rattle.plan_words.specs.declared.word.Word.{Word}
use Rattle.plan_words.specs.declared.word.Word.TheVariants as word
use Rattle.plan_words.specs.declared.request.Request.{Request}
use Rattle.plan_words.specs.declared.request.Request.TheVariants as ask
use Rattle.plan_words.specs.declared.request.Misuse.{Misuse}
use Rattle.plan_words.specs.declared.request.Misuse.TheVariants as misuse
use Rattle.plan_words.specs.declared.request.Asked.{Asked}

-- begins with `-`
abbrev pub Dashed : List ℕ → Type 0
Dashed text = slice_index text 0 ≡ 45

abbrev pub Means : List ℕ → Word → Type 0
Means text word.Help = text ≡ codes "--help"
Means text word.Raw = text ≡ codes "--raw"
Means text word.Unknown = Dashed text × (text ≢ codes "--help") × (text ≢ codes "--raw")
Means text (word.Number n) = IsNumber text × (number_of text ≡ n) × (Dashed text → ⊥)
Means text word.NoNumber = (IsNumber text → ⊥) × (Dashed text → ⊥)

-- the numbers among the words, in their order
abbrev pub numbers_of : List Word → List ℕ
numbers_of [] = []
numbers_of (word.Help ∷ ws) = numbers_of ws
numbers_of (word.Raw ∷ ws) = numbers_of ws
numbers_of (word.Unknown ∷ ws) = numbers_of ws
numbers_of (word.Number n ∷ ws) = n ∷ numbers_of ws
numbers_of (word.NoNumber ∷ ws) = numbers_of ws

-- whether `--raw` is among the words
abbrev pub is_raw : List Word → Bool
is_raw [] = false
is_raw (word.Help ∷ ws) = is_raw ws
is_raw (word.Raw ∷ ws) = true
is_raw (word.Unknown ∷ ws) = is_raw ws
is_raw (word.Number n ∷ ws) = is_raw ws
is_raw (word.NoNumber ∷ ws) = is_raw ws

abbrev pub Fine : Word → Type 0
Fine word.Help = ⊥
Fine word.Raw = Unit {0}
Fine word.Unknown = ⊥
Fine (word.Number n) = Unit {0}
Fine word.NoNumber = ⊥

-- nothing but `--raw` and numbers, of which there are three at most
pub record Sound (ws : List Word) : Type 0 where
  pub fine : AllByRecursion Fine ws
  pub few : length (numbers_of ws) ≤ 3

-- this word stands at this place, and those before it are sound
pub record StopsAt (ws : List Word) (i : ℕ) (w : Word) : Type 0 where
  pub here : i < length ws
  pub word : w ≡ slice_index_or ws i w
  pub before : Sound (take i ws)

abbrev pub wished : Wish → List ℕ
wished w = w.senders ∷ w.others ∷ w.numbers ∷ []

-- three numbers make a wish; else the first word that is wrong is told, or that there are too few. `--help` before it gives help
abbrev pub Answer : List Word → Result Request Misuse → Type 0
Answer ws (Ok ask.Help) = (i : ℕ) × StopsAt ws i word.Help
Answer ws (Ok (ask.Plan w)) = Sound ws × (numbers_of ws ≡ wished w) × (is_raw ws ≡ false)
Answer ws (Ok (ask.Raw w)) = Sound ws × (numbers_of ws ≡ wished w) × (is_raw ws ≡ true)
Answer ws (Err (misuse.Unknown i)) = StopsAt ws i word.Unknown
Answer ws (Err (misuse.NoNumber i)) = StopsAt ws i word.NoNumber
Answer ws (Err (misuse.TooMany i)) = (n : ℕ) × StopsAt ws i (word.Number n) × (length (numbers_of (take i ws)) ≡ 3)
Answer ws (Err (misuse.TooFew n)) = Sound ws × (length (numbers_of ws) ≡ n) × (n < 3)

-- a word that does not go on: none of the two kinds, or a fourth number
abbrev pub Stops : Asked → Word → Type 0
Stops a word.Help = Unit {0}
Stops a word.Raw = ⊥
Stops a word.Unknown = Unit {0}
Stops a (word.Number n) = length a.numbers.items ≡ 3
Stops a word.NoNumber = Unit {0}

-- one word more
abbrev pub Joins : Asked → Word → Option Asked → Type 0
Joins a w None = Stops a w
Joins a w (Some b) = Fine w × (b.numbers.items ≡ a.numbers.items ++ numbers_of (w ∷ [])) × (b.raw ≡ (a.raw || is_raw (w ∷ []))) × (length b.numbers.items ≤ 3)

-- what is answered at a word that does not go on
abbrev pub stopped_by : ℕ → Word → Result Request Misuse
stopped_by i word.Help = Ok ask.Help
stopped_by i word.Raw = Err (misuse.TooMany i)
stopped_by i word.Unknown = Err (misuse.Unknown i)
stopped_by i (word.Number n) = Err (misuse.TooMany i)
stopped_by i word.NoNumber = Err (misuse.NoNumber i)

-- what is answered after the last word, by the numbers among them, which are three at most
abbrev pub ended_with : Bool → List ℕ → Result Request Misuse
ended_with raw [] = Err (misuse.TooFew 0)
ended_with raw (a ∷ []) = Err (misuse.TooFew 1)
ended_with raw (a ∷ b ∷ []) = Err (misuse.TooFew 2)
ended_with raw (a ∷ b ∷ c ∷ d ∷ ds) = Err (misuse.TooFew (length (a ∷ b ∷ c ∷ d ∷ ds)))
ended_with raw (a ∷ b ∷ c ∷ []) = Ok (cond raw (ask.Raw (record { senders = a; others = b; numbers = c })) (ask.Plan (record { senders = a; others = b; numbers = c })))

-- the place of the word that is wrong
abbrev pub place_of : Misuse → Option ℕ
place_of (misuse.Unknown i) = Some i
place_of (misuse.NoNumber i) = Some i
place_of (misuse.TooMany i) = Some i
place_of (misuse.TooFew n) = None

-- each word is what the text in its place means
pub record AllMeant (texts : List (String Global)) (ws : List Word) : Type 0 where
  pub count : length ws ≡ length texts
  pub means : (i : ℕ) (s : String Global) (w : Word) → i < length texts → Means (string_bytes (slice_index_or texts i s)) (slice_index_or ws i w)
