-- What the words of a command line ask for, and what is told of words that ask for nothing.
-- Numbered, misuse_of, Asked, misuse_text, place_of, Told. Assumes nothing.
use Rattle.std.specs.Prelude.{◌≡◌, ℕ, ◌<◌, ◌≤◌, ◌⊎◌, List, ◌++◌, length, Some, None, Ok, Err, string_bytes, codes, decimal, Option, Result, String, slice_index_or}
use Rattle.std.specs.declared.alloc.Global.{Global}
use Rattle.command_words.specs.Numbers.{IsNumber, number_of}
use Rattle.command_words.specs.Wrong as line
use Rattle.sender_words.specs.declared.spoken.Wrong.{Wrong}
use Rattle.sender_words.specs.declared.spoken.Wrong.TheVariants as wrong
use Rattle.ice_words.specs.declared.request.Request.{Request}
use Rattle.ice_words.specs.declared.request.Request.TheVariants.{Help, Frame}
use Rattle.ice_words.specs.declared.request.Misuse.{Misuse}
use Rattle.ice_words.specs.declared.request.Misuse.TheVariants.{Nothing, Unknown, NoNumber, NoSender, NoMessage, Twice, TooFew, Memory}

-- the number in a place of the words, or why there is none
abbrev pub Numbered : List (String Global) → ℕ → Result ℕ Misuse → Type 0
Numbered texts i (Ok n) = (s : String Global) → (i < length texts) × IsNumber (string_bytes (slice_index_or texts i s)) × (number_of (string_bytes (slice_index_or texts i s)) ≡ n)
Numbered texts i (Err m) = ((m ≡ NoNumber i) × (i < length texts)) ⊎ ((m ≡ TooFew (length texts)) × (length texts ≤ i))

-- why the word in this place gives no sender
abbrev pub misuse_of : ℕ → Wrong → Misuse
misuse_of i wrong.NoSender = NoSender i
misuse_of i wrong.NoMessage = NoMessage i
misuse_of i wrong.Memory = Memory

-- a frame is asked for by five words or more, and its channel by the second to the fourth
abbrev pub Asked : List (String Global) → Result Request Misuse → Type 0
Asked texts (Ok Help) = Unit {0}
Asked texts (Ok (Frame q d k spoken)) = (4 < length texts) × Numbered texts 1 (Ok q) × Numbered texts 2 (Ok d) × Numbered texts 3 (Ok k)
Asked texts (Err m) = Unit {0}

-- what is wrong, and what is wanted
abbrev pub misuse_text : Misuse → List ℕ
misuse_text Nothing = codes "no words; --help tells which are wanted"
misuse_text (Unknown i) = codes "no such command; there are frame and --help"
misuse_text (NoNumber i) = codes "no number from 0 to 18446744073709551615"
misuse_text (NoSender i) = codes "no sender, as 7 or 7=10,1,0"
misuse_text (NoMessage i) = codes "no message of numbers, as 7=10,1,0"
misuse_text (Twice i) = codes "a sender that is given twice"
misuse_text (TooFew n) = decimal n ++ codes " words are too few; wanted are frame, Q, D, K and a sender or more"
misuse_text Memory = codes "out of memory"

-- the place of the word that is wrong
abbrev pub place_of : Misuse → Option ℕ
place_of Nothing = None
place_of (Unknown i) = Some i
place_of (NoNumber i) = Some i
place_of (NoSender i) = Some i
place_of (NoMessage i) = Some i
place_of (Twice i) = Some i
place_of (TooFew n) = None
place_of Memory = None

-- the line for the user: the word that is wrong, where there is one, and what is wrong
abbrev pub Told : List (String Global) → Misuse → List ℕ → Type 0
Told texts m text = line.Told (codes "ice") (line.words_in texts) (place_of m) (misuse_text m) text
