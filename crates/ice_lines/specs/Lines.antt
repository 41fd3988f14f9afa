-- The lines of the senders: their slots, and what is read of them.
-- spaced_of, planned_text, heard_words, heard_text, words_of, read_text. Assumes nothing.
use Rattle.std.specs.Prelude.{ℕ, cond, List, [], ◌∷◌, ◌++◌, length, codes, decimal, ◌==◌}
use Rattle.std.proofs.Math.Utf8.{encode}
use Rattle.messages.specs.declared.listen.Reading.{Reading}
use Rattle.messages.specs.declared.listen.Reading.TheVariants as reading
use Rattle.speakall.specs.Plan.{Channel, plan_of}
use Rattle.speakall.specs.Promise.{table_of}
use Rattle.ice_grid.specs.Marks.{letter_of, letters}

-- the numbers, with a space before each
unfoldable pub spaced_of : List ℕ → List ℕ
spaced_of [] = []
spaced_of (n ∷ ns) = (codes " " ++ decimal n) ++ spaced_of ns

-- a sender with its letter, and its slots in all parts
abbrev pub planned_text : Channel → (numbers : List ℕ) → ℕ → List ℕ
planned_text c ns n =
    encode (letter_of n ns letters) ++ (codes "  sender " ++ (decimal n ++ (codes ": slots" ++ spaced_of (table_of c.q (plan_of c n) c.q))))

-- the parts in which a sender's words were heard, and the words
abbrev pub heard_words : (parts values : List ℕ) → List ℕ
heard_words ps vs = spaced_of ps ++ (codes ":" ++ spaced_of vs)

-- what is heard of a sender: how many words, in which parts, and the words
abbrev pub heard_text : ℕ → (parts values : List ℕ) → List ℕ
heard_text n ps vs =
    codes "sender " ++ (decimal n ++ cond (length ps == 0) (codes ": 0 words") (cond (length ps == 1) (codes ": 1 word, in part" ++ heard_words ps vs) (codes ": " ++ (decimal (length ps) ++ (codes " words, in parts" ++ heard_words ps vs)))))

-- so many words, for as many numbers
abbrev pub words_of : ℕ → List ℕ
words_of n = cond (n == 1) (codes " word for ") (codes " words for ")

-- what is made of a sender's words: its message, or why there is none
abbrev pub read_text : Reading → List ℕ → List ℕ
read_text (reading.TooFew n) m = codes "  too few (6): " ++ (decimal n ++ (words_of n ++ (decimal (length m) ++ codes " numbers")))
read_text (reading.Message n o) m = codes "  read:" ++ spaced_of m
read_text reading.Doubtful m = codes "  doubtful (7)"
