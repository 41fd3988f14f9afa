-- What the program `plan` tells beside the lines of channels.
-- wish_text, misuse_text, Told. Assumes nothing.
use Rattle.std.specs.Prelude.{ℕ, List, ◌++◌, codes, decimal, String}
use Rattle.std.specs.declared.alloc.Global.{Global}
use Rattle.command_words.specs.Wrong as wrong
use Rattle.planning.specs.declared.wish.Wish.{Wish}
use Rattle.plan_words.specs.declared.request.Misuse.{Misuse}
use Rattle.plan_words.specs.declared.request.Misuse.TheVariants.{Unknown, NoNumber, TooMany, TooFew}
use Rattle.plan_words.specs.Words.{place_of}

-- what was asked for
abbrev pub wish_text : Wish → List ℕ
wish_text w = decimal w.senders ++ (codes " senders, " ++ (decimal w.others ++ (codes " others and messages of " ++ (decimal w.numbers ++ codes " numbers"))))

-- what is wrong, and what is wanted
abbrev pub misuse_text : Misuse → List ℕ
misuse_text (Unknown i) = codes "no such option; there are --raw and --help"
misuse_text (NoNumber i) = codes "no number from 0 to 18446744073709551615"
misuse_text (TooMany i) = codes "one number too many; wanted are SENDERS, K and NUMBERS"
misuse_text (TooFew n) = decimal n ++ codes " of 3 numbers; wanted are SENDERS, K and NUMBERS"

-- the line for the user: the word that is wrong, where there is one, and what is wrong
abbrev pub Told : List (String Global) → Misuse → List ℕ → Type 0
Told texts m line = wrong.Told (codes "plan") (wrong.words_in texts) (place_of m) (misuse_text m) line
