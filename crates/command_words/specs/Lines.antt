-- The line of a channel.
-- Sizes, line_text. Assumes nothing.
use Rattle.std.specs.Prelude.{◌≡◌, ℕ, ◌*◌, ◌^◌, List, ◌++◌, codes, decimal}
use Rattle.speakall.specs.Plan.{Channel, size}
use Rattle.command_words.specs.declared.line.Line.{Line}

-- a channel's q, d and k, and what follows of them
pub record Sizes (c : Channel) (l : Line) : Type 0 where
  pub parts : l.q ≡ c.q
  pub digits : l.d ≡ c.d
  pub others : l.k ≡ c.k
  pub slots : l.slots ≡ c.q * c.q
  pub senders : l.senders ≡ c.q ^ c.d
  pub numbers : l.numbers ≡ size c

abbrev pub line_text : Line → List ℕ
line_text l =
    decimal l.q ++ (codes " " ++ (decimal l.d ++ (codes " " ++ (decimal l.k ++ (codes ": " ++ (decimal l.slots ++ (codes " slots, " ++ (decimal l.senders ++ (codes " senders, messages of " ++ (decimal l.numbers ++ codes " numbers"))))))))))
