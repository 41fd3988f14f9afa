-- What the code says of the words of one sender, in the words of the statements.
-- Answer. Assumes nothing.
use Rattle.std.specs.Prelude.{◌≡◌, ℕ, List}
use Rattle.messages.specs.Made.{Cleared, read_of}
use Rattle.messages.specs.declared.listen.Reading.{Reading}
use Rattle.readings.specs.Damage.{Damage}
use Rattle.readings.specs.Reads.{Made, reads_in}
use Rattle.speakall.specs.Frame.{Word}

-- the answer to the words ws, with parts below q, of a message of s numbers: what is to be made of them, as a relation and as a definition gives it;
-- what damaged words can do to it; and what is left in the lent memory
pub record Answer (q s : ℕ) (ws : List Word) (r : Reading) (left : List ℕ) : Type 0 where
  pub made : Made q s ws (read_of r left)
  pub so : read_of r left ≡ reads_in q s ws
  pub damage : Damage q s ws (read_of r left)
  pub cleared : Cleared r left
