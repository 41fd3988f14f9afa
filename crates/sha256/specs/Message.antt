-- A message of two slices, one after the other.
-- bytes, block_count. Assumes nothing.
use Rattle.std.specs.Prelude.{ℕ, ◌+◌, ◌/◌, List, ◌++◌, length}
use Rattle.sha256.specs.declared.message.Message.{Message}

abbrev pub bytes : Message → List ℕ
bytes m = m.first.now ++ m.second.now

-- how many blocks it has when it is padded
abbrev pub block_count : Message → ℕ
block_count m = (length m.first.now + length m.second.now + 8) / 64 + 1
