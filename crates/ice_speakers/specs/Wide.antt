-- Numbers as they were written, and as the calls of channels and frames take them.
-- narrow, message_of. Assumes nothing.
use Rattle.std.specs.Prelude.{ℕ, cond, List, map, replicate, Some, None, vec_items, Option, Vec, nat_lt}
use Rattle.std.specs.declared.alloc.Global.{Global}

-- the number itself, or the widest of 32 bits
abbrev pub narrow : ℕ → ℕ
narrow n = cond (nat_lt n 4294967296) n 4294967295

-- the message of s numbers that a sender says: the one given, or zeros
abbrev pub message_of : (s : ℕ) → Option (Vec ℕ Global) → List ℕ
message_of s None = replicate s 0
message_of s (Some v) = map narrow (vec_items v)
