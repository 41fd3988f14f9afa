-- The bytes that a reader holds.
-- held_in, is_short, waits, Waited. Assumes nothing.
use Rattle.std.specs.Prelude.{◌≡◌, ℕ, Bool, true, false, List, [], ◌∷◌, ◌++◌, take, Ok, Err, Result}
use Rattle.records.specs.Channels.{channel_in}
use Rattle.records.specs.Hearing.{heard_in}
use Rattle.records.specs.declared.unread.Unread.{Unread}
use Rattle.records.specs.declared.unread.Unread.TheVariants.{Wrong, Short}
use Rattle.pieces.specs.declared.held.Held.{Held}
use Rattle.pieces.specs.declared.phase.Phase.{Phase}
use Rattle.pieces.specs.declared.phase.Phase.TheVariants.{Opening, Records, Over}

-- the bytes that are held
unfoldable pub held_in : Held → List ℕ
held_in h = take h.count h.bytes

abbrev pub is_short : {A : Type 0} → Result A Unread → Bool
is_short (Ok x) = false
is_short (Err (Wrong f)) = false
is_short (Err Short) = true

-- these bytes are no whole record yet, and may still become one
abbrev pub waits : Phase → List ℕ → Bool
waits Opening held = is_short (channel_in held)
waits (Records channel low) held = is_short (heard_in channel.q low held)
waits (Over channel stopped) held = true

-- without the last of these bytes, they were no whole record yet
abbrev pub Waited : {A : Type 0} → (List ℕ → Result A Unread) → List ℕ → Type 0
Waited first held = (front : List ℕ) × (b : ℕ) × (held ≡ front ++ (b ∷ [])) × (first front ≡ Err Short)
