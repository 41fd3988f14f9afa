-- What is promised of the whole, and of its parts. Each is a type; a proof of the type is the theorem.
-- meet, SeldomMeet, Frame, OftenAlone, OneMessage, Table, IsTable, NoMore, table_of, tables, Reached, Whole, Main. Assumes nothing.
use Rattle.std.specs.Prelude.{◌≡◌, ℕ, zero, suc, ◌+◌, ◌-◌, ◌^◌, ◌<◌, ◌≤◌, cond, T, List, [], ◌∷◌, ◌++◌, length, ◌==◌, ◌≢◌, slice_index, slice_index_or}
use mathlib.Core.List.{Memᴰ}
use Rattle.speakall.specs.Plan.{Channel, Good, Plan, IsPlan, slot_at, below, different, size, plan_of}
use Rattle.speakall.specs.Frame.{p, Speaker, got, agrees, plans_of}

-- in how many of the first n parts two plans have one slot
unfoldable pub meet : ℕ → (ℕ → ℕ) → (ℕ → ℕ) → ℕ → ℕ
meet q f g zero = 0
meet q f g (suc n) = cond (f n == g n) 1 0 + meet q f g n

-- 1. Two plans have one slot in at most d - 1 parts.
abbrev pub SeldomMeet : Type 0
SeldomMeet =
    (c : Channel) → Good c → (f g : Plan) → IsPlan c f → IsPlan c g → (f ≢ g) → meet c.q (slot_at c.q f) (slot_at c.q g) c.q ≤ c.d - 1

-- those who speak in a frame
pub record Frame (c : Channel) (ss : List Speaker) : Type 0 where
  pub plans : (s : Speaker) → Memᴰ s ss → IsPlan c s.plan × (length s.message ≡ size c) × T (below p s.message)
  pub apart : T (different (plans_of ss))
  pub few : length ss ≤ c.k + 1

-- 2. Each is alone in as many parts as its message has numbers, or more.
abbrev pub OftenAlone : Type 0
OftenAlone = (c : Channel) → Good c → (ss : List Speaker) → Frame c ss → (s : Speaker) → Memᴰ s ss → size c ≤ length (got c ss s.plan)

-- 3. So many words are said by one message only.
abbrev pub OneMessage : Type 0
OneMessage =
    (c : Channel) → Good c → (ss : List Speaker) → Frame c ss → (s : Speaker) → Memᴰ s ss → (m : List ℕ) → length m ≡ size c → T (below p m) →
    T (agrees m (got c ss s.plan)) → m ≡ s.message

-- a plan of any kind: a slot for each part
abbrev pub Table : Type 0
Table = List ℕ

abbrev pub IsTable : Channel → Table → Type 0
IsTable c t = (length t ≡ c.q) × T (below c.q t)

-- 4. Nobody can do better: plans of whatever kind that have one slot in at most d - 1 parts, each two of them, are at most q^d many.
abbrev pub NoMore : Type 0
NoMore =
    (c : Channel) → Good c → (ts : List Table) → ((t : Table) → Memᴰ t ts → IsTable c t) →
    ((i j : ℕ) → i < j → j < length ts → meet c.q (λ x. slice_index (slice_index_or ts i []) x) (λ x. slice_index (slice_index_or ts j []) x) c.q ≤ c.d - 1) →
    length ts ≤ c.q ^ c.d

-- the slots of a plan in the first n parts
unfoldable pub table_of : ℕ → Plan → ℕ → Table
table_of q f zero = []
table_of q f (suc n) = table_of q f n ++ (slot_at q f n ∷ [])

-- the tables of the plans of the first n senders
unfoldable pub tables : Channel → ℕ → List Table
tables c zero = []
tables c (suc n) = tables c n ++ (table_of c.q (plan_of c n) c.q ∷ [])

-- what NoMore asks of tables: a slot for each part, and each two of them meet in at most d - 1 parts
pub record Seldom (c : Channel) (ts : List Table) : Type 0 where
  pub tabled : (t : Table) → Memᴰ t ts → IsTable c t
  pub seldom : (i j : ℕ) → i < j → j < length ts → meet c.q (λ x. slice_index (slice_index_or ts i []) x) (λ x. slice_index (slice_index_or ts j []) x) c.q ≤ c.d - 1

-- 5. The limit is reached: the tables of our q^d plans are q^d many, and meet as seldom.
abbrev pub Reached : Type 0
Reached = (c : Channel) → Good c → (length (tables c (c.q ^ c.d)) ≡ c.q ^ c.d) × Seldom c (tables c (c.q ^ c.d))

-- THE MAIN PROMISE. Whoever of all q^d senders speaks in a frame, at most k + 1 of them: from what is heard each one's message can be read, and no other fits; and no plans
-- of whatever kind that meet so seldom serve more senders.
pub record Whole (c : Channel) : Type 0 where
  pub all_read : (ss : List Speaker) → Frame c ss → (s : Speaker) → Memᴰ s ss → T (agrees s.message (got c ss s.plan)) ×
      ((m : List ℕ) → length m ≡ size c → T (below p m) → T (agrees m (got c ss s.plan)) → m ≡ s.message)
  pub no_more : (ts : List Table) → ((t : Table) → Memᴰ t ts → IsTable c t) →
      ((i j : ℕ) → i < j → j < length ts → meet c.q (λ x. slice_index (slice_index_or ts i []) x) (λ x. slice_index (slice_index_or ts j []) x) c.q ≤ c.d - 1) → length ts ≤ c.q ^ c.d

abbrev pub Main : Type 0
Main = (c : Channel) → Good c → Whole c
