-- In how many parts two senders meet, and what is told of that for several.
-- meets_in, MeetingOf, parts_of, meeting_text; pair_text, every_two; counts_of, most_of, most_text; lines_in, few_or_most, limit_text, meeting_lines. Assumes nothing.
use Rattle.std.specs.Prelude.{◌≡◌, ℕ, ◌-◌, min, max, cond, List, [], ◌∷◌, ◌++◌, map, length, string_bytes, codes, decimal, String, ◌==◌, nat_le}
use Rattle.std.specs.declared.alloc.Global.{Global}
use Rattle.speakall.specs.Plan.{Channel, plan_of, slot_at}
use Rattle.speakall.specs.Promise.{meet}
use Rattle.ice_meetings.specs.declared.meeting.Meeting.{Meeting}

-- in how many parts two senders have one slot
abbrev pub meets_in : Channel → (one other : ℕ) → ℕ
meets_in c a b = meet c.q (slot_at c.q (plan_of c a)) (slot_at c.q (plan_of c b)) c.q

pub record MeetingOf (c : Channel) (a b : ℕ) (m : Meeting) : Type 0 where
  pub one : m.one ≡ a
  pub other : m.other ≡ b
  pub count : m.count ≡ meets_in c a b

abbrev pub parts_of : ℕ → List ℕ
parts_of n = cond (n == 1) (codes "part") (codes "parts")

abbrev pub meeting_text : Meeting → List ℕ
meeting_text m = decimal m.one ++ (codes " and " ++ (decimal m.other ++ (codes " meet in " ++ (decimal m.count ++ (codes " " ++ parts_of m.count)))))

-- two senders and in how many parts they meet, as a line
abbrev pub pair_text : Channel → (one other : ℕ) → List ℕ
pair_text c a b = decimal a ++ (codes " and " ++ (decimal b ++ (codes " meet in " ++ (decimal (meets_in c a b) ++ (codes " " ++ parts_of (meets_in c a b))))))

-- a line for every two of the senders, the first with each of the others first
unfoldable pub every_two : Channel → List ℕ → List (List ℕ)
every_two c [] = []
every_two c (n ∷ ns) = map (pair_text c n) ns ++ every_two c ns

-- in how many parts every two of them meet
unfoldable pub counts_of : Channel → List ℕ → List ℕ
counts_of c [] = []
counts_of c (n ∷ ns) = map (meets_in c n) ns ++ counts_of c ns

-- the highest of the numbers, none of them taken for more than the limit
unfoldable pub most_of : (limit : ℕ) → List ℕ → ℕ
most_of limit [] = 0
most_of limit (x ∷ xs) = max (min x limit) (most_of limit xs)

-- what the lines hold
abbrev pub lines_in : List (String Global) → List (List ℕ)
lines_in lines = map string_bytes lines

abbrev pub most_text : ℕ → List ℕ
most_text n = codes "no two meet in more than " ++ (decimal n ++ (codes " " ++ parts_of n))

-- of up to twelve senders every two; of more the most parts in which two meet, as far as d - 1
unfoldable pub few_or_most : Channel → List ℕ → List (List ℕ)
few_or_most c ns = cond (nat_le (length ns) 12) (every_two c ns) (most_text (most_of (c.d - 1) (counts_of c ns)) ∷ [])

abbrev pub limit_text : ℕ → List ℕ
limit_text n = codes "of any two senders: at most d - 1 = " ++ decimal n

abbrev pub meeting_lines : Channel → List ℕ → List (List ℕ)
meeting_lines c ns = few_or_most c ns ++ (limit_text (c.d - 1) ∷ [])
