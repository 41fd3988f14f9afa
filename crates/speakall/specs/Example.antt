-- Worked examples of what is promised, written out: the nine plans of a small channel, and a frame in which three speak.
-- small, nine_tables, NinePlans, five, three, heard_of_first, ThreeSpeakers. Assumes nothing.
use Rattle.std.specs.Prelude.{◌≡◌, List, [], ◌∷◌, length}
use Rattle.speakall.specs.Plan.{Channel, Good, plan_of}
use Rattle.speakall.specs.Frame.{Speaker, Noise, heard, Word, got}
use Rattle.speakall.specs.Promise.{Table, tables, Seldom, Frame}

-- three parts of three slots; plans of two numbers; one other may speak
abbrev pub small : Channel
small = record { q = 3; d = 2; k = 1 }

-- the slots of each sender, from 0 to 8, in the three parts
abbrev pub nine_tables : List Table
nine_tables =
    (0 ∷ 0 ∷ 0 ∷ []) ∷ (1 ∷ 1 ∷ 1 ∷ []) ∷ (2 ∷ 2 ∷ 2 ∷ []) ∷ (0 ∷ 1 ∷ 2 ∷ []) ∷ (1 ∷ 2 ∷ 0 ∷ []) ∷ (2 ∷ 0 ∷ 1 ∷ []) ∷ (0 ∷ 2 ∷ 1 ∷ []) ∷ (1 ∷ 0 ∷ 2 ∷ []) ∷ (2 ∷ 1 ∷ 0 ∷ []) ∷ []

-- these are the tables of the small channel's plans, each two have one slot in at most one part, and there are nine: as many as there can be
pub record NinePlans : Type 0 where
  pub good : Good small
  pub plans : tables small 9 ≡ nine_tables
  pub seldom : Seldom small nine_tables
  pub count : length nine_tables ≡ 9

-- five parts of five slots; plans of two numbers; two others may speak, so a message has three numbers
abbrev pub five : Channel
five = record { q = 5; d = 2; k = 2 }

-- the senders 7, 17 and 12 with their messages
abbrev pub three : List Speaker
three =
    record { plan = plan_of five 7; message = 10 ∷ 1 ∷ 0 ∷ [] } ∷ record { plan = plan_of five 17; message = 3 ∷ 1 ∷ 4 ∷ [] } ∷
    record { plan = plan_of five 12; message = 2147483646 ∷ 1 ∷ 0 ∷ [] } ∷ []

-- the words heard of sender 7
abbrev pub heard_of_first : List Word
heard_of_first = record { part = 1; word = 11 } ∷ record { part = 2; word = 12 } ∷ record { part = 3; word = 13 } ∷ record { part = 4; word = 14 } ∷ []

-- the three may speak in one frame; in part 0 all have slot 2, where there is noise, and of sender 7 these words are heard
pub record ThreeSpeakers : Type 0 where
  pub good : Good five
  pub frame : Frame five three
  pub noise : heard 5 three 0 2 ≡ Noise
  pub words : got five three (plan_of five 7) ≡ heard_of_first
