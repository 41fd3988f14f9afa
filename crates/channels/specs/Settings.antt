-- The code's channel as the statement's.
-- settings, Made. Assumes nothing.
use Rattle.std.specs.Prelude.{◌≡◌, ℕ}
use Rattle.channels.specs.declared.channel.Channel.{Channel}
use Rattle.channels.specs.Valid.{Valid}
use Rattle.speakall.specs.Plan as statement

abbrev pub settings : Channel → statement.Channel
settings c = record { q = c.q; d = c.d; k = c.k }

-- a channel that was made of q, d and k, which were valid
pub record Made (c : Channel) (q d k : ℕ) : Type 0 where
  pub same : settings c ≡ record { q = q; d = d; k = k }
  pub good : Valid q d k
