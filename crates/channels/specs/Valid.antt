-- Which numbers make a channel of the code: the statement's good channels with at most four digits.
-- Valid, is_valid, Fit. Assumes nothing.
use Rattle.std.specs.Prelude.{◌≡◌, ℕ, ◌-◌, ◌*◌, ◌^◌, ◌<◌, ◌≤◌, Bool, true, ◌&&◌, nat_le, nat_lt}
use Rattle.speakall.specs.Plan.{Good, listed, sides}

abbrev pub Valid : (q d k : ℕ) → Type 0
Valid q d k = Good (record { q = q; d = d; k = k }) × (d ≤ 4)

-- the same, as a test
unfoldable pub is_valid : (q d k : ℕ) → Bool
is_valid q d k = listed q sides && nat_lt 0 d && nat_le d 4 && nat_le d q && nat_lt (k * (d - 1)) q && nat_le (q ^ d) 65536

-- the same, in its parts: what a channel's numbers are known by
pub record Fit (q d k : ℕ) : Type 0 where
  pub good : Valid q d k
  pub valid : is_valid q d k ≡ true
  pub side : listed q sides ≡ true
  pub wide : 2 < q
  pub narrow : q < 252
  pub some : 0 < d
  pub few : d ≤ 4
  pub enough : d ≤ q
  pub spare : k * (d - 1) < q
  pub held : q ^ d ≤ 65536
