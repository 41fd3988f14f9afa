-- The rows in which three speak and each is read.
-- heard-row, three_frame, five_good. Assumes nothing.
use Rattle.std.proofs.Common.{◌≡◌, ℕ, T, List, length, sym, refl, arith}
use mathlib.Core.List.{Memᴰ}
use Rattle.cases.specs.Rows.{five, three}
use Rattle.messages.specs.Made.{Made}
use Rattle.speakall.specs.Code.{Read}
use Rattle.speakall.specs.Frame.{Speaker, got, p, plans_of}
use Rattle.speakall.specs.Plan.{Channel, Good, IsPlan, below, different, digits, is_in, listed, same, size}
use Rattle.speakall.specs.Promise.{Frame}
use Rattle.speakall.proofs.Alone.{often_alone}
use Rattle.speakall.proofs.Heard.{own-agrees, own-sound}
use Rattle.speakall.proofs.Members.{all_mem}
use Rattle.speakall.proofs.Whole.{one_message}

pub five_good : Good five
unfolding listed
five_good = (tt, omega arith, omega arith, omega arith, omega arith, omega arith)

pub three_frame : Frame five three
unfolding digits below same is_in different plans_of
three_frame = record {
  plans = λ s m. all_mem (λ s. IsPlan five s.plan × (length s.message ≡ size five) × T (below p s.message)) three s (((refl, tt), refl, tt), (((refl, tt), refl, tt), (((refl, tt), refl, tt), tt))) m;
  apart = tt;
  few = omega arith;
}

-- each of at most k + 1 speakers is read, resting on all words heard of it
pub heard-row : (c : Channel) → Good c → (ss : List Speaker) → Frame c ss → (s : Speaker) → Memᴰ s ss → T (below 1073741824 s.message) → (count : ℕ) → length (got c ss s.plan) ≡ count →
    Made c.q (size c) (got c ss s.plan) (Read.Reads s.message count 0)
heard-row c good ss frame s here small count e =
    let own = own-agrees c.q ss s here 0 c.q in (
      sym e,
      refl,
      record {
        enough = often_alone c good ss frame s here;
        sound = own-sound c.q ss s here 0 c.q c.q (omega arith);
        fits = record { long = (frame.plans s here).1; small = small; on = own };
        only = one_message c good ss frame s here;
      },
    )
