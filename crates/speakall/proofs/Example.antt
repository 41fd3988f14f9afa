-- The worked examples hold (nine_plans, three_speakers), by computation, and by the theorem on the tables of our plans.
use Rattle.std.proofs.Common.{◌≡◌, T, length, refl, subst, arith}
use Rattle.speakall.specs.Plan.{Good, slot_at, below, same, is_in, different, digits, listed, size, IsPlan}
use Rattle.speakall.specs.Frame.{p, word_at, heard, words_of, plans_of}
use Rattle.speakall.specs.Promise.{table_of, tables, Seldom, Frame}
use Rattle.speakall.specs.Example.{small, nine_tables, NinePlans, five, three, ThreeSpeakers}
use Rattle.speakall.proofs.Members.{all_mem}
use Rattle.speakall.proofs.Reached.{reached}

small_good : Good small
unfolding listed
small_good = (tt, omega arith, omega arith, omega arith, omega arith, omega arith)

nine_tables_lem : tables small 9 ≡ nine_tables
unfolding tables table_of digits slot_at
nine_tables_lem = refl

pub nine_plans : NinePlans
nine_plans = record { good = small_good; plans = nine_tables_lem; seldom = subst (Seldom small) nine_tables_lem (reached small small_good).1; count = refl }

five_good : Good five
unfolding listed
five_good = (tt, omega arith, omega arith, omega arith, omega arith, omega arith)

three_frame : Frame five three
unfolding digits below same is_in different plans_of
three_frame = record {
  plans = λ s m. all_mem (λ s. IsPlan five s.plan × (length s.message ≡ size five) × T (below p s.message)) three s (((refl, tt), refl, tt), (((refl, tt), refl, tt), (((refl, tt), refl, tt), tt))) m;
  apart = tt;
  few = omega arith;
}

pub three_speakers : ThreeSpeakers
unfolding digits slot_at word_at heard words_of same
three_speakers = record { good = five_good; frame = three_frame; noise = refl; words = refl }
