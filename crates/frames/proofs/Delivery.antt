-- The promise of a frame: of at most k + 1 speakers each one's message is what is read.
-- Idea: the words heard of it are sound and enough, and its own message fits them; so reading cannot answer otherwise, and one message only fits.
-- delivered. Assumes nothing.
use Rattle.std.proofs.Common.{◌≡◌, ℕ, T, List, length, sym, ap, ◌∙◌, subst, arith}
use mathlib.Core.List.{Memᴰ}
use Rattle.messages.specs.Made.{Made, read_of}
use Rattle.messages.specs.declared.listen.Reading.{Reading}
use Rattle.frames.specs.declared.slot.Slot.{Slot}
use Rattle.frames.specs.Heard.{Delivered, words_from}
use Rattle.frames.proofs.Own.{words_heard}
use Rattle.speakall.specs.Code.{Read}
use Rattle.speakall.specs.Frame.{Speaker, Word, got}
use Rattle.speakall.specs.Plan.{Channel, Good, Plan, below, size}
use Rattle.speakall.specs.Promise.{Frame}
use Rattle.speakall.proofs.Alone.{often_alone}
use Rattle.speakall.proofs.Heard.{own-agrees, own-sound}
use Rattle.speakall.proofs.Whole.{one_message}

module _ (c : Channel) (good : Good c) (ss : List Speaker) (frame : Frame c ss) (s : Speaker) (here : Memᴰ s ss) (small : T (below 1073741824 s.message)) where
  own_read : (r : Read) → Made c.q (size c) (got c ss s.plan) r → r ≡ Read.Reads s.message (length (got c ss s.plan)) 0
  own_read (Read.TooFew n) m = let a = often_alone c good ss frame s here in absurd (omega (arith, m.1))
  own_read (Read.Reads m n o) (en, eo, found) =
      let f = frame.plans s here in
      let e = found.only s.message f.1 f.2 (own-agrees c.q ss s here 0 c.q) in
      cc
  own_read Read.Doubtful m =
      absurd (m.1 (own-sound c.q ss s here 0 c.q c.q (omega arith)) s.message (record { long = (frame.plans s here).1; small = small; on = own-agrees c.q ss s here 0 c.q }))

module _ (c : Channel) (slots : List Slot) (f : Plan) (ws : List Word) (a : Reading) (before after : List ℕ) (words : ws ≡ words_from c slots f 0 c.q) (long : length after ≡ length before)
    (made : Made c.q (length before) ws (read_of a after)) where
  pub delivered : Good c → Delivered c slots f a after
  delivered good ss hears frame s here plan small size-after =
      let heard : ws ≡ got c ss s.plan = words ∙ words_heard c ss slots f (omega (arith, good.1, good.2)) hears 0 c.q (omega arith) ∙ ap (got c ss) (sym plan) in
      let at_size = subst (λ (n : ℕ). Made c.q n ws (read_of a after)) (sym long ∙ size-after) made in
      record {
        read = own_read c good ss frame s here small (read_of a after) (subst (λ (l : List Word). Made c.q (size c) l (read_of a after)) heard at_size);
        enough = often_alone c good ss frame s here;
        only = one_message c good ss frame s here;
      }
