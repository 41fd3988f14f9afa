-- Bytes fed one after the other, and the end of an input.
-- fed_more, finish_none, finish_cut. Assumes nothing.
use Rattle.std.proofs.Common.{◌≡◌, ℕ, ◌+◌, ◌-◌, ◌^◌, ◌<◌, min, true, List, [], ◌∷◌, ◌++◌, length, get_or, take, Some, None, sym, refl, ap, ◌∙◌, arith}
use Rattle.std.proofs.lemmas.List.{append_assoc, append-nil, take_more, length-append}
use Rattle.channels.specs.declared.channel.Channel.{Channel}
use Rattle.channels.specs.declared.fault.Fault.TheVariants.{Kind as FaultKind}
use Rattle.records.specs.Hearing.{heard_in}
use Rattle.records.specs.declared.heard.Heard.{Heard}
use Rattle.reading.specs.Formats.{heard_format}
use Rattle.reading.proofs.Steps.{read_none, read_short}
use Rattle.pieces.specs.declared.phase.Phase.{Phase}
use Rattle.pieces.specs.declared.phase.Phase.TheVariants.{Records}
use Rattle.pieces.specs.Waiting.{waits}
use Rattle.pieces.proofs.Stepping.{short_from}
use Rattle.pieces.specs.Coming.{after, coming}
use Rattle.pieces.specs.Readers.{Fed, coming_of}
use Rattle.pieces.specs.declared.heard_reader.HeardReader.{HeardReader}

pub fed_more : (r s t : HeardReader) (piece : List ℕ) (before mid now hs : List Heard) (i b : ℕ) → i < length piece → b ≡ get_or piece i 0 → Fed r (take i piece) before s mid →
    ((more : List ℕ) → coming_of s (b ∷ more) ≡ after hs (coming_of t more)) → now ≡ mid ++ hs → Fed r (take (i + 1) piece) before t now
fed_more r s t piece before mid now hs i b l e (given, is, so) h n = (
  given ++ hs,
  n ∙ ap (λ (xs : List Heard). xs ++ hs) is ∙ append_assoc before given hs,
  λ more.
      let front : take (i + 1) piece ++ more ≡ take i piece ++ (b ∷ more) = ap (λ (bs : List ℕ). bs ++ more) (take_more piece i 0 l) ∙ append_assoc (take i piece) (get_or piece i 0 ∷ []) more ∙ ap (λ (x : ℕ). take i piece ++ (x ∷ more)) (sym e) in
      ap (coming_of r) front ∙ so (b ∷ more) ∙ ap (after given) (h more)
      ∙ ap (λ (xs : List Heard). record { channel = (coming_of t more).channel; given = xs; stopped = (coming_of t more).stopped }) (sym (append_assoc given hs (coming_of t more).given)),
)

-- the end of an input, in front of a record and within one
module _ (phase : Phase) (byte : ℕ) (held : List ℕ) (c : Channel) (low : ℕ) (p : phase ≡ Records c low) where
  pub finish_none : length held ≡ 0 → (None ≡ (coming phase byte held []).stopped) × ((coming phase byte held []).given ≡ [])
  finish_none z = let r = read_none (heard_format c.q) low byte (held ++ []) (simp length-append (omega arith)) in rw (p, r) (refl, refl)

  pub finish_cut : 0 < length held → byte < 2 ^ 64 → waits phase held ≡ true → (Some (record { fault = FaultKind; byte = byte }) ≡ (coming phase byte held []).stopped) × ((coming phase byte held []).given ≡ [])
  finish_cut l b w =
      let short = short_from (heard_in c.q low held) (rw p at w) in
      let same = append-nil held in
      let r = read_short (heard_format c.q) low byte (held ++ []) (simp length-append (omega arith)) (ap (heard_in c.q low) same ∙ short) in
      let low_byte : min byte (2 ^ 64 - 1) ≡ byte = omega arith in
      rw (p, r, low_byte) (refl, refl)
