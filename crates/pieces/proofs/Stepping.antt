-- One byte more: a record is whole, is faulty, or is still short.
-- short_from, opened-whole, opened_wrong, heard-whole, heard_wrong. Assumes nothing.
use Rattle.std.proofs.Common.{◌≡◌, ℕ, ◌+◌, ◌-◌, ◌^◌, ◌<◌, min, true, List, [], ◌∷◌, ◌++◌, length, Some, None, Option, sym, refl, ap, ◌∙◌, subst, ap₂, arith, Ok, Err, Result}
use Rattle.std.proofs.lemmas.List.{drop_at, length-append}
use Rattle.channels.specs.declared.channel.Channel.{Channel}
use Rattle.channels.specs.declared.fault.Fault.{Fault}
use Rattle.channels.specs.Settings.{settings}
use Rattle.records.specs.Channels.{channel_in}
use Rattle.records.specs.Hearing.{after_heard, heard_in, in_order}
use Rattle.records.specs.declared.unread.Unread.{Unread}
use Rattle.records.specs.declared.unread.Unread.TheVariants.{Wrong, Short}
use Rattle.records.specs.declared.heard.Heard.{Heard}
use Rattle.records.proofs.Firsts.{first_none, first-whole}
use Rattle.reading.specs.Formats.{heard_format}
use Rattle.reading.specs.Reading.{Ending, finished, cut_at, fault_at, read_from, stopped_at}
use Rattle.reading.proofs.Bytes.{Alike, byte_whole, byte_wrong, elsewhere, last_byte}
use Rattle.reading.proofs.ChannelLaws.{channel_short, channel-stays}
use Rattle.reading.proofs.HeardLaws.{clash, heard_lawful, short-wrong}
use Rattle.readers.specs.Inputs.{read_input}
use Rattle.pieces.specs.Coming.{Answer, after, answered, told}
use Rattle.pieces.specs.Waiting.{is_short}
use Rattle.speakall.specs.Plan as statement

pub short_from : {A : Type 0} (r : Result A Unread) → is_short r ≡ true → r ≡ Err Short
short_from (Ok x) e = let z : ◌≡◌ {A = ℕ} 0 1 = cc in absurd (omega arith)
short_from (Err (Wrong g)) e = let z : ◌≡◌ {A = ℕ} 0 1 = cc in absurd (omega arith)
short_from (Err Short) e = refl

-- nothing is short
pub channel-waits : is_short (channel_in []) ≡ true
channel-waits = ap is_short (sym (first_none 1 4 [] _ refl))

pub heard-waits : (q low : ℕ) → is_short (heard_in q low []) ≡ true
heard-waits q low = ap (λ r. is_short (in_order q low r)) (sym (first_none 3 8 [] _ refl))

-- a channel's record is whole with its fourth byte
pub opened-whole : (front held more : List ℕ) (b : ℕ) (c : Channel) → channel_in front ≡ Err Short → held ≡ front ++ (b ∷ []) → channel_in held ≡ Ok (settings c) →
    answered (read_input (λ c. heard_format c.q) (held ++ more)) ≡ answered (record { channel = Some (settings c); reading = read_from (heard_format c.q) 0 4 0 more })
opened-whole front held more b c s h e =
    let few = channel_short front s in
    let long = (first-whole 1 4 held _ (settings c) e).0 in
    let n : length held ≡ length front + 1 = ap length h ∙ length-append front (b ∷ []) in
    let four : length held ≡ 4 = omega arith in
    let whole = channel-stays held more (λ z. clash (settings c) (sym z ∙ e)) ∙ e in
    rw (whole, drop_at held more 4 four) refl

pub opened_wrong : (held more : List ℕ) (g : Fault) → channel_in held ≡ Err (Wrong g) →
    answered (read_input (λ c. heard_format c.q) (held ++ more)) ≡ record { channel = None; given = []; stopped = Some (record { fault = g; byte = 0 }) }
opened_wrong held more g e = rw (channel-stays held more (λ z. short-wrong g (sym z ∙ e)) ∙ e) refl

-- endings that are alike are told alike
alike_told : (d e : Ending) → Alike (2 ^ 64 - 1) d e → told (stopped_at d) ≡ told (stopped_at e)
alike_told finished finished a = refl
alike_told finished (cut_at b) a = absurd a
alike_told finished (fault_at h b) a = absurd a
alike_told (cut_at b) finished a = absurd a
alike_told (cut_at b) (cut_at d) a = cc
alike_told (cut_at b) (fault_at h d) a = absurd a
alike_told (fault_at g b) finished a = absurd a
alike_told (fault_at g b) (cut_at d) a = absurd a
alike_told (fault_at g b) (fault_at h d) a = let p = a.0 in let q = a.1 in cc

module _ (channel : Option statement.Channel) (q low byte : ℕ) (held more : List ℕ) where
  abbrev said : (low byte : ℕ) → List ℕ → Answer
  said low byte bytes = answered (record { channel = channel; reading = read_from (heard_format q) low byte 0 bytes })

  pub heard-whole : (front : List ℕ) (b next : ℕ) (h : Heard) → heard_in q low front ≡ Err Short → held ≡ front ++ (b ∷ []) → heard_in q low held ≡ Ok h → next ≡ min (byte + length held) (2 ^ 64 - 1) →
      said low byte (held ++ more) ≡ after (h ∷ []) (said (after_heard h) next more)
  heard-whole front b next h s k e n =
      let size = last_byte (heard_format q) (heard_lawful q) low b front h s (subst (λ (bs : List ℕ). heard_in q low bs ≡ Ok h) k e) in
      let all : length held ≡ length front + 1 = ap length k ∙ length-append front (b ∷ []) in
      let step = byte_whole (heard_format q) (heard_lawful q) low byte held more h e (size ∙ sym all) in
      let far : min (byte + length held) (2 ^ 64 - 1) ≡ min next (2 ^ 64 - 1) = omega arith in
      let same = elsewhere (heard_format q) (2 ^ 64 - 1) (after_heard h) (byte + length held) next 0 more far in
      rw step (ap₂ (λ (xs : List Heard) (s : Option _). record { channel = channel; given = h ∷ xs; stopped = s }) same.0 (alike_told _ _ same.1))

  pub heard_wrong : (g : Fault) → 0 < length held → byte < 2 ^ 64 → heard_in q low held ≡ Err (Wrong g) → said low byte (held ++ more) ≡ record { channel = channel; given = []; stopped = Some (record { fault = g; byte = byte }) }
  heard_wrong g p l e =
      let step = byte_wrong (heard_format q) (heard_lawful q) low byte held more g p e in
      let low_byte : min byte (2 ^ 64 - 1) ≡ byte = omega arith in
      rw (step, low_byte) refl
