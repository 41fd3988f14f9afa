-- What was written is read back, one record after the other.
-- heard_back, input_back, back_from, messages_back. Assumes nothing.
use Rattle.std.proofs.Common.{◌≡◌, ℕ, ◌+◌, ◌<◌, ◌≤◌, List, [], ◌∷◌, ◌++◌, length, Some, sym, refl, ap, ◌∙◌, Ok}
use Rattle.std.proofs.lemmas.List.{drop_at}
use Rattle.std.proofs.lemmas.Bool.{and_from, lt-ltb, le-leb}
use Rattle.std.specs.List.{flat_map, AllByRecursion}
use Rattle.channels.specs.declared.channel.Channel.{Channel}
use Rattle.channels.specs.Settings.{settings}
use Rattle.records.specs.declared.heard.Heard.{Heard}
use Rattle.records.specs.Channels.{bytes_of_channel}
use Rattle.records.specs.Hearing.{bytes_of_heard, heard_in, heard_size, in_order, place_of, whole_in}
use Rattle.records.specs.Messages.{bytes_of_message, message_size}
use Rattle.records.proofs.Back.{channel_back, length_message, message_back}
use Rattle.reading.specs.Formats.{heard_format, message_format}
use Rattle.reading.specs.Reading.{finished, read_from}
use Rattle.reading.proofs.HeardLaws.{heard_lawful}
use Rattle.reading.proofs.MessageLaws.{message_lawful}
use Rattle.reading.proofs.Steps.{read_none, read_more}
use Rattle.readers.specs.Inputs.{read_input}
use Rattle.writers.specs.Order.{InOrder, MessagesBack, ReadBack}

ordered-whole : (q low : ℕ) (h : Heard) → h.part < q → h.slot < q → low ≤ place_of h → in_order q low (Ok h) ≡ Ok h
ordered-whole q low h p s l = rw (and_from _ _ (and_from _ _ (lt-ltb h.part q p) (lt-ltb h.slot q s)) (le-leb low (place_of h) l)) refl

pub heard_back : (q low at : ℕ) (hs : List Heard) → AllByRecursion ReadBack hs → InOrder q low hs → read_from (heard_format q) low at 0 (flat_map bytes_of_heard hs) ≡ record { given = hs; ending = finished }
heard_back q low at [] a o = read_none (heard_format q) low at [] refl
heard_back q low at (h ∷ hs) a o =
    let rest = flat_map bytes_of_heard hs in
    let found : heard_in q low (bytes_of_heard h ++ flat_map bytes_of_heard hs) ≡ Ok h = ap (in_order q low) (a.0.1 rest) ∙ ordered-whole q low h o.0 o.1 o.2 in
    let z = (heard_lawful q).sized low (bytes_of_heard h ++ rest) h found in
    let step = read_more (heard_format q) low at (bytes_of_heard h ++ rest) h z.0 z.1 found in
    step ∙ rw (drop_at (bytes_of_heard h) rest (heard_size h) a.0.0, heard_back q (place_of h + 1) (at + heard_size h) hs a.1 o.3) refl

pub input_back : (c : Channel) (hs : List Heard) (bs : List ℕ) → bs ≡ bytes_of_channel c.q c.d c.k ++ flat_map bytes_of_heard hs → AllByRecursion ReadBack hs → InOrder c.q 0 hs →
    read_input (λ c. heard_format c.q) bs ≡ record { channel = Some (settings c); reading = record { given = hs; ending = finished } }
input_back c hs bs e a o = rw (e, channel_back c (bytes_of_channel c.q c.d c.k) refl (flat_map bytes_of_heard hs), heard_back c.q 0 4 hs a o) refl

-- what to_bytes promises of its bytes, of the bytes as they are defined
pub back_from : (h : Heard) (bs : List ℕ) → bs ≡ bytes_of_heard h → length bs ≡ heard_size h → ((more : List ℕ) → whole_in (bs ++ more) ≡ Ok h) → ReadBack h
back_from h bs e l b = (ap length (sym e) ∙ l, λ more. ap (λ (x : List ℕ). whole_in (x ++ more)) (sym e) ∙ b more)

pub messages_back : MessagesBack
messages_back s at [] a = read_none (message_format s) 0 at [] refl
messages_back s at (m ∷ ms) a =
    let rest = flat_map bytes_of_message ms in
    let found = message_back s m rest a.0.0 a.0.1 in
    let z = (message_lawful s).sized 0 (bytes_of_message m ++ rest) m found in
    let step = read_more (message_format s) 0 at (bytes_of_message m ++ rest) m z.0 z.1 found in
    step ∙ rw (drop_at (bytes_of_message m) rest (message_size m) (length_message m), messages_back s (at + message_size m) ms a.1) refl
