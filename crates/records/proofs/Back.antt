-- What is written is read back, whatever follows it.
-- four_back, heard_back, channel_back, length_message, message_back. Assumes nothing.
use Rattle.std.proofs.Common.{◌≡◌, ℕ, ◌+◌, ◌*◌, ◌/◌, ◌%◌, ◌^◌, ◌<◌, ◌≤◌, true, ◌&&◌, eqb, ltb, List, [], ◌∷◌, ◌++◌, length, take, sym, refl, ap, ◌∙◌, arith, Ok}
use Rattle.std.proofs.lemmas.Bool.{and_from, and_parts, eq-eqb, ltb-true}
use Rattle.std.proofs.lemmas.List.{take_at, length-append}
use Rattle.records.specs.declared.heard.What.{What}
use Rattle.records.specs.declared.heard.What.TheVariants.{Word, Noise}
use Rattle.records.specs.declared.heard.Heard.{Heard}
use Rattle.records.specs.Hearing.{bytes_of_heard, bytes_of_what, heard_size, what_size, whole_in}
use Rattle.records.specs.Numbers.{are_small, bytes_of_numbers, four_bytes, numbers_of}
use Rattle.records.specs.Messages.{bytes_of_message, count_in, message_in, message_size}
use Rattle.channels.specs.declared.channel.Channel.{Channel}
use Rattle.channels.specs.Settings.{settings}
use Rattle.records.specs.Channels.{bytes_of_channel, channel_in}
use Rattle.records.proofs.Firsts.{counted, first_then, heard-word, heard_noise, heard_made}

-- a number of four bytes is put together of them
pub four_back : (n : ℕ) → n < 2 ^ 32 → n ≡ n / 16777216 % 256 * 16777216 + n / 65536 % 256 * 65536 + n / 256 % 256 * 256 + n % 256
four_back n h =
    let a : n / 256 ≡ n / 65536 * 256 + n / 256 % 256 = omega arith in
    let b : n / 65536 ≡ n / 16777216 * 256 + n / 65536 % 256 = omega arith in
    let c : n / 16777216 % 256 ≡ n / 16777216 = omega arith in
    omega arith

module _ (frame part slot : ℕ) (more : List ℕ) (h : frame < 2 ^ 32) where
  abbrev laid : What → List ℕ
  laid what = (3 ∷ (four_bytes frame ++ (part ∷ slot ∷ bytes_of_what what))) ++ more

  back : (what : What) → length (3 ∷ (four_bytes frame ++ (part ∷ slot ∷ bytes_of_what what))) ≡ what_size what →
      Ok (record { frame = frame; part = part; slot = slot; what = what }) ≡ whole_in (laid what)
  back (Word w) l =
      let twelve : length w ≡ 12 = omega arith in
      heard_made (laid (Word w)) frame (Word w) (Word (take 12 (w ++ more))) (four_back frame h) (ap Word (sym (take_at w more 12 twelve))) (heard-word (laid (Word w)) (simp length-append (omega arith)) refl refl)
  back Noise l = heard_made (laid Noise) frame Noise Noise (four_back frame h) refl (heard_noise (laid Noise) (omega arith) refl refl)

pub heard_back : (h : Heard) (bs : List ℕ) → h.frame < 2 ^ 32 → bs ≡ bytes_of_heard h → length bs ≡ heard_size h → (more : List ℕ) → whole_in (bs ++ more) ≡ Ok h
heard_back h bs f e l more = rw e (sym (back h.frame h.part h.slot more f h.what (ap length (sym e) ∙ l)))

pub channel_back : (c : Channel) (bs : List ℕ) → bs ≡ bytes_of_channel c.q c.d c.k → (more : List ℕ) → channel_in (bs ++ more) ≡ Ok (settings c)
channel_back c bs e more = rw e (first_then 1 4 (bytes_of_channel c.q c.d c.k ++ more) _ (omega arith) (simp length-append (omega arith)) refl ∙ rw c.valid refl)

length_bytes : (ns : List ℕ) → length (bytes_of_numbers ns) ≡ 4 * length ns
length_bytes [] = refl
length_bytes (n ∷ ns) = let rest = length_bytes ns in omega arith

pub length_message : (ns : List ℕ) → length (bytes_of_message ns) ≡ message_size ns
length_message ns = let l = length_bytes ns in omega arith

-- numbers below 2^30 are read back from their bytes
numbers_back : (ns : List ℕ) → are_small ns ≡ true → numbers_of (bytes_of_numbers ns) ≡ ns
unfolding numbers_of are_small
numbers_back [] s = refl
numbers_back (n ∷ ns) s =
    let p = and_parts (ltb n (2 ^ 30)) (are_small ns) s in
    let l = ltb-true n (2 ^ 30) p.0 in
    let here = sym (four_back n (omega arith)) in
    let rest = numbers_back ns p.1 in
    cc

-- and so is a message of them
pub message_back : (s : ℕ) (ns more : List ℕ) → length ns ≡ s → are_small ns ≡ true → message_in s (bytes_of_message ns ++ more) ≡ Ok ns
message_back s ns more h small =
    let bs = bytes_of_message ns ++ more in
    let four = length_bytes ns in
    let long : 2 + 4 * length ns ≤ length (bytes_of_message ns ++ more) = simp length-append (omega arith) in
    let count : count_in (bytes_of_message ns ++ more) ≡ Ok (length ns) = sym (counted 2 2 (2 + 4 * length ns) bs (length ns) (omega arith) (omega arith) refl long) in
    let numbers : numbers_of (take (4 * length ns) (bytes_of_numbers ns ++ more)) ≡ ns = ap numbers_of (take_at (bytes_of_numbers ns) more (4 * length ns) four) ∙ numbers_back ns small in
    let test : (eqb (length ns) s && are_small ns) ≡ true = and_from (eqb (length ns) s) (are_small ns) (eq-eqb (length ns) s h) small in
    rw (count, numbers, test) refl
