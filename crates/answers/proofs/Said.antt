-- Records of what a listener makes of a frame: what stands first, and that it is read back.
-- read_made, told_made, three_back, read_back, told_back. Assumes nothing.
use Rattle.std.proofs.Common.{◌≡◌, ℕ, ◌+◌, ◌*◌, ◌/◌, ◌%◌, ◌^◌, ◌<◌, ◌≤◌, List, ◌++◌, length, get_or, sym, refl, ◌∙◌, arith, Ok, Result}
use Rattle.std.proofs.lemmas.List.{length-append}
use Rattle.records.specs.Numbers.{four_at, three_at}
use Rattle.records.specs.declared.unread.Unread.{Unread}
use Rattle.records.proofs.Back.{four_back}
use Rattle.records.proofs.Firsts.{counted, first_then}
use Rattle.answers.specs.declared.read.Read.{Read}
use Rattle.answers.specs.declared.told.Told.{Told}
use Rattle.answers.specs.declared.told.Telling.{Telling}
use Rattle.answers.specs.declared.told.Telling.TheVariants.{TooFew, Doubtful, Crowded}
use Rattle.answers.specs.Readings.{bytes_of_read, read_head, read_in}
use Rattle.answers.specs.Telling.{bytes_of_telling, bytes_of_told, sender_of, telling_bytes, told_as, told_in}

pub three_back : (n : ℕ) → n < 2 ^ 24 → n ≡ n / 65536 % 256 * 65536 + n / 256 % 256 * 256 + n % 256
three_back n h =
    let a : n / 256 ≡ n / 65536 * 256 + n / 256 % 256 = omega arith in
    let b : n / 65536 % 256 ≡ n / 65536 = omega arith in
    omega arith

module _ (bs : List ℕ) (frame sender : ℕ) (e : frame ≡ four_at 1 bs) (g : sender ≡ three_at 5 bs) where
  pub read_made : 11 ≤ length bs → get_or bs 0 0 ≡ 4 → 11 + 4 * get_or bs 10 0 ≤ length bs →
      Ok (record { frame = frame; sender = sender; words = get_or bs 8 0; off = get_or bs 9 0; count = get_or bs 10 0 }) ≡ read_in bs
  read_made h k l = rw (e, g) (counted 4 11 (11 + 4 * get_or bs 10 0) bs (read_head bs) (omega arith) h k l)

  pub told_made : (told : Result Told Unread) → told ≡ told_as frame sender (get_or bs 8 0) (get_or bs 9 0) → 10 ≤ length bs → get_or bs 0 0 ≡ 5 → told ≡ told_in bs
  told_made told t h k = t ∙ rw (e, g) (sym (first_then 5 10 bs _ (omega arith) h k))

pub read_back : (r : Read) (bs : List ℕ) → r.frame < 2 ^ 32 → r.sender < 2 ^ 24 → bs ≡ bytes_of_read r → (more : List ℕ) → 4 * r.count ≤ length more → read_in (bs ++ more) ≡ Ok r
read_back r bs f s e more l =
    rw e (sym (read_made (bytes_of_read r ++ more) r.frame r.sender (four_back r.frame f) (three_back r.sender s) (simp length-append (omega arith)) refl (simp length-append (omega arith))))

telling_back : (frame sender number count : ℕ) (more : List ℕ) → frame < 2 ^ 32 → sender < 2 ^ 24 → told_in (telling_bytes frame sender number count ++ more) ≡ told_as frame sender number count
telling_back frame sender number count more f s =
    sym (told_made (telling_bytes frame sender number count ++ more) frame sender (four_back frame f) (three_back sender s) _ refl (simp length-append (omega arith)) refl)

telling-told : (frame : ℕ) (t : Telling) → frame < 2 ^ 32 → sender_of t < 2 ^ 24 → (more : List ℕ) → told_in (bytes_of_telling frame t ++ more) ≡ Ok (record { frame = frame; telling = t })
telling-told frame (TooFew sender count) f s more = telling_back frame sender 6 count more f s
telling-told frame (Doubtful sender count) f s more = telling_back frame sender 7 count more f s
telling-told frame Crowded f s more = telling_back frame 0 8 0 more f s

pub told_back : (t : Told) (bs : List ℕ) → t.frame < 2 ^ 32 → sender_of t.telling < 2 ^ 24 → bs ≡ bytes_of_told t → (more : List ℕ) → told_in (bs ++ more) ≡ Ok t
told_back t bs f s e more = rw e (telling-told t.frame t.telling f s more)
