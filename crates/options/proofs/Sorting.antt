-- The words are looked at one after the other: what is left decides.
-- given_in; without_more, without_all. Assumes nothing.
use Rattle.std.proofs.Common.{◌≡◌, ℕ, ◌+◌, ◌<◌, ◌≤◌, ◌||◌, List, [], ◌∷◌, ◌++◌, length, get_or, drop, string_bytes, String, sym, refl, ap, ◌∙◌, append_assoc, append-nil}
use Rattle.std.specs.List.{list_any}
use Rattle.std.specs.Str.{bytes_eq}
use Rattle.std.proofs.lemmas.List.{at_drop_more, at_drop_all}
use Rattle.std.specs.declared.alloc.Global.{Global}
use Rattle.command_words.specs.Wrong.{words_in}
use Rattle.options.specs.Options.{is_given, kept_word, without}

-- the option stands among the texts where a text holds it
pub given_in : (o : List ℕ) (texts : List (String Global)) → list_any (λ s. bytes_eq (string_bytes s) o) texts ≡ is_given o (words_in texts)
given_in o [] = refl
given_in o (s ∷ ss) = ap (λ b. bytes_eq (string_bytes s) o || b) (given_in o ss)

module _ (o : List ℕ) (texts : List (String Global)) (i : ℕ) (x : String Global) (w : List ℕ) (h : i < length texts) (is : x ≡ get_or texts i x) (e : w ≡ string_bytes x) where
  pub without_more : (done after : List (List ℕ)) → after ≡ done ++ kept_word o w → done ++ without o (words_in (drop i texts)) ≡ without o (words_in texts) → after ++ without o (words_in (drop (i + 1) texts)) ≡ without o (words_in texts)
  unfolding without
  without_more done after q t =
      ap (λ l. l ++ without o (words_in (drop (i + 1) texts))) q ∙ append_assoc done (kept_word o w) (without o (words_in (drop (i + 1) texts))) ∙
      ap (λ l. done ++ l) (sym (at_drop_more (λ l. without o (words_in l)) texts i x h ∙ ap (λ (z : List ℕ). kept_word o z ++ without o (words_in (drop (i + 1) texts))) (ap string_bytes (sym is) ∙ sym e))) ∙ t

pub without_all : (o : List ℕ) (texts : List (String Global)) (i : ℕ) (done : List (List ℕ)) → length texts ≤ i → done ++ without o (words_in (drop i texts)) ≡ without o (words_in texts) → done ≡ without o (words_in texts)
unfolding without
without_all o texts i done h t = sym (append-nil done) ∙ ap (λ l. done ++ l) (sym (at_drop_all (λ l. without o (words_in l)) texts i h)) ∙ t
