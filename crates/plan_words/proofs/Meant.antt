-- The words of the first texts, and of one text more.
-- MeantTo, meant_more. Assumes nothing.
use Rattle.std.proofs.Common.{◌≡◌, ℕ, ◌+◌, ◌<◌, List, [], ◌∷◌, ◌++◌, length, get_or, string_bytes, String, sym, ap, ◌∙◌, ⊎_elim, arith, length-append}
use Rattle.std.proofs.lemmas.List.{get_or_append_left, get_or_push, get_or_read}
use Rattle.std.proofs.lemmas.Bool.{cases_eq}
use Rattle.std.specs.declared.alloc.Global.{Global}
use Rattle.plan_words.specs.declared.word.Word.{Word}
use Rattle.plan_words.specs.Words.{Means}

module _ (texts : List (String Global)) where
  -- the first n words are what the first n texts mean
  pub record MeantTo (n : ℕ) (ws : List Word) : Type 0 where
    pub count : length ws ≡ n
    pub means : (i : ℕ) (s : String Global) (w : Word) → i < n → Means (string_bytes (get_or texts i s)) (get_or ws i w)

  pub meant_more : (n : ℕ) (ws : List Word) (x : String Global) (w : Word) → n < length texts → x ≡ get_or texts n x → Means (string_bytes x) w → MeantTo n ws → MeantTo (n + 1) (ws ++ (w ∷ []))
  meant_more n ws x w l e m h =
      record {
        count = length-append ws (w ∷ []) ∙ (let c = h.count in omega arith);
        means = λ i s v k.
            ⊎_elim
            (λ q.
            let a : x ≡ get_or texts i s = get_or_read texts n x l e s ∙ ap (λ (j : ℕ). get_or texts j s) (sym q) in
            let b : get_or (ws ++ (w ∷ [])) i v ≡ w = get_or_push ws w v i (h.count ∙ sym q) in
            rw (← a, b) m)
            (λ q.
            let c = h.count in
            let b : i < n = omega (arith, q) in
            rw (get_or_append_left ws (w ∷ []) v i (omega arith)) (h.means i s v b))
            (cases_eq i n);
      }
