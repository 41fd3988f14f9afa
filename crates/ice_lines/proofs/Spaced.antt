-- Numbers as text, by one more at a time, and the slots of a plan, part by part.
-- spaced_none, spaced_more; slot_in_part, slot_or_none, slots_all; heard_none, heard_one, heard_many. Assumes nothing.
use Rattle.std.proofs.Common.{◌≡◌, ℕ, zero, suc, Option, Some, None, MatchOption, cond, ltb, map, refl, arith, ◌+◌, ◌<◌, ◌≤◌, List, [], ◌∷◌, ◌++◌, length, get_or, take, codes, decimal, sym, ap, ◌∙◌, append_assoc, add-one}
use Rattle.std.specs.List.{cons_option, filter_map, range_with_len}
use Rattle.std.proofs.lemmas.Bool.{cond-false, cond-true, eq-eqb, le-ltb, lt-ltb, ne_eqb}
use Rattle.std.proofs.lemmas.List.{append-nil, map-id, take_more}
use Rattle.std.proofs.lemmas.List.Elements.{filter_map-append}
use Rattle.std.proofs.lemmas.List.FromFn.{map-range_with_len_more}
use Rattle.speakall.specs.Plan.{Plan, slot_at}
use Rattle.speakall.specs.Promise.{table_of}
use Rattle.ice_lines.specs.Lines.{heard_text, spaced_of}

pub spaced_none : (xs t : List ℕ) → t ≡ [] → t ≡ spaced_of (take 0 xs)
unfolding spaced_of
spaced_none xs t e = e

spaced_push : (xs : List ℕ) (n : ℕ) → spaced_of (xs ++ (n ∷ [])) ≡ spaced_of xs ++ (codes " " ++ decimal n)
unfolding spaced_of
spaced_push [] n = append-nil (codes " " ++ decimal n)
spaced_push (x ∷ xs) n = ap (λ (z : List ℕ). (codes " " ++ decimal x) ++ z) (spaced_push xs n) ∙ sym (append_assoc (codes " " ++ decimal x) (spaced_of xs) (codes " " ++ decimal n))

pub spaced_more : (xs : List ℕ) (i : ℕ) (t u one : List ℕ) → i < length xs → t ≡ spaced_of (take i xs) → one ≡ codes " " ++ decimal (get_or xs i 0) → u ≡ t ++ one → u ≡ spaced_of (take (i + 1) xs)
spaced_more xs i t u one h e o g =
    g ∙ ap (λ (z : List ℕ). z ++ one) e ∙ ap (λ (z : List ℕ). spaced_of (take i xs) ++ z) o ∙ sym (spaced_push (take i xs) (get_or xs i 0)) ∙ ap spaced_of (sym (take_more xs i 0 h))

range_push : (n : ℕ) → range_with_len 0 (n + 1) ≡ range_with_len 0 n ++ (n ∷ [])
range_push n =
    sym (map-id (range_with_len 0 (n + 1))) ∙ map-range_with_len_more (λ x. x) 0 n n (omega arith) ∙ ap (λ z. z ++ (n ∷ [])) (map-id (range_with_len 0 n))

module _ (q : ℕ) (f : Plan) where
  -- the slot in a part, where the frame has the part
  abbrev pub slot_in_part : ℕ → Option ℕ
  slot_in_part part = cond (ltb part q) (Some (slot_at q f part)) None

  pub slot_or_none : (part : ℕ) (r : Option ℕ) → MatchOption r (q ≤ part) (λ s. (part < q) × (s < q) × (s ≡ slot_at q f part)) → r ≡ slot_in_part part
  slot_or_none part None h = sym (cond-false _ _ _ (le-ltb part q h))
  slot_or_none part (Some s) h = ap Some h.2 ∙ sym (cond-true _ _ _ (lt-ltb part q h.0))

  slots_to : (n : ℕ) → n ≤ q → filter_map slot_in_part (range_with_len 0 n) ≡ table_of q f n
  unfolding table_of
  slots_to zero h = refl
  slots_to (suc n) h =
      let parts : range_with_len 0 (suc n) ≡ range_with_len 0 n ++ (n ∷ []) = ap (range_with_len 0) (sym (add-one n)) ∙ range_push n in
      let last : filter_map slot_in_part (n ∷ []) ≡ slot_at q f n ∷ [] = ap (λ o. cons_option o []) (cond-true _ _ _ (lt-ltb n q (omega arith))) in
      ap (filter_map slot_in_part) parts ∙ filter_map-append slot_in_part (range_with_len 0 n) (n ∷ []) ∙ ap (λ z. z ++ filter_map slot_in_part (n ∷ [])) (slots_to n (omega arith)) ∙ ap (λ z. table_of q f n ++ z) last

  pub slots_all : map (λ x. x) (filter_map slot_in_part (range_with_len 0 q)) ≡ table_of q f q
  slots_all = map-id (filter_map slot_in_part (range_with_len 0 q)) ∙ slots_to q (omega arith)

-- what is heard of a sender, by the count of its words
module _ (n k : ℕ) (ps vs p v s : List ℕ) (count : k ≡ length ps) (parts : p ≡ spaced_of ps) (values : v ≡ spaced_of vs) where
  pub heard_none : k ≡ 0 → s ≡ codes "sender " ++ (decimal n ++ codes ": 0 words") → s ≡ heard_text n ps vs
  heard_none h e = e ∙ ap (λ z. codes "sender " ++ (decimal n ++ z)) (sym (cond-true _ _ _ (eq-eqb (length ps) 0 (sym count ∙ h))))

  pub heard_one : k ≡ 1 → s ≡ codes "sender " ++ (decimal n ++ (codes ": 1 word, in part" ++ (p ++ (codes ":" ++ v)))) → s ≡ heard_text n ps vs
  heard_one h e =
      e ∙ ap (λ z. codes "sender " ++ (decimal n ++ (codes ": 1 word, in part" ++ (z ++ (codes ":" ++ v))))) parts ∙ ap (λ z. codes "sender " ++ (decimal n ++ (codes ": 1 word, in part" ++ (spaced_of ps ++ (codes ":" ++ z))))) values
      ∙ ap (λ z. codes "sender " ++ (decimal n ++ z)) (sym (cond-false _ _ _ (ne_eqb (length ps) 0 (λ o. absurd (omega arith))) ∙ cond-true _ _ _ (eq-eqb (length ps) 1 (sym count ∙ h))))

  pub heard_many : (k ≡ 0 → ⊥) → (k ≡ 1 → ⊥) → s ≡ codes "sender " ++ (decimal n ++ (codes ": " ++ (decimal k ++ (codes " words, in parts" ++ (p ++ (codes ":" ++ v)))))) → s ≡ heard_text n ps vs
  heard_many f g e =
      e ∙ ap (λ (z : ℕ). codes "sender " ++ (decimal n ++ (codes ": " ++ (decimal z ++ (codes " words, in parts" ++ (p ++ (codes ":" ++ v))))))) count
      ∙ ap (λ z. codes "sender " ++ (decimal n ++ (codes ": " ++ (decimal (length ps) ++ (codes " words, in parts" ++ (z ++ (codes ":" ++ v))))))) parts
      ∙ ap (λ z. codes "sender " ++ (decimal n ++ (codes ": " ++ (decimal (length ps) ++ (codes " words, in parts" ++ (spaced_of ps ++ (codes ":" ++ z))))))) values
      ∙ ap (λ z. codes "sender " ++ (decimal n ++ z)) (sym (cond-false _ _ _ (ne_eqb (length ps) 0 (λ o. f (count ∙ o))) ∙ cond-false _ _ _ (ne_eqb (length ps) 1 (λ o. g (count ∙ o)))))
