-- The first items of a slice, as an array, and two arrays put one after the other.
-- chunk_none, chunk_some, joined_parts. Assumes nothing.
use Rattle.std.proofs.Common.{◌≡◌, ℕ, List, [], ◌++◌, length, take, drop, arith, Err, None, Ok, Option, Some, MatchOption, refl}
use Rattle.std.proofs.lemmas.List.{append-nil, drop_all, length-append, length-drop, take_at}
use Rattle.std.specs.Option.{ok_or}
use borrow.Rule.Slice.PartMut.{put_mid, post_of}
use Rattle.records.specs.declared.unread.Unread.{Unread}
use Rattle.records.specs.declared.unread.Unread.TheVariants.{Short}

module _ {X : Type 0} (P : Type 0) (Q : X → Type 0) where
  -- there are too few items, or they are there
  pub chunk_none : (o : Option X) (u : Unread) → ok_or o Short ≡ Err u → MatchOption o P Q → P × (u ≡ Short)
  chunk_none None u e p = (p, cc)
  chunk_none (Some x) u e q = cc

  pub chunk_some : (o : Option X) (x : X) → ok_or o Short ≡ Ok x → MatchOption o P Q → Q x
  chunk_some None x e p = cc
  chunk_some (Some y) x e q = let z : y ≡ x = cc in rw z at q

pub joined_parts : (xs ys zs : List ℕ) → length xs ≡ 8 → length zs ≡ 12 → put_mid 8 12 (xs ++ zs) ys ≡ xs ++ ys
joined_parts xs ys zs h g =
    let front : take 8 (xs ++ zs) ≡ xs = take_at xs zs 8 h in
    let rest : post_of 8 12 (xs ++ zs) ≡ [] = drop_all 12 (drop 8 (xs ++ zs)) (simp (length-drop, length-append) (omega arith)) in
    rw (front, rest, append-nil ys) refl
