-- What `split_once` says at an ASCII character, and so where the text is cut.
use Rattle.sender_words.proofs.Cutting.{cut_some, cut_none}
use Rattle.std.proofs.lemmas.Str.Pattern.{split_parts}
use Rattle.std.proofs.Common.{Some, None}
use Rattle.sender_words.proofs.pieces.cut.Goals as goal

pub returns-in-Some : goal.returns-in-Some
returns-in-Some c =
    let p = split_parts c.args.at c.args.text.now (Some (c.in-Some.front, c.in-Some.back)) c.in-Some.ensures.cases c.requires in
    let q = cut_some c.args.at c.args.text.now c.in-Some.front.now c.in-Some.back.now p in
    record { front = q.0; back = q.1 }

pub returns-in-None : goal.returns-in-None
returns-in-None c =
    let p = split_parts c.args.at c.args.text.now None c.in-None.ensures.cases c.requires in
    let q = cut_none c.args.at c.args.text.now p in
    record { front = q.0; back = q.1 }
