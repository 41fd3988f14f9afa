use Rattle.std.proofs.Common.{rules, ◌∙◌, arith}
use Rattle.std.proofs.lemmas.List.{length-append}
use Rattle.sha256.proofs.Zones.{padded_first, padded_rest}
use Rattle.sha256.specs.Message.{bytes}
use Rattle.sha256.proofs.padding.padded_at.Goals as goal

pub returns-then-i-size : goal.returns-then-i-size
returns-then-i-size c =
    let m = c.args.message.now in
    let l = length-append m.first.now m.second.now in
    c.byte.ensures ∙ padded_first (bytes m) c.args.i (omega arith)

pub returns-else-i-size : goal.returns-else-i-size
returns-else-i-size c = search (rules, padded_rest)
