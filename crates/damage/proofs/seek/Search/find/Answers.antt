-- Where no word may be off.
use Rattle.damage.proofs.Answering.{none_first}
use Rattle.damage.proofs.Trying.{tried-some, tried-weaker}
use Rattle.damage.proofs.seek.Search.find.Goals as goal
use Rattle.damage.proofs.seek.Search.find.Goals.{then-is_some-via-then-is_some, then-is_some-via-else-is_some+then-self-eq0}

pub returns-then-is_some : goal.returns-then-is_some
returns-then-is_some c =
    elim c.then-is_some.branch [
      | then-is_some-via-then-is_some w ↦ tried-some _ _ _ _ _ _ _ w.if-is_some.ensures c.attempt-found.ensures
      | then-is_some-via-else-is_some+then-self-eq0 w ↦
          let here = c.args.self.now in
          tried-weaker _ _ _ _ _ _ _ (none_first _ here.spare here.words.now w.if-self-eq0.true c.requires.enough here.sound) c.attempt-found.ensures
    ]
