-- The words kept are the first s of those left.
use Rattle.std.proofs.Common.{rules}
use Rattle.damage.proofs.Trying.{front, tried-left}
use Rattle.damage.proofs.seek.Search.without.Goals as goal

pub returns : goal.returns
returns c = tried-left _ _ c.args.self.now.words.now _ _ _ _ _ c.args.self.now.sound c.requires.enough (front _ _ _ _ c.keep.ensures (search rules) c.requires.enough) c.attempt.ensures
