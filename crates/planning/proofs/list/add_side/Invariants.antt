-- Found are all that serve and come before this q and d.
use Rattle.std.proofs.Common.{vec_items}
use Rattle.planning.specs.Wishes.{AllBefore, asked, settings_of}
use Rattle.planning.proofs.list.add_side.Given as goal

abbrev pub invariant-loop-d : goal.invariant-loop-d
invariant-loop-d l = AllBefore l.wish (asked l.wish l.q l.d) (settings_of (vec_items l.found))
