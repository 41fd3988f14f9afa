use Rattle.words.proofs.Items.{joined_items}
use Rattle.words.proofs.air_word.joined.Goals as goal

pub returns : goal.returns
returns c =
    joined_items c.args.body c.args.sum c.copy_from_slice.new.self c.copy_from_slice-2.new.self c.copy_from_slice.ensures.len c.copy_from_slice.ensures.after c.copy_from_slice-2.ensures.after
