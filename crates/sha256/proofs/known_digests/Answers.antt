use Rattle.std.proofs.Common.{refl}
use Rattle.sha256.specs.Padding.{padding, padded, words_from}
use Rattle.sha256.specs.Hash.{schedule, rounds, blocks_done, bytes_of, digest}
use Rattle.sha256.proofs.known_digests.Goals as goal

pub returns : goal.returns
unfolding padding padded words_from schedule rounds blocks_done bytes_of digest
returns c = record { empty = refl; abc = refl; nine = refl }
