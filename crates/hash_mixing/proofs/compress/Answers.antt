use Rattle.std.proofs.Common.{ap}
use Rattle.std.proofs.lemmas.Nat.{and_mask}
use Rattle.hash_mixing.specs.Compression.{start_of, folded_of, compress_of}
use Rattle.hash_mixing.proofs.compress.Goals as goal

pub returns : goal.returns
unfolding compress_of start_of folded_of
returns c = ap folded_of (rw (and_mask c.args.counter 32) at c.seven_rounds.ensures)
