use Rattle.std.specs.Iterator.Adapters.{zip_first, zip_second}
use Rattle.std.specs.Slice.Iter.{iter_rest}
use Rattle.token_cidr.proofs.Comparing.{Compared}
use Rattle.token_cidr.proofs.first_bits_agree.Given as goal

abbrev pub invariant-loop-a : goal.invariant-loop-a
invariant-loop-a l = Compared l.x l.y l.n (iter_rest (zip_first l.a-iterator)) (iter_rest (zip_second l.a-iterator)) l.left
