use Rattle.cbor_writing.proofs.BigLoop.{Put}
use Rattle.cbor_writing.proofs.put_big.Given as goal

abbrev pub invariant-loop-i : goal.invariant-loop-i
invariant-loop-i l = Put l.k l.n l.initial.room l.room l.v l.i
