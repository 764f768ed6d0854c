use Rattle.cbor_values.proofs.Utf8Laws.{Walked}
use Rattle.cbor_values.proofs.is_utf8.Given as goal

abbrev pub invariant-loop-c : goal.invariant-loop-c
invariant-loop-c l = Walked l.s l.asked l.c-index
