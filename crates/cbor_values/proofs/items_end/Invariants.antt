use Rattle.cbor_values.proofs.ItemReads.{IsReadTo}
use Rattle.cbor_values.proofs.items_end.Given as goal

abbrev pub invariant-loop : goal.invariant-loop
invariant-loop g l = IsReadTo (g.I.Item.item l.s) l.count l.at l.counter l.p
