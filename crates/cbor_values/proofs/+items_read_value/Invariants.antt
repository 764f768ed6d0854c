use Rattle.std.proofs.Common.{◌≡◌, ◌+◌, ◌*◌}
use Rattle.cbor_values.specs.Reading.{value_of}
use Rattle.cbor_values.proofs.ItemReads.{IsReadTo}
use Rattle.cbor_values.proofs.+items_read_value.Given as goal

abbrev pub decreases-items : goal.decreases-items
decreases-items l = l.depth * 2 + 1

abbrev pub decreases-read_value : goal.decreases-read_value
decreases-read_value l = l.depth * 2

abbrev pub invariant-items-loop : goal.invariant-items-loop
invariant-items-loop l = IsReadTo (value_of l.depth l.s) l.count l.at l.counter l.p
