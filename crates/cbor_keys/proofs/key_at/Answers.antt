use mathlib.Core.Path.{sym}
use Rattle.cbor_strings.proofs.RunReads.{found}
use Rattle.cbor_keys.proofs.key_at.Goals as goal

pub slice_bounds-key_index-count : goal.slice_bounds-key_index-count
slice_bounds-key_index-count c = (found c.args.s.now c.args.at 3 0 0xffffffffffffffff (sym c.in_ok-span.ensures)).order

pub slice_bounds-key_index-start : goal.slice_bounds-key_index-start
slice_bounds-key_index-start c = (found c.args.s.now c.args.at 3 0 0xffffffffffffffff (sym c.in_ok-span.ensures)).order

pub slice_bounds-key_index-end : goal.slice_bounds-key_index-end
slice_bounds-key_index-end c = (found c.args.s.now c.args.at 3 0 0xffffffffffffffff (sym c.in_ok-span.ensures)).inside
