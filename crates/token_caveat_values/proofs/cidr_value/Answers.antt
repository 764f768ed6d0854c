use mathlib.Core.Path.{sym, ◌∙◌}
use Rattle.cbor_strings.proofs.RunReads.{found}
use Rattle.token_caveat_values.proofs.cidr_value.Goals as goal

pub slice_bounds-read_cidr-count : goal.slice_bounds-read_cidr-count
slice_bounds-read_cidr-count c = (found _ _ 3 0 0xffffffffffffffff (sym c.read_run.ensures ∙ c.in_ok-from.was)).order

pub slice_bounds-read_cidr-start : goal.slice_bounds-read_cidr-start
slice_bounds-read_cidr-start c = (found _ _ 3 0 0xffffffffffffffff (sym c.read_run.ensures ∙ c.in_ok-from.was)).order

pub slice_bounds-read_cidr-end : goal.slice_bounds-read_cidr-end
slice_bounds-read_cidr-end c = (found _ _ 3 0 0xffffffffffffffff (sym c.read_run.ensures ∙ c.in_ok-from.was)).inside
