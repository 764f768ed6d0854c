use mathlib.Core.Path.{sym, ◌∙◌}
use Rattle.cbor_strings.proofs.RunReads.{found}
use Rattle.cbor_strings.proofs.read_string.Goals as goal

pub slice_bounds-content_is-count : goal.slice_bounds-content_is-count
slice_bounds-content_is-count c = (let a = c.args in found a.s.now a.at 3 a.low a.high (sym c.read_run.ensures ∙ c.in_ok-span.was)).order

pub slice_bounds-content_is-start : goal.slice_bounds-content_is-start
slice_bounds-content_is-start c = (let a = c.args in found a.s.now a.at 3 a.low a.high (sym c.read_run.ensures ∙ c.in_ok-span.was)).order

pub slice_bounds-content_is-end : goal.slice_bounds-content_is-end
slice_bounds-content_is-end c = (let a = c.args in found a.s.now a.at 3 a.low a.high (sym c.read_run.ensures ∙ c.in_ok-span.was)).inside
