use Rattle.records.proofs.Runs.{slices}
use Rattle.records.proofs.text_at.Goals as goal

pub slice_bounds-content_is-count : goal.slice_bounds-content_is-count
slice_bounds-content_is-count c = (slices _ _ _ _ c.in_ok-span.ensures).0

pub slice_bounds-content_is-start : goal.slice_bounds-content_is-start
slice_bounds-content_is-start c = (slices _ _ _ _ c.in_ok-span.ensures).0

pub slice_bounds-content_is-end : goal.slice_bounds-content_is-end
slice_bounds-content_is-end c = (slices _ _ _ _ c.in_ok-span.ensures).1
