use Rattle.records.proofs.Runs.{slices}
use Rattle.records.proofs.little_at.Goals as goal

pub slice_bounds-little-count : goal.slice_bounds-little-count
slice_bounds-little-count c = (slices _ _ _ _ c.in_ok-from.ensures).0

pub slice_bounds-little-start : goal.slice_bounds-little-start
slice_bounds-little-start c = (slices _ _ _ _ c.in_ok-from.ensures).0

pub slice_bounds-little-end : goal.slice_bounds-little-end
slice_bounds-little-end c = (slices _ _ _ _ c.in_ok-from.ensures).1
