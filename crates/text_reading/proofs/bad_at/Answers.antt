use Rattle.std.proofs.Common.{◌∙◌}
use Rattle.text_reading.proofs.Judging.{place_past}
use Rattle.text_reading.proofs.bad_at.Goals as goal

pub returns-in_err-at : goal.returns-in_err-at
returns-in_err-at c =
    let groups = c.as_chunks.ensures in
    c.from_residual.ensures ∙ place_past _ _ _ _ groups.front groups.front_len (rw c.bad_group.ensures at c.unwrap_or-passed.ensures) c.in_err-at.ensures

pub returns : goal.returns
returns c =
    let groups = c.as_chunks.ensures in
    place_past _ _ _ _ groups.front groups.front_len (rw c.bad_group.ensures at c.unwrap_or-passed.ensures) c.in_ok-at.ensures
