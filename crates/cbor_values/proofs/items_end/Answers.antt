use mathlib.Core.Path.{sym, ◌∙◌}
use Rattle.std.proofs.lemmas.Result.{err_from_is_err_and}
use Rattle.cbor_values.proofs.ItemReads.{none_read, item_bad, item_read, all_read}
use Rattle.cbor_values.proofs.items_end.Goals as goal

pub loop-init : goal.loop-init
loop-init g c = none_read _ _ _

pub returns-in_err-p : goal.returns-in_err-p
returns-in_err-p g c =
    let p = err_from_is_err_and c.from_residual.result c.from_residual.ensures.1 in
    rw (p.1, p.2) (item_bad _ _ _ _ _ c.loop.invariant c.loop-test.true (sym c.end.ensures ∙ c.in_err-p.was))

pub loop-preserved : goal.loop-preserved
loop-preserved g c = item_read _ _ _ _ _ c.loop.invariant c.loop-test.true (sym c.end.ensures ∙ c.in_ok-p.was)

pub returns : goal.returns
returns g c = all_read _ _ _ _ _ c.loop.invariant c.loop-test.false
