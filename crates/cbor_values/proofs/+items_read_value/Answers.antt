use mathlib.Core.Path.{◌≡◌, sym, ◌∙◌}
use native.Mathlib.Omega.{arith}
use Rattle.std.proofs.lemmas.Result.{err_from_is_err_and}
use Rattle.cbor_heads.proofs.HeadLaws.{next_in}
use Rattle.cbor_values.proofs.ItemReads.{no_head, number, bytes, text, other, too_deep, array, none_read, item_bad, item_read, all_read}
use Rattle.cbor_values.proofs.+items_read_value.Goals as goal

pub items-loop-init : goal.items-loop-init
items-loop-init t c = none_read _ _ _

pub items-returns-in_err-p : goal.items-returns-in_err-p
items-returns-in_err-p t c =
    let p = err_from_is_err_and c.from_residual.result c.from_residual.ensures.1 in
    rw (p.1, p.2) (item_bad _ _ _ _ _ c.loop.invariant c.loop-test.true (sym c.read_value.ensures ∙ c.in_err-p.was))

pub items-loop-preserved : goal.items-loop-preserved
items-loop-preserved t c = item_read _ _ _ _ _ c.loop.invariant c.loop-test.true (sym c.read_value.ensures ∙ c.in_ok-p.was)

pub items-returns : goal.items-returns
items-returns t c = all_read _ _ _ _ _ c.loop.invariant c.loop-test.false

pub read_value-run-requires : goal.read_value-run-requires
read_value-run-requires t c = (next_in _ _ (sym c.read_head.ensures ∙ c.in_ok-major.was)).1

pub read_value-text-requires : goal.read_value-text-requires
read_value-text-requires t c = (next_in _ _ (sym c.read_head.ensures ∙ c.in_ok-major.was)).1

pub read_value-returns-in_err-major : goal.read_value-returns-in_err-major
read_value-returns-in_err-major t c =
    let p = err_from_is_err_and c.from_residual.result c.from_residual.ensures.1 in
    rw (p.1, p.2) (no_head _ _ _ (sym c.read_head.ensures ∙ c.in_err-major.was))

pub read_value-returns-in-2 : goal.read_value-returns-in-2
read_value-returns-in-2 t c = c.run.ensures ∙ bytes _ _ _ (sym c.read_head.ensures ∙ c.in_ok-major.was) c.in-2.is

pub read_value-returns-in-3 : goal.read_value-returns-in-3
read_value-returns-in-3 t c = c.text.ensures ∙ text _ _ _ (sym c.read_head.ensures ∙ c.in_ok-major.was) c.in-3.is

pub read_value-returns-then-depth-eq0 : goal.read_value-returns-then-depth-eq0
read_value-returns-then-depth-eq0 t c = too_deep _ _ (sym c.read_head.ensures ∙ c.in_ok-major.was) c.in-4.is _ c.if-depth-eq0.true

pub read_value-returns-else-depth-eq0 : goal.read_value-returns-else-depth-eq0
read_value-returns-else-depth-eq0 t c = c.items.ensures ∙ array _ _ (sym c.read_head.ensures ∙ c.in_ok-major.was) c.in-4.is _ c.if-depth-eq0.false

pub read_value-returns-in-0 : goal.read_value-returns-in-0
read_value-returns-in-0 t c = number _ _ _ (sym c.read_head.ensures ∙ c.in_ok-major.was) c.in-0.if-major-lt2-own.true

pub read_value-returns-in_default : goal.read_value-returns-in_default
read_value-returns-in_default t c = other _ _ _ (sym c.read_head.ensures ∙ c.in_ok-major.was) c.in_default.if-major-lt2-own.false c.in_default.in_default-own.rest.0.0.0.1 c.in_default.in_default-own.rest.0.0.1 c.in_default.in_default-own.rest.0.1 c.in_default.in_default-own.rest.1
