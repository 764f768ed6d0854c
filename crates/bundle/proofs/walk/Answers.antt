use mathlib.Core.Path.{sym, ◌∙◌}
use Rattle.bundle.proofs.Going.{going_none, ends, cut, other, token_fits, falls, table_one, request_one, token_one}
use Rattle.bundle.proofs.walk.Goals as goal

pub loop-p-init : goal.loop-p-init
loop-p-init c = going_none _ _ c.requires.0

pub returns-in-None : goal.returns-in-None
returns-in-None c = cut c.loop-p.invariant c.requires.1 c.loop-p-test.true (sym c.record_at.ensures ∙ c.in-None.is) c.put_at.ensures

pub put_line-n-requires : goal.put_line-n-requires
put_line-n-requires c = token_fits c.loop-p.invariant c.requires.1 c.loop-p-test.true (sym c.in-Some.ensures) _

pub returns-else-kind-eq-TOKEN_KIND : goal.returns-else-kind-eq-TOKEN_KIND
returns-else-kind-eq-TOKEN_KIND c = other c.loop-p.invariant c.requires.1 c.loop-p-test.true (sym c.in-Some.ensures) c.if-kind-eq-TABLE_KIND.false c.if-kind-eq-REQUEST_KIND.false c.if-kind-eq-TOKEN_KIND.false c.put_at-else-kind-eq-TOKEN_KIND.ensures

pub loop-p-smaller-then-kind-eq-TABLE_KIND : goal.loop-p-smaller-then-kind-eq-TABLE_KIND
loop-p-smaller-then-kind-eq-TABLE_KIND c = falls c.loop-p.invariant c.requires.1 c.loop-p-test.true (sym c.in-Some.ensures) (λ i. (c.type_inv.input i).fits)

pub loop-p-preserved-then-kind-eq-TABLE_KIND : goal.loop-p-preserved-then-kind-eq-TABLE_KIND
loop-p-preserved-then-kind-eq-TABLE_KIND c = table_one c.loop-p.invariant c.requires.1 c.loop-p-test.true (sym c.in-Some.ensures) (λ i. (c.type_inv.input i).fits) c.if-kind-eq-TABLE_KIND.true

pub loop-p-smaller-then-kind-eq-REQUEST_KIND : goal.loop-p-smaller-then-kind-eq-REQUEST_KIND
loop-p-smaller-then-kind-eq-REQUEST_KIND c = falls c.loop-p.invariant c.requires.1 c.loop-p-test.true (sym c.in-Some.ensures) (λ i. (c.type_inv.input i).fits)

pub loop-p-preserved-then-kind-eq-REQUEST_KIND : goal.loop-p-preserved-then-kind-eq-REQUEST_KIND
loop-p-preserved-then-kind-eq-REQUEST_KIND c = request_one c.loop-p.invariant c.requires.1 c.loop-p-test.true (sym c.in-Some.ensures) (λ i. (c.type_inv.input i).fits) c.if-kind-eq-TABLE_KIND.false c.if-kind-eq-REQUEST_KIND.true

pub loop-p-smaller : goal.loop-p-smaller
loop-p-smaller c = falls c.loop-p.invariant c.requires.1 c.loop-p-test.true (sym c.in-Some.ensures) (λ i. (c.type_inv.input i).fits)

pub loop-p-preserved : goal.loop-p-preserved
loop-p-preserved c = token_one c.loop-p.invariant c.requires.1 c.loop-p-test.true (sym c.in-Some.ensures) (λ i. (c.type_inv.input i).fits) c.if-kind-eq-TABLE_KIND.false c.if-kind-eq-REQUEST_KIND.false c.if-kind-eq-TOKEN_KIND.true c.lend.ensures.result_value c.lend-then-kind-eq-TOKEN_KIND.ensures.result_value c.lend-then-kind-eq-TOKEN_KIND-2.ensures.result_value c.verify-answer.ensures c.put_line-n.ensures

pub returns : goal.returns
returns c = ends c.loop-p.invariant c.loop-p-test.false
