use mathlib.Core.Path.{sym, ◌∙◌}
use Rattle.cbor_values.proofs.Utf8Laws.{never, walked_one, walked_all}
use Rattle.cbor_values.proofs.is_utf8.Goals as goal

pub returns-in_default : goal.returns-in_default
returns-in_default c = never _ _ _ c.loop-c.invariant c.loop-c-test.true (sym c.step.ensures ∙ c.in_default.is)

pub loop-c-preserved : goal.loop-c-preserved
loop-c-preserved c = walked_one _ _ _ c.loop-c.invariant c.loop-c-test.true (sym c.step.ensures ∙ c.in-Some.is)

pub returns : goal.returns
returns c = walked_all _ _ _ c.loop-c.invariant c.loop-c-test.false
