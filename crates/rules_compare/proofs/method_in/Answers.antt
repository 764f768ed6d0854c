use Rattle.std.proofs.Common.{◌∙◌, sym}
use Rattle.rules_compare.proofs.Walks.{no_method, this_method, next_method, none_left}
use Rattle.rules_compare.proofs.method_in.Goals as goal

pub returns-in_default : goal.returns-in_default
returns-in_default c = no_method _ _ _ _ _ c.loop.invariant c.loop-test.true (sym c.read_string.ensures ∙ c.in_default.is)

pub returns-then-eq : goal.returns-then-eq
returns-then-eq c = this_method _ _ _ _ _ c.loop.invariant c.loop-test.true (sym c.read_string.ensures ∙ c.in-Ok.is) (sym c.eq.ensures ∙ c.if-eq.true)

pub loop-preserved : goal.loop-preserved
loop-preserved c = next_method _ _ _ _ _ c.loop.invariant c.loop-test.true (sym c.read_string.ensures ∙ c.in-Ok.is) (sym c.eq.ensures ∙ c.if-eq.false)

pub returns : goal.returns
returns c = none_left _ _ _ _ _ c.loop.invariant c.loop-test.false
