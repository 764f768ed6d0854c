use Rattle.std.proofs.Common.{◌≡◌, ◌-◌}
use Rattle.rules_compare.specs.Comparing.{member_at, member_in}
use Rattle.rules_compare.proofs.method_in.Given as goal

abbrev pub invariant-loop : goal.invariant-loop
invariant-loop l = member_at (l.end - l.counter) l.s l.method l.p ≡ member_in l.s l.fn.methods l.method
