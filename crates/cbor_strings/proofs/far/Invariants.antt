use Rattle.std.proofs.Common.{◌≡◌, ◌||◌, ◌-◌, drop}
use Rattle.cbor_strings.specs.Inner.{near_in}
use Rattle.cbor_strings.proofs.far.Given as goal

abbrev pub invariant-loop-i : goal.invariant-loop-i
invariant-loop-i l = l.near || near_in (drop (l.i - 1) l.s) ≡ near_in l.s
