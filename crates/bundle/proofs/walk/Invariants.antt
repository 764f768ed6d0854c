use Prim.Native.Nat.{◌-◌}
use lib.ListN.{length}
use Rattle.bundle.proofs.Going.{Going}
use Rattle.bundle.proofs.walk.Given as goal

abbrev pub invariant-loop-p : goal.invariant-loop-p
invariant-loop-p l = Going l.input l.initial.room l.room l.p l.n l.table l.request

abbrev pub decreases-loop-p : goal.decreases-loop-p
decreases-loop-p l = length l.input - l.p
