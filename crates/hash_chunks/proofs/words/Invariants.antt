use Rattle.std.proofs.Common.{◌*◌}
use Rattle.basis.proofs.Tabs.{Tabbed}
use Rattle.hash_chunks.specs.Chunks.{le32}
use Rattle.hash_chunks.proofs.words.Given as goal

abbrev pub invariant-loop-i : goal.invariant-loop-i
invariant-loop-i g l = Tabbed (λ i. le32 l.s (i * 4)) l.initial.w l.w l.i
