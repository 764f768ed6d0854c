use Rattle.std.proofs.Common.{◌≡◌}
use Rattle.hash_chunks.specs.Chunks.{blocks_of}
use Rattle.hash_chunks.proofs.Blocks.{run_of}
use Rattle.hash_chunks.proofs.run.Given as goal

abbrev pub invariant-loop-i : goal.invariant-loop-i
invariant-loop-i l = run_of l.count l.h l.m l.counter l.first l.last l.i ≡ blocks_of 15 l.initial.h l.m l.counter l.first l.last
