use Rattle.std.proofs.Common.{◌≡◌, ◌∙◌, sym, refl, ap, arith, ◌+◌, ◌-◌, ◌*◌, eqb, List, ℕ}
use borrow.Author.Tests.{eq-eqb, ne_eqb}
use Rattle.basis.specs.Basis.{pick}
use Rattle.hash_mixing.specs.Compression.{compress_of}
use Rattle.hash_chunks.specs.Chunks.{words_of, keyed}
use Rattle.hash_chunks.proofs.Blocks.{run_start, run_turn, run_end}
use Rattle.hash_chunks.proofs.run.Goals as goal
use Rattle.hash_chunks.proofs.run.Goals.{then-i-eq0, else-i-eq0, then-i-count, else-i-count}

pub loop-i-init : goal.loop-i-init
loop-i-init c = run_start c.args.m _ _ _ _ c.requires.0 (omega arith) _

pub loop-i-preserved : goal.loop-i-preserved
loop-i-preserved c =
    let i = c.loop-i.i in
    let n = c.max-count.result in
    let start : c.if-i-eq0.start ≡ pick (eqb i 0) c.args.first 0 =
    elim c.if-i-eq0.branch [
      | then-i-eq0 w ↦ w.start-is ∙ rw (eq-eqb i 0 w.if-i-eq0.true) refl
      | else-i-eq0 w ↦ w.start-is ∙ rw (ne_eqb i 0 w.if-i-eq0.false) refl
    ] in
    let stop : c.if-i-count.stop ≡ pick (eqb (i + 1) n) c.args.last 0 =
    elim c.if-i-count.branch [
      | then-i-count w ↦ w.stop-is ∙ rw (eq-eqb (i + 1) n w.if-i-count.true) refl
      | else-i-count w ↦ w.stop-is ∙ rw (ne_eqb (i + 1) n w.if-i-count.false) refl
    ] in
    let state = c.compress-next.ensures
    ∙ ap (λ (m : List ℕ). compress_of c.loop-i.h m c.args.counter (c.min-end.result - i * 64) (keyed + c.if-i-eq0.start + c.if-i-count.stop))
    (c.block-block.ensures ∙ ap (words_of 16) c.part.ensures) in
    run_turn c.args.m _ _ _ _ c.requires.0 (omega arith) _ _ i _ _ _ c.loop-i-test.true (omega arith) start stop state ∙ c.loop-i.invariant

pub returns : goal.returns
returns c = sym (run_end c.args.m _ _ _ _ c.requires.0 (omega arith) _ c.loop-i.i c.loop-i-test.false) ∙ c.loop-i.invariant
