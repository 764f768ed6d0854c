use Rattle.std.proofs.Common.{◌∙◌, arith, ◌/◌, ◌<◌, length}
use Rattle.std.proofs.lemmas.List.{length-replicate}
use Rattle.basis.proofs.Tabs.{tab_start, tab_step, tab_end}
use Rattle.hash_chunks.proofs.LowFirst.{quad}
use Rattle.hash_chunks.proofs.words.Goals as goal

pub loop-i-init : goal.loop-i-init
loop-i-init g c = tab_start _ _

pub loop-i-preserved : goal.loop-i-preserved
loop-i-preserved g c =
    let i : c.loop-i.i < length c.args.s.now / 4 = omega arith in
    tab_step _ _ _ _ _ c.loop-i.invariant (rw length-replicate c.loop-i-test.true)
    (c.from_le_bytes.ensures ∙ rw c.as_chunks.ensures.front (quad _ _ c.args.s.now i))

pub returns : goal.returns
returns g c = rw length-replicate at (tab_end _ _ _ _ c.loop-i.invariant (rw length-replicate c.loop-i-test.false))
