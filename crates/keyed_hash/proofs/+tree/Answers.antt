use Rattle.std.proofs.Common.{◌<◌, length, arith, ap}
use Rattle.std.proofs.Math.Nat.{sub-zero}
use lib.ListN.{length-take, length-drop}
use Rattle.keyed_hash.proofs.Halves.{not_flat, fit_left, fit_right, whole, halves}
use Rattle.keyed_hash.proofs.+tree.Goals as goal

pub tree-requires : goal.tree-requires
tree-requires t c =
    let g : 1024 < length c.args.m = omega arith in
    let z = not_flat _ _ _ _ _ c.requires g c.chunks-c.ensures in
    (omega (arith, z), fit_left _ _ _ _ _ c.requires g c.chunks-c.ensures _ _ (omega arith) c.requires.flag)

pub returns-then-n-l : goal.returns-then-n-l
returns-then-n-l t c = whole c.args.key c.args.m _ _ _ _ c.requires (omega arith) c.chunks-c.ensures (omega arith) c.tree.ensures

pub tree-left-requires : goal.tree-left-requires
tree-left-requires t c =
    let g : 1024 < length c.args.m = omega arith in
    let z = not_flat _ _ _ _ _ c.requires g c.chunks-c.ensures in
    let m = simp (sub-zero, length-take) at (ap length c.part.ensures) in
    (omega (arith, z), fit_left _ _ _ _ _ c.requires g c.chunks-c.ensures _ _ (omega arith) (omega arith))

pub tree-right-requires : goal.tree-right-requires
tree-right-requires t c =
    let g : 1024 < length c.args.m = omega arith in
    let z = not_flat _ _ _ _ _ c.requires g c.chunks-c.ensures in
    let m = simp (length-take, length-drop) at (ap length c.part-2.ensures) in
    (omega (arith, z), fit_right _ _ _ _ _ c.requires g c.chunks-c.ensures _ (omega arith))

pub returns : goal.returns
returns t c =
    halves c.args.key c.args.m _ _ _ _ c.requires (omega arith) c.chunks-c.ensures _ c.len-n.ensures (omega arith)
    c.part.ensures c.part-2.ensures c.tree-left.ensures c.tree-right.ensures c.parent.ensures
