use Rattle.std.proofs.Common.{◌≡◌, length, ap, ◌∙◌, arith, rules}
use Rattle.hash_mixing.specs.Compression.{rounds_of}
use Rattle.hash_mixing.proofs.Rounding.{one_round, last_round}
use Rattle.hash_mixing.proofs.Picking.{first_picked, next_picked}
use Rattle.hash_mixing.proofs.seven_rounds.Goals as goal

pub returns : goal.returns
returns c =
    let m = c.args.m in
    let size : length m ≡ 16 = search rules in
    last_round _ _ c.round-7.ensures
    ∙ one_round _ _ 1 c.round-6.ensures (next_picked m size 5 (omega arith))
    ∙ one_round _ _ 2 c.round-5.ensures (next_picked m size 4 (omega arith))
    ∙ one_round _ _ 3 c.round-4.ensures (next_picked m size 3 (omega arith))
    ∙ one_round _ _ 4 c.round-3.ensures (next_picked m size 2 (omega arith))
    ∙ one_round _ _ 5 c.round-2.ensures (next_picked m size 1 (omega arith))
    ∙ one_round _ _ 6 c.round.ensures (next_picked m size 0 (omega arith))
    ∙ ap (rounds_of 7 c.args.v.now) (first_picked m size)
