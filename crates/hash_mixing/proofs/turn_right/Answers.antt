use Rattle.std.proofs.Common.{◌≡◌, ◌+◌, ◌-◌, arith}
use Rattle.hash_mixing.specs.Compression.{turn}
use Rattle.hash_mixing.proofs.Turning.{turned}
use Rattle.basis.proofs.Powers.{one_shifted}
use Rattle.hash_mixing.proofs.turn_right.Goals as goal

pub returns : goal.returns
unfolding turn
returns c = let x = c.args.x in
    let n = c.args.n in
    let e : n + (32 - n) ≡ 32 = omega arith in
    let f : (32 - n) + n ≡ 32 = omega arith in
    rw (one_shifted n 32 c.requires.1) (turned x n (32 - n) 32 e (rw f c.ranges.x.fits))
