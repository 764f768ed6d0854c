use Rattle.std.proofs.Common.{◌≡◌, length, rules}
use Rattle.hash_mixing.proofs.Rounding.{columns, diagonals, mixed_round}
use Rattle.hash_mixing.proofs.round.Goals as goal

pub returns : goal.returns
returns c =
    let s = c.args in
    let size : length s.v.now ≡ 16 = search rules in
    let half : length c.mix-4.new.v ≡ 16 = search rules in
    let e = columns s.m s.o s.v.now size c.mix.ensures c.mix-2.ensures c.mix-3.ensures c.mix-4.ensures in
    mixed_round s.m s.o s.v.now size e (diagonals s.m s.o _ half c.mix-5.ensures c.mix-6.ensures c.mix-7.ensures c.mix-8.ensures)
