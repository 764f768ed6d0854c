use Rattle.std.proofs.Common.{arith, rules}
use Rattle.text_reading.proofs.Decoding.{sound}
use Rattle.text_reading.proofs.decode.Goals as goal

pub fill-requires-clause-letters : goal.fill-requires-clause-letters
fill-requires-clause-letters c = (sound c.args.text.now {n = c.in_ok-n.n} (search rules)).letters

pub fill-requires-clause-enough : goal.fill-requires-clause-enough
fill-requires-clause-enough c = let e = (sound c.args.text.now {n = c.in_ok-n.n} (search rules)).count in omega arith
