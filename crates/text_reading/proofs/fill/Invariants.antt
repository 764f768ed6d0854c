use Rattle.std.proofs.Common.{◌≡◌, ◌*◌, take}
use Rattle.basis.specs.Basis.{over}
use Rattle.text_reading.specs.Reading.{bytes_of}
use Rattle.text_reading.proofs.fill.Given as goal

abbrev pub invariant-loop-k : goal.invariant-loop-k
invariant-loop-k l = l.room ≡ over (bytes_of (take (l.k * 4) l.text)) l.fn.room
