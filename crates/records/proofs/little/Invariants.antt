use Rattle.std.proofs.Common.{◌≡◌, ◌<◌, ◌^◌, length, map, reverse}
use Rattle.records.specs.Records.{little_of}
use Rattle.records.proofs.little.Given as goal

-- the last bytes, as many as were taken
abbrev pub invariant-loop-b : goal.invariant-loop-b
invariant-loop-b l = record { sum : l.n ≡ little_of (reverse (map (λ b. b.now) l.yielded)); small : l.n < 256 ^ length l.yielded }
