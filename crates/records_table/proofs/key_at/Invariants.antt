use Rattle.std.proofs.Common.{◌≡◌, ◌-◌}
use Rattle.records_table.specs.Reading.{key_from}
use Rattle.records_table.proofs.key_at.Given as goal

-- so many rows may follow, and what follows decides
abbrev pub invariant-loop : goal.invariant-loop
invariant-loop l = key_from (64 - l.counter) l.table l.tid l.kid l.p ≡ key_from 64 l.table l.tid l.kid 0
