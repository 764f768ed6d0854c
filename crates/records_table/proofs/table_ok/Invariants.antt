use Rattle.std.proofs.Common.{◌≡◌, ◌-◌}
use Rattle.records_table.specs.Reading.{ok_from, table_ok}
use Rattle.records_table.proofs.table_ok.Given as goal

-- so many rows may follow, and what follows the last one decides
abbrev pub invariant-loop-row : goal.invariant-loop-row
invariant-loop-row l = ok_from (64 - l._row) l.s l.last.tid.now l.last.kid.now l.at ≡ table_ok l.s
