use mathlib.Core.Path.{sym, ◌∙◌}
use Rattle.outcome.proofs.Carrying.{refused_is, moved}
use Rattle.narrow.proofs.Narrowed.{narrow_bad_table, narrow_good_table}
use Rattle.narrow.proofs.narrow.Goals as goal

pub returns-then-not-table_ok-clause-carried : goal.returns-then-not-table_ok-clause-carried
returns-then-not-table_ok-clause-carried c = moved (narrow_bad_table c.args.table.now c.args.token.now c.args.caveat.now (sym c.table_ok.ensures ∙ c.if-not-table_ok.true)) refused_is

pub returns-clause-carried : goal.returns-clause-carried
returns-clause-carried c = moved (narrow_good_table c.args.table.now c.args.token.now c.args.caveat.now (sym c.table_ok.ensures ∙ c.if-not-table_ok.false)) c.narrow_text.ensures.carried
