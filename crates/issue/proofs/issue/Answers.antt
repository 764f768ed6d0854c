use mathlib.Core.Path.{sym, ◌∙◌}
use native.Mathlib.Omega.{arith}
use Rattle.std.proofs.lemmas.Result.{err_from_is_err_and}
use Rattle.outcome.proofs.Carrying.{refused_is, moved}
use Rattle.issue.proofs.Fresh.{issuable, issue_bad_table, issue_bad_scope, issue_left_over, issue_found}
use Rattle.issue.proofs.issue.Goals as goal

pub returns-then-not-table_ok-clause-carried : goal.returns-then-not-table_ok-clause-carried
returns-then-not-table_ok-clause-carried c = moved (issue_bad_table c.args.table.now c.args.tid.now c.args.kid.now c.args.scope.now (sym c.table_ok.ensures ∙ c.if-not-table_ok.true)) refused_is

pub returns-in_err-next-clause-carried : goal.returns-in_err-next-clause-carried
returns-in_err-next-clause-carried c =
    let p = err_from_is_err_and c.from_residual.result c.from_residual.ensures.1 in
    rw (p.1, p.2) (moved (issue_bad_scope c.args.table.now c.args.tid.now c.args.kid.now c.args.scope.now (sym c.table_ok.ensures ∙ c.if-not-table_ok.false) (sym c.read_scope.ensures ∙ c.in_err-next.was)) refused_is)

pub issue_with-requires : goal.issue_with-requires
issue_with-requires c = issuable c.args.table.now c.args.tid.now c.args.kid.now c.args.scope.now _ (λ i. (c.type_inv.table i).fits) (λ i. (c.type_inv.scope i).fits) (sym c.table_ok.ensures ∙ c.if-not-table_ok.false) (sym c.read_scope.ensures ∙ c.in_ok-next.was) (omega arith) c.find.ensures.result_value

pub returns-then-next-scope-clause-carried : goal.returns-then-next-scope-clause-carried
returns-then-next-scope-clause-carried c = moved (issue_left_over c.args.table.now c.args.tid.now c.args.kid.now c.args.scope.now (sym c.table_ok.ensures ∙ c.if-not-table_ok.false) (sym c.read_scope.ensures ∙ c.in_ok-next.was) (omega arith)) refused_is

pub returns-clause-carried : goal.returns-clause-carried
returns-clause-carried c = moved (issue_found c.args.table.now c.args.tid.now c.args.kid.now c.args.scope.now (sym c.table_ok.ensures ∙ c.if-not-table_ok.false) (sym c.read_scope.ensures ∙ c.in_ok-next.was) (omega arith) c.find.ensures.result_value) c.issue_with.ensures.carried
