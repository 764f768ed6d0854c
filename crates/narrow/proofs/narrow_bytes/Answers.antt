use mathlib.Core.Path.{sym, ◌∙◌}
use Rattle.std.proofs.lemmas.Result.{err_from_is_err_and}
use Rattle.verify.proofs.Found.{read_ready}
use Rattle.outcome.proofs.Carrying.{refused_is, moved}
use Rattle.narrow.proofs.Narrowed.{narrow_unreadable, narrow_found, narrow_no_key}
use Rattle.narrow.proofs.narrow_bytes.Goals as goal

pub returns-in_err-token-clause-carried : goal.returns-in_err-token-clause-carried
returns-in_err-token-clause-carried c =
    let p = err_from_is_err_and c.from_residual.result c.from_residual.ensures.1 in
    rw (p.1, p.2) (moved (narrow_unreadable c.args.table.now c.args.s.now c.args.caveat.now (sym c.read_token.ensures ∙ c.in_err-token.was)) refused_is)

pub narrow_with-requires : goal.narrow_with-requires
narrow_with-requires c = read_ready c.args.s.now (sym c.read_token.ensures ∙ c.in_ok-token.was) (λ i. (c.type_inv.s i).fits) c.requires c.if-key-ne-KEY_LENGTH.false

pub returns-then-key-ne-KEY_LENGTH-clause-carried : goal.returns-then-key-ne-KEY_LENGTH-clause-carried
returns-then-key-ne-KEY_LENGTH-clause-carried c = moved (narrow_no_key c.args.table.now c.args.s.now c.args.caveat.now (sym c.read_token.ensures ∙ c.in_ok-token.was) c.lend.ensures.result_value c.lend-2.ensures.result_value c.find-key.ensures.result_value c.if-key-ne-KEY_LENGTH.true) refused_is

pub returns-clause-carried : goal.returns-clause-carried
returns-clause-carried c = moved (narrow_found c.args.table.now c.args.s.now c.args.caveat.now (sym c.read_token.ensures ∙ c.in_ok-token.was) c.lend.ensures.result_value c.lend-2.ensures.result_value c.find-key.ensures.result_value c.if-key-ne-KEY_LENGTH.false) c.narrow_with.ensures.carried
