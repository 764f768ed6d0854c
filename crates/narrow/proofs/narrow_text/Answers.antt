use Prim.Native.Nat.{ℕ}
use lib.ListN.{length-replicate}
use Rattle.std.proofs.lemmas.Result.{err_from_is_err_and}
use Rattle.verify.proofs.Decoding.{bytes_fit, bytes_lent}
use Rattle.outcome.proofs.Carrying.{refused_is, moved}
use Rattle.narrow.proofs.Narrowed.{narrow_too_long, narrow_no_bytes, narrow_whole}
use Rattle.narrow.proofs.narrow_text.Goals as goal

pub returns-then-text-gt-TEXT_MOST-clause-carried : goal.returns-then-text-gt-TEXT_MOST-clause-carried
returns-then-text-gt-TEXT_MOST-clause-carried c = moved (narrow_too_long c.args.table.now c.args.text.now c.args.caveat.now c.if-text-gt-TEXT_MOST.true) refused_is

pub returns-in_err-n-clause-carried : goal.returns-in_err-n-clause-carried
returns-in_err-n-clause-carried c =
    let p = err_from_is_err_and c.from_residual.result c.from_residual.ensures.1 in
    rw (p.1, p.2) (moved (narrow_no_bytes c.args.table.now c.args.text.now c.args.caveat.now c.if-text-gt-TEXT_MOST.false _ (length-replicate {A = ℕ} 4096 0) _ _ c.decode.ensures c.in_err-n.was) refused_is)

pub slice_bounds-narrow_bytes-end : goal.slice_bounds-narrow_bytes-end
slice_bounds-narrow_bytes-end c = bytes_fit _ _ _ _ c.decode.ensures c.in_ok-n.was c.decode.auto.room

pub returns-clause-carried : goal.returns-clause-carried
returns-clause-carried c = moved (narrow_whole c.args.table.now c.args.text.now c.args.caveat.now c.if-text-gt-TEXT_MOST.false _ (length-replicate {A = ℕ} 4096 0) _ _ c.decode.ensures c.in_ok-n.was (bytes_lent _ _ _ _ c.decode.ensures c.in_ok-n.was)) c.narrow_bytes.ensures.carried
