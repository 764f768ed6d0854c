use Prim.Native.Nat.{ℕ}
use mathlib.Core.Path.{◌∙◌}
use lib.ListN.{length-replicate}
use Rattle.verify.proofs.Decoding.{bytes_fit, bytes_lent, too_long, no_bytes, whole_text}
use Rattle.verify.proofs.judge_text.Goals as goal

pub returns-then-text-gt-TEXT_MOST : goal.returns-then-text-gt-TEXT_MOST
returns-then-text-gt-TEXT_MOST c = too_long c.args.table.now c.args.text.now c.args.body.now c.args.request c.if-text-gt-TEXT_MOST.true

pub slice_bounds-judge_bytes-end : goal.slice_bounds-judge_bytes-end
slice_bounds-judge_bytes-end c = bytes_fit _ _ _ _ c.decode.ensures c.in-Ok.is c.decode.auto.room

pub returns-in-Err : goal.returns-in-Err
returns-in-Err c = rw c.into.ensures (no_bytes c.args.table.now c.args.text.now c.args.body.now c.args.request c.if-text-gt-TEXT_MOST.false _ (length-replicate {A = ℕ} 4096 0) _ _ c.decode.ensures c.in-Err.is)

pub returns-in-Ok : goal.returns-in-Ok
returns-in-Ok c = c.judge_bytes.ensures ∙ whole_text c.args.table.now c.args.text.now c.args.body.now c.args.request c.if-text-gt-TEXT_MOST.false _ (length-replicate {A = ℕ} 4096 0) _ _ c.decode.ensures c.in-Ok.is (bytes_lent _ _ _ _ c.decode.ensures c.in-Ok.is)
