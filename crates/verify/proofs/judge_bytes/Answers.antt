use mathlib.Core.Path.{sym, ◌∙◌}
use Rattle.verify.proofs.Found.{unreadable, read_ready, with_its_key, no_key}
use Rattle.verify.proofs.judge_bytes.Goals as goal

pub with_key-requires : goal.with_key-requires
with_key-requires c = read_ready c.args.s.now (sym c.read_token.ensures ∙ c.in-Ok.is) (λ i. (c.type_inv.s i).fits) c.requires c.if-key-ne-KEY_LENGTH.false

pub returns-then-key-ne-KEY_LENGTH : goal.returns-then-key-ne-KEY_LENGTH
returns-then-key-ne-KEY_LENGTH c = no_key c.args.table.now c.args.s.now c.args.body.now c.args.request (sym c.read_token.ensures ∙ c.in-Ok.is) c.lend.ensures.result_value c.lend-in-Ok.ensures.result_value c.find-key.ensures.result_value c.if-key-ne-KEY_LENGTH.true

pub returns-in-Err : goal.returns-in-Err
returns-in-Err c = rw c.into.ensures (unreadable c.args.table.now c.args.s.now c.args.body.now c.args.request (sym c.read_token.ensures ∙ c.in-Err.is))

pub returns-else-key-ne-KEY_LENGTH : goal.returns-else-key-ne-KEY_LENGTH
returns-else-key-ne-KEY_LENGTH c = c.with_key.ensures ∙ with_its_key c.args.table.now c.args.s.now c.args.body.now c.args.request (sym c.read_token.ensures ∙ c.in-Ok.is) c.lend.ensures.result_value c.lend-in-Ok.ensures.result_value c.find-key.ensures.result_value c.if-key-ne-KEY_LENGTH.false
