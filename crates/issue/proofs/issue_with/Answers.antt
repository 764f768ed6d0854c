use Prim.Native.Nat.{ℕ}
use mathlib.Core.Path.{refl}
use lib.ListN.{length-replicate}
use Rattle.outcome.proofs.Carrying.{refused_is, moved, made_some, made_lent}
use Rattle.issue.proofs.Fresh.{fresh_fits, issued, key_missing}
use Rattle.issue.proofs.issue_with.Goals as goal

pub returns-then-key-ne-KEY_LENGTH-clause-carried : goal.returns-then-key-ne-KEY_LENGTH-clause-carried
returns-then-key-ne-KEY_LENGTH-clause-carried c = moved (key_missing c.args.key.now c.args.tid.now c.args.kid.now c.args.scope.now c.if-key-ne-KEY_LENGTH.true) refused_is

pub unwrap-n-requires : goal.unwrap-n-requires
unwrap-n-requires c = rw (made_some _ _ c.write_fresh.ensures (rw (length-replicate {A = ℕ} 752 0) (fresh_fits c.args.key.now c.args.tid.now c.args.kid.now c.args.scope.now c.requires c.if-key-ne-KEY_LENGTH.false c.first_link-tag.ensures))) refl

pub returns-clause-carried : goal.returns-clause-carried
returns-clause-carried c = moved (issued c.args.key.now c.args.tid.now c.args.kid.now c.args.scope.now c.if-key-ne-KEY_LENGTH.false c.first_link-tag.ensures (made_lent _ _ c.write_fresh.ensures c.unwrap-n.ensures)) c.write_text.ensures.carried
