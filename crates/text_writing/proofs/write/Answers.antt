use Rattle.std.proofs.Common.{refl, sym, ap, ◌∙◌, ℕ, ◌*◌, drop, arith}
use Rattle.text_writing.specs.Base64url.{base64url}
use Rattle.text_writing.proofs.Groups.{one_more, rest_too}
use Rattle.text_writing.proofs.Writings.{grouped, text_length_lem}
use Rattle.text_writing.proofs.write.Goals as goal

pub loop-k-init : goal.loop-k-init
unfolding base64url
loop-k-init c = refl

pub loop-k-preserved : goal.loop-k-preserved
loop-k-preserved c =
    let m = c.as_chunks.ensures.front_len in
    one_more grouped _ _ (rw text_length_lem c.requires) c.loop-k.auto.room c.loop-k.invariant _ (omega arith) (omega arith)
    (rw c.as_chunks.ensures.front at c.write_group.ensures)

pub returns : goal.returns
returns c =
    let m = c.as_chunks.ensures.front_len in
    let rest = c.as_chunks.ensures.back ∙ ap (λ (i : ℕ). drop (i * 3) c.args.bytes.now) (sym m) in
    rest_too grouped _ _ (rw text_length_lem c.requires) c.loop-k.auto.room c.loop-k.invariant _ (omega arith) (omega arith) (rw rest at c.write_rest.ensures)
