use borrow.Author.Rules.{rules}
use Rattle.cbor_heads.specs.Heads.{head}
use Rattle.token_writing.specs.Halves.{back_bytes}
use Rattle.token_writing.proofs.Pieces.{fits1, fits2, fits3, fits4, fits5, fits6, all_placed, back_row}
use Rattle.token_writing.proofs.put_back.Goals as goal

pub put_at-a-requires : goal.put_at-a-requires
unfolding head
put_at-a-requires c = fits1 (back_row c.args.tag.now c.args.kid.now c.args.tid.now c.requires)

pub put_string-b-requires : goal.put_string-b-requires
unfolding head
put_string-b-requires c = (search rules, fits2 (back_row c.args.tag.now c.args.kid.now c.args.tid.now c.requires) c.put_at-a.ensures)

pub put_at-c-requires : goal.put_at-c-requires
unfolding head
put_at-c-requires c = fits3 (back_row c.args.tag.now c.args.kid.now c.args.tid.now c.requires) c.put_at-a.ensures c.put_string-b.ensures

pub put_string-d-requires : goal.put_string-d-requires
unfolding head
put_string-d-requires c =
    (search rules, fits4 (back_row c.args.tag.now c.args.kid.now c.args.tid.now c.requires) c.put_at-a.ensures c.put_string-b.ensures c.put_at-c.ensures)

pub put_at-e-requires : goal.put_at-e-requires
unfolding head
put_at-e-requires c =
    fits5 (back_row c.args.tag.now c.args.kid.now c.args.tid.now c.requires) c.put_at-a.ensures c.put_string-b.ensures c.put_at-c.ensures
    c.put_string-d.ensures

pub put_string-requires : goal.put_string-requires
unfolding head
put_string-requires c = (
  search rules,
  fits6 (back_row c.args.tag.now c.args.kid.now c.args.tid.now c.requires) c.put_at-a.ensures c.put_string-b.ensures c.put_at-c.ensures
      c.put_string-d.ensures c.put_at-e.ensures,
)

pub returns : goal.returns
unfolding head back_bytes
returns c =
    all_placed (back_row c.args.tag.now c.args.kid.now c.args.tid.now c.requires) c.put_at-a.ensures c.put_string-b.ensures c.put_at-c.ensures
    c.put_string-d.ensures c.put_at-e.ensures c.put_string.ensures
