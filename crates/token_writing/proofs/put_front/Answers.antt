use borrow.Author.Rules.{rules}
use Rattle.cbor_heads.specs.Heads.{head}
use Rattle.token_writing.specs.Halves.{front_bytes}
use Rattle.token_writing.proofs.Pieces.{fits1, fits2, fits3, fits4, fits5, fits6, all_placed, front_row}
use Rattle.token_writing.proofs.put_front.Goals as goal

pub put_at-a-requires : goal.put_at-a-requires
unfolding head
put_at-a-requires c = fits1 (front_row c.args.count c.requires)

pub put_head-b-requires : goal.put_head-b-requires
unfolding head
put_head-b-requires c = (search rules, fits2 (front_row c.args.count c.requires) c.put_at-a.ensures)

pub put_at-c-requires : goal.put_at-c-requires
unfolding head
put_at-c-requires c = fits3 (front_row c.args.count c.requires) c.put_at-a.ensures c.put_head-b.ensures

pub put_at-d-requires : goal.put_at-d-requires
unfolding head
put_at-d-requires c = fits4 (front_row c.args.count c.requires) c.put_at-a.ensures c.put_head-b.ensures c.put_at-c.ensures

pub put_at-e-requires : goal.put_at-e-requires
unfolding head
put_at-e-requires c = fits5 (front_row c.args.count c.requires) c.put_at-a.ensures c.put_head-b.ensures c.put_at-c.ensures c.put_at-d.ensures

pub put_at-requires : goal.put_at-requires
unfolding head
put_at-requires c =
    fits6 (front_row c.args.count c.requires) c.put_at-a.ensures c.put_head-b.ensures c.put_at-c.ensures c.put_at-d.ensures c.put_at-e.ensures

pub returns : goal.returns
unfolding head front_bytes
returns c =
    all_placed (front_row c.args.count c.requires) c.put_at-a.ensures c.put_head-b.ensures c.put_at-c.ensures c.put_at-d.ensures c.put_at-e.ensures
    c.put_at.ensures
