use Rattle.cbor_writing.proofs.PlacingLaws.{placed_then}
use Rattle.cbor_writing.proofs.put_string.Goals as goal

pub returns : goal.returns
returns c = placed_then _ c.args.content.now _ _ c.requires.1 c.put_head-p.ensures c.put_at.ensures
