use Rattle.hash_chunks.proofs.Blocks.{parted}
use Rattle.hash_chunks.proofs.Message.part.Goals as goal

pub returns : goal.returns
returns c =
    let s = c.self.inside in
    rw (← c.self.view_is, c.min-i.ensures, c.min-j.ensures) (parted s.head.now s.body.now c.args.from c.args.to c.requires.0)
