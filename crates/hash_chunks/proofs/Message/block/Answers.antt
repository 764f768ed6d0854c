use Rattle.std.proofs.Common.{rules, ◌≡◌, ◌∙◌, ◌+◌, ◌≤◌, arith, length, ℕ, length-append}
use lib.ListN.{length-take, length-drop}
use Rattle.hash_chunks.proofs.Blocks.{laid}
use Rattle.hash_chunks.proofs.Message.block.Goals as goal

pub returns : goal.returns
returns c =
    let s = c.self.inside in
    let room : length s.head.now + length s.body.now ≤ 64 = rw length-append at (rw (← c.self.view_is) at c.requires) in
    let long : length c.copy-n.new.to ≡ 64 = search rules in
    let n : c.copy-n.result ≡ length s.head.now = omega arith in
    let k : c.copy.result ≡ length s.body.now = omega (arith, length-take {A = ℕ}, length-drop {A = ℕ}) in
    rw (← c.self.view_is)
    (c.words-2.ensures ∙ laid s.head.now s.body.now _ _ _ room n long (rw n at c.copy-n.ensures.content) (rw k at c.copy.ensures.content))
