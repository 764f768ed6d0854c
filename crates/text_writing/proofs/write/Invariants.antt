use Rattle.std.proofs.Common.{◌≡◌, ◌*◌, take}
use Rattle.basis.specs.Basis.{over}
use Rattle.text_writing.specs.Base64url.{base64url}
use Rattle.text_writing.proofs.write.Given as goal

abbrev pub invariant-loop-k : goal.invariant-loop-k
invariant-loop-k l = l.room ≡ over (base64url (take (l.k * 3) l.bytes)) l.fn.room
