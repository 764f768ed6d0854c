use mathlib.Core.Path.{sym, ◌∙◌}
use Rattle.cbor_heads.proofs.CountLaws.{counted}
use Rattle.token_scope.proofs.read_scope.Goals as goal

pub overflow_sub-n : goal.overflow_sub-n
overflow_sub-n c = (counted _ _ _ _ _ _ (sym c.map_with.ensures ∙ c.in_ok-n.was)).enough
