use mathlib.Core.Path.{sym, ◌∙◌}
use Rattle.cbor_heads.proofs.HeadLaws.{next_in}
use Rattle.cbor_strings.proofs.read_run.Goals as goal

pub overflow_sub-s : goal.overflow_sub-s
overflow_sub-s c = (next_in _ _ (sym c.read_head.ensures ∙ c.in_ok-m.was)).1
