use mathlib.Core.Path.{◌∙◌}
use Rattle.basis.specs.Basis.{ascii}
use Rattle.cbor_writing.proofs.PlacingLaws.{shorter, placed_fits, placed_then}
use Rattle.answers.specs.Answers.{name_of}
use Rattle.bundle.proofs.Putting.{allows, denies}
use Rattle.bundle.proofs.put_words.Goals as goal

pub put_at-requires : goal.put_at-requires
put_at-requires c = rw (allows _ c.in-Allow.is) at c.requires

pub returns-in-Allow : goal.returns-in-Allow
returns-in-Allow c = rw (allows _ c.in-Allow.is) c.put_at.ensures

pub put_at-p-requires : goal.put_at-p-requires
put_at-p-requires c = shorter (ascii "deny ") (name_of c.args.answer) _ _ (rw (denies _ c.in_default.not-Allow) at c.requires)

pub put_at-requires-in_default : goal.put_at-requires-in_default
put_at-requires-in_default c =
    rw (c.as_bytes.ensures.value ∙ c.name.ensures) (placed_fits (ascii "deny ") (name_of c.args.answer) _ _ (rw (denies _ c.in_default.not-Allow) at c.requires) c.put_at-p.ensures)

pub returns-in_default : goal.returns-in_default
returns-in_default c =
    rw (denies _ c.in_default.not-Allow) (placed_then (ascii "deny ") (name_of c.args.answer) _ _ (rw (denies _ c.in_default.not-Allow) at c.requires) c.put_at-p.ensures (rw (c.as_bytes.ensures.value ∙ c.name.ensures) at c.put_at-in_default.ensures))
