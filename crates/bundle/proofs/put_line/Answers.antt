use mathlib.Core.List.{[], ◌∷◌}
use Rattle.cbor_writing.proofs.PlacingLaws.{shorter, placed_fits, placed_then}
use Rattle.answers.specs.Answers.{number_of}
use Rattle.bundle.specs.Lines.{line_words, line}
use Rattle.bundle.proofs.put_line.Goals as goal

pub put_words-p-requires : goal.put_words-p-requires
unfolding line
put_words-p-requires c = shorter (line_words (number_of c.args.answer)) (10 ∷ []) _ _ c.requires

pub put_at-requires : goal.put_at-requires
unfolding line
put_at-requires c = placed_fits (line_words (number_of c.args.answer)) (10 ∷ []) _ _ c.requires c.put_words-p.ensures

pub returns : goal.returns
unfolding line
returns c = placed_then (line_words (number_of c.args.answer)) (10 ∷ []) _ _ c.requires c.put_words-p.ensures c.put_at.ensures
