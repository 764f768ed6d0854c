use Rattle.std.proofs.Common.{refl, sym, ap, ◌∙◌, ℕ, ◌*◌, drop, arith}
use Rattle.text_writing.proofs.Groups.{one_more, rest_too}
use Rattle.text_reading.specs.Reading.{bytes_of}
use Rattle.text_reading.proofs.Filling.{grouped, bytes_length, letters_behind, letters_inside}
use Rattle.text_reading.proofs.fill.Goals as goal

pub loop-k-init : goal.loop-k-init
unfolding bytes_of
loop-k-init c = refl

pub fill_group-requires-clause-letters : goal.fill_group-requires-clause-letters
fill_group-requires-clause-letters c =
    let m = c.as_chunks.ensures.front_len in
    rw c.as_chunks.ensures.front (letters_inside _ _ c.requires.letters (omega arith))

pub loop-k-preserved : goal.loop-k-preserved
loop-k-preserved c =
    let m = c.as_chunks.ensures.front_len in
    one_more grouped _ _ (rw bytes_length c.requires.enough) c.loop-k.auto.room c.loop-k.invariant _ (omega arith) (omega arith)
    (rw c.as_chunks.ensures.front at c.fill_group.ensures)

pub fill_rest-requires-clause-letters : goal.fill_rest-requires-clause-letters
fill_rest-requires-clause-letters c = rw c.as_chunks.ensures.back (letters_behind _ _ c.requires.letters)

pub returns : goal.returns
returns c =
    let m = c.as_chunks.ensures.front_len in
    let rest = c.as_chunks.ensures.back ∙ ap (λ (i : ℕ). drop (i * 4) c.args.text.now) (sym m) in
    rest_too grouped _ _ (rw bytes_length c.requires.enough) c.loop-k.auto.room c.loop-k.invariant _ (omega arith) (omega arith) (rw rest at c.fill_rest.ensures)
