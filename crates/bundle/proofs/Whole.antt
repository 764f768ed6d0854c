-- A whole bundle: what was placed at the front of the room is what is promised.
use mathlib.Core.Path.{◌≡◌, ap, subst, ◌∙◌}
use Rattle.std.specs.Prelude.{Some, None}
use mathlib.Core.List.{List, []}
use Prim.Native.Nat.{ℕ, ◌≤◌, ◌<◌}
use native.Mathlib.Nat.{zero-add}
use borrow.Author.Tests.{le-leb, lt-leb, lt-ltb, le-ltb}
use lib.ListN.{length}
use Rattle.cbor_writing.specs.Placing.{Placed}
use Rattle.cbor_writing.proofs.PlacingLaws.{placed_front}
use Rattle.bundle.specs.Lines.{bad_line, lines_from, lines_of, enough, LinesWritten}

module _ (input entry : List ℕ) where
  pub too_short : length entry < enough → LinesWritten input entry None entry
  too_short h = record { counted = rw (lt-leb _ _ h); content = rw (lt-leb _ _ h) }

  module _ {r : ℕ} {exit : List ℕ} (big : enough ≤ length entry) where
    told : (lines : List ℕ) → lines ≡ lines_of input → Placed lines entry 0 r exit → LinesWritten input entry (Some r) exit
    told lines e p =
        let b : Placed (lines_of input) entry 0 r exit = subst (λ (x : List ℕ). Placed x entry 0 r exit) e p in
        record {
          counted = rw (le-leb _ _ big) (ap Some (b.behind ∙ zero-add (length (lines_of input))));
          content = rw (le-leb _ _ big) (b.content ∙ placed_front (lines_of input) entry);
        }

    pub too_long : 65536 < length input → Placed bad_line entry 0 r exit → LinesWritten input entry (Some r) exit
    unfolding lines_of
    too_long h p = told bad_line (rw (lt-ltb _ _ h)) p

    pub walked : length input ≤ 65536 → Placed (lines_from 16384 input [] [] 0) entry 0 r exit → LinesWritten input entry (Some r) exit
    unfolding lines_of
    walked h p = told (lines_from 16384 input [] [] 0) (rw (le-ltb _ _ h)) p
