-- Reading. Need not be believed: the laws fix it both ways (`text_written`, `text_read`, `record_written`, `record_read`), since it has one
-- defect. A number, a string behind its length, and a record, at a place. A string from the top: its length, which is in range; its bytes;
-- their class. A record: its body's length, its kind, its body.
use Rattle.std.specs.Prelude.{List, ℕ, ◌+◌, ◌-◌, ltb, length, Option, Some, None, option_and_then}
use Rattle.basis.specs.Basis.{pick, from_to, between}
use Rattle.basis.specs.declared.Span.{Span}
use Rattle.cbor_strings.specs.Strings.{content_of}
use Rattle.cbor_strings.specs.declared.Class.{Class}
use Rattle.records.specs.declared.RecordAt.{RecordAt}
use Rattle.records.specs.Records.{little_of}

-- what is found is handed to the rest, and where it is missing so is the whole
infixr 5 ◌and_then◌
abbrev pub ◌and_then◌ : {A B : Type 0} → Option A → (A → Option B) → Option B
o and_then rest = option_and_then rest o

-- the reading: n bytes from a place on
unfoldable pub run_at : List ℕ → ℕ → ℕ → Option Span
run_at s at n = pick (ltb (length s) at) None (pick (ltb (length s - at) n) None (Some (from_to at (at + n))))

-- a number of so many bytes, at most eight, and where it ends
unfoldable pub little_at : List ℕ → ℕ → ℕ → Option (ℕ × ℕ)
little_at s at width = pick (ltb 8 width) None (run_at s at width and_then λ part. Some (little_of (between s part), part.to))

unfoldable pub text_at : List ℕ → ℕ → Class → ℕ → ℕ → ℕ → Option Span
text_at s width class low high at =
    little_at s at width and_then λ (n, next).
    pick (ltb n low) None (pick (ltb high n) None (
    run_at s next n and_then λ part.
    pick (content_of class (between s part)) (Some part) None))

unfoldable pub read_record : List ℕ → ℕ → Option RecordAt
read_record s at =
    little_at s at 2 and_then λ (n, p).
    little_at s p 2 and_then λ (kind, q).
    run_at s q n and_then λ body.
    Some (record { kind = kind; body = body })
