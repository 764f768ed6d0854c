-- Inner. For the host tests alone: the answers of the readers as four numbers, so that a test in another language can compare them with
-- its own.
use Rattle.std.specs.Prelude.{◌≡◌, Bool, true, false, List, ℕ, length, leb, eqb, Option, Some, None, Result, Ok, Err}
use Rattle.std.specs.Int.{w32, from_be_bytes}
use Rattle.basis.specs.declared.Span.{Span}
use Rattle.cbor_heads.specs.Defects.{Reading, kind_number}
use Rattle.basis.specs.Basis.{pick, over}
use Rattle.text_writing.specs.Base64url.{base64url}
use Rattle.text_reading.specs.Reading.{judged_of, bytes_of, decoded_of, left_of}
use Rattle.text_reading.specs.declared.Undecoded.{Undecoded}
use Rattle.text_reading.specs.declared.Undecoded.TheVariants.{Bad as NoText, Short}
use Rattle.cbor_heads.specs.declared.Head.{Head}
use Rattle.cbor_strings.specs.declared.Class.{Class}
use Rattle.cbor_strings.specs.declared.Class.TheVariants.{Name, Printable, Path, Upper, Hex}
use Rattle.token_cidr.specs.declared.Network.{Network}
use Rattle.probe.specs.declared.Probed.{Probed}

-- a number of the answer list, and what it carries
abbrev pub told : ℕ → ℕ → ℕ → ℕ → Probed
told k a b c = record { kind = k; first = a; second = b; third = c }

-- 3 is parse.b64, 36 out.short
abbrev pub decoded_probe : Result ℕ Undecoded → Probed
decoded_probe (Ok n) = told 0 n 0 0
decoded_probe (Err (NoText at)) = told 3 at 0 0
decoded_probe (Err Short) = told 36 0 0 0

abbrev pub encoded_probe : Option ℕ → Probed
encoded_probe (Some n) = told 0 n 0 0
encoded_probe None = told 36 0 0 0

-- 4 is parse.cbor
abbrev pub head_probe : Reading Head → Probed
head_probe (Ok hd) = told 0 hd.value hd.next hd.major
head_probe (Err d) = told 4 d.at 0 0

abbrev pub content_probe : Reading Span → Probed
content_probe (Ok part) = told 0 part.from part.to 0
content_probe (Err d) = told (kind_number d.kind) d.at 0 0

abbrev pub item_probe : Reading ℕ → Probed
item_probe (Ok next) = told 0 next 0 0
item_probe (Err d) = told (kind_number d.kind) d.at 0 0

-- the address as one number
abbrev pub cidr_probe : Option Network → Probed
cidr_probe (Some w) = told 0 (from_be_bytes w32 w.address) w.size 0
cidr_probe None = told 4 0 0 0

abbrev pub bool_probe : Bool → Probed
bool_probe true = told 0 1 0 0
bool_probe false = told 0 0 0 0

-- every number names a class, so that no call is outside the contract
abbrev pub class_at : ℕ → Class
class_at n =
    pick (eqb n 0) Name
    (pick (eqb n 1) Printable
    (pick (eqb n 2) Path
    (pick (eqb n 3) Upper Hex)))

pub record DecodeProbed (text entry : List ℕ) (r : Probed) (exit : List ℕ) : Type 0 where
  pub answer : r ≡ decoded_probe (decoded_of (judged_of text) (length entry))
  pub content : exit ≡ left_of (decoded_of (judged_of text) (length entry)) (bytes_of text) entry

pub record EncodeProbed (bytes entry : List ℕ) (r : Probed) (exit : List ℕ) : Type 0 where
  pub answer : r ≡ encoded_probe (pick (leb (length (base64url bytes)) (length entry)) (Some (length (base64url bytes))) None)
  pub content : exit ≡ pick (leb (length (base64url bytes)) (length entry)) (over (base64url bytes) entry) entry
