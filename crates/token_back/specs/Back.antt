-- Reading. Need not be believed: it is the back of `read_token` (`token_map`), and the laws fix its parts. A token's back as it lies. From the
-- top: the keys s, v, kid and tid, each in its place, with their values; and nothing behind them.
use Rattle.std.specs.Prelude.{List, ℕ, eqb, length, Ok}
use Rattle.basis.specs.Basis.{pick}
use Rattle.basis.specs.declared.Span.{Span}
use Rattle.cbor_heads.specs.Defects.{◌>>=◌, Reading, bad}
use Rattle.cbor_heads.specs.declared.defect.Kind.TheVariants.{Cbor}
use Rattle.cbor_keys.specs.Reading.{wanted_key}
use Rattle.cbor_keys.specs.Fields.{name_field}
use Rattle.cbor_keys.specs.Indexes.{token_s, token_v, token_kid, token_tid}
use Rattle.cbor_keys.specs.declared.Names.TheVariants.{Token as TokenKeys}
use Rattle.token_back.specs.Values.{tag_at, version_at}
use Rattle.token_back.specs.declared.BackAt.{BackAt}

unfoldable pub tag_field : List ℕ → ℕ → Reading Span
tag_field s at = do
  at ← wanted_key TokenKeys s at token_s
  tag_at s at

unfoldable pub version_field : List ℕ → ℕ → Reading ℕ
version_field s at = do
  at ← wanted_key TokenKeys s at token_v
  version_at s at

abbrev pub three_of : Span → Span → Span → BackAt
three_of tag kid tid = record { tag = tag; kid = kid; tid = tid }

-- s, v, kid, tid, and nothing behind them
unfoldable pub back_of : List ℕ → ℕ → Reading BackAt
back_of s at = do
  tag ← tag_field s at
  at ← version_field s tag.to
  kid ← name_field TokenKeys s at token_kid
  tid ← name_field TokenKeys s kid.to token_tid
  pick (eqb tid.to (length s)) (Ok (three_of tag kid tid)) (bad Cbor tid.to)
