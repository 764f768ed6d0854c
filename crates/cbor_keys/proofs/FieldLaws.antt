-- Fields both ways: a key and a name or a number that were written are read, and what is read was written so.
use Rattle.std.specs.Prelude.{Ok, Some}
use Rattle.cbor_heads.specs.declared.defect.Kind.TheVariants.{Bounds}
use mathlib.Core.Path.{◌≡◌, refl, sym, ap, ◌∙◌}
use mathlib.Core.List.{List, ◌++◌, append_assoc}
use Prim.Native.Nat.{ℕ, ◌+◌, ◌^◌, ◌≤◌, ◌<◌}
use native.Mathlib.Omega.{arith}
use lib.ListN.{length, drop, get_or}
use Rattle.basis.specs.Basis.{ascii, from_to, between, IsBytes}
use Rattle.basis.specs.declared.Span.{Span}
use Rattle.basis.proofs.Parts.{past, ends}
use Rattle.cbor_heads.specs.Counts.{number_up_to}
use Rattle.cbor_heads.specs.Heads.{head}
use Rattle.cbor_strings.specs.declared.Class.TheVariants.{Name}
use Rattle.cbor_heads.proofs.CountLaws.{head_there, there_head, count, counted}
use Rattle.cbor_keys.specs.Keys.{keys_of}
use Rattle.cbor_keys.specs.Reading.{index_of_key, wanted_key}
use Rattle.cbor_keys.specs.Fields.{name_at, name_field, number_field}
use Rattle.cbor_keys.specs.Maps.{text, GoodText}
use Rattle.cbor_keys.specs.declared.Names.{Names}
use Rattle.cbor_keys.proofs.KeyLaws.{wanted_written, wanted_read}
use Rattle.cbor_keys.proofs.StepLaws.{went}
use Rattle.cbor_keys.proofs.TextLaws.{text_written, text_held, text_read}

pub number_written : (s rest : List ℕ) (at n most : ℕ) → n ≤ most → n < 2 ^ 64 → drop at s ≡ head 0 n ++ rest → number_up_to most s at ≡ Ok (n, at + length (head 0 n))
number_written s rest at n most l h e = sym (count s at 0 0 most Bounds (head_there s rest at 0 n e h) refl (omega arith) l)

-- a text behind its key
pub name_lies : (s key x rest : List ℕ) (at : ℕ) → length x < 2 ^ 64 → drop at s ≡ (key ++ text x) ++ rest
    → between s (from_to (at + length key + length (head 3 (length x))) (at + length (key ++ text x))) ≡ x
name_lies s key x rest at l e =
    let f = e ∙ append_assoc key (text x) rest in
    rw (← ends key (text x) at) (text_held x l s rest (at + length key) (past s key (text x ++ rest) at f))

module _ (names : Names) (want : ℕ) where
  -- where the key's content is the name with that index
  module _ (c : List ℕ) (l : length c < 2 ^ 64) (i : index_of_key names c ≡ Some want) (s rest : List ℕ) (at : ℕ) where
    pub name_field_written : (x : List ℕ) → GoodText Name 1 64 x → drop at s ≡ (text c ++ text x) ++ rest
        → name_field names s at want ≡ Ok (from_to (at + length (text c) + length (head 3 (length x))) (at + length (text c ++ text x)))
    name_field_written x g e =
        let f = e ∙ append_assoc (text c) (text x) rest in
        let k = at + length (text c) in
        rw (wanted_written names c l want i s (text x ++ rest) at f)
        (text_written Name 1 64 x g (omega arith) s rest k (past s (text c) (text x ++ rest) at f) ∙ ap (λ (to : ℕ). Ok (from_to (k + length (head 3 (length x))) to)) (ends (text c) (text x) at))

    pub number_field_written : (n most : ℕ) → n ≤ most → n < 2 ^ 64 → drop at s ≡ (text c ++ head 0 n) ++ rest
        → number_field names s at want most ≡ Ok (n, at + length (text c ++ head 0 n))
    number_field_written n most g m e =
        let f = e ∙ append_assoc (text c) (head 0 n) rest in
        rw (wanted_written names c l want i s (head 0 n ++ rest) at f)
        (number_written s rest (at + length (text c)) n most g m (past s (text c) (head 0 n ++ rest) at f) ∙ ap (λ (next : ℕ). Ok (n, next)) (ends (text c) (head 0 n) at))

  -- the key's name
  abbrev name : List ℕ
  name = ascii (get_or (keys_of names) want "")

  module _ (s : List ℕ) (b : IsBytes s) (at : ℕ) where
    pub record IsNameField (part : Span) : Type 0 where
      pub tree : List ℕ
      pub good : GoodText Name 1 64 tree
      pub held : between s part ≡ tree
      pub there : drop at s ≡ (text name ++ text tree) ++ drop part.to s

    pub name_field_read : {part : Span} → name_field names s at want ≡ Ok part → IsNameField part
    name_field_read e =
        let w = went (name_at s) (wanted_key names s at want) e in
        let k = wanted_read names want s b at w.was in
        let t = text_read Name 1 64 s b w.found w.goes in
        record { tree = t.tree; good = t.good; held = t.held; there = rw (append_assoc, ← t.there) k }

    pub record IsNumberField (most n to : ℕ) : Type 0 where
      pub few : n ≤ most
      pub there : drop at s ≡ (text name ++ head 0 n) ++ drop to s

    pub number_field_read : (most : ℕ) {n to : ℕ} → number_field names s at want most ≡ Ok (n, to) → IsNumberField most n to
    number_field_read most e =
        let w = went (number_up_to most s) (wanted_key names s at want) e in
        let k = wanted_read names want s b at w.was in
        let t = counted s w.found 0 0 most Bounds w.goes in
        record { few = t.few; there = rw (append_assoc, ← there_head s b w.found t.headed) k }
