-- A token is read as the one reading of maps has it, with its keys, and nothing stands behind it.
use Rattle.std.specs.Prelude.{Ok, Err}
use mathlib.Core.Path.{◌≡◌, refl, sym, ap, ◌∙◌}
use mathlib.Core.Bool.{Bool, true, false}
use mathlib.Core.List.{List, [], ◌∷◌}
use Prim.Native.Nat.{ℕ, zero, suc}
use native.Mathlib.Omega.{arith}
use lib.Dec.{eqb}
use lib.ListN.{length, drop}
use Rattle.basis.specs.Basis.{pick, from_to}
use Rattle.basis.specs.declared.Span.{Span}
use Rattle.cbor_heads.specs.Defects.{Reading, bad, after}
use Rattle.cbor_heads.specs.Counts.{read_count, array_up_to}
use Rattle.cbor_heads.specs.declared.defect.Defect.{Defect}
use Rattle.cbor_heads.specs.declared.defect.Kind.TheVariants.{Cbor, Unknown}
use Rattle.cbor_heads.proofs.CountLaws.{counted}
use Rattle.cbor_values.specs.Lists.{list_of}
use Rattle.cbor_values.specs.Reading.{items_of}
use Rattle.cbor_values.specs.declared.ListAt.{ListAt}
use Rattle.cbor_keys.specs.Reading.{wanted_key}
use Rattle.cbor_keys.specs.Fields.{name_at, name_field}
use Rattle.cbor_keys.specs.ReadMap.{Field, required, content_end, required_of, entries_of}
use Rattle.cbor_keys.specs.declared.Names.TheVariants.{Token}
use Rattle.cbor_keys.proofs.MapLaws.{required_then, item_end, item_field, step_end, step_field}
use Rattle.token_scope.specs.Reading.{scope_of}
use Rattle.token_scope.specs.Fields.{read_scope}
use Rattle.token_scope.specs.declared.ScopeAt.{ScopeAt}
use Rattle.token_scope.proofs.ScopeMap.{scope_map}
use Rattle.token_caveat_values.specs.declared.CaveatAt.{CaveatAt}
use Rattle.token_caveat.specs.Reading.{caveat_of}
use Rattle.token_caveat.proofs.CaveatMap.{caveat_map_lem}
use Rattle.token_front.specs.Front.{two_of, front_of}
use Rattle.token_front.specs.Ends.{end_by, caveat_end}
use Rattle.token_front.specs.declared.FrontAt.{FrontAt}
use Rattle.token_back.specs.Back.{three_of, tag_field, version_field, back_of}
use Rattle.token_back.specs.Values.{tag_at, version_at}
use Rattle.token_back.specs.declared.BackAt.{BackAt}
use Rattle.token.specs.Reading.{both_of, token_of, token_end}
use Rattle.token.specs.Fields.{moved_to, read_caveat_at, read_caveats, token_fields, whole_then, read_token}
use Rattle.token.specs.declared.TokenAt.{TokenAt}

go_on : {f g : ℕ → Reading ℕ} → ((at : ℕ) → f at ≡ g at) → (x : Reading ℕ) → after f x ≡ after g x
go_on h (Err d) = refl
go_on h (Ok next) = h next

-- c and r are read
abbrev pub both_then : ListAt → ℕ → (ScopeAt × ℕ) → Reading FrontAt
both_then caveats at (scope, next) = Ok (two_of caveats (from_to at next))

module _ (s : List ℕ) where
  -- so many entries of the token's map, and what follows it
  abbrev entries : ℕ → ℕ → List Field → List ℕ → ℕ → Reading ℕ
  entries k i fs before at = after (whole_then s) (entries_of Token s 0 k i fs before at)

  abbrev name : List ℕ → ℕ → Reading ℕ
  name before at = content_end (name_at s at)

  -- the keys from each of them on
  abbrev tid_fields : List Field
  tid_fields = required (name []) ∷ []

  abbrev kid_fields : List Field
  kid_fields = required (name []) ∷ tid_fields

  abbrev v_fields : List Field
  v_fields = required (version_at s) ∷ kid_fields

  abbrev s_fields : List Field
  s_fields = required (λ at. content_end (tag_at s at)) ∷ v_fields

  abbrev r_fields : List Field
  r_fields = required (read_scope s) ∷ s_fields

  -- the reading from each of them on, and where a back ends
  abbrev back_last : BackAt → Reading ℕ
  back_last back = Ok back.tid.to

  abbrev pub end_then : Span → Span → Span → Reading BackAt
  end_then tag kid tid = pick (eqb tid.to (length s)) (Ok (three_of tag kid tid)) (bad Cbor tid.to)

  abbrev pub tid_then : Span → Span → Reading BackAt
  tid_then tag kid = after (end_then tag kid) (name_field Token s kid.to 5)

  abbrev pub kid_then : Span → ℕ → Reading BackAt
  kid_then tag at = after (tid_then tag) (name_field Token s at 4)

  abbrev pub v_then : Span → Reading BackAt
  v_then tag = after (kid_then tag) (version_field s tag.to)

  end_read : (before : List ℕ) (tag kid tid : Span) → after back_last (end_then tag kid tid) ≡ entries 0 6 [] before tid.to
  unfolding entries_of required_of
  end_read before tag kid tid = by (eqb tid.to (length s))
    where
      by : (b : Bool) → after back_last (pick b (Ok (three_of tag kid tid)) (bad Cbor tid.to)) ≡ pick b (Ok tid.to) (bad Cbor tid.to)
      by true = refl
      by false = refl

  tid_read : (before : List ℕ) (tag kid : Span) → after back_last (tid_then tag kid) ≡ entries 1 5 tid_fields before kid.to
  tid_read before tag kid =
      step_field back_last (λ tid. tid.to) (end_then tag kid) (λ p. entries 0 6 [] (p ∷ before)) (λ p tid. end_read (p ∷ before) tag kid tid) (name_at s) (wanted_key Token s kid.to 5)
      ∙ sym (required_then (whole_then s) Token s 0 0 5 name [] before kid.to)

  kid_read : (before : List ℕ) (tag : Span) (at : ℕ) → after back_last (kid_then tag at) ≡ entries 2 4 kid_fields before at
  kid_read before tag at =
      step_field back_last (λ kid. kid.to) (tid_then tag) (λ p. entries 1 5 tid_fields (p ∷ before)) (λ p kid. tid_read (p ∷ before) tag kid) (name_at s) (wanted_key Token s at 4)
      ∙ sym (required_then (whole_then s) Token s 0 1 4 name tid_fields before at)

  v_read : (before : List ℕ) (tag : Span) → after back_last (v_then tag) ≡ entries 3 3 v_fields before tag.to
  unfolding version_field
  v_read before tag =
      item_field back_last (kid_then tag) (λ p. entries 2 4 kid_fields (p ∷ before)) (λ p next. kid_read (p ∷ before) tag next) (version_at s) (wanted_key Token s tag.to 3)
      ∙ sym (required_then (whole_then s) Token s 0 2 3 (λ before. version_at s) kid_fields before tag.to)

  back_read : (before : List ℕ) (at : ℕ) → after back_last (back_of s at) ≡ entries 4 2 s_fields before at
  unfolding back_of tag_field
  back_read before at =
      step_field back_last (λ tag. tag.to) v_then (λ p. entries 3 3 v_fields (p ∷ before)) (λ p tag. v_read (p ∷ before) tag) (tag_at s) (wanted_key Token s at 2)
      ∙ sym (required_then (whole_then s) Token s 0 3 2 (λ before p. content_end (tag_at s p)) v_fields before at)

  -- the front, and the back behind it
  abbrev front_last : FrontAt → Reading ℕ
  front_last front = after back_last (back_of s front.scope.to)

  abbrev pub r_then : ListAt → ℕ → Reading FrontAt
  r_then caveats at = after (both_then caveats at) (scope_of s at)

  abbrev pub r_key_then : ℕ → ℕ → ℕ → Reading FrontAt
  r_key_then count from to = after (r_then (list_of count (from_to from to))) (wanted_key Token s to 1)

  abbrev pub caveats_then : (ℕ × ℕ) → Reading FrontAt
  caveats_then (count, from) = after (r_key_then count from) (items_of (caveat_end s) count from)

  abbrev pub c_then : ℕ → Reading FrontAt
  c_then at = after caveats_then (array_up_to 64 s at)

  abbrev pub map_then : (ℕ × ℕ) → Reading FrontAt
  map_then (n, at) = after c_then (wanted_key Token s at 0)

  r_read : (before : List ℕ) (caveats : ListAt) (at : ℕ) → after front_last (r_then caveats at) ≡ after (entries 4 2 s_fields before) (read_scope s at)
  r_read before caveats at =
      step_end front_last (λ (scope, next). next) (both_then caveats at) (entries 4 2 s_fields before) (λ (scope, next). back_read before next) (scope_of s at)
      ∙ ap (after (entries 4 2 s_fields before)) (scope_map s at)

  r_key_read : (before : List ℕ) (count from to : ℕ) → after front_last (r_key_then count from to) ≡ entries 5 1 r_fields before to
  r_key_read before count from to =
      item_end front_last (r_then (list_of count (from_to from to))) (λ p. after (entries 4 2 s_fields (p ∷ before)) (read_scope s p)) (λ p. r_read (p ∷ before) _ p) (wanted_key Token s to 1)
      ∙ sym (required_then (whole_then s) Token s 0 4 1 (λ before. read_scope s) s_fields before to)

  -- each caveat, where it lies
  caveat_ends : (at : ℕ) → caveat_end s at ≡ read_caveat_at s at
  caveat_ends at = by (caveat_of (drop at s)) ∙ ap (moved_to at) (caveat_map_lem (drop at s))
    where
      by : (x : Reading (CaveatAt × ℕ)) → end_by at x ≡ moved_to at (after (λ (caveat, n). Ok n) x)
      by (Err d) = refl
      by (Ok (caveat, n)) = refl

  caveats_end : (count at : ℕ) → items_of (caveat_end s) count at ≡ items_of (read_caveat_at s) count at
  unfolding items_of
  caveats_end zero at = refl
  caveats_end (suc k) at = ap (after (items_of (caveat_end s) k)) (caveat_ends at) ∙ go_on (caveats_end k) (read_caveat_at s at)

  c_read : (at : ℕ) → after front_last (c_then at) ≡ after (entries 5 1 r_fields (at ∷ [])) (read_caveats s at)
  c_read at = by (array_up_to 64 s at)
    where
      by : (x : Reading (ℕ × ℕ)) → after front_last (after caveats_then x)
          ≡ after (entries 5 1 r_fields (at ∷ [])) (after (λ (count, from). items_of (read_caveat_at s) count from) x)
      by (Err d) = refl
      by (Ok (count, from)) =
          item_end front_last (r_key_then count from) (entries 5 1 r_fields (at ∷ [])) (λ to. r_key_read (at ∷ []) count from to) (items_of (caveat_end s) count from)
          ∙ ap (after (entries 5 1 r_fields (at ∷ []))) (caveats_end count from)

  token_entries : (at : ℕ) → after front_last (after c_then (wanted_key Token s at 0)) ≡ entries 6 0 (token_fields s) [] at
  token_entries at =
      item_end front_last c_then (λ p. after (entries 5 1 r_fields (p ∷ [])) (read_caveats s p)) c_read (wanted_key Token s at 0)
      ∙ sym (required_then (whole_then s) Token s 0 5 0 (λ before. read_caveats s) r_fields [] at)

  front_read : after front_last (front_of s) ≡ read_token s
  unfolding front_of required_of
  front_read = by (read_count s 0 5 6 6 Unknown) refl
    where
      by : (x : Reading (ℕ × ℕ)) → read_count s 0 5 6 6 Unknown ≡ x
          → after front_last (after map_then x) ≡ after (whole_then s) (after (λ (n, at). entries_of Token s 0 n 0 (token_fields s) [] at) x)
      by (Err d) e = refl
      by (Ok (n, at)) e = let c = counted s 0 5 6 6 Unknown e in let z : n ≡ 6 = omega (arith, c.enough, c.few) in rw z (token_entries at)

  pub token_map : token_end (token_of s) ≡ read_token s
  unfolding token_of
  token_map = by (front_of s) ∙ front_read
    where
      by_back : (front : FrontAt) (x : Reading BackAt) → token_end (after (λ back. Ok (both_of front back)) x) ≡ after back_last x
      by_back front (Err d) = refl
      by_back front (Ok back) = refl

      by : (x : Reading FrontAt) → token_end (after (λ front. after (λ back. Ok (both_of front back)) (back_of s front.scope.to)) x) ≡ after front_last x
      by (Err d) = refl
      by (Ok front) = by_back front (back_of s front.scope.to)

-- so a token's defect is that of the one reading, kind and place, and the other way round
pub token_defect : (s : List ℕ) {d : Defect} → token_of s ≡ Err d → read_token s ≡ Err d
token_defect s e = sym (token_map s) ∙ ap token_end e

pub defect_token : (s : List ℕ) {d : Defect} → read_token s ≡ Err d → token_of s ≡ Err d
defect_token s {d} h = by (token_of s) (token_map s ∙ h)
  where
    by : (x : Reading TokenAt) → token_end x ≡ Err d → x ≡ Err d
    by (Err c) e = let z : c ≡ d = cc in rw z
    by (Ok token) e = let z : ◌≡◌ {A = ℕ} 0 1 = cc in let z : ⊥ = omega arith in elim z [ ]
