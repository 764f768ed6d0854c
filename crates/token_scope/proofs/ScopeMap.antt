-- A scope is read as the one reading of maps has it, with its keys.
use Rattle.std.specs.Prelude.{Option as Maybe, Some, None, Ok, Err}
use Rattle.cbor_heads.specs.Defects.{Reading, bad, after}
use Rattle.cbor_heads.specs.declared.defect.Defect.{Defect}
use Rattle.cbor_heads.specs.declared.defect.Kind.TheVariants.{Cbor, Unknown}
use Rattle.token_scope.specs.declared.ScopeAt.{ScopeAt}
use mathlib.Core.Path.{◌≡◌, refl, sym, ap, ◌∙◌}
use mathlib.Core.List.{List, [], ◌∷◌}
use Prim.Native.Nat.{ℕ, zero, suc, ◌-◌, ◌≤◌}
use native.Mathlib.Omega.{arith}
use borrow.Author.Tests.{ne_eqb, le-ltb}
use Rattle.basis.specs.Basis.{from_to}
use Rattle.basis.specs.declared.Span.{Span}
use Rattle.cbor_heads.specs.Counts.{read_count, array_up_to, number_up_to}
use Rattle.cbor_heads.proofs.CountLaws.{counted}
use Rattle.cbor_strings.specs.Reading.{read_string}
use Rattle.cbor_strings.specs.declared.Class.TheVariants.{Path}
use Rattle.cbor_values.specs.Lists.{list_of}
use Rattle.cbor_values.specs.Reading.{items_of}
use Rattle.cbor_values.specs.declared.ListAt.{ListAt}
use Rattle.cbor_keys.specs.Reading.{key_at, wanted_key}
use Rattle.cbor_keys.specs.ReadMap.{Field, required, optional, pair_end, required_of, field_at, entry_then, entries_of}
use Rattle.cbor_keys.specs.declared.Names.TheVariants.{Scope}
use Rattle.cbor_keys.proofs.MapLaws.{required_next, last_next, none_next, item_end, step_end, step_field}
use Rattle.token_scope.specs.Methods.{methods_by, methods_of, methods_end}
use Rattle.token_scope.specs.Reading.{max_bytes_then, limit_then, methods_then, prefix_next, prefix_then, first_then, entries_then, scope_of, scope_end}
use Rattle.token_scope.specs.Fields.{method_at, read_methods, scope_fields, read_scope}

-- what a scope ends with
abbrev last : (ScopeAt × ℕ) → Reading ℕ
last (scope, next) = Ok next

-- a method list ends where the one reading of it does
pub methods_list : (s : List ℕ) (at : ℕ) → methods_end (methods_of s at) ≡ read_methods s at
unfolding methods_by
methods_list s at = by (array_up_to 16 s at)
  where
    by_items : (count from : ℕ) (x : Reading ℕ) → methods_end (after (λ to. Ok (list_of count (from_to from to))) x) ≡ x
    by_items count from (Err d) = refl
    by_items count from (Ok to) = refl

    by : (x : Reading (ℕ × ℕ)) → methods_end (after (methods_by s) x) ≡ after (λ (count, from). items_of (method_at s) count from) x
    by (Err d) = refl
    by (Ok (count, from)) = by_items count from (items_of (method_at s) count from)

module _ (s : List ℕ) (map : ℕ) where
  -- the keys from each of them on
  abbrev limit_fields : List Field
  limit_fields = optional (λ at. pair_end (number_up_to 0xffffffffffffffff s at)) ∷ []

  abbrev methods_fields : List Field
  methods_fields = required (read_methods s) ∷ limit_fields

  -- behind max_bytes
  end_read : (before : List ℕ) (prefix : Maybe Span) (methods : ListAt) (k : ℕ) (n : ℕ × ℕ)
      → scope_end (max_bytes_then s prefix methods (suc k) n) ≡ entries_of Scope s map k 3 [] before n.1
  unfolding max_bytes_then entries_of required_of
  end_read before prefix methods zero (n, next) = refl
  end_read before prefix methods (suc k) (n, next) =
      rw (ne_eqb (suc (suc k)) 1 (λ e. omega (arith, e))) (by (key_at Scope s next) ∙ sym (none_next Scope s map k 3 before next))
    where
      by : (key : Reading (ℕ × ℕ)) → scope_end (after (λ another. bad Cbor next) key) ≡ after (λ (index, behind). bad Cbor next) key
      by (Err d) = refl
      by (Ok (index, behind)) = refl

  -- behind the methods
  limit_read : (before : List ℕ) (prefix : Maybe Span) (left : ℕ) (methods : ListAt)
      → scope_end (limit_then s prefix left methods) ≡ entries_of Scope s map left 2 limit_fields before methods.span.to
  unfolding limit_then entries_of required_of
  limit_read before prefix zero methods = refl
  limit_read before prefix (suc k) methods =
      let to = methods.span.to in
      rw (ne_eqb (suc k) 0 (λ e. omega (arith, e)))
      (step_field last (λ n. n.1) (max_bytes_then s prefix methods (suc k)) (λ p. entries_of Scope s map k 3 [] (p ∷ before)) (λ p n. end_read (p ∷ before) prefix methods k n)
      (number_up_to 0xffffffffffffffff s) (wanted_key Scope s to 2)
      ∙ sym (last_next Scope s map k 2 (λ before at. pair_end (number_up_to 0xffffffffffffffff s at)) before to))

  methods_read : (before : List ℕ) (prefix : Maybe Span) (left at : ℕ)
      → scope_end (methods_then s prefix left at) ≡ after (entries_of Scope s map left 2 limit_fields before) (read_methods s at)
  unfolding methods_then
  methods_read before prefix left at =
      rw (← (methods_list s at))
      (step_end last (λ methods. methods.span.to) (limit_then s prefix left) (entries_of Scope s map left 2 limit_fields before) (limit_read before prefix left) (methods_of s at))

  -- behind the prefix
  prefix_read : (before : List ℕ) (k : ℕ) (prefix : Span) → scope_end (prefix_next s map (suc k) prefix) ≡ entries_of Scope s map k 1 methods_fields before prefix.to
  unfolding prefix_next entries_of required_of
  prefix_read before zero prefix = refl
  prefix_read before (suc k) prefix =
      let z : suc (suc k) - 2 ≡ k = omega arith in
      rw (le-ltb (suc (suc k)) 2 (omega arith), z)
      (item_end last (methods_then s (Some prefix) k) (λ p. after (entries_of Scope s map k 2 limit_fields (p ∷ before)) (read_methods s p))
      (λ p. methods_read (p ∷ before) (Some prefix) k p) (wanted_key Scope s prefix.to 1)
      ∙ sym (required_next Scope s map k 1 (λ before. read_methods s) limit_fields before prefix.to))

  -- the first key
  first_read : (k at : ℕ) (key : ℕ × ℕ) → scope_end (first_then s map (suc k) at key) ≡ entry_then (entries_of Scope s map k) 0 (scope_fields s) [] at key
  unfolding first_then prefix_then field_at
  first_read k at (zero, next) =
      step_end last (λ part. part.to) (prefix_next s map (suc k)) (entries_of Scope s map k 1 methods_fields (next ∷ [])) (prefix_read (next ∷ []) k) (read_string s next Path 1 256)
  first_read k at (suc zero, next) = let z : suc k - 1 ≡ k = omega arith in rw z (methods_read (next ∷ []) None k next)
  first_read k at (suc (suc index), next) =
      let z : suc (suc index) - 0 ≡ suc (suc index) = omega arith in
      rw (ne_eqb (suc (suc index)) 0 (λ e. omega (arith, e)), ne_eqb (suc (suc index)) 1 (λ e. omega (arith, e)), le-ltb (suc (suc index)) 0 (omega arith), z)

  pub scope_map : scope_end (scope_of s map) ≡ read_scope s map
  unfolding scope_of entries_then entries_of required_of
  scope_map = by (read_count s map 5 1 3 Unknown) refl
    where
      by_key : (k at : ℕ) (key : Reading (ℕ × ℕ)) → scope_end (after (first_then s map (suc k) at) key) ≡ after (entry_then (entries_of Scope s map k) 0 (scope_fields s) [] at) key
      by_key k at (Err d) = refl
      by_key k at (Ok key) = first_read k at key

      by_count : (n at : ℕ) → 1 ≤ n → scope_end (entries_then s map (n, at)) ≡ entries_of Scope s map n 0 (scope_fields s) [] at
      by_count zero at h = let z : ⊥ = omega (arith, h) in elim z [ ]
      by_count (suc k) at h = by_key k at (key_at Scope s at)

      by : (x : Reading (ℕ × ℕ)) → read_count s map 5 1 3 Unknown ≡ x → scope_end (after (entries_then s map) x) ≡ after (λ (n, at). entries_of Scope s map n 0 (scope_fields s) [] at) x
      by (Err d) e = refl
      by (Ok (n, at)) e = by_count n at (counted s map 5 1 3 Unknown e).enough

-- so a scope's defect is that of the one reading, kind and place, and the other way round
module _ (s : List ℕ) (map : ℕ) {d : Defect} where
  pub scope_defect : scope_of s map ≡ Err d → read_scope s map ≡ Err d
  scope_defect e = sym (scope_map s map) ∙ ap scope_end e

  pub defect_scope : read_scope s map ≡ Err d → scope_of s map ≡ Err d
  defect_scope h = by (scope_of s map) (scope_map s map ∙ h)
    where
      by : (x : Reading (ScopeAt × ℕ)) → scope_end x ≡ Err d → x ≡ Err d
      by (Err found) e = let p : found ≡ d = cc in rw p
      by (Ok (scope, next)) e = let z : ◌≡◌ {A = ℕ} 0 1 = cc in let z : ⊥ = omega arith in elim z [ ]
