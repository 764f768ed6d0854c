-- Every place that the reading of a method list answers lies inside the slice, that of a defect too; see Inside of `cbor_keys`.
use Rattle.std.specs.Prelude.{Ok}
use Rattle.cbor_heads.specs.Defects.{Reading}
use Rattle.cbor_heads.specs.declared.defect.Kind.TheVariants.{Bounds}
use Rattle.basis.specs.Basis.{from_to}
use mathlib.Core.List.{List}
use Prim.Native.Nat.{ℕ, ◌≤◌}
use lib.ListN.{length}
use Rattle.cbor_heads.specs.Counts.{array_up_to}
use Rattle.cbor_strings.specs.Reading.{read_string}
use Rattle.cbor_strings.specs.declared.Class.TheVariants.{Upper}
use Rattle.cbor_strings.proofs.Inside.{ReadIn, count_in, string_in, step_in}
use Rattle.cbor_values.specs.declared.ListAt.{ListAt}
use Rattle.cbor_values.specs.Lists.{list_of}
use Rattle.cbor_values.specs.Reading.{items_of}
use Rattle.cbor_values.proofs.Inside.{ItemIn, items_in}
use Rattle.token_scope.specs.Methods.{methods_by, methods_of}
use Rattle.token_scope.specs.Fields.{method_at}

abbrev pub MethodsIn : ℕ → Reading ListAt → Type 0
MethodsIn size = ReadIn size (λ list. (list.span.from ≤ size) × (list.span.to ≤ size))

module _ (s : List ℕ) where
  method_in : (at : ℕ) → at ≤ length s → ItemIn (length s) (method_at s at)
  method_in at h =
      step_in (ItemIn (length s)) (length s) (λ d g. g) (λ part. (part.from ≤ length s) × (part.to ≤ length s)) (λ part. Ok part.to) (λ part g. g.1)
      (read_string s at Upper 1 16) (string_in s at Upper 1 16 h)

  list_in : (n : ℕ × ℕ) → n.1 ≤ length s → MethodsIn (length s) (methods_by s n)
  unfolding methods_by
  list_in (count, from) h =
      step_in (MethodsIn (length s)) (length s) (λ d g. g) (λ to. to ≤ length s) (λ to. Ok (list_of count (from_to from to))) (λ to g. (h, g))
      (items_of (method_at s) count from) (items_in (length s) (method_at s) method_in count from h)

  pub methods_in : (at : ℕ) → at ≤ length s → MethodsIn (length s) (methods_of s at)
  methods_in at h =
      step_in (MethodsIn (length s)) (length s) (λ d g. g) (λ n. n.1 ≤ length s) (methods_by s) list_in (array_up_to 16 s at) (count_in s at 4 0 16 Bounds h)
