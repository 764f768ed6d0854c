-- A part that a flag tells of: what was read of it stood there as it is written, if the flag was set, and nothing if it was not.
use mathlib.Core.Path.{◌≡◌, sym, ap, subst, ◌∙◌}
use mathlib.Core.Bool.{Bool, true, false}
use mathlib.Core.List.{List, ◌++◌}
use mathlib.Core.Option.{Option, some, none}
use Prim.Native.Nat.{ℕ, ◌/◌, ◌%◌, ◌^◌}
use lib.ListN.{drop}
use Rattle.std.specs.Prelude.{Option as Maybe, Some, None}
use Rattle.std.proofs.lemmas.Option.{option_and_then_some}
use Rattle.basis.specs.Basis.{pick}
use Rattle.basis.specs.declared.Span.{Span}
use Rattle.basis.proofs.Pairs.{some_pair}
use Rattle.basis.proofs.Parts.{on}
use Rattle.cbor_keys.specs.Maps.{present, IfPresent}
use Rattle.records.specs.Reading.{◌and_then◌}
use Rattle.records_request.specs.Requests.{part_if}
use Rattle.records_request.specs.Reading.{is_set, is_there, if_flagged}
use Rattle.records_request.proofs.Flags.{bit_is}

module _ {X A : Type 0} (Good : X → Type 0) (written : X → List ℕ) (Held : Option X → Maybe A → Type 0) where
  -- a part that was found, written in its way
  pub record IsThere (s : List ℕ) (at : ℕ) (part : A) (next : ℕ) : Type 0 where
    pub tree : X
    pub good : Good tree
    pub held : Held (some tree) (Some part)
    pub there : drop at s ≡ written tree ++ drop next s

  -- a part that a bit tells of
  pub record IsPart (bit : ℕ) (s : List ℕ) (at : ℕ) (part : Maybe A) (next : ℕ) : Type 0 where
    pub tree : Option X
    pub good : IfPresent Good tree
    pub flagged : bit ≡ present tree
    pub held : Held tree part
    pub there : drop at s ≡ part_if written tree ++ drop next s

  module _ (none_held : Held none None) (k flags : ℕ) (s : List ℕ) (at : ℕ) {part : Maybe A} {next : ℕ} where
    pub flagged_read : (found : Maybe (A × ℕ)) → ((p : A) (n : ℕ) → found ≡ Some (p, n) → IsThere s at p n) → if_flagged (2 ^ k) flags at found ≡ Some (part, next)
        → IsPart (flags / 2 ^ k % 2) s at part next
    flagged_read found here = by (is_set (2 ^ k) flags) (bit_is k flags)
      where
        by : (t : Bool) → flags / 2 ^ k % 2 ≡ pick t 1 0 → pick t (found and_then is_there) (Some (None, at)) ≡ Some (part, next)
            → IsPart (flags / 2 ^ k % 2) s at part next
        by true bit e =
            option_and_then_some _ found (part, next) e (λ x was goes.
            let o = some_pair goes in
            let w = here x.0 x.1 was in
            record { tree = some w.tree; good = w.good; flagged = bit; held = subst (Held (some w.tree)) o.0 w.held; there = on (written w.tree) w.there (ap (λ (i : ℕ). drop i s) o.1) })
        by false bit e =
            let o = some_pair e in
            record { tree = none; good = tt; flagged = bit; held = subst (Held none) o.0 none_held; there = ap (λ (i : ℕ). drop i s) o.1 }

-- a span and where it ends
pub span_ends : {part p : Span} {n : ℕ} → ◌≡◌ {A = Maybe (Span × ℕ)} (Some (part, part.to)) (Some (p, n)) → (Some part ≡ Some p) × (p.to ≡ n)
span_ends e = let o = some_pair e in (ap Some o.0, sym (ap (λ (p : Span). p.to) o.0) ∙ o.1)
