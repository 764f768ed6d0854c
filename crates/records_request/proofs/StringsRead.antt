-- Method, path, tenant and an audience that is flagged: those that were read stood there as they are written, and nothing behind them.
use mathlib.Core.Path.{◌≡◌, ap, subst, ◌∙◌}
use mathlib.Core.List.{List, [], ◌++◌, append-nil}
use mathlib.Core.Option.{Option}
use Prim.Native.Nat.{ℕ, ◌/◌, ◌%◌}
use borrow.Author.Tests.{ltb-false}
use lib.Dec.{ltb}
use lib.ListN.{length, drop, drop_of_length-le}
use Rattle.std.specs.Prelude.{Option as Maybe, Some}
use Rattle.std.proofs.lemmas.Option.{option_and_then_some}
use Rattle.basis.specs.Basis.{between, IsBytes}
use Rattle.basis.specs.declared.Span.{Span}
use Rattle.basis.proofs.Pairs.{some_same}
use Rattle.basis.proofs.Parts.{on}
use Rattle.basis.proofs.Held.{PartHeld}
use Rattle.cbor_strings.specs.declared.Class.TheVariants.{Upper, Path, Name, Printable}
use Rattle.cbor_keys.specs.Maps.{present, IfPresent, GoodText}
use Rattle.records.specs.Records.{counted}
use Rattle.records.specs.Reading.{text_at}
use Rattle.records.proofs.Ways.{passed}
use Rattle.records.proofs.Fields.{IsText, text_read}
use Rattle.records_request.specs.Requests.{part_if}
use Rattle.records_request.specs.Reading.{if_flagged, audience_at, strings_of, strings_at}
use Rattle.records_request.specs.declared.StringsAt.{StringsAt}
use Rattle.records_request.proofs.FlaggedParts.{IsThere, IsPart, flagged_read, span_ends}

abbrev IsAudience : (s : List ℕ) (bit at : ℕ) (part : Maybe Span) (next : ℕ) → Type 0
IsAudience s bit at part next = IsPart (GoodText Printable 1 128) (counted 2) (PartHeld s) bit s at part next

audience_read : (s : List ℕ) → IsBytes s → (at : ℕ) {part : Span} {next : ℕ} → audience_at s at ≡ Some (part, next)
    → IsThere (GoodText Printable 1 128) (counted 2) (PartHeld s) s at part next
unfolding audience_at
audience_read s b at {part} {next} e =
    option_and_then_some _ (text_at s 2 Printable 1 128 at) (part, next) e (λ p was goes.
    let o = span_ends goes in
    let x = text_read 2 Printable 1 128 s b at (was ∙ o.0) in
    record { tree = x.tree; good = x.good; held = x.held; there = on (counted 2 x.tree) x.there (ap (λ (i : ℕ). drop i s) o.1) })

-- the four that were read
pub record AreStrings (s : List ℕ) (flags at : ℕ) (strings : StringsAt) : Type 0 where
  pub method : List ℕ
  pub path : List ℕ
  pub tenant : List ℕ
  pub audience : Option (List ℕ)
  pub good_method : GoodText Upper 1 16 method
  pub good_path : GoodText Path 1 1024 path
  pub good_tenant : GoodText Name 1 64 tenant
  pub good_audience : IfPresent (GoodText Printable 1 128) audience
  pub audience_bit : flags / 4 % 2 ≡ present audience
  pub method_held : between s strings.method ≡ method
  pub path_held : between s strings.path ≡ path
  pub tenant_held : between s strings.tenant ≡ tenant
  pub audience_held : PartHeld s audience strings.audience
  pub there : drop at s ≡ counted 2 method ++ (counted 2 path ++ (counted 2 tenant ++ part_if (counted 2) audience))

module _ (s : List ℕ) (b : IsBytes s) (flags at : ℕ) where
  found : (m p n : Span) (a : Maybe Span) (next : ℕ) → IsText 2 Upper 1 16 s at m → IsText 2 Path 1 1024 s m.to p → IsText 2 Name 1 64 s p.to n
      → IsAudience s (flags / 4 % 2) n.to a next → drop next s ≡ [] → AreStrings s flags at (strings_of m p n a)
  found m p n a next w x y z d =
      record {
        method = w.tree;
        path = x.tree;
        tenant = y.tree;
        audience = z.tree;
        good_method = w.good;
        good_path = x.good;
        good_tenant = y.good;
        good_audience = z.good;
        audience_bit = z.flagged;
        method_held = w.held;
        path_held = x.held;
        tenant_held = y.held;
        audience_held = z.held;
        there =
            on (counted 2 w.tree) w.there (
            on (counted 2 x.tree) x.there (
            on (counted 2 y.tree) y.there (
            on (part_if (counted 2) z.tree) z.there d ∙ append-nil (part_if (counted 2) z.tree))));
      }

  pub strings_read : {strings : StringsAt} → strings_at s flags at ≡ Some strings → AreStrings s flags at strings
  unfolding strings_at
  strings_read {strings} e =
      option_and_then_some _ (text_at s 2 Upper 1 16 at) strings e (λ m was_m e.
      option_and_then_some _ (text_at s 2 Path 1 1024 m.to) strings e (λ p was_p e.
      option_and_then_some _ (text_at s 2 Name 1 64 p.to) strings e (λ n was_n e.
      option_and_then_some _ (if_flagged 4 flags n.to (audience_at s n.to)) strings e (λ a was_a e.
      let l = passed (ltb a.1 (length s)) e in
      let z = flagged_read (GoodText Printable 1 128) (counted 2) (PartHeld s) tt 2 flags s n.to (audience_at s n.to) (λ q i. audience_read s b n.to) was_a in
      subst (AreStrings s flags at) (some_same l.1)
      (found m p n a.0 a.1 (text_read 2 Upper 1 16 s b at was_m) (text_read 2 Path 1 1024 s b m.to was_p) (text_read 2 Name 1 64 s b p.to was_n) z
      (drop_of_length-le s (ltb-false a.1 (length s) l.0)))))))
