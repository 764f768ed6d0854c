-- Method, path, tenant and an audience that is flagged: those that were written are found where they lie, with nothing behind them.
use mathlib.Core.Path.{◌≡◌, sym, ap, ◌∙◌}
use mathlib.Core.List.{List, [], ◌++◌, append-nil}
use mathlib.Core.Option.{Option, some, none}
use Prim.Native.Nat.{ℕ, ◌+◌, ◌-◌, ◌/◌, ◌%◌}
use native.Mathlib.Omega.{arith}
use borrow.Author.Tests.{le-ltb}
use lib.ListN.{length, length-append, length-drop}
use Rattle.std.specs.Prelude.{Option as Maybe, Some, None}
use Rattle.basis.specs.Basis.{from_to, between}
use Rattle.basis.specs.declared.Span.{Span}
use Rattle.cbor_strings.specs.declared.Class.TheVariants.{Upper, Path, Name, Printable}
use Rattle.cbor_keys.specs.Maps.{present, IfPresent, GoodText}
use Rattle.records.specs.Records.{little, counted}
use Rattle.records.proofs.Littles.{little_length}
use Rattle.records.proofs.Fields.{text_written}
use Rattle.records_request.specs.Requests.{part_if}
use Rattle.records_request.specs.Reading.{if_flagged, audience_at, strings_of, strings_at}
use Rattle.records_request.specs.declared.StringsAt.{StringsAt}
use Rattle.basis.proofs.Held.{PartHeld}
use Rattle.records_request.proofs.Flags.{not_flagged, flagged}
use Rattle.records_request.proofs.FixedLaws.{Behind, behind_text}

abbrev pub audience_part : Option (List ℕ) → ℕ → Maybe Span
audience_part none at = None
audience_part (some a) at = Some (from_to (at + 2) (at + 2 + length a))

module _ (s t : List ℕ) (flags at : ℕ) where
  audience_written : (o : Option (List ℕ)) → IfPresent (GoodText Printable 1 128) o → flags / 4 % 2 ≡ present o → Behind s (part_if (counted 2) o ++ t) at
      → (if_flagged 4 flags at (audience_at s at) ≡ Some (audience_part o at, at + length (part_if (counted 2) o))) × PartHeld s o (audience_part o at)
  unfolding audience_at counted
  audience_written none g f w = (not_flagged 2 flags at (audience_at s at) f, tt)
  audience_written (some a) g f w =
      let l : at + 2 + length a ≡ at + length (counted 2 a) = omega (arith, length-append (little 2 (length a)) a, little_length 2 (length a)) in
      let n = text_written 2 Printable 1 128 a (omega arith) (omega arith) g s t at w.inside w.there in
      (flagged 2 flags at f (rw (n, l)), (behind_text s a t at w).1)

module _ (s : List ℕ) (flags at : ℕ) (m p n : List ℕ) (o : Option (List ℕ)) where
  abbrev pub path_place : ℕ
  path_place = at + 2 + length m

  abbrev pub tenant_place : ℕ
  tenant_place = path_place + 2 + length p

  abbrev pub audience_place : ℕ
  audience_place = tenant_place + 2 + length n

  -- what was found of the four
  pub record StringsWritten : Type 0 where
    pub strings : StringsAt
    pub answer : strings_at s flags at ≡ Some strings
    pub method_there : between s strings.method ≡ m
    pub path_there : between s strings.path ≡ p
    pub tenant_there : between s strings.tenant ≡ n
    pub audience_there : PartHeld s o strings.audience

  pub strings_written : GoodText Upper 1 16 m → GoodText Path 1 1024 p → GoodText Name 1 64 n → IfPresent (GoodText Printable 1 128) o → flags / 4 % 2 ≡ present o
      → Behind s (counted 2 m ++ (counted 2 p ++ (counted 2 n ++ part_if (counted 2) o))) at → StringsWritten
  unfolding strings_at
  strings_written gm gp gn go f w =
      let t3 = part_if (counted 2) o in
      let t2 = counted 2 n ++ t3 in
      let t1 = counted 2 p ++ t2 in
      let w1 = behind_text s m t1 at w in
      let w2 = behind_text s p t2 path_place w1.0 in
      let w3 = behind_text s n t3 tenant_place w2.0 in
      let w4 : Behind s (t3 ++ []) audience_place = record { inside = w3.0.inside; there = w3.0.there ∙ sym (append-nil t3) } in
      let a = audience_written s [] flags audience_place o go f w4 in
      let l : length s - audience_place ≡ length t3 = sym (length-drop audience_place s) ∙ ap length w3.0.there in
      record {
        strings =
            strings_of (from_to (at + 2) path_place) (from_to (path_place + 2) tenant_place) (from_to (tenant_place + 2) audience_place) (audience_part o audience_place);
        answer = rw (
          text_written 2 Upper 1 16 m (omega arith) (omega arith) gm s t1 at w.inside w.there,
          text_written 2 Path 1 1024 p (omega arith) (omega arith) gp s t2 path_place w1.0.inside w1.0.there,
          text_written 2 Name 1 64 n (omega arith) (omega arith) gn s t3 tenant_place w2.0.inside w2.0.there,
          a.0,
          le-ltb (audience_place + length t3) (length s) (omega (arith, l)),
        );
        method_there = w1.1;
        path_there = w2.1;
        tenant_there = w3.1;
        audience_there = a.1;
      }
