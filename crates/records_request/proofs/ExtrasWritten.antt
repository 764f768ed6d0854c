-- Peer, digest and rate: those that are flagged and were written are found where they lie.
use mathlib.Core.Path.{◌≡◌, refl, sym, ap, ◌∙◌}
use mathlib.Core.List.{List, ◌++◌, append_assoc}
use mathlib.Core.Option.{Option, some, none}
use Prim.Native.Nat.{ℕ, ◌+◌, ◌/◌, ◌%◌}
use native.Mathlib.Omega.{arith}
use lib.ListN.{length, length-append}
use Rattle.std.specs.Prelude.{Option as Maybe, Some, None}
use Rattle.basis.specs.Basis.{from_to}
use Rattle.basis.specs.declared.Span.{Span}
use Rattle.basis.proofs.Parts.{lies}
use Rattle.basis.proofs.Held.{PartHeld}
use Rattle.cbor_strings.specs.declared.Class.TheVariants.{Hex}
use Rattle.cbor_keys.specs.Maps.{present, IfPresent, GoodText}
use Rattle.records.specs.Records.{little}
use Rattle.records.specs.Reading.{run_at}
use Rattle.records.proofs.Littles.{little_length}
use Rattle.records.proofs.Runs.{run_written, number_written}
use Rattle.records_request.specs.Requests.{PerSecond, part_if, bare, rate_bytes, FourBytes, GoodRate}
use Rattle.records_request.specs.Reading.{if_flagged, peer_at, digest_at, rate_at, extras_at}
use Rattle.records_request.specs.declared.ExtrasAt.{ExtrasAt}
use Rattle.records_request.proofs.Holds.{rate_of}
use Rattle.records_request.proofs.Flags.{not_flagged, flagged}
use Rattle.records_request.proofs.FixedLaws.{Behind, behind_part, behind_number}

-- where a part that is written as it is lies
abbrev pub bare_part : Option (List ℕ) → ℕ → Maybe Span
bare_part none at = None
bare_part (some x) at = Some (from_to at (at + length x))

module _ (s t : List ℕ) (flags at : ℕ) where
  peer_written : (o : Option (List ℕ)) → IfPresent FourBytes o → flags / 2 % 2 ≡ present o → Behind s (part_if bare o ++ t) at
      → (if_flagged 2 flags at (peer_at s at) ≡ Some (bare_part o at, at + length (part_if bare o))) × PartHeld s o (bare_part o at)
  unfolding peer_at
  peer_written none g f w = (not_flagged 1 flags at (peer_at s at) f, tt)
  peer_written (some p) g f w =
      let r : run_at s at 4 ≡ Some (from_to at (at + length p)) = ap (run_at s at) (sym g) ∙ run_written s p t at w.inside w.there in
      (flagged 1 flags at f (rw r), lies s p t at w.there)

  digest_written : (o : Option (List ℕ)) → IfPresent (GoodText Hex 64 64) o → flags / 8 % 2 ≡ present o → Behind s (part_if bare o ++ t) at
      → (if_flagged 8 flags at (digest_at s at) ≡ Some (bare_part o at, at + length (part_if bare o))) × PartHeld s o (bare_part o at)
  unfolding digest_at
  digest_written none g f w = (not_flagged 3 flags at (digest_at s at) f, tt)
  digest_written (some d) g f w =
      let n : length d ≡ 64 = omega (arith, g.enough, g.most) in
      let r : run_at s at 64 ≡ Some (from_to at (at + length d)) = ap (run_at s at) (sym n) ∙ run_written s d t at w.inside w.there in
      let l = lies s d t at w.there in
      (flagged 3 flags at f (rw (r, l, g.content)), l)

  rate_written : (o : Option PerSecond) → IfPresent GoodRate o → flags / 16 % 2 ≡ present o → Behind s (part_if rate_bytes o ++ t) at
      → if_flagged 16 flags at (rate_at s at) ≡ Some (rate_of o, at + length (part_if rate_bytes o))
  unfolding rate_at rate_bytes
  rate_written none g f w = not_flagged 4 flags at (rate_at s at) f
  rate_written (some r) g f w =
      let x = little 4 r.per_s in
      let y = little 4 r.burst in
      let w0 : Behind s (x ++ (y ++ t)) at = record { inside = w.inside; there = w.there ∙ append_assoc x y t } in
      let w1 = behind_number s (y ++ t) 4 r.per_s at w0 in
      let l : at + 4 + 4 ≡ at + length (x ++ y) = omega (arith, length-append x y, little_length 4 r.per_s, little_length 4 r.burst) in
      flagged 4 flags at f
      (rw (
        number_written s (y ++ t) at 4 r.per_s (omega arith) (omega (arith, g.few_per_s)) w0.inside w0.there,
        number_written s t (at + 4) 4 r.burst (omega arith) (omega (arith, g.few_burst)) w1.inside w1.there,
        l,
      ))

module _ (s t : List ℕ) (flags at : ℕ) (o d : Option (List ℕ)) (r : Option PerSecond) where
  abbrev pub digest_place : ℕ
  digest_place = at + length (part_if bare o)

  abbrev pub rate_place : ℕ
  rate_place = digest_place + length (part_if bare d)

  abbrev pub strings_place : ℕ
  strings_place = rate_place + length (part_if rate_bytes r)

  -- what was found of the three
  pub record ExtrasWritten : Type 0 where
    pub extras : ExtrasAt
    pub answer : extras_at s flags at ≡ Some (extras, strings_place)
    pub peer_there : PartHeld s o extras.peer
    pub digest_there : PartHeld s d extras.digest
    pub rate_there : rate_of r ≡ extras.rate
    pub behind : Behind s t strings_place

  pub extras_written : IfPresent FourBytes o → IfPresent (GoodText Hex 64 64) d → IfPresent GoodRate r → flags / 2 % 2 ≡ present o → flags / 8 % 2 ≡ present d
      → flags / 16 % 2 ≡ present r → Behind s (part_if bare o ++ (part_if bare d ++ (part_if rate_bytes r ++ t))) at → ExtrasWritten
  unfolding extras_at
  extras_written go gd gr fo fd fr w =
      let t2 = part_if rate_bytes r ++ t in
      let t1 = part_if bare d ++ t2 in
      let w1 = behind_part s (part_if bare o) t1 at w in
      let w2 = behind_part s (part_if bare d) t2 digest_place w1 in
      let x = peer_written s t1 flags at o go fo w in
      let y = digest_written s t2 flags digest_place d gd fd w1 in
      let z = rate_written s t flags rate_place r gr fr w2 in
      record {
        extras = record { peer = bare_part o at; digest = bare_part d digest_place; rate = rate_of r };
        answer = rw (x.0, y.0, z);
        peer_there = x.1;
        digest_there = y.1;
        rate_there = refl;
        behind = behind_part s (part_if rate_bytes r) t rate_place w2;
      }
