-- Peer, digest and rate: those that were read stood there as they are written, and the flags told of them.
use mathlib.Core.Path.{◌≡◌, refl, sym, ap, subst, ◌∙◌}
use mathlib.Core.Bool.{true}
use mathlib.Core.List.{List, ◌++◌, append_assoc}
use mathlib.Core.Option.{Option}
use Prim.Native.Nat.{ℕ, ◌/◌, ◌%◌}
use native.Mathlib.Omega.{arith}
use lib.ListN.{drop}
use Rattle.std.specs.Prelude.{Option as Maybe, Some}
use Rattle.std.proofs.lemmas.Option.{option_and_then_some}
use Rattle.basis.specs.Basis.{between, IsBytes}
use Rattle.basis.specs.declared.Span.{Span}
use Rattle.basis.proofs.Pairs.{some_same, some_pair}
use Rattle.basis.proofs.Parts.{on}
use Rattle.basis.proofs.Held.{PartHeld}
use Rattle.cbor_strings.specs.Strings.{content_of}
use Rattle.cbor_strings.specs.declared.Class.TheVariants.{Hex}
use Rattle.cbor_keys.specs.Maps.{present, IfPresent, GoodText}
use Rattle.records.specs.Records.{little}
use Rattle.records.specs.Reading.{run_at, little_at}
use Rattle.records.proofs.Ways.{taken}
use Rattle.records.proofs.Runs.{run_long, run_read, number_read}
use Rattle.records_request.specs.Requests.{PerSecond, part_if, bare, rate_bytes, FourBytes, GoodRate}
use Rattle.records_request.specs.Reading.{if_flagged, peer_at, digest_at, rate_at, extras_at}
use Rattle.records_request.specs.declared.Rate.{Rate}
use Rattle.records_request.specs.declared.ExtrasAt.{ExtrasAt}
use Rattle.records_request.proofs.Holds.{rate_of}
use Rattle.records_request.proofs.FlaggedParts.{IsThere, flagged_read, span_ends}

peer_read : (s : List ℕ) (at : ℕ) {part : Span} {next : ℕ} → peer_at s at ≡ Some (part, next) → IsThere FourBytes bare (PartHeld s) s at part next
unfolding peer_at
peer_read s at {part} {next} e =
    option_and_then_some _ (run_at s at 4) (part, next) e (λ p was goes.
    let o = span_ends goes in
    let w = was ∙ o.0 in
    record { tree = between s part; good = run_long s at 4 w; held = refl; there = rw (← o.1) (run_read s at 4 w) })

digest_read : (s : List ℕ) (at : ℕ) {part : Span} {next : ℕ} → digest_at s at ≡ Some (part, next) → IsThere (GoodText Hex 64 64) bare (PartHeld s) s at part next
unfolding digest_at
digest_read s at {part} {next} e =
    option_and_then_some _ (run_at s at 64) (part, next) e (λ p was goes.
    let c = taken (content_of Hex (between s p)) goes in
    let o = span_ends c.1 in
    let w = was ∙ o.0 in
    let l = run_long s at 64 w in
    let hex = subst (λ (q : Span). content_of Hex (between s q) ≡ true) (some_same o.0) c.0 in
    record {
      tree = between s part;
      good = record { enough = omega (arith, l); most = omega (arith, l); content = hex };
      held = refl;
      there = rw (← o.1) (run_read s at 64 w);
    })

abbrev pub RateHeld : Option PerSecond → Maybe Rate → Type 0
RateHeld o part = rate_of o ≡ part

rate_read : (s : List ℕ) → IsBytes s → (at : ℕ) {part : Rate} {next : ℕ} → rate_at s at ≡ Some (part, next) → IsThere GoodRate rate_bytes RateHeld s at part next
unfolding rate_at rate_bytes
rate_read s b at {part} {next} e =
    option_and_then_some _ (little_at s at 4) (part, next) e (λ n was_n e.
    option_and_then_some _ (little_at s n.1 4) (part, next) e (λ m was_m e.
    let o = some_pair e in
    let x = number_read s b at 4 was_n in
    let y = number_read s b n.1 4 was_m in
    record {
      tree = record { per_s = n.0; burst = m.0 };
      good = record { few_per_s = omega (arith, x.small); few_burst = omega (arith, y.small) };
      held = ap Some o.0;
      there =
          on (little 4 n.0) x.there (on (little 4 m.0) y.there (ap (λ (i : ℕ). drop i s) o.1))
          ∙ sym (append_assoc (little 4 n.0) (little 4 m.0) (drop next s));
    }))

-- the three that were read
pub record AreExtras (s : List ℕ) (flags at : ℕ) (extras : ExtrasAt) (next : ℕ) : Type 0 where
  pub peer : Option (List ℕ)
  pub digest : Option (List ℕ)
  pub rate : Option PerSecond
  pub good_peer : IfPresent FourBytes peer
  pub good_digest : IfPresent (GoodText Hex 64 64) digest
  pub good_rate : IfPresent GoodRate rate
  pub peer_bit : flags / 2 % 2 ≡ present peer
  pub digest_bit : flags / 8 % 2 ≡ present digest
  pub rate_bit : flags / 16 % 2 ≡ present rate
  pub peer_held : PartHeld s peer extras.peer
  pub digest_held : PartHeld s digest extras.digest
  pub rate_held : rate_of rate ≡ extras.rate
  pub there : drop at s ≡ part_if bare peer ++ (part_if bare digest ++ (part_if rate_bytes rate ++ drop next s))

pub extras_read : (s : List ℕ) → IsBytes s → (flags at : ℕ) {extras : ExtrasAt} {next : ℕ} → extras_at s flags at ≡ Some (extras, next) → AreExtras s flags at extras next
unfolding extras_at
extras_read s b flags at {extras} {next} e =
    option_and_then_some _ (if_flagged 2 flags at (peer_at s at)) (extras, next) e (λ p was_p e.
    option_and_then_some _ (if_flagged 8 flags p.1 (digest_at s p.1)) (extras, next) e (λ d was_d e.
    option_and_then_some _ (if_flagged 16 flags d.1 (rate_at s d.1)) (extras, next) e (λ r was_r e.
    let o = some_pair e in
    let x = flagged_read FourBytes bare (PartHeld s) tt 1 flags s at (peer_at s at) (λ q n. peer_read s at) was_p in
    let y = flagged_read (GoodText Hex 64 64) bare (PartHeld s) tt 3 flags s p.1 (digest_at s p.1) (λ q n. digest_read s p.1) was_d in
    let z = flagged_read GoodRate rate_bytes RateHeld refl 4 flags s d.1 (rate_at s d.1) (λ q n. rate_read s b d.1) was_r in
    subst (λ (w : ExtrasAt). AreExtras s flags at w next) o.0
    (record {
      peer = x.tree;
      digest = y.tree;
      rate = z.tree;
      good_peer = x.good;
      good_digest = y.good;
      good_rate = z.good;
      peer_bit = x.flagged;
      digest_bit = y.flagged;
      rate_bit = z.flagged;
      peer_held = x.held;
      digest_held = y.held;
      rate_held = z.held;
      there = on (part_if bare x.tree) x.there (on (part_if bare y.tree) y.there (on (part_if rate_bytes z.tree) z.there (ap (λ (i : ℕ). drop i s) o.1)));
    }))))
