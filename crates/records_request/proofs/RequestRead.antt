-- What reads well as a request is a request within limits, written, and the answer's parts hold what is its.
use mathlib.Core.Path.{◌≡◌, refl, subst}
use mathlib.Core.List.{List}
use Prim.Native.Nat.{ℕ}
use Rattle.std.specs.Prelude.{Some}
use Rattle.std.proofs.lemmas.Option.{option_and_then_some}
use Rattle.basis.specs.Basis.{IsBytes}
use Rattle.basis.proofs.Pairs.{some_same}
use Rattle.records_request.specs.Requests.{Request, amnesia_flag, flags_of, encode_request, GoodRequest}
use Rattle.records_request.specs.Reading.{is_set, fixed_at, extras_at, strings_at, request_with, request_of}
use Rattle.records_request.specs.declared.Numbers.{Numbers}
use Rattle.records_request.specs.declared.ExtrasAt.{ExtrasAt}
use Rattle.records_request.specs.declared.StringsAt.{StringsAt}
use Rattle.records_request.specs.declared.RequestAt.{RequestAt}
use Rattle.records_request.proofs.Holds.{Holds}
use Rattle.records_request.proofs.Flags.{flags_read, amnesia_was}
use Rattle.records_request.proofs.FixedLaws.{IsFixed, fixed_read}
use Rattle.records_request.proofs.ExtrasRead.{AreExtras, extras_read}
use Rattle.records_request.proofs.StringsRead.{AreStrings, strings_read}

-- a request within limits is all there is, and the answer's parts hold what is its
pub record IsRequest (s : List ℕ) (parts : RequestAt) : Type 0 where
  pub tree : Request
  pub good : GoodRequest tree
  pub there : s ≡ encode_request tree
  pub holds : Holds s tree parts

module _ (s : List ℕ) (b : IsBytes s) where
  found : (n : Numbers) (i : ℕ) (extras : ExtrasAt) (j : ℕ) (strings : StringsAt) → IsFixed s n i → AreExtras s n.flags i extras j
      → AreStrings s n.flags j strings → IsRequest s (request_with n extras strings)
  unfolding encode_request
  found n i extras j strings w x y =
      let f = n.flags in
      let tree : Request = record {
        now = n.now;
        size = n.size;
        skew = n.skew;
        amnesia = is_set amnesia_flag f;
        peer = x.peer;
        digest = x.digest;
        rate = x.rate;
        method = y.method;
        path = y.path;
        tenant = y.tenant;
        audience = y.audience;
      } in
      let g : flags_of tree ≡ f = flags_read f tree record {
        small = w.small_flags;
        amnesia_bit = amnesia_was f;
        peer_bit = x.peer_bit;
        audience_bit = y.audience_bit;
        digest_bit = x.digest_bit;
        rate_bit = x.rate_bit;
      } in
      record {
        tree = tree;
        good = record {
          good_now = w.small_now;
          good_size = w.small_size;
          good_skew = w.small_skew;
          good_peer = x.good_peer;
          good_digest = x.good_digest;
          good_rate = x.good_rate;
          good_method = y.good_method;
          good_path = y.good_path;
          good_tenant = y.good_tenant;
          good_audience = y.good_audience;
        };
        there = rw (g, ← y.there, ← x.there) w.there;
        holds = record {
          now_held = refl;
          size_held = refl;
          skew_held = refl;
          amnesia_held = refl;
          peer_held = x.peer_held;
          digest_held = x.digest_held;
          rate_held = x.rate_held;
          method_held = y.method_held;
          path_held = y.path_held;
          tenant_held = y.tenant_held;
          audience_held = y.audience_held;
        };
      }

pub request_read : (s : List ℕ) → IsBytes s → {parts : RequestAt} → request_of s ≡ Some parts → IsRequest s parts
unfolding request_of
request_read s b {parts} e =
    option_and_then_some _ (fixed_at s) parts e (λ n was_n e.
    option_and_then_some _ (extras_at s n.0.flags n.1) parts e (λ x was_x e.
    option_and_then_some _ (strings_at s n.0.flags x.1) parts e (λ y was_y e.
    subst (IsRequest s) (some_same e)
    (found s b n.0 n.1 x.0 x.1 y (fixed_read s b was_n) (extras_read s b n.0.flags n.1 was_x) (strings_read s b n.0.flags x.1 was_y)))))
