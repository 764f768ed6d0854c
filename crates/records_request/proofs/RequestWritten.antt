-- A request within limits that was written reads back, and the answer's parts hold exactly the request's.
use mathlib.Core.Path.{◌≡◌, refl}
use mathlib.Core.List.{List, ◌++◌}
use Prim.Native.Nat.{ℕ}
use native.Mathlib.Omega.{arith}
use Rattle.std.specs.Prelude.{Some}
use Rattle.records.specs.Records.{counted}
use Rattle.records_request.specs.Requests.{Request, part_if, bare, rate_bytes, flags_of, encode_request, GoodRequest}
use Rattle.records_request.specs.Reading.{numbers_of, request_with, request_of}
use Rattle.records_request.specs.declared.RequestAt.{RequestAt}
use Rattle.records_request.proofs.Holds.{Holds}
use Rattle.records_request.proofs.Flags.{flags_written, amnesia_is}
use Rattle.records_request.proofs.FixedLaws.{Behind, fixed_written}
use Rattle.records_request.proofs.ExtrasWritten.{strings_place, extras_written}
use Rattle.records_request.proofs.StringsWritten.{strings_written}

-- what a reading finds of a request
pub record Written (s : List ℕ) (x : Request) : Type 0 where
  pub parts : RequestAt
  pub answer : request_of s ≡ Some parts
  pub holds : Holds s x parts

pub request_written : (x : Request) → GoodRequest x → (s : List ℕ) → s ≡ encode_request x → Written s x
unfolding encode_request request_of
request_written x g s e =
    let v = flags_written x in
    let strings = counted 2 x.method ++ (counted 2 x.path ++ (counted 2 x.tenant ++ part_if (counted 2) x.audience)) in
    let extras = part_if bare x.peer ++ (part_if bare x.digest ++ (part_if rate_bytes x.rate ++ strings)) in
    let w0 : Behind s (encode_request x) 0 = record { inside = omega arith; there = e } in
    let a = fixed_written s extras x.now x.size x.skew (flags_of x) g.good_now g.good_size g.good_skew v.small w0 in
    let b =
    extras_written s strings (flags_of x) 19 x.peer x.digest x.rate g.good_peer g.good_digest g.good_rate v.peer_bit v.digest_bit v.rate_bit a.1 in
    let p = strings_place s strings (flags_of x) 19 x.peer x.digest x.rate in
    let c =
    strings_written s (flags_of x) p x.method x.path x.tenant x.audience g.good_method g.good_path g.good_tenant g.good_audience v.audience_bit b.behind in
    record {
      parts = request_with (numbers_of x.now x.size x.skew (flags_of x)) b.extras c.strings;
      answer = rw (a.0, b.answer, c.answer);
      holds = record {
        now_held = refl;
        size_held = refl;
        skew_held = refl;
        amnesia_held = amnesia_is x.amnesia (flags_of x) v.amnesia_bit;
        peer_held = b.peer_there;
        digest_held = b.digest_there;
        rate_held = b.rate_there;
        method_held = c.method_there;
        path_held = c.path_there;
        tenant_held = c.tenant_there;
        audience_held = c.audience_there;
      };
    }
