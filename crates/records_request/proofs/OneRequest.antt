-- One request for one encoding: what the answer's parts hold settles the request, and so does its encoding.
use mathlib.Core.Path.{◌≡◌, refl, sym, ap, subst, ◌∙◌}
use mathlib.Core.List.{List}
use mathlib.Core.Option.{Option, some, none}
use Prim.Native.Nat.{ℕ}
use Rattle.records_request.specs.Requests.{PerSecond, Request, encode_request, GoodRequest}
use Rattle.records_request.specs.declared.RequestAt.{RequestAt}
use Rattle.records_request.specs.declared.Rate.{Rate}
use Rattle.basis.proofs.Pairs.{some_same}
use Rattle.basis.proofs.Held.{part_held_one}
use Rattle.records_request.proofs.Holds.{rate_of, Holds}
use Rattle.records_request.proofs.RequestWritten.{request_written}

rate_one : (o p : Option PerSecond) → rate_of o ≡ rate_of p → o ≡ p
rate_one none none e = refl
rate_one none (some y) e = cc
rate_one (some x) none e = cc
rate_one (some x) (some y) e =
    let r = some_same e in
    ap some (ap (λ (r : Rate). record { per_s = r.per_s; burst = r.burst }) r)

-- a request that has x's fields is x
same : (x y : Request) → x.now ≡ y.now → x.size ≡ y.size → x.skew ≡ y.skew → x.amnesia ≡ y.amnesia → x.peer ≡ y.peer → x.digest ≡ y.digest
    → x.rate ≡ y.rate → x.method ≡ y.method → x.path ≡ y.path → x.tenant ≡ y.tenant → x.audience ≡ y.audience → x ≡ y
same x y a b c d e f g h i j k = let z : request x ≡ request y = rw (a, b, c, d, e, f, g, h, i, j, k) in z
  where
    request : Request → Request
    request x = record {
      now = x.now;
      size = x.size;
      skew = x.skew;
      amnesia = x.amnesia;
      peer = x.peer;
      digest = x.digest;
      rate = x.rate;
      method = x.method;
      path = x.path;
      tenant = x.tenant;
      audience = x.audience;
    }

-- the parts settle the request
pub holds_one : (s : List ℕ) (x y : Request) (r : RequestAt) → Holds s x r → Holds s y r → x ≡ y
holds_one s x y r g h =
    same x y (g.now_held ∙ sym h.now_held) (g.size_held ∙ sym h.size_held) (g.skew_held ∙ sym h.skew_held) (g.amnesia_held ∙ sym h.amnesia_held)
    (part_held_one s x.peer y.peer r.peer g.peer_held h.peer_held)
    (part_held_one s x.digest y.digest r.digest g.digest_held h.digest_held)
    (rate_one x.rate y.rate (g.rate_held ∙ sym h.rate_held))
    (sym g.method_held ∙ h.method_held) (sym g.path_held ∙ h.path_held) (sym g.tenant_held ∙ h.tenant_held)
    (part_held_one s x.audience y.audience r.audience g.audience_held h.audience_held)

pub request_one : (x y : Request) → GoodRequest x → GoodRequest y → encode_request x ≡ encode_request y → x ≡ y
request_one x y gx gy e =
    let s = encode_request x in
    let a = request_written x gx s refl in
    let b = request_written y gy s e in
    holds_one s x y b.parts (subst (Holds s x) (some_same (sym a.answer ∙ b.answer)) a.holds) b.holds
