-- Where the parts that a reading answers hold a tree, the rules where they lie are the rules on that tree.
use mathlib.Core.Path.{◌≡◌, refl, ap, ◌∙◌}
use mathlib.Core.Bool.{Bool, true, false}
use mathlib.Core.List.{List, [], ◌∷◌, ◌++◌, append_assoc}
use mathlib.Core.Option.{Option, some, none}
use Prim.Native.Nat.{ℕ, ◌+◌}
use native.Mathlib.Omega.{arith}
use lib.Dec.{leb}
use lib.ListN.{length, drop}
use Rattle.basis.specs.declared.Span.{Span}
use Rattle.std.specs.Prelude.{Option as Maybe, Some, None}
use Rattle.basis.proofs.Held.{PartHeld}
use Rattle.cbor_values.specs.declared.ListAt.{ListAt}
use Rattle.basis.specs.Same.{same_of}
use Rattle.answers.specs.Answers.{number_of}
use Rattle.basis.proofs.Parts.{past}
use Rattle.cbor_strings.specs.declared.Class.TheVariants.{Upper}
use Rattle.cbor_keys.specs.Maps.{text, texts}
use Rattle.cbor_keys.proofs.TextLaws.{text_written, text_held}
use Rattle.token_cidr.specs.Prefixes.{Prefix}
use Rattle.token_cidr.specs.Reading.{net_of}
use Rattle.token_cidr.specs.Bits.{agree_of}
use Rattle.token_scope.specs.Scopes.{Scope, AllMethods, GoodScope}
use Rattle.token_scope.specs.declared.ScopeAt.{ScopeAt}
use Rattle.token_scope.proofs.Holds.{limit_of, Holds as ScopeHeld}
use Rattle.token_caveat.specs.Caveats.{Caveat, amnesia, GoodCaveat}
use Rattle.token_caveat_values.specs.declared.CaveatAt.{CaveatAt}
use Rattle.token_caveat.proofs.Holds.{Holds as CaveatIs, exp_is, nbf_is, aud_is, method_is, path_is, cidr_is, bytes_is, rate_is, tenant_is, amnesia_is, digest_is, custom_is}
use Rattle.records_request.specs.Requests.{Request, PerSecond}
use Rattle.records_request.specs.declared.Rate.{Rate as RateAt}
use Rattle.records_request.specs.declared.RequestAt.{RequestAt}
use Rattle.records_request.proofs.Holds.{rate_of, Holds as RequestHeld}
use Rattle.rules.specs.Holding.{member_of, if_there, only_there, address_bytes, rate_within, failing, caveat_holds, scope_answer, caveat_answer}
use Rattle.rules_compare.specs.Fitting.{fits_of}
use Rattle.rules_compare.specs.Comparing.{member_at, member_in, rate_holds, prefix_fits, limit_holds, part_is, peer_agrees}
use Rattle.rules.specs.Judging.{scope_judged, amnesia_held, caveat_held, failing_of, caveat_judged}

-- the methods that stand behind each other from a place on
pub member_law : (ms : List (List ℕ)) → AllMethods ms → (s rest m : List ℕ) (at : ℕ) → drop at s ≡ texts ms ++ rest → member_at (length ms) s m at ≡ member_of m ms
unfolding member_at member_of texts AllMethods
member_law [] g s rest m at e = refl
member_law (x ∷ ms) g s rest m at e =
    let f = e ∙ append_assoc (text x) (texts ms) rest in
    let l = g.0.most in
    let r = member_law ms g.1 s rest m (at + length (text x)) (past s (text x) (texts ms ++ rest) at f) in
    rw (text_written Upper 1 16 x g.0 (omega arith) s (texts ms ++ rest) at f, text_held x (omega arith) s (texts ms ++ rest) at f, r)

-- the same for a list that was read
member_held : (ms : List (List ℕ)) → AllMethods ms → (s m : List ℕ) (list : ListAt) → length ms ≡ list.count → drop list.span.from s ≡ texts ms ++ drop list.span.to s
    → member_in s list m ≡ member_of m ms
member_held ms g s m list l e = rw (← l) (member_law ms g s (drop list.span.to s) m list.span.from e)

prefix_law : (s path : List ℕ) (o : Option (List ℕ)) (part : Maybe Span) → PartHeld s o part → prefix_fits s part path ≡ if_there (λ p. fits_of p path) o
unfolding prefix_fits
prefix_law s path none None h = refl
prefix_law s path none (Some part) h = elim h [ ]
prefix_law s path (some p) None h = elim h [ ]
prefix_law s path (some p) (Some part) h = ap (λ (t : List ℕ). fits_of t path) h

limit_law : (size : ℕ) (o : Option ℕ) (limit : Maybe ℕ) → limit_of o ≡ limit → limit_holds limit size ≡ if_there (leb size) o
unfolding limit_holds
limit_law size none limit e = rw (← e)
limit_law size (some n) limit e = rw (← e)

pub scope_law : (s : List ℕ) (x : Scope) → GoodScope x → {parts : ScopeAt} → ScopeHeld s x parts → (body : List ℕ) (r : Request) (q : RequestAt) → RequestHeld body r q
    → scope_judged s parts body q ≡ scope_answer r x
unfolding scope_judged scope_answer
scope_law s x g {parts} h body r q w =
    rw (
      w.method_held,
      w.path_held,
      ← w.size_held,
      member_held x.methods g.good_methods.each s r.method parts.methods h.counted_so h.methods_held,
      prefix_law s r.path x.prefix parts.prefix h.prefix_held,
      limit_law r.size x.max_bytes parts.max_bytes h.limit_held,
    )

part_law : (body a : List ℕ) (o : Option (List ℕ)) (part : Maybe Span) → PartHeld body o part → part_is body part a ≡ only_there (same_of a) o
unfolding part_is
part_law body a none None h = refl
part_law body a none (Some part) h = elim h [ ]
part_law body a (some x) None h = elim h [ ]
part_law body a (some x) (Some part) h = ap (same_of a) h

rate_law : (per-s burst : ℕ) (o : Option PerSecond) (part : Maybe RateAt) → rate_of o ≡ part → rate_holds part per-s burst ≡ only_there (rate_within per-s burst) o
unfolding rate_holds
rate_law per-s burst none part e = rw (← e)
rate_law per-s burst (some x) part e = rw (← e)

peer_law : (body : List ℕ) (p : Prefix) (o : Option (List ℕ)) (part : Maybe Span) → PartHeld body o part
    → peer_agrees body part (net_of p) ≡ only_there (λ x. agree_of (address_bytes p) x p.size) o
unfolding peer_agrees
peer_law body p none None h = refl
peer_law body p none (Some part) h = elim h [ ]
peer_law body p (some x) None h = elim h [ ]
peer_law body p (some x) (Some part) h = rw h

amnesia_law : (b flag : Bool) (r : Request) → r.amnesia ≡ flag → (tid : List ℕ) → amnesia_held b flag ≡ caveat_holds r tid (amnesia b)
unfolding amnesia_held caveat_holds
amnesia_law true flag r e tid = rw e
amnesia_law false flag r e tid = refl

module _ (s body tid : List ℕ) (r : Request) (q : RequestAt) (h : RequestHeld body r q) where
  pub held_law : (c : Caveat) (part : CaveatAt) → GoodCaveat c → CaveatIs s c part → caveat_held s part body q tid ≡ caveat_holds r tid c
  unfolding caveat_held caveat_holds GoodCaveat
  held_law c part g (exp_is n) = rw (h.now_held, h.skew_held)
  held_law c part g (nbf_is n) = rw (h.now_held, h.skew_held)
  held_law c part g (aud_is a p e) = rw e (part_law body a r.audience q.audience h.audience_held)
  held_law c part g (method_is ms list l e) = rw h.method_held (member_held ms g.each s r.method list l e)
  held_law c part g (path_is p x e) = rw (e, h.path_held)
  held_law c part g (cidr_is p n e) = rw (← e) (peer_law body p r.peer q.peer h.peer_held)
  held_law c part g (bytes_is n) = rw h.size_held
  held_law c part g (rate_is per-s burst) = rate_law per-s burst r.rate q.rate h.rate_held
  held_law c part g (tenant_is t p e) = rw e
  held_law c part g (amnesia_is b) = amnesia_law b q.amnesia r h.amnesia_held tid
  held_law c part g (digest_is d p e) = rw e (part_law body d r.digest q.digest h.digest_held)
  held_law c part g (custom_is ns name value p i j k) = refl

  failing_law : (c : Caveat) (part : CaveatAt) → CaveatIs s c part → failing_of part ≡ number_of (failing c)
  unfolding failing_of failing
  failing_law c part (exp_is n) = refl
  failing_law c part (nbf_is n) = refl
  failing_law c part (aud_is a p e) = refl
  failing_law c part (method_is ms list l e) = refl
  failing_law c part (path_is p x e) = refl
  failing_law c part (cidr_is p n e) = refl
  failing_law c part (bytes_is n) = refl
  failing_law c part (rate_is per-s burst) = refl
  failing_law c part (tenant_is t p e) = refl
  failing_law c part (amnesia_is b) = refl
  failing_law c part (digest_is d p e) = refl
  failing_law c part (custom_is ns name value p i j k) = refl

  pub caveat_law : (c : Caveat) (part : CaveatAt) → GoodCaveat c → CaveatIs s c part → caveat_judged s part body q tid ≡ caveat_answer r tid c
  unfolding caveat_judged caveat_answer
  caveat_law c part g w = rw (held_law c part g w, failing_law c part w)
