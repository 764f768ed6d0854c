-- One caveat for one encoding: what the parts hold settles the caveat, and so does its encoding.
use mathlib.Core.Path.{◌≡◌, refl, sym, ap, ap₂, subst, ◌∙◌}
use mathlib.Core.List.{List, [], ◌++◌}
use Prim.Native.Nat.{ℕ}
use lib.ListN.{drop}
use Rattle.basis.proofs.Pairs.{ok_pair}
use Rattle.basis.proofs.Parts.{one_rest}
use Rattle.cbor_values.specs.Trees.{Value, encode, Good}
use Rattle.cbor_values.proofs.OneTree.{one_tree}
use Rattle.token_cidr.proofs.TextLaws.{prefix_of}
use Rattle.token_scope.proofs.MethodLaws.{methods_one}
use Rattle.token_caveat.specs.Caveats.{Caveat, aud, method, path_prefix, ip_cidr, tenant, gov_policy_digest, custom, encode_caveat, GoodCaveat}
use Rattle.token_caveat_values.specs.declared.CaveatAt.{CaveatAt}
use Rattle.token_caveat.proofs.Holds.{Holds, exp_is, nbf_is, aud_is, method_is, path_is, cidr_is, bytes_is, rate_is, tenant_is, amnesia_is, digest_is, custom_is}
use Rattle.token_caveat.proofs.CaveatLaws.{part_of, caveat_written}

one_value : (v w : Value) → Good v 4 → Good w 4 → encode v ≡ encode w → v ≡ w
one_value v w g h e = (one_tree v w 4 4 g h [] [] (ap (λ (t : List ℕ). t ++ []) e)).0

pub holds_one : (s : List ℕ) {x y : Caveat} {p : CaveatAt} → GoodCaveat x → GoodCaveat y → Holds s x p → Holds s y p → x ≡ y
unfolding GoodCaveat
holds_one s gx gy (exp_is n) (exp_is m) = refl
holds_one s gx gy (nbf_is n) (nbf_is m) = refl
holds_one s gx gy (aud_is a p e) (aud_is b q d) = ap aud (sym e ∙ d)
holds_one s gx gy (method_is ms p l e) (method_is ns q m d) =
    ap method (methods_one ms ns gx.each gy.each (l ∙ sym m) (drop p.span.to s) (drop p.span.to s) (sym e ∙ d))
holds_one s gx gy (path_is a p e) (path_is b q d) = ap path_prefix (sym e ∙ d)
holds_one s gx gy (cidr_is a n e) (cidr_is b m d) = ap (λ n. ip_cidr (prefix_of n)) (e ∙ sym d)
holds_one s gx gy (bytes_is n) (bytes_is m) = refl
holds_one s gx gy (rate_is n m) (rate_is i j) = refl
holds_one s gx gy (tenant_is a p e) (tenant_is b q d) = ap tenant (sym e ∙ d)
holds_one s gx gy (amnesia_is a) (amnesia_is b) = refl
holds_one s gx gy (digest_is a p e) (digest_is b q d) = ap gov_policy_digest (sym e ∙ d)
holds_one s gx gy (custom_is ns name value a p q r) (custom_is ms nb v b i j k) =
    ap₂ (λ (n : List ℕ) (m : List ℕ × Value). custom n m.0 m.1) (sym p ∙ i) (ap₂ (λ (n : List ℕ) (v : Value). (n, v)) (sym r ∙ k) (one_value value v gx.2 gy.2 (sym q ∙ j)))

pub caveat_one : (x y : Caveat) → GoodCaveat x → GoodCaveat y → (t u : List ℕ) → encode_caveat x ++ t ≡ encode_caveat y ++ u → (x ≡ y) × (t ≡ u)
caveat_one x y gx gy t u e =
    let s = encode_caveat x ++ t in
    let a = caveat_written x gx s t refl in
    let b = caveat_written y gy s u e in
    let w : part_of x ≡ part_of y = (ok_pair (sym a.answer ∙ b.answer)).0 in
    let q = holds_one s gx gy a.holds (subst (Holds s y) (sym w) b.holds) in
    (q, one_rest (encode_caveat x) (encode_caveat y) t u (ap encode_caveat q) e)
