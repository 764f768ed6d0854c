-- The caveats of a token both ways, each read where it lies: those that were written are passed over, and what is passed over are
-- caveats within limits, written one behind the other.
use Rattle.std.specs.Prelude.{Ok, Err}
use mathlib.Core.Path.{◌≡◌, refl, sym, ap, ap₂, ◌∙◌}
use mathlib.Core.List.{List, [], ◌∷◌, ◌++◌, append_assoc}
use Prim.Native.Nat.{ℕ, zero, suc, ◌+◌}
use native.Mathlib.Nat.{add-zero}
use native.Mathlib.Omega.{arith}
use lib.ListN.{length, drop}
use lib.Seq.{drop-drop}
use Rattle.basis.specs.Basis.{IsBytes}
use Rattle.basis.proofs.Pairs.{ok_same}
use Rattle.basis.proofs.Parts.{past, ends, on}
use Rattle.cbor_heads.specs.Defects.{Reading, after}
use Rattle.cbor_heads.proofs.HeadLaws.{drop_bytes}
use Rattle.cbor_values.specs.Reading.{items_of}
use Rattle.token_caveat_values.specs.declared.CaveatAt.{CaveatAt}
use Rattle.token_caveat.specs.Caveats.{Caveat, encode_caveat, GoodCaveat}
use Rattle.token_caveat.specs.Reading.{caveat_of}
use Rattle.token_caveat.proofs.CaveatLaws.{caveat_written, caveat_read}
use Rattle.token_caveat.proofs.OneCaveat.{caveat_one}
use Rattle.token.specs.Tokens.{encode_caveats, AllCaveats}
use Rattle.token_front.specs.Ends.{end_by, caveat_end}

caveat_there : (c : Caveat) → GoodCaveat c → (s rest : List ℕ) (at : ℕ) → drop at s ≡ encode_caveat c ++ rest → caveat_end s at ≡ Ok (at + length (encode_caveat c))
caveat_there c g s rest at e = rw (caveat_written c g (drop at s) rest e).answer

pub caveats_written : (cs : List Caveat) → AllCaveats cs → (s rest : List ℕ) (at : ℕ) → drop at s ≡ encode_caveats cs ++ rest
    → items_of (caveat_end s) (length cs) at ≡ Ok (at + length (encode_caveats cs))
unfolding AllCaveats encode_caveats items_of
caveats_written [] g s rest at e = ap Ok (sym (add-zero at))
caveats_written (c ∷ cs) g s rest at e =
    let x = encode_caveat c in
    let y = encode_caveats cs in
    let f = e ∙ append_assoc x y rest in
    rw (caveat_there c g.0 s (y ++ rest) at f) (caveats_written cs g.1 s rest (at + length x) (past s x (y ++ rest) at f) ∙ ap Ok (ends x y at))

record IsCaveatAt (s : List ℕ) (at to : ℕ) : Type 0 where
  pub tree : Caveat
  pub good : GoodCaveat tree
  pub long : at + length (encode_caveat tree) ≡ to
  pub there : drop at s ≡ encode_caveat tree ++ drop to s

caveat_is_there : (s : List ℕ) → IsBytes s → (at to : ℕ) → caveat_end s at ≡ Ok to → IsCaveatAt s at to
caveat_is_there s b at to = by (caveat_of (drop at s)) refl
  where
    by : (r : Reading (CaveatAt × ℕ)) → caveat_of (drop at s) ≡ r → end_by at r ≡ Ok to → IsCaveatAt s at to
    by (Err d) p e = let z : ◌≡◌ {A = ℕ} 0 1 = cc in let z : ⊥ = omega arith in elim z [ ]
    by (Ok (part, n)) p e =
        let x : at + n ≡ to = ok_same e in
        let c = caveat_read (drop at s) (drop_bytes at s b) p in
        record {
          tree = c.tree;
          good = c.good;
          long = ap (λ (n : ℕ). at + n) c.long ∙ x;
          there = c.there ∙ ap (λ (t : List ℕ). encode_caveat c.tree ++ t) (drop-drop n at s ∙ ap (λ (i : ℕ). drop i s) x);
        }

pub record AreCaveats (s : List ℕ) (k at to : ℕ) : Type 0 where
  pub trees : List Caveat
  pub counted_so : length trees ≡ k
  pub good : AllCaveats trees
  pub long : at + length (encode_caveats trees) ≡ to
  pub there : drop at s ≡ encode_caveats trees ++ drop to s

pub caveats_read : (s : List ℕ) → IsBytes s → (k at to : ℕ) → items_of (caveat_end s) k at ≡ Ok to → AreCaveats s k at to
unfolding AllCaveats encode_caveats items_of
caveats_read s b zero at to e =
    let x : at ≡ to = ok_same e in
    record { trees = []; counted_so = refl; good = tt; long = add-zero at ∙ x; there = ap (λ (i : ℕ). drop i s) x }
caveats_read s b (suc k) at to e = by (caveat_end s at) refl e (caveats_read s b k)
  where
    by : (i : Reading ℕ) → caveat_end s at ≡ i → after (items_of (caveat_end s) k) i ≡ Ok to
        → ((at to : ℕ) → items_of (caveat_end s) k at ≡ Ok to → AreCaveats s k at to) → AreCaveats s (suc k) at to
    by (Err d) p e m = let z : ◌≡◌ {A = ℕ} 0 1 = cc in let z : ⊥ = omega arith in elim z [ ]
    by (Ok t) p e m =
        let v = caveat_is_there s b at t p in
        let vs = m t to e in
        let x = encode_caveat v.tree in
        let y = encode_caveats vs.trees in
        record {
          trees = v.tree ∷ vs.trees;
          counted_so = ap suc vs.counted_so;
          good = (v.good, vs.good);
          long = sym (ends x y at) ∙ ap (λ (i : ℕ). i + length y) v.long ∙ vs.long;
          there = rw append_assoc (on x v.there vs.there);
        }

-- one list for one encoding
pub caveats_one : (xs ys : List Caveat) → AllCaveats xs → AllCaveats ys → length xs ≡ length ys → (t u : List ℕ) → encode_caveats xs ++ t ≡ encode_caveats ys ++ u
    → (xs ≡ ys) × (t ≡ u)
unfolding AllCaveats encode_caveats
caveats_one [] [] g h l t u e = (refl, e)
caveats_one [] (y ∷ ys) g h l t u e = let z : ⊥ = omega arith in elim z [ ]
caveats_one (x ∷ xs) [] g h l t u e = let z : ⊥ = omega arith in elim z [ ]
caveats_one (x ∷ xs) (y ∷ ys) g h l t u e =
    let f = sym (append_assoc (encode_caveat x) (encode_caveats xs) t) ∙ e ∙ append_assoc (encode_caveat y) (encode_caveats ys) u in
    let o = caveat_one x y g.0 h.0 (encode_caveats xs ++ t) (encode_caveats ys ++ u) f in
    let r = caveats_one xs ys g.1 h.1 (omega arith) t u o.1 in
    (ap₂ ◌∷◌ o.0 r.0, r.1)
