-- The walk over a token's caveats where they lie is a walk over its tree's caveats, whatever is added up on the way: one law for the chain
-- alone (narrow) and for chain and answer together (verify).
use Rattle.cbor_heads.specs.Defects.{bad}
use mathlib.Core.Path.{◌≡◌, refl, sym, ◌∙◌}
use mathlib.Core.List.{List, [], ◌∷◌, ◌++◌, append_assoc}
use Prim.Native.Nat.{ℕ, ◌+◌, ◌-◌}
use native.Mathlib.Omega.{arith}
use lib.ListN.{length, drop}
use lib.Seq.{take_at}
use Rattle.basis.specs.Basis.{from_to, between}
use Rattle.basis.proofs.Parts.{past}
use Rattle.hash_chain.specs.Chain.{chain_of}
use Rattle.token_caveat.specs.Caveats.{Caveat, encode_caveat, GoodCaveat}
use Rattle.token_caveat_values.specs.declared.CaveatAt.{CaveatAt}
use Rattle.token_caveat.proofs.CaveatLaws.{part_of, caveat_written}
use Rattle.token_caveat.proofs.CaveatLaws as caveats
use Rattle.token.specs.Tokens.{encode_caveats, AllCaveats}
use Rattle.verify_walk.specs.Walking.{after_caveat, over_caveats, link_stays, link_add}
use Rattle.bhinorpa.specs.Allowed.{caveat_bytes}

-- a caveat alone, as the front of what is lent
front_held : (s x rest : List ℕ) → s ≡ x ++ rest → between s (from_to 0 (length x)) ≡ x
front_held s x rest e = let n : length x - 0 ≡ length x = omega arith in rw (n, e) (take_at x rest (length x) refl)

-- a caveat that lies at the front of a part, with what its reading finds there
pub record Lies (part : List ℕ) (c : Caveat) : Type 0 where
  pub good : GoodCaveat c
  pub found : caveats.Written part c
  pub alone : between part (from_to 0 (length (encode_caveat c))) ≡ encode_caveat c

-- what the tree's caveats make of what was found before them
module _ {A : Type 0} (bad : A → ℕ → A) (add : A → List ℕ → CaveatAt → ℕ → A) (tree : List Caveat → A → A) (none : (found : A) → tree [] found ≡ found)
    (one : (c : Caveat) (cs : List Caveat) (part : List ℕ) → Lies part c → (found : A) → tree cs (add found part (part_of c) (length (encode_caveat c))) ≡ tree (c ∷ cs) found) where
  pub over_law : (cs : List Caveat) → AllCaveats cs → (s rest : List ℕ) (at : ℕ) → drop at s ≡ encode_caveats cs ++ rest → (found : A)
      → over_caveats bad add (length cs) s at found ≡ tree cs found
  unfolding over_caveats after_caveat AllCaveats encode_caveats
  over_law [] g s rest at e found = sym (none found)
  over_law (c ∷ cs) g s rest at e found =
      let x = encode_caveat c in
      let t = encode_caveats cs ++ rest in
      let f : drop at s ≡ x ++ t = e ∙ append_assoc x (encode_caveats cs) rest in
      let w = caveat_written c g.0 (drop at s) t f in
      let l : Lies (drop at s) c = record { good = g.0; found = w; alone = front_held (drop at s) x t f } in
      rw w.answer (over_law cs g.1 s rest (at + length x) (past s x t at f) (add found (drop at s) (part_of c) (length x)) ∙ one c cs (drop at s) l found)

-- the chain alone
pub links_law : (key : List ℕ) (cs : List Caveat) → AllCaveats cs → (s rest : List ℕ) (at : ℕ) → drop at s ≡ encode_caveats cs ++ rest → (link : List ℕ)
    → over_caveats link_stays (link_add key) (length cs) s at link ≡ chain_of key link (caveat_bytes cs)
unfolding chain_of caveat_bytes
links_law key = over_law link_stays (link_add key) (λ cs link. chain_of key link (caveat_bytes cs)) (λ link. refl) (λ c cs part l link. rw l.alone)
