-- A walk over the caveats, turn by turn, whatever each of them adds: what is left of it decides.
use Rattle.std.specs.Prelude.{Ok, Err}
use Rattle.cbor_heads.specs.Defects.{defect, kind_number}
use Rattle.cbor_heads.specs.declared.defect.Defect.{Defect}
use Rattle.cbor_heads.specs.declared.defect.Kind.TheVariants.{Cbor}
use mathlib.Core.Path.{◌≡◌, refl, sym, ap, subst, ◌∙◌}
use mathlib.Core.Bool.{Bool, true, false}
use mathlib.Core.List.{List, []}
use Prim.Native.Nat.{ℕ, zero, suc, ◌+◌, ◌-◌, ◌<◌, ◌≤◌, min}
use native.Mathlib.Omega.{arith}
use borrow.Author.Tests.{leb-true, leb-false}
use lib.Dec.{leb}
use lib.ListN.{length, take, drop, length-drop, length-take, drop_of_length-le}
use lib.Seq.{take_all}
use Rattle.basis.specs.Basis.{from_to, between}
use Rattle.cbor_heads.specs.Reading.{head_at}
use Rattle.cbor_heads.specs.Counts.{count_by}
use Rattle.hash_chain.specs.Inner.{NextOf}
use Rattle.token_caveat.specs.Reading.{caveat_of}
use Rattle.token_caveat_values.specs.declared.CaveatAt.{CaveatAt}
use Rattle.cbor_strings.proofs.Inside.{PairIn}
use Rattle.token_caveat.proofs.Inside.{caveat_in}
use Rattle.verify_walk.specs.Walking.{after_caveat, over_caveats}
use Rattle.verify_walk.specs.Ready.{Walkable}

-- nothing is read at the end of a token or behind it
none_there : caveat_of [] ≡ Err (defect Cbor 0)
unfolding caveat_of count_by head_at
none_there = refl

past_end : {A : Type 0} (bad : A → ℕ → A) (add : A → List ℕ → CaveatAt → ℕ → A) (k : ℕ) (s : List ℕ) (at : ℕ) (found : A) → drop at s ≡ []
    → over_caveats bad add k s at found ≡ over_caveats bad add k [] 0 found
unfolding over_caveats after_caveat
past_end bad add zero s at found e = refl
past_end bad add (suc k) s at found e = rw (e, none_there)

-- so that a walk may begin at the end instead
pub walk_start : {A : Type 0} (bad : A → ℕ → A) (add : A → List ℕ → CaveatAt → ℕ → A) (k : ℕ) (s : List ℕ) (at : ℕ) (found : A) (p : ℕ) → p ≡ min at (length s)
    → over_caveats bad add k s p found ≡ over_caveats bad add k s at found
walk_start bad add k s at found p e = by (leb at (length s)) refl
  where
    by : (b : Bool) → leb at (length s) ≡ b → over_caveats bad add k s p found ≡ over_caveats bad add k s at found
    by true h = let x : p ≡ at = omega (arith, e, leb-true at (length s) h) in ap (λ (i : ℕ). over_caveats bad add k s i found) x
    by false h =
        let l = leb-false at (length s) h in
        past_end bad add k s p found (drop_of_length-le s {i = p} (omega (arith, e))) ∙ sym (past_end bad add k s at found (drop_of_length-le s {i = at} (omega arith)))

-- of k caveats i are walked over, up to p, and so much was found; `all` is what the whole walk finds
pub record Walking {A : Type 0} (bad : A → ℕ → A) (add : A → List ℕ → CaveatAt → ℕ → A) (s : List ℕ) (all : A) (k i p : ℕ) (found : A) : Type 0 where
  pub inside : p ≤ length s
  pub rest : over_caveats bad add (k - i) s p found ≡ all

module _ {A : Type 0} {bad : A → ℕ → A} {add : A → List ℕ → CaveatAt → ℕ → A} {s : List ℕ} {all : A} {k i p : ℕ} {found : A} (w : Walking bad add s all k i p found) where
  pub walked_all : k ≤ i → found ≡ all
  unfolding over_caveats
  walked_all h = let z : k - i ≡ 0 = omega arith in rw z at w.rest

  module _ (h : i < k) where
    -- the part that is lent
    abbrev part : List ℕ
    part = take (length s - p) (drop p s)

    one_left : over_caveats bad add (suc (k - (i + 1))) s p found ≡ all
    one_left = let z : suc (k - (i + 1)) ≡ k - i = omega arith in ap (λ (k : ℕ). over_caveats bad add k s p found) z ∙ w.rest

    lent : part ≡ drop p s
    lent = take_all (length s - p) (drop p s) (simp length-drop (omega arith))

    pub walk_bad_lem : {d : Defect} → caveat_of part ≡ Err d → bad found (kind_number d.kind) ≡ all
    unfolding over_caveats after_caveat
    walk_bad_lem c = rw (sym (ap caveat_of lent) ∙ c) at one_left

    module _ {caveat : CaveatAt} {next : ℕ} (c : caveat_of part ≡ Ok (caveat, next)) where
      pub walk_on : p + next ≤ length s
      walk_on =
          let e = sym (ap caveat_of lent) ∙ c in
          let i : next ≤ length s - p = rw length-drop at (subst (PairIn (length (drop p s))) e (caveat_in (drop p s))) in
          omega (arith, w.inside)

      turned : over_caveats bad add (k - (i + 1)) s (p + next) (add found (drop p s) caveat next) ≡ all
      unfolding over_caveats after_caveat
      turned = rw (sym (ap caveat_of lent) ∙ c) at one_left

      pub walk_one : {more : A} → more ≡ add found part caveat next → Walking bad add s all k (i + 1) (p + next) more
      walk_one {more} e = record { inside = walk_on; rest = rw (e, lent) turned }

-- what is lent of the token is no longer than it
pub piece_next : (key s piece : List ℕ) (f n : ℕ) → Walkable key s → piece ≡ between (take (length s - f) (drop f s)) (from_to 0 n) → NextOf key piece
piece_next key s piece f n w e =
    let l = w.short in
    record { keyed = w.key_long; narrow = rw e (simp (length-take, length-drop) (omega arith)) }
