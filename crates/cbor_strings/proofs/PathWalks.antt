-- A path is judged a byte after the other, or many at a time where nothing is near: in the terms that the code has, one law for each way out and
-- for a turn, and that the second way sees what the first does. That this is document 02's sentence is PathJudged.
use mathlib.Core.Path.{◌≡◌, refl, sym, ◌∙◌}
use mathlib.Core.Bool.{Bool, true, false, ◌&&◌, ◌||◌, or-true, true≢false}
use mathlib.Core.List.{List, [], ◌∷◌}
use mathlib.Mathlib.Data.Bool.Basic.{or-eq-false-eq-eq-false-and-eq-false as neither}
use Prim.Native.Nat.{ℕ, zero, suc, ◌+◌, ◌≤◌, ◌<◌}
use native.Mathlib.Numerals.{add-one}
use native.Mathlib.Omega.{arith}
use borrow.Author.Tests.{le-leb, ltb-false, ne_eqb}
use lib.Dec.{eqb, ltb}
use lib.ListN.{length, take, drop, get_or, drop_of_length-le, length-drop}
use lib.Seq.{drop-cons}
use Rattle.std.specs.Prelude.{Option, Some, None}
use Rattle.basis.specs.Basis.{pick}
use Rattle.cbor_strings.specs.Paths.{slash}
use Rattle.cbor_strings.specs.Strings.{is_printable}
use Rattle.cbor_strings.specs.Inner.{after_slash, after_dot, is_outside, next_seen, seen_by, may_end, seen_behind, is_near, near_behind, near_in}
use Rattle.cbor_strings.specs.declared.Seen.{Seen}
use Rattle.cbor_strings.specs.declared.Seen.TheVariants.{Anything, Nothing}

pub drop_front : (s : List ℕ) (i : ℕ) → i < length s → drop i s ≡ get_or s i 0 ∷ drop (i + 1) s
drop_front s i h = rw (drop-cons s i 0 h, add-one)

-- byte by byte
module _ (s : List ℕ) (seen : Seen) (i : ℕ) where
  pub walk_end : length s ≤ i → seen_by seen (drop i s) ≡ Some seen
  unfolding seen_by
  walk_end h = rw (drop_of_length-le s h)

  module _ (h : i < length s) where
    pub walk_off : next_seen seen (get_or s i 0) ≡ None → seen_by seen (drop i s) ≡ None
    unfolding seen_by
    walk_off e = rw (drop_front s i h, e)

    pub walk_on : (next : Seen) → next_seen seen (get_or s i 0) ≡ Some next → seen_by seen (drop i s) ≡ seen_by next (drop (i + 1) s)
    unfolding seen_by
    walk_on next e = rw (drop_front s i h, e)

-- many at a time
none_near : (t : List ℕ) → length t ≤ 1 → near_in t ≡ false
unfolding near_in near_behind
none_near [] h = refl
none_near (c ∷ []) h = refl
none_near (c ∷ (d ∷ t)) h = let z : ⊥ = omega arith in elim z [ ]

module _ (s : List ℕ) (i : ℕ) where
  pub far_end : length s ≤ i + 1 → near_in (drop i s) ≡ false
  far_end h = none_near (drop i s) (simp length-drop (omega arith))

  pub far_on : i + 1 < length s → near_in (drop i s) ≡ is_near (get_or s i 0) (get_or s (i + 1) 0) || near_in (drop (i + 1) s)
  unfolding near_in near_behind
  far_on h = rw (drop_front s i (omega arith), drop_front s (i + 1) h)

-- behind a byte near which nothing is, as much is seen as this byte says
far_one : (a c : ℕ) → is_near a c ≡ false → next_seen (seen_behind a) c ≡ Some (seen_behind c)
unfolding is_near next_seen is_outside is_printable
far_one a c n =
    let x = (neither (ltb c 45 || ltb 126 c) (eqb a slash && (eqb c 46 || eqb c slash))).0 n in
    let y = (neither (ltb c 45) (ltb 126 c)).0 x.0 in
    let l = ltb-false c 45 y.0 in
    let h = ltb-false 126 c y.1 in
    rw (ne_eqb c 37 (λ e. omega (arith, l)), le-leb 33 c (omega (arith, l)), le-leb c 126 h) (by (eqb a slash) (eqb c slash) (eqb c 46) x.1)
  where
    by : (u v w : Bool) → u && (w || v) ≡ false
        → ◌≡◌ {A = Option Seen} (pick v (after_slash (pick u Nothing Anything)) (Some (pick w (after_dot (pick u Nothing Anything)) Anything))) (Some (pick v Nothing Anything))
    by true true w n = absurd (true≢false (sym (or-true w) ∙ n))
    by true false true n = absurd (true≢false n)
    by true false false n = refl
    by false true w n = refl
    by false false true n = refl
    by false false false n = refl

-- so where nothing is near in a front, none of it need be walked
pub far_skips : (m n a : ℕ) (t : List ℕ) → m ≤ n → n ≤ length t → near_behind a (take n t) ≡ false
    → seen_by (seen_behind (get_or (a ∷ t) m 0)) (drop m t) ≡ seen_by (seen_behind a) t
unfolding near_behind seen_by
far_skips zero n a t l h f = refl
far_skips (suc m) zero a t l h f = let z : ⊥ = omega arith in elim z [ ]
far_skips (suc m) (suc n) a [] l h f = let z : ⊥ = omega arith in elim z [ ]
far_skips (suc m) (suc n) a (c ∷ t) l h f =
    let z = (neither (is_near a c) (near_behind c (take n t))).0 f in
    rw (far_one a c z.0) (far_skips m n c t (omega arith) (omega arith) z.1)

pub behind_stands : (a : ℕ) → may_end (seen_behind a) ≡ true
behind_stands a = by (eqb a slash)
  where
    by : (u : Bool) → may_end (pick u Nothing Anything) ≡ true
    by true = refl
    by false = refl
