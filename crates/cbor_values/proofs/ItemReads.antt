-- What the definition of a value computes to, in the terms that the code has: one law for each way out.
use Rattle.std.specs.Prelude.{Ok, Err}
use Rattle.cbor_heads.specs.declared.defect.Defect.{Defect}
use Rattle.cbor_heads.specs.Defects.{Reading, bad, after}
use Rattle.cbor_heads.specs.declared.defect.Kind.TheVariants.{Cbor, Bounds}
use Rattle.cbor_heads.specs.declared.Head.{Head}
use mathlib.Core.Path.{◌≡◌, refl, sym, ap, ◌∙◌}
use mathlib.Core.Bool.{true, false}
use mathlib.Core.List.{List}
use Prim.Native.Nat.{ℕ, zero, suc, ◌+◌, ◌-◌, ◌≤◌, ◌<◌}
use native.Mathlib.Omega.{arith}
use borrow.Author.Tests.{lt-ltb, le-ltb, le-leb, lt-leb, ne_eqb}
use lib.ListN.{length, take, drop}
use Rattle.cbor_heads.specs.Reading.{read_head}
use Rattle.cbor_values.specs.Utf8.{utf8}
use Rattle.cbor_values.specs.Reading.{run_of, text_of, items_of, by_major, value_of}

-- text that is missing, bad or good
module _ (s : List ℕ) (at next n : ℕ) where
  pub text_missing : length s - next < n → bad Cbor at ≡ text_of s at next n
  unfolding text_of
  text_missing h = rw (lt-ltb _ _ h)

  pub text_good : n ≤ length s - next → true ≡ utf8 (take (next + n - next) (drop next s)) → Ok (next + n) ≡ text_of s at next n
  unfolding text_of
  text_good h e = let p : next + n - next ≡ n = omega arith in rw (le-ltb _ _ h, ← (rw p at e))

  pub text_bad : n ≤ length s - next → false ≡ utf8 (take (next + n - next) (drop next s)) → bad Cbor next ≡ text_of s at next n
  unfolding text_of
  text_bad h e = let p : next + n - next ≡ n = omega arith in rw (le-ltb _ _ h, ← (rw p at e))

-- a value of any depth goes by its head; only what an array gives depends on the depth
opened : (d : ℕ) (s : List ℕ) (at : ℕ) → (f : ℕ → ℕ → Reading ℕ) × (value_of d s at ≡ after (by_major f s at) (read_head s at))
unfolding value_of
opened zero s at = (λ n next. bad Bounds at, refl)
opened (suc d) s at = (λ n next. items_of (value_of d s) n next, refl)

module _ (d : ℕ) (s : List ℕ) (at : ℕ) where
  by : {i : Reading ℕ} → i ≡ after (by_major (opened d s at).0 s at) (read_head s at) → i ≡ value_of d s at
  by p = p ∙ sym (opened d s at).1

  pub no_head : {a : Defect} → read_head s at ≡ Err a → Err a ≡ value_of d s at
  no_head e = by (rw e)

  module _ {hd : Head} (e : read_head s at ≡ Ok hd) where
    pub number : hd.major < 2 → Ok hd.next ≡ value_of d s at
    unfolding by_major
    number h = by (rw (e, lt-ltb _ _ h))

    pub bytes : hd.major ≡ 2 → run_of s at hd.next hd.value ≡ value_of d s at
    unfolding by_major
    bytes h = by (rw (e, h))

    pub text : hd.major ≡ 3 → text_of s at hd.next hd.value ≡ value_of d s at
    unfolding by_major
    text h = by (rw (e, h))

    pub too_small : hd.major ≡ 7 → hd.value < 20 → bad Cbor at ≡ value_of d s at
    unfolding by_major
    too_small h g = by (rw (e, h, lt-ltb _ _ g))

    pub simple : hd.major ≡ 7 → 20 ≤ hd.value → hd.value ≤ 22 → Ok hd.next ≡ value_of d s at
    unfolding by_major
    simple h l g = by (rw (e, h, le-ltb _ _ l, le-leb _ _ g))

    pub too_large : hd.major ≡ 7 → 20 ≤ hd.value → 22 < hd.value → bad Cbor at ≡ value_of d s at
    unfolding by_major
    too_large h l g = by (rw (e, h, le-ltb _ _ l, lt-leb _ _ g))

    pub other : 2 ≤ hd.major → (hd.major ≡ 2 → ⊥) → (hd.major ≡ 3 → ⊥) → (hd.major ≡ 4 → ⊥) → (hd.major ≡ 7 → ⊥) → bad Cbor at ≡ value_of d s at
    unfolding by_major
    other l a b c g = by (rw (e, le-ltb _ _ l, ne_eqb _ _ a, ne_eqb _ _ b, ne_eqb _ _ c, ne_eqb _ _ g))

-- an array, with no level left and with one
module _ (s : List ℕ) (at : ℕ) {hd : Head} (e : read_head s at ≡ Ok hd) (h : hd.major ≡ 4) where
  pub too_deep : (d : ℕ) → d ≡ 0 → bad Bounds at ≡ value_of d s at
  unfolding value_of by_major
  too_deep zero z = rw (e, h)
  too_deep (suc d) z = let f : ⊥ = omega arith in elim f [ ]

  pub array : (d : ℕ) → (d ≡ 0 → ⊥) → items_of (value_of (d - 1) s) hd.value hd.next ≡ value_of d s at
  unfolding value_of by_major
  array zero z = elim (z refl) [ ]
  array (suc d) z = let p : suc d - 1 ≡ d = omega arith in rw (e, h, p)

-- a list of k items of which i are read, up to `at`; the list reads from `from` as what is left of it reads from there
abbrev pub IsReadTo : (f : ℕ → Reading ℕ) (k from i at : ℕ) → Type 0
IsReadTo f k from i at = items_of f (k - i) at ≡ items_of f k from

module _ (f : ℕ → Reading ℕ) where
  pub none_read : (k at : ℕ) → IsReadTo f k at 0 at
  none_read k at = ap (λ (n : ℕ). items_of f n at) (let e : k - 0 ≡ k = omega arith in e)

  one_bad : (k at : ℕ) {d : Defect} → 0 < k → f at ≡ Err d → Err d ≡ items_of f k at
  unfolding items_of
  one_bad zero at h e = let z : ⊥ = omega arith in elim z [ ]
  one_bad (suc k) at h e = rw e

  one_more : (k at : ℕ) {next : ℕ} → 0 < k → f at ≡ Ok next → items_of f (k - 1) next ≡ items_of f k at
  unfolding items_of
  one_more zero at h e = let z : ⊥ = omega arith in elim z [ ]
  one_more (suc k) at h e = let p : suc k - 1 ≡ k = omega arith in rw (e, p)

  module _ (k from i at : ℕ) (w : IsReadTo f k from i at) where
    pub item_bad : i < k → {d : Defect} → f at ≡ Err d → Err d ≡ items_of f k from
    item_bad h e = one_bad (k - i) at (omega arith) e ∙ w

    pub item_read : i < k → {next : ℕ} → f at ≡ Ok next → IsReadTo f k from (i + 1) next
    item_read h e = let p : k - (i + 1) ≡ k - i - 1 = omega arith in rw p (one_more (k - i) at (omega arith) e ∙ w)

    pub all_read : k ≤ i → Ok at ≡ items_of f k from
    unfolding items_of
    all_read h = let z : k - i ≡ 0 = omega arith in rw z at w
