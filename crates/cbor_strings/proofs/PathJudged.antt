-- What is seen at a path's end decides as document 02's sentence does (M-106): a segment that is "." or ".." there, and what was refused on the way.
use mathlib.Core.Path.{◌≡◌, refl, sym, ap, subst, ◌∙◌}
use mathlib.Core.Bool.{Bool, true, false, not, ◌&&◌, ◌||◌, and-true, and-false, false≢true}
use mathlib.Core.List.{List, [], ◌∷◌}
use mathlib.Mathlib.Data.Bool.Basic.{or-eq-false-eq-eq-false-and-eq-false as neither}
use Prim.Native.Nat.{ℕ, ◌+◌, ◌-◌, ◌*◌, ◌/◌, ◌≤◌, ◌<◌}
use Prim.Native.String.{String}
use native.Mathlib.Omega.{arith}
use borrow.Author.Tests.{eqb-true, eqb-false, eq-eqb, ne_eqb, not-false}
use lib.Dec.{eqb}
use lib.Pointwise.{pointwise}
use native.Mathlib.Numerals.{add-one}
use lib.ListN.{length, take, drop, get_or, length-drop, drop_of_length-le}
use lib.Seq.{drop-drop, get_or-drop, take_all}
use Rattle.std.specs.List.{list_all}
use Rattle.std.specs.Option.{option_map_or}
use Rattle.std.specs.Prelude.{Some, None}
use Rattle.basis.specs.Basis.{pick, ascii}
use Rattle.basis.specs.Same.{same_of}
use Rattle.cbor_strings.specs.Paths.{slash, percent, starts, has, up_to, segments, among, is_rewritten}
use Rattle.cbor_strings.specs.Strings.{is_printable, content_of}
use Rattle.cbor_strings.specs.Inner.{is_outside, next_seen, seen_by, may_end, seen_behind, near_in}
use Rattle.cbor_strings.specs.declared.Class.TheVariants.{Path}
use Rattle.cbor_strings.specs.declared.Seen.{Seen}
use Rattle.cbor_strings.specs.declared.Seen.TheVariants.{Anything, Nothing, Dot, Dots}
use Rattle.cbor_strings.proofs.PathWalks.{drop_front, far_skips, behind_stands}

-- a text of which nothing is refused, whatever stands before it
abbrev free : List ℕ → Bool
free t = list_all is_printable t && not (is_rewritten t)

abbrev ends : Seen → List ℕ → Bool
ends seen t = option_map_or may_end (seen_by seen t) false

-- the segment that is open goes on as this text begins
abbrev goes : String → List ℕ → Bool
goes w t = same_of (up_to t) (ascii w)

-- what is seen so far, and what the rest of the text may then be
record Judged (t : List ℕ) : Type 0 where
  anything : ends Anything t ≡ free t
  nothing : ends Nothing t ≡ free t && not (starts (ascii "/") t || goes "." t || goes ".." t)
  dot : ends Dot t ≡ free t && not (goes "" t || goes "." t)
  dots : ends Dots t ≡ free t && not (goes "" t)

-- "//", "." and ".." of a "/" and a text are those of the text, or begin at the "/"
gather : (p q d g h x y z : Bool) → (p && not (q || d || g || h)) && not (x || y || z) ≡ p && not (q || (x || d) || (y || g) || (z || h))
gather false q d g h x y z = refl
gather true true d g h x y z = refl
gather true false d g h true y z = and-false (not (d || g || h))
gather true false true g h false y z = refl
gather true false false g h false true z = and-false (not (g || h))
gather true false false true h false false z = refl
gather true false false false h false false true = and-false (not h)
gather true false false false true false false false = refl
gather true false false false false false false false = refl

behind_slash : (t : List ℕ) → free t && not (starts (ascii "/") t || goes "." t || goes ".." t) ≡ free (slash ∷ t)
unfolding is_rewritten has starts segments among is_printable
behind_slash t =
    gather (list_all is_printable t) (has (ascii "%") t) (has (ascii "//") t) (among (ascii ".") (segments t)) (among (ascii "..") (segments t)) (starts (ascii "/") t) (goes "." t) (goes ".." t)

-- what differs from a byte does so either way about
other_way : (a c : ℕ) → eqb c a ≡ false → eqb a c ≡ false
other_way a c e = ne_eqb a c (λ h. eqb-false c a e (sym h))

-- a byte of each kind before a text
module _ (c : ℕ) (t : List ℕ) where
  free_outside : is_outside c ≡ true → free (c ∷ t) ≡ false
  unfolding is_outside is_rewritten has starts
  free_outside o = by (eqb c 37) refl (is_printable c) o
    where
      by : (u : Bool) → eqb c 37 ≡ u → (p : Bool) → u || not p ≡ true
          → (p && list_all is_printable t) && not (pick (eqb 37 c) true false || has (ascii "%") t || has (ascii "//") (c ∷ t) || among (ascii ".") (segments (c ∷ t)) || among (ascii "..") (segments (c ∷ t))) ≡ false
      by u e false g = refl
      by true e true g = rw (eq-eqb 37 c (sym (eqb-true c 37 e)), and-false (list_all is_printable t))
      by false e true g = absurd (false≢true g)

  module _ (o : is_outside c ≡ false) (e : eqb c slash ≡ false) where
    free_other : free (c ∷ t) ≡ free t
    unfolding is_outside is_rewritten has starts segments
    free_other =
        let i = (neither (eqb c percent) (not (is_printable c))).0 o in
        rw (other_way percent c i.0, not-false (is_printable c) i.1, e, other_way slash c e)

-- false with whatever is asked besides
off : {a : Bool} (b : Bool) → a ≡ false → false ≡ a && b
off b e = rw e

module _ (c : ℕ) (t : List ℕ) (seen : Seen) where
  stop : next_seen seen c ≡ None → ends seen (c ∷ t) ≡ false
  unfolding seen_by
  stop e = rw e

  step : (next : Seen) → next_seen seen c ≡ Some next → ends seen (c ∷ t) ≡ ends next t
  unfolding seen_by
  step next e = rw e

module _ (c : ℕ) (t : List ℕ) where
  -- a byte that no path has
  judged_outside : is_outside c ≡ true → Judged (c ∷ t)
  unfolding next_seen
  judged_outside o =
      let f = free_outside c t o in
      record {
        anything = stop c t Anything (rw o) ∙ sym f;
        nothing = stop c t Nothing (rw o) ∙ off _ f;
        dot = stop c t Dot (rw o) ∙ off _ f;
        dots = stop c t Dots (rw o) ∙ off _ f;
      }

  -- one that is neither "/" nor "."
  judged_other : is_outside c ≡ false → eqb c slash ≡ false → eqb c 46 ≡ false → Judged t → Judged (c ∷ t)
  unfolding next_seen up_to starts
  judged_other o e f j =
      let same = j.anything ∙ sym (free_other c t o e) in
      record {
        anything = step c t Anything Anything (rw (o, e, f)) ∙ same;
        nothing = rw (other_way slash c e, e, f, and-true (free (c ∷ t))) (step c t Nothing Anything (rw (o, e, f)) ∙ same);
        dot = rw (e, f, and-true (free (c ∷ t))) (step c t Dot Anything (rw (o, e, f)) ∙ same);
        dots = rw (e, and-true (free (c ∷ t))) (step c t Dots Anything (rw (o, e, f)) ∙ same);
      }

module _ (t : List ℕ) (j : Judged t) where
  judged_slash : Judged (slash ∷ t)
  unfolding next_seen is_outside is_printable up_to starts
  judged_slash = record {
    anything = step slash t Anything Nothing refl ∙ j.nothing ∙ behind_slash t;
    nothing = stop slash t Nothing refl ∙ sym (and-false (free (slash ∷ t)));
    dot = stop slash t Dot refl ∙ sym (and-false (free (slash ∷ t)));
    dots = stop slash t Dots refl ∙ sym (and-false (free (slash ∷ t)));
  }

  judged_dot : Judged (46 ∷ t)
  unfolding next_seen is_outside is_printable up_to starts
  judged_dot =
      let same : free t ≡ free (46 ∷ t) = sym (free_other 46 t refl refl) in
      record {
        anything = step 46 t Anything Anything refl ∙ j.anything ∙ same;
        nothing = step 46 t Nothing Dot refl ∙ j.dot ∙ ap (λ (b : Bool). b && not (goes "" t || goes "." t)) same;
        dot = step 46 t Dot Dots refl ∙ j.dots ∙ ap (λ (b : Bool). b && not (goes "" t)) same;
        dots = step 46 t Dots Anything refl ∙ j.anything ∙ same ∙ sym (and-true (free (46 ∷ t)));
      }

judged : (t : List ℕ) → Judged t
unfolding seen_by is_rewritten has starts segments up_to among
judged [] = record { anything = refl; nothing = refl; dot = refl; dots = refl }
judged (c ∷ t) = by (is_outside c) refl (eqb c slash) refl (eqb c 46) refl (judged t)
  where
    by : (o : Bool) → is_outside c ≡ o → (u : Bool) → eqb c slash ≡ u → (v : Bool) → eqb c 46 ≡ v → Judged t → Judged (c ∷ t)
    by true o u e v f j = judged_outside c t o
    by false o true e v f j = subst (λ (x : ℕ). Judged (x ∷ t)) (sym (eqb-true c slash e)) (judged_slash t j)
    by false o false e true f j = subst (λ (x : ℕ). Judged (x ∷ t)) (sym (eqb-true c 46 f)) (judged_dot t j)
    by false o false e false f j = judged_other c t o e f j

-- so a path is judged by what is seen of it behind its first "/"
pub path_judged : (t : List ℕ) → ends Nothing t ≡ content_of Path (slash ∷ t)
unfolding content_of is_printable
path_judged t = (judged t).nothing ∙ behind_slash t

-- what a text begins with, as the code asks for it
slash_first : (s : List ℕ) → pointwise eqb (take 1 s) (slash ∷ []) ≡ true → s ≡ slash ∷ drop 1 s
slash_first [] e = absurd (false≢true e)
slash_first (c ∷ t) e = ap (λ (x : ℕ). x ∷ t) (eqb-true c slash (sym (and-true (eqb c slash)) ∙ e))

pub no_slash : (s : List ℕ) → pointwise eqb (take 1 s) (slash ∷ []) ≡ false → false ≡ content_of Path s
unfolding content_of
no_slash [] e = refl
no_slash (c ∷ t) e = rw (sym (and-true (eqb c slash)) ∙ e)

pub walk_stands : (s : List ℕ) → pointwise eqb (take 1 s) (slash ∷ []) ≡ true → ends Nothing (drop 1 s) ≡ content_of Path s
walk_stands s e = path_judged (drop 1 s) ∙ ap (content_of Path) (sym (slash_first s e))

-- a path of more than sixteen bytes, by two stretches of it where nothing is near
module _ (s : List ℕ) (h : 17 ≤ length s) where
  -- what a stretch leaves to be seen, from the byte before it on
  skipped : (m n from : ℕ) → m ≤ n → from + n < length s → near_in (take (n + 1) (drop from s)) ≡ false
      → seen_by (seen_behind (get_or s (from + m) 0)) (drop (from + m + 1) s) ≡ seen_by (seen_behind (get_or s from 0)) (drop (from + 1) s)
  unfolding near_in
  skipped m n from l g f =
      let e = drop_front s from (omega arith) in
      let k = far_skips m n (get_or s from 0) (drop (from + 1) s) l (simp length-drop (omega arith)) (rw (e, add-one n) at f) in
      let x : get_or (get_or s from 0 ∷ drop (from + 1) s) m 0 ≡ get_or s (from + m) 0 = ap (λ (r : List ℕ). get_or r m 0) (sym e) ∙ get_or-drop from s m 0 in
      let z : from + 1 + m ≡ from + m + 1 = omega arith in
      let y : drop m (drop (from + 1) s) ≡ drop (from + m + 1) s = drop-drop m (from + 1) s ∙ ap (λ (i : ℕ). drop i s) z in
      rw (x, y) at k

  pub far_stands : (end : List ℕ) → pointwise eqb (take 1 s) (slash ∷ []) ≡ true → end ≡ drop (length s - 17) s
      → near_in (take ((length s - 1) / 16 * 16 + 1) s) ≡ false → near_in end ≡ false → true ≡ content_of Path s
  unfolding seen_by
  far_stands end b e p q =
      let last = length s - 17 in
      let w : take (16 + 1) (drop last s) ≡ drop last s = take_all (16 + 1) (drop last s) (simp length-drop (omega arith)) in
      let o : 0 + last ≡ last = omega arith in
      let x = skipped last ((length s - 1) / 16 * 16) 0 (omega arith) (omega arith) p in
      let y = skipped 16 16 last (omega arith) (omega arith) (ap near_in w ∙ (rw e at q)) in
      let z : drop (last + 16 + 1) s ≡ [] = drop_of_length-le s {i = last + 16 + 1} (omega arith) in
      let f : get_or s 0 0 ≡ slash = ap (λ (t : List ℕ). get_or t 0 0) (slash_first s b) in
      let seen : Some (seen_behind (get_or s (last + 16) 0)) ≡ seen_by Nothing (drop 1 s) =
      (rw z at y) ∙ (rw o at x) ∙ ap (λ (c : ℕ). seen_by (seen_behind c) (drop 1 s)) f in
      sym (behind_stands (get_or s (last + 16) 0)) ∙ ap (λ o. option_map_or may_end o false) seen ∙ walk_stands s b
