-- A path and its segments (document 02, M-106): every path is the path of its segments, good segments are those of their path, and the content of a
-- path is fine exactly when its segments are good.
use mathlib.Core.Path.{◌≡◌, refl, sym, ap, ap₂, subst, ◌∙◌}
use mathlib.Core.Bool.{Bool, true, false, not, ◌&&◌, ◌||◌, and-eq-true_iff, and-true, true≢false, false≢true}
use mathlib.Core.List.{List, [], ◌∷◌, ◌++◌, append-nil, cons-ne-nil}
use mathlib.Mathlib.Data.Bool.Basic.{or-eq-false-eq-eq-false-and-eq-false as neither}
use Prim.Native.Nat.{ℕ}
use borrow.Author.Tests.{eqb-true, eqb-false, eq-eqb, ne_eqb, not-true}
use lib.Dec.{eqb}
use lib.ListN.{get_or}
use Rattle.std.specs.List.{list_all}
use Rattle.basis.specs.Basis.{pick, ascii}
use Rattle.basis.specs.Same.{same_of}
use Rattle.basis.proofs.Sameness.{same_equal, equal_same}
use Rattle.cbor_strings.specs.Paths.{slash, percent, starts, has, up_to, segments, among, is_rewritten}
use Rattle.cbor_strings.specs.Strings.{is_printable, content_of}
use Rattle.cbor_strings.specs.Segments.{path_of, is_segment_byte, GoodSegment, GoodSegments, last, more, Clean}
use Rattle.cbor_strings.specs.declared.Class.TheVariants.{Path}

-- every text is what stands before its first "/" and the path of its segments
pub path_again : (s : List ℕ) → up_to s ++ path_of (segments s) ≡ s
unfolding up_to segments path_of
path_again [] = refl
path_again (c ∷ t) = by (eqb c slash) refl (path_again t)
  where
    by : (u : Bool) → eqb c slash ≡ u → up_to t ++ path_of (segments t) ≡ t → pick u [] (c ∷ up_to t) ++ path_of (pick u (up_to t ∷ segments t) (segments t)) ≡ c ∷ t
    by true e h = ap₂ ◌∷◌ (sym (eqb-true c slash e)) h
    by false e h = ap (λ (r : List ℕ). c ∷ r) h

-- and where it begins with "/", nothing stands before that
pub path_segments : (s : List ℕ) → eqb (get_or s 0 0) slash ≡ true → path_of (segments s) ≡ s
unfolding up_to
path_segments [] e = absurd (false≢true e)
path_segments (c ∷ t) e = rw e at (path_again (c ∷ t))

-- a byte of a segment, by its three tests, and the first one of several
record SegmentByte (c : ℕ) : Type 0 where
  printable : is_printable c ≡ true
  no_slash : eqb c slash ≡ false
  no_percent : eqb c percent ≡ false

first_byte : (c : ℕ) (g : List ℕ) → list_all is_segment_byte (c ∷ g) ≡ true → SegmentByte c × (list_all is_segment_byte g ≡ true)
unfolding is_segment_byte
first_byte c g e =
    let x = (and-eq-true_iff (is_segment_byte c) (list_all is_segment_byte g)).0 e in
    let p = (and-eq-true_iff (is_printable c && not (eqb c slash)) (not (eqb c percent))).0 x.0 in
    let q = (and-eq-true_iff (is_printable c) (not (eqb c slash))).0 p.0 in
    (record { printable = q.0; no_slash = not-true _ q.1; no_percent = not-true _ p.1 }, x.1)

-- a text in which every byte is printable and none is "%", and no "/" stands before another, byte by byte
data Fine : List ℕ → Type 0 where
  end : Fine []
  byte : (c : ℕ) (t : List ℕ) → is_printable c ≡ true → eqb c percent ≡ false → eqb c slash && starts (ascii "/") t ≡ false → Fine t → Fine (c ∷ t)

-- what a text begins with, by its first byte
begins : (a c : ℕ) (p t : List ℕ) → starts (a ∷ p) (c ∷ t) ≡ eqb c a && starts p t
unfolding starts
begins a c p t = by (eqb a c) refl
  where
    by : (u : Bool) → eqb a c ≡ u → pick u (starts p t) false ≡ eqb c a && starts p t
    by true e = rw (eq-eqb c a (sym (eqb-true a c e)))
    by false e = rw (ne_eqb c a (λ q. eqb-false a c e (sym q)))

begins_one : (a c : ℕ) (t : List ℕ) → starts (a ∷ []) (c ∷ t) ≡ eqb c a
unfolding starts
begins_one a c t = begins a c [] t ∙ and-true (eqb c a)

-- fine, by the tests of the definition
only_fine : (s : List ℕ) → list_all is_printable s ≡ true → has (ascii "%") s ≡ false → has (ascii "//") s ≡ false → Fine s
unfolding has
only_fine [] p n d = end
only_fine (c ∷ t) p n d =
    let x = (and-eq-true_iff (is_printable c) (list_all is_printable t)).0 p in
    let y = (neither (starts (ascii "%") (c ∷ t)) (has (ascii "%") t)).0 n in
    let z = (neither (starts (ascii "//") (c ∷ t)) (has (ascii "//") t)).0 d in
    byte c t x.0 (sym (begins_one percent c t) ∙ y.0) (sym (begins slash c (ascii "/") t) ∙ z.0) (only_fine t x.1 y.1 z.1)

does_fine : {s : List ℕ} → Fine s → (list_all is_printable s ≡ true) × (has (ascii "%") s ≡ false) × (has (ascii "//") s ≡ false)
unfolding has starts
does_fine end = (refl, refl, refl)
does_fine (byte c t p n d f) =
    let h = does_fine f in
    (rw (p, h.0), rw (begins_one percent c t ∙ n) h.1, rw (begins slash c (ascii "/") t ∙ d) h.2)

-- a segment before a text: up to the next "/" it all counts, it opens no segment, and it is fine there
record Past (g r : List ℕ) : Type 0 where
  counts : up_to (g ++ r) ≡ g ++ up_to r
  opens : segments (g ++ r) ≡ segments r
  fine : Fine r → Fine (g ++ r)

past : (g r : List ℕ) → list_all is_segment_byte g ≡ true → Past g r
unfolding up_to segments
past [] r e = record { counts = refl; opens = refl; fine = λ f. f }
past (c ∷ g) r e =
    let x = first_byte c g e in
    let b = x.0 in
    let h = past g r x.1 in
    record {
      counts = rw (b.no_slash, h.counts);
      opens = rw b.no_slash h.opens;
      fine = λ f. byte c (g ++ r) b.printable b.no_percent (rw b.no_slash) (h.fine f);
    }

-- nothing stands before the first "/" of a path of segments
path_up : (gs : List (List ℕ)) → up_to (path_of gs) ≡ []
unfolding up_to path_of
path_up [] = refl
path_up (g ∷ rest) = refl

-- good segments are the segments of their path
first_segment : (g : List ℕ) (rest : List (List ℕ)) → GoodSegment g → segments (path_of (g ∷ rest)) ≡ g ∷ segments (path_of rest)
unfolding segments path_of
first_segment g rest k =
    let h = past g (path_of rest) k.good_bytes in
    ap₂ ◌∷◌ (h.counts ∙ ap (λ (r : List ℕ). g ++ r) (path_up rest) ∙ append-nil g) h.opens

pub segments_path : (gs : List (List ℕ)) → GoodSegments gs → segments (path_of gs) ≡ gs
unfolding segments path_of
segments_path gs (last g k) = first_segment g [] k
segments_path gs (more g rest k n r) = first_segment g rest k ∙ ap (λ (r : List (List ℕ)). g ∷ r) (segments_path rest r)

-- up to the first "/", a fine text is of segment bytes
up_bytes : {s : List ℕ} → Fine s → list_all is_segment_byte (up_to s) ≡ true
unfolding up_to is_segment_byte
up_bytes end = refl
up_bytes (byte c t p n d f) = by (eqb c slash) refl (up_bytes f)
  where
    by : (u : Bool) → eqb c slash ≡ u → list_all is_segment_byte (up_to t) ≡ true → list_all is_segment_byte (pick u [] (c ∷ up_to t)) ≡ true
    by true e h = refl
    by false e h = rw (p, e, n) h

-- the first segment is another than this one, and it is none of those behind
other_first : (x g : List ℕ) (rest : List (List ℕ)) → among x (g ∷ rest) ≡ false → (g ≡ x → ⊥) × (among x rest ≡ false)
unfolding among
other_first x g rest e = let h = (neither (same_of g x) (among x rest)).0 e in (λ q. true≢false (sym (equal_same g x q) ∙ h.0), h.1)

first_other : (x g : List ℕ) (rest : List (List ℕ)) → (g ≡ x → ⊥) → among x rest ≡ false → among x (g ∷ rest) ≡ false
unfolding among
first_other x g rest n e = by (same_of g x) refl
  where
    by : (u : Bool) → same_of g x ≡ u → u || among x rest ≡ false
    by true q = absurd (n (same_equal g x q))
    by false q = e

-- what no good segment is, is none of good segments
none_among : (x : List ℕ) → ((g : List ℕ) → GoodSegment g → g ≡ x → ⊥) → {gs : List (List ℕ)} → GoodSegments gs → among x gs ≡ false
unfolding among
none_among x h (last g k) = first_other x g [] (h g k) refl
none_among x h (more g rest k n r) = first_other x g rest (h g k) (none_among x h r)

-- none of the segments is "." or ".."
abbrev NoDots : List (List ℕ) → Type 0
NoDots gs = (among (ascii ".") gs ≡ false) × (among (ascii "..") gs ≡ false)

-- the segments of a text are good behind a good one, which is empty only where it is the last
abbrev GoodBehind : List ℕ → Type 0
GoodBehind t = NoDots (segments t) → (g : List ℕ) → GoodSegment g → (g ≡ [] → segments t ≡ []) → GoodSegments (g ∷ segments t)

-- an empty segment with no "/" behind it is the last
empty_last : (t : List ℕ) → starts (ascii "/") t ≡ false → up_to t ≡ [] → segments t ≡ []
unfolding up_to segments
empty_last [] d e = refl
empty_last (c ∷ t) d e = absurd (cons-ne-nil _ _ (rw (sym (begins_one slash c t) ∙ d) at e))

-- behind a "/": the segment that opens there, and those behind it
good_from : (t : List ℕ) → Fine t → starts (ascii "/") t ≡ false → NoDots (up_to t ∷ segments t) → GoodBehind t → GoodSegments (up_to t ∷ segments t)
good_from t f d n behind =
    let x = other_first (ascii ".") (up_to t) (segments t) n.0 in
    let y = other_first (ascii "..") (up_to t) (segments t) n.1 in
    behind (x.1, y.1) (up_to t) (record { good_bytes = up_bytes f; not_dot = x.0; not_dots = y.0 }) (empty_last t d)

good_behind : {s : List ℕ} → Fine s → GoodBehind s
unfolding segments
good_behind end n g k h = last g k
good_behind (byte c t p m d f) n g k h = by (eqb c slash) refl n h (good_behind f)
  where
    by : (u : Bool) → eqb c slash ≡ u → NoDots (pick u (up_to t ∷ segments t) (segments t)) → (g ≡ [] → pick u (up_to t ∷ segments t) (segments t) ≡ [])
        → GoodBehind t → GoodSegments (g ∷ pick u (up_to t ∷ segments t) (segments t))
    by true e n h behind = more g (up_to t ∷ segments t) k (λ q. cons-ne-nil _ _ (h q)) (good_from t f (rw e at d) n behind)
    by false e n h behind = behind n g k h

-- the segments of a fine text that begins with "/" are good
good_path : {s : List ℕ} → Fine s → eqb (get_or s 0 0) slash ≡ true → NoDots (segments s) → GoodSegments (segments s)
unfolding segments
good_path end e n = absurd (false≢true e)
good_path (byte c t p m d f) e n = rw e (good_from t f (rw e at d) (rw e at n) (good_behind f))

-- the tests of the definition make a path clean, and a clean one passes them
only_clean : (s : List ℕ) → content_of Path s ≡ true → Clean s
unfolding content_of is_rewritten
only_clean s e =
    let x = (and-eq-true_iff (eqb (get_or s 0 0) slash && list_all is_printable s) (not (is_rewritten s))).0 e in
    let y = (and-eq-true_iff (eqb (get_or s 0 0) slash) (list_all is_printable s)).0 x.0 in
    let a = (neither (has (ascii "%") s || has (ascii "//") s || among (ascii ".") (segments s)) (among (ascii "..") (segments s))).0 (not-true _ x.1) in
    let b = (neither (has (ascii "%") s || has (ascii "//") s) (among (ascii ".") (segments s))).0 a.0 in
    let c = (neither (has (ascii "%") s) (has (ascii "//") s)).0 b.0 in
    record { whole = sym (path_segments s y.0); good = good_path (only_fine s y.1 c.0 c.1) y.0 (b.1, a.1) }

-- the path of good segments is fine, and begins with "/"
slash_fine : (g r : List ℕ) → GoodSegment g → (g ≡ [] → starts (ascii "/") r ≡ false) → Fine r → Fine (slash ∷ (g ++ r))
unfolding is_printable
slash_fine g r k h f = byte slash (g ++ r) refl refl (by g k.good_bytes h) ((past g r k.good_bytes).fine f)
  where
    by : (g : List ℕ) → list_all is_segment_byte g ≡ true → (g ≡ [] → starts (ascii "/") r ≡ false) → starts (ascii "/") (g ++ r) ≡ false
    by [] e h = h refl
    by (c ∷ g) e h = begins_one slash c (g ++ r) ∙ (first_byte c g e).0.no_slash

path_fine : {gs : List (List ℕ)} → GoodSegments gs → (eqb (get_or (path_of gs) 0 0) slash ≡ true) × Fine (path_of gs)
unfolding path_of starts
path_fine (last g k) = (refl, slash_fine g [] k (λ e. refl) end)
path_fine (more g rest k n r) = (refl, slash_fine g (path_of rest) k (λ e. absurd (n e)) (path_fine r).1)

does_clean : (s : List ℕ) → Clean s → content_of Path s ≡ true
unfolding content_of is_rewritten
does_clean s k =
    let x = subst (λ (t : List ℕ). (eqb (get_or t 0 0) slash ≡ true) × Fine t) (sym k.whole) (path_fine k.good) in
    let y = does_fine x.1 in
    rw (x.0, y.0, y.1, y.2, none_among (ascii ".") (λ g h. h.not_dot) k.good, none_among (ascii "..") (λ g h. h.not_dots) k.good)

-- what may stand as a path begins with "/"
pub first_slash : (s : List ℕ) → content_of Path s ≡ true → eqb (get_or s 0 0) slash ≡ true
unfolding content_of
first_slash s e = by (eqb (get_or s 0 0) slash) refl
  where
    by : (u : Bool) → eqb (get_or s 0 0) slash ≡ u → u ≡ true
    by true q = refl
    by false q = absurd (false≢true (rw q at e))

-- 02, M-106: a path may stand exactly when its segments are good
pub clean_exactly : (s : List ℕ) → (content_of Path s ≡ true → Clean s) × (Clean s → content_of Path s ≡ true)
clean_exactly s = (only_clean s, does_clean s)
