-- Fitting is fitting segment by segment (document 02, M-100 and M-106).
use Rattle.std.proofs.Common.{◌≡◌, ℕ, ◌-◌, Bool, true, false, eqb, List, [], ◌∷◌, ◌++◌, length, get_or, take, sym, refl, ap, ◌∙◌, append_assoc, append-nil}
use mathlib.Core.Bool.{false≢true}
use Rattle.cbor_strings.specs.Strings.{content_of}
use Rattle.cbor_strings.specs.declared.Class.TheVariants.{Path}
use Rattle.cbor_strings.specs.Paths.{slash, up_to, segments}
use Rattle.cbor_strings.specs.Segments.{path_of}
use Rattle.cbor_strings.proofs.PathLaws.{first_slash, path_segments}
use Rattle.cbor_strings.proofs.SegmentsJoined.{segments_joined, path_joined}
use Rattle.rules_compare.specs.Fitting.{ends_in_slash, fits_of, Fits, equal, slash_next, slash_last}
use Rattle.rules_compare.specs.FittingSegments.{FitsBySegments, as_whole, one_more}
use Rattle.rules_compare.proofs.FittingLaws.{does_end, only_ends, goes_on, fits_exactly}

module _ {p t : List ℕ} where
  -- a prefix that does not end in "/"
  whole_segments : ends_in_slash p ≡ false → Fits p t → FitsBySegments p t
  whole_segments e (equal d) = as_whole e [] (ap segments d ∙ sym (append-nil (segments p)))
  whole_segments e (slash_next rest d) = as_whole e (up_to rest ∷ segments rest) (ap segments d ∙ segments_joined p rest)
  whole_segments e (slash_last front rest d h) = absurd (false≢true (sym e ∙ ap ends_in_slash d ∙ does_end front))

  -- one that does
  ended_segments : ends_in_slash p ≡ true → Fits p t → FitsBySegments p t
  unfolding up_to segments
  ended_segments e f =
      let front = take (length p - 1) p in
      let on = goes_on f in
      let rest = on.0 in
      let h : p ≡ front ++ (slash ∷ []) = only_ends p e in
      let d : t ≡ front ++ (slash ∷ rest) = on.1 ∙ ap (λ (x : List ℕ). x ++ rest) h ∙ append_assoc front (slash ∷ []) rest in
      one_more e (segments front) (ap segments h ∙ segments_joined front []) (up_to rest) (segments rest) (ap segments d ∙ segments_joined front rest)

  -- so either way, from the test
  to_segments : (u : Bool) → ends_in_slash p ≡ u → Fits p t → FitsBySegments p t
  to_segments true e f = ended_segments e f
  to_segments false e f = whole_segments e f

  -- a prefix fits itself with the text of any segments behind it
  whole_fits : (more : List (List ℕ)) → t ≡ p ++ path_of more → Fits p t
  unfolding path_of
  whole_fits [] d = equal (d ∙ append-nil p)
  whole_fits (g ∷ more) d = slash_next (g ++ path_of more) d

-- the text of a path with these segments
rebuilt : {s : List ℕ} (gs hs : List (List ℕ)) → eqb (get_or s 0 0) slash ≡ true → segments s ≡ gs ++ hs → s ≡ path_of gs ++ path_of hs
rebuilt {s} gs hs b e = sym (path_segments s b) ∙ ap path_of e ∙ path_joined gs hs

module _ {p t : List ℕ} (begins-p : eqb (get_or p 0 0) slash ≡ true) (begins-t : eqb (get_or t 0 0) slash ≡ true) where
  -- both texts rebuilt: the prefix is the beginning of the path, and fits it
  from_segments : FitsBySegments p t → Fits p t
  unfolding path_of
  from_segments (as_whole e more d) = whole_fits more (rebuilt (segments p) more begins-t d ∙ ap (λ (x : List ℕ). x ++ path_of more) (path_segments p begins-p))
  from_segments (one_more e front h next more d) =
      let rest = next ++ path_of more in
      let q : p ≡ path_of front ++ (slash ∷ []) = rebuilt front ([] ∷ []) begins-p h in
      slash_last (path_of front) rest q (rebuilt front (next ∷ more) begins-t d ∙ sym (append_assoc (path_of front) (slash ∷ []) rest) ∙ ap (λ (x : List ℕ). x ++ rest) (sym q))

-- "a prefix fits a path" (M-100) exactly when it does segment by segment, of two paths that may stand in a token and in a request
pub fits_segments : (prefix path : List ℕ) → content_of Path prefix ≡ true → content_of Path path ≡ true
    → (fits_of prefix path ≡ true → FitsBySegments prefix path) × (FitsBySegments prefix path → fits_of prefix path ≡ true)
fits_segments prefix path b c =
    let exactly = fits_exactly prefix path in
    (λ f. to_segments (ends_in_slash prefix) refl (exactly.0 f), λ g. exactly.1 (from_segments (first_slash prefix b) (first_slash path c) g))
