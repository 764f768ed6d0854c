-- Meaning. Fitting segment by segment: what document 02's M-100 and M-106 say together of a prefix and a path that may stand in a token and in
-- a request. That it is the same is `fits_segments` of proofs/SegmentLaws.antt.
use Rattle.std.specs.Prelude.{◌≡◌, ℕ, true, false, List, [], ◌∷◌, ◌++◌}
use Rattle.cbor_strings.specs.Paths.{segments}
use Rattle.rules_compare.specs.Fitting.{ends_in_slash}

-- a prefix that does not end in "/" fits where its segments are the first segments of the path; one that ends in "/" where its segments without the
-- last, empty one are, and the path has at least one more behind them
pub data FitsBySegments (prefix path : List ℕ) : Type 0 where
  as_whole : ends_in_slash prefix ≡ false → (more : List (List ℕ)) → segments path ≡ segments prefix ++ more → FitsBySegments prefix path
  one_more : ends_in_slash prefix ≡ true → (front : List (List ℕ)) → segments prefix ≡ front ++ ([] ∷ []) → (next : List ℕ) (more : List (List ℕ))
      → segments path ≡ front ++ (next ∷ more) → FitsBySegments prefix path
