-- Segments and joining: of two texts with a "/" between them, and of two lists of segments.
use mathlib.Core.Path.{◌≡◌, refl, sym, ap, ◌∙◌}
use mathlib.Core.Bool.{Bool, true, false}
use mathlib.Core.List.{List, [], ◌∷◌, ◌++◌, append_assoc}
use Prim.Native.Nat.{ℕ}
use lib.Dec.{eqb}
use Rattle.basis.specs.Basis.{pick}
use Rattle.cbor_strings.specs.Paths.{slash, up_to, segments}
use Rattle.cbor_strings.specs.Segments.{path_of}

-- a "/" behind a text ends its last segment
pub upto_joined : (a b : List ℕ) → up_to (a ++ (slash ∷ b)) ≡ up_to a
unfolding up_to
upto_joined [] b = refl
upto_joined (c ∷ a) b = ap (λ (r : List ℕ). pick (eqb c slash) [] (c ∷ r)) (upto_joined a b)

-- and opens the first of what follows
pub segments_joined : (a b : List ℕ) → segments (a ++ (slash ∷ b)) ≡ segments a ++ (up_to b ∷ segments b)
unfolding segments
segments_joined [] b = refl
segments_joined (c ∷ a) b = rw (upto_joined a b, segments_joined a b) (by (eqb c slash))
  where
    by : (u : Bool) → pick u (up_to a ∷ (segments a ++ (up_to b ∷ segments b))) (segments a ++ (up_to b ∷ segments b)) ≡ pick u (up_to a ∷ segments a) (segments a) ++ (up_to b ∷ segments b)
    by true = refl
    by false = refl

-- the text of two lists of segments is the two texts
pub path_joined : (gs hs : List (List ℕ)) → path_of (gs ++ hs) ≡ path_of gs ++ path_of hs
unfolding path_of
path_joined [] hs = refl
path_joined (g ∷ gs) hs = ap (λ (r : List ℕ). slash ∷ r) (ap (λ (r : List ℕ). g ++ r) (path_joined gs hs) ∙ sym (append_assoc g (path_of gs) (path_of hs)))
