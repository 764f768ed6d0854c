-- What "fits" says (document 02, M-100): exactly three kinds of path, and a prefix under another one never fits a path that the other does not.
use Rattle.std.proofs.Common.{◌≡◌, ℕ, suc, ◌-◌, Bool, true, false, ◌&&◌, ◌||◌, eqb, ltb, List, [], ◌∷◌, ◌++◌, length, get_or, take, drop, sym, refl, ap, ◌∙◌, subst, ap₂, append_assoc, append-nil, arith, length-append, drop_of_length-le, drop-cons, ltb-false, ltb-true, eq-eqb, eqb-true}
use mathlib.Core.Bool.{or-true, false≢true}
use lib.ListN.{get_or-eq_default}
use lib.Seq.{split_at, get_or-append_seam}
use Rattle.basis.specs.Basis.{pick, ascii}
use Rattle.basis.specs.Same.{same_of}
use Rattle.basis.proofs.Sameness.{same_equal, equal_same}
use Rattle.cbor_strings.specs.Strings.{content_of}
use Rattle.cbor_strings.specs.declared.Class.TheVariants.{Path}
use Rattle.cbor_strings.specs.Paths.{slash, starts}
use Rattle.cbor_strings.proofs.PathLaws.{first_slash}
use Rattle.rules_compare.specs.Fitting.{ends_in_slash, next_is_slash, fits_of, Fits, equal, slash_next, slash_last}

-- a path begins with a prefix exactly when it is the prefix and something behind it
pub does_start : (p t : List ℕ) → starts p (p ++ t) ≡ true
unfolding starts
does_start [] t = refl
does_start (a ∷ p) t = rw (eq-eqb a a refl) (does_start p t)

pub only_starts : (p t : List ℕ) → starts p t ≡ true → t ≡ p ++ drop (length p) t
unfolding starts
only_starts [] t e = refl
only_starts (a ∷ p) [] e = absurd (false≢true e)
only_starts (a ∷ p) (b ∷ t) e = by (eqb a b) refl e (only_starts p t)
  where
    by : (u : Bool) → eqb a b ≡ u → pick u (starts p t) false ≡ true → (starts p t ≡ true → t ≡ p ++ drop (length p) t) → b ∷ t ≡ a ∷ (p ++ drop (length p) t)
    by true q f m = ap₂ ◌∷◌ (sym (eqb-true a b q)) (m f)
    by false q f m = absurd (false≢true f)

-- what ends in "/" is something and a "/"; where the next path byte is "/", one stands first behind the prefix
pub does_end : (front : List ℕ) → ends_in_slash (front ++ (slash ∷ [])) ≡ true
unfolding ends_in_slash
does_end front =
    let z : length (front ++ (slash ∷ [])) - 1 ≡ length front = omega (arith, length-append front (slash ∷ [])) in
    rw (z, get_or-append_seam front slash [] 0)

pub only_ends : (p : List ℕ) → ends_in_slash p ≡ true → p ≡ take (length p - 1) p ++ (slash ∷ [])
unfolding ends_in_slash
only_ends [] e = absurd (false≢true e)
only_ends (a ∷ p) e =
    let whole = a ∷ p in
    let at = length whole - 1 in
    rw (eqb-true (get_or whole at 0) slash e, drop_of_length-le whole {i = suc at} (omega arith)) at (split_at whole at 0 (omega arith))

does_follow : (p rest : List ℕ) → next_is_slash p (p ++ (slash ∷ rest)) ≡ true
unfolding next_is_slash
does_follow p rest = rw (get_or-append_seam p slash rest 0)

only_follows : (p t : List ℕ) → next_is_slash p t ≡ true → drop (length p) t ≡ slash ∷ drop (suc (length p)) t
unfolding next_is_slash
only_follows p t e = by (ltb (length p) (length t)) refl
  where
    at_slash : get_or t (length p) 0 ≡ slash
    at_slash = eqb-true (get_or t (length p) 0) slash e

    by : (u : Bool) → ltb (length p) (length t) ≡ u → drop (length p) t ≡ slash ∷ drop (suc (length p)) t
    by true h = rw at_slash at (drop-cons t (length p) 0 (ltb-true (length p) (length t) h))
    by false h = let z : ⊥ = omega (arith, at_slash, get_or-eq_default t 0 {n = length p} (ltb-false (length p) (length t) h)) in elim z [ ]

-- "a prefix fits a path if they are equal, or the path begins with the prefix and either the prefix ends in "/" or the next path byte is "/""
fits_then : (p t : List ℕ) → starts p t ≡ true → ends_in_slash p || next_is_slash p t ≡ true → fits_of p t ≡ true
unfolding fits_of
fits_then p t s e = rw (s, e, or-true (same_of p t))

module _ (p t : List ℕ) where
  edge : (u : Bool) → ends_in_slash p ≡ u → u || next_is_slash p t ≡ true → t ≡ p ++ drop (length p) t → Fits p t
  edge true e f h = slash_last (take (length p - 1) p) (drop (length p) t) (only_ends p e) h
  edge false e f h = slash_next (drop (suc (length p)) t) (h ∙ ap (λ (r : List ℕ). p ++ r) (only_follows p t f))

  begun : (u : Bool) → starts p t ≡ u → u && (ends_in_slash p || next_is_slash p t) ≡ true → Fits p t
  begun true e f = edge (ends_in_slash p) refl f (only_starts p t e)
  begun false e f = absurd (false≢true f)

  fitted : (u : Bool) → same_of p t ≡ u → u || (starts p t && (ends_in_slash p || next_is_slash p t)) ≡ true → Fits p t
  fitted true e f = equal (sym (same_equal p t e))
  fitted false e f = begun (starts p t) refl f

  only_fits : fits_of p t ≡ true → Fits p t
  unfolding fits_of
  only_fits f = fitted (same_of p t) refl f

  does_fit : Fits p t → fits_of p t ≡ true
  unfolding fits_of
  does_fit (equal e) = rw (equal_same p t (sym e))
  does_fit (slash_next rest e) = subst (λ (t : List ℕ). fits_of p t ≡ true) (sym e) (fits_then p _ (does_start p _) (rw (does_follow p rest, or-true (ends_in_slash p))))
  does_fit (slash_last front rest d e) = subst (λ (t : List ℕ). fits_of p t ≡ true) (sym e) (fits_then p _ (does_start p rest) (rw (d, does_end front)))

pub fits_exactly : (prefix path : List ℕ) → (fits_of prefix path ≡ true → Fits prefix path) × (Fits prefix path → fits_of prefix path ≡ true)
fits_exactly prefix path = (only_fits prefix path, does_fit prefix path)

-- "/" fits every path that a request may have
pub root_fits : (path : List ℕ) → content_of Path path ≡ true → fits_of (ascii "/") path ≡ true
unfolding content_of
root_fits [] e = absurd (false≢true e)
root_fits (a ∷ t) e = does_fit (ascii "/") (a ∷ t) (slash_last [] t refl (ap (λ (x : ℕ). x ∷ t) (eqb-true a slash (first_slash (a ∷ t) e))))

pub goes_on : {p t : List ℕ} → Fits p t → (rest : List ℕ) × (t ≡ p ++ rest)
goes_on {p} {t} (equal e) = ([], e ∙ sym (append-nil p))
goes_on {p} {t} (slash_next rest e) = (slash ∷ rest, e)
goes_on {p} {t} (slash_last front rest d e) = (rest, e)

-- what fits begins with the prefix, as document 01 asked: no token allows more than it did
pub fits_starts : (prefix path : List ℕ) → fits_of prefix path ≡ true → starts prefix path ≡ true
fits_starts prefix path f = let on = goes_on (only_fits prefix path f) in subst (λ (t : List ℕ). starts prefix t ≡ true) (sym on.1) (does_start prefix on.0)

-- a prefix under another one never widens: what the longer fits, the one that fits the longer fits too
still_fits : {p q : List ℕ} (t : List ℕ) → Fits p q → Fits q t → Fits p t
still_fits t (equal e) g = subst (λ (x : List ℕ). Fits x t) e g
still_fits {p} t (slash_next rest e) g =
    let on = goes_on g in
    slash_next (rest ++ on.0) (on.1 ∙ ap (λ (x : List ℕ). x ++ on.0) e ∙ append_assoc p (slash ∷ rest) on.0)
still_fits {p} t (slash_last front rest d e) g =
    let on = goes_on g in
    slash_last front (rest ++ on.0) d (on.1 ∙ ap (λ (x : List ℕ). x ++ on.0) e ∙ append_assoc p rest on.0)

pub fits_narrows : (prefix longer path : List ℕ) → fits_of prefix longer ≡ true → fits_of longer path ≡ true → fits_of prefix path ≡ true
fits_narrows prefix longer path f g = does_fit prefix path (still_fits path (only_fits prefix longer f) (only_fits longer path g))
