-- The walks of the rules, in the terms that the code has: one law for each way out and for a turn.
use Rattle.std.specs.Prelude.{Option, Some, None, Ok, Err, slice_get}
use Rattle.std.specs.Option.{option_eq, option_copied}
use Rattle.std.proofs.Common.{◌≡◌, ℕ, zero, suc, ◌+◌, ◌-◌, ◌<◌, ◌≤◌, Bool, true, false, ◌&&◌, ◌||◌, eqb, nat_eq, List, [], ◌∷◌, ◌++◌, length, get_or, take, drop, sym, refl, ap, ◌∙◌, arith, eq-eqb, ne_eqb, eqb-true, append-nil, Bor}
use mathlib.Core.Bool.{or-true, or-false, false≢true}
use lib.Pointwise.{pointwise}
use Rattle.basis.specs.Basis.{pick, between}
use Rattle.basis.specs.declared.Span.{Span}
use Rattle.basis.specs.Same.{same_of}
use Rattle.basis.proofs.Pairs.{some_same}
use Rattle.basis.proofs.Sameness.{same_equal}
use Rattle.cbor_heads.specs.declared.defect.Defect.{Defect}
use Rattle.cbor_strings.specs.Reading.{read_string}
use Rattle.cbor_strings.specs.declared.Class.TheVariants.{Upper}
use Rattle.cbor_strings.proofs.RunReads.{found, held}
use Rattle.cbor_strings.specs.Paths.{slash, starts}
use Rattle.rules_compare.specs.Fitting.{ends_in_slash, next_is_slash, fits_of}
use Rattle.rules_compare.proofs.FittingLaws.{does_start, only_starts}
use Rattle.rules_compare.specs.Comparing.{member_then, member_at}

-- how the library says that a text begins with another one
begins : (p t : List ℕ) → pointwise nat_eq (take (length p) t) p ≡ starts p t
unfolding starts
begins [] t = refl
begins (a ∷ p) [] = refl
begins (a ∷ p) (b ∷ t) = by (eqb b a) refl (eqb a b) refl (begins p t)
  where
    by : (u : Bool) → eqb b a ≡ u → (v : Bool) → eqb a b ≡ v → pointwise nat_eq (take (length p) t) p ≡ starts p t → u && pointwise nat_eq (take (length p) t) p ≡ pick v (starts p t) false
    by true e true f g = g
    by false e false f g = refl
    by true e false f g = absurd (false≢true (sym f ∙ eq-eqb a b (sym (eqb-true b a e))))
    by false e true f g = absurd (false≢true (sym e ∙ eq-eqb b a (sym (eqb-true a b f))))

pub not_begun : (p t : List ℕ) → pointwise nat_eq (take (length p) t) p ≡ false → false ≡ fits_of p t
unfolding fits_of
not_begun p t b = rw starts_not (by (same_of p t) refl)
  where
    starts_not : starts p t ≡ false
    starts_not = sym (begins p t) ∙ b

    by : (u : Bool) → same_of p t ≡ u → false ≡ u || false
    by true e = let f = sym (ap (starts p) (append-nil p)) ∙ does_start p [] in absurd (false≢true (sym starts_not ∙ ap (starts p) (sym (same_equal p t e)) ∙ f))
    by false e = refl

-- where it does, what is behind it and the last byte of it decide
same_starts : (p rest : List ℕ) → same_of p (p ++ rest) ≡ eqb (length rest) 0
same_starts [] [] = refl
same_starts [] (a ∷ rest) = sym (ne_eqb _ _ (λ e. omega arith))
same_starts (a ∷ p) rest = rw (eq-eqb a a refl) (same_starts p rest)

follows : (p rest : List ℕ) → next_is_slash p (p ++ rest) ≡ eqb (get_or rest 0 0) slash
unfolding next_is_slash
follows [] rest = refl
follows (a ∷ p) rest = follows p rest

-- a byte that may be there
is_byte : (o : Option (Bor ℕ)) (b : Bor ℕ) → option_eq (λ x y. nat_eq x.now y.now) o (Some b) ≡ option_eq nat_eq (option_copied o) (Some b.now)
is_byte None b = refl
is_byte (Some a) b = refl

is_slash : (s : List ℕ) (at : ℕ) → option_eq nat_eq (slice_get s at) (Some slash) ≡ eqb (get_or s at 0) slash
is_slash [] zero = refl
is_slash [] (suc at) = refl
is_slash (a ∷ s) zero = refl
is_slash (a ∷ s) (suc at) = is_slash s at

pub slash_at : (o : Option (Bor ℕ)) (b : Bor ℕ) (s : List ℕ) (at : ℕ) → option_copied o ≡ slice_get s at → b.now ≡ slash
    → option_eq (λ x y. nat_eq x.now y.now) o (Some b) ≡ eqb (get_or s at 0) slash
slash_at o b s at e f = is_byte o b ∙ rw (e, f) (is_slash s at)

is_empty : (s : List ℕ) → slice_get s 0 ≡ None → eqb (length s) 0 ≡ true
is_empty [] e = refl
is_empty (a ∷ s) e = cc

begins_with : (s : List ℕ) {a : ℕ} → slice_get s 0 ≡ Some a → (eqb (length s) 0 ≡ false) × (get_or s 0 0 ≡ a)
begins_with [] e = cc
begins_with (a ∷ s) e = (ne_eqb _ _ (λ e. omega arith), some_same e)

module _ (p t rest : List ℕ) (b : pointwise nat_eq (take (length p) t) p ≡ true) (d : rest ≡ drop (length p) t) where
  whole : t ≡ p ++ rest
  whole = rw d (only_starts p t (sym (begins p t) ∙ b))

  decided : fits_of p t ≡ eqb (length rest) 0 || (eqb (get_or p (length p - 1) 0) slash || eqb (get_or rest 0 0) slash)
  unfolding fits_of ends_in_slash
  decided = rw (whole, does_start p rest, same_starts p rest, follows p rest) refl

  pub path_ends : slice_get rest 0 ≡ None → true ≡ fits_of p t
  path_ends e = rw (decided, is_empty rest e)

  module _ (next : ℕ) (e : slice_get rest 0 ≡ Some next) where
    pub slash_behind : next ≡ slash → true ≡ fits_of p t
    slash_behind f =
        let g = begins_with rest e in
        rw (decided, g.0, g.1, eq-eqb _ _ f, or-true (eqb (get_or p (length p - 1) 0) slash))

    pub slash_before : (next ≡ slash → ⊥) → (r : Bool) → r ≡ eqb (get_or p (length p - 1) 0) slash → r ≡ fits_of p t
    slash_before f r q =
        let g = begins_with rest e in
        rw (decided, g.0, g.1, ne_eqb _ _ f, or-false (eqb (get_or p (length p - 1) 0) slash)) q

-- methods: what follows decides
module _ (n i : ℕ) (s m : List ℕ) (p : ℕ) {whole : Bool} (t : member_at (n - i) s m p ≡ whole) where
  module _ (h : i < n) where
    one_method : member_then (member_at (n - (i + 1)) s m) s m (read_string s p Upper 1 16) ≡ whole
    unfolding member_at
    one_method = let z : n - i ≡ suc (n - (i + 1)) = omega arith in rw z at t

    pub no_method : {d : Defect} → read_string s p Upper 1 16 ≡ Err d → false ≡ whole
    no_method e = rw e at one_method

    module _ {part : Span} (e : read_string s p Upper 1 16 ≡ Ok part) where
      pub this_method : same_of (between s part) m ≡ true → true ≡ whole
      this_method q = rw (e, q) at one_method

      pub next_method : same_of (between s part) m ≡ false → member_at (n - (i + 1)) s m part.to ≡ whole
      next_method q = rw (e, q) at one_method

  pub none_left : n ≤ i → false ≡ whole
  unfolding member_at
  none_left h = let z : n - i ≡ 0 = omega arith in rw z at t

-- where a method was read, it lies within
module _ (s : List ℕ) (p : ℕ) {part : Span} (e : read_string s p Upper 1 16 ≡ Ok part) where
  pub in_order : part.from ≤ part.to
  in_order = (found s p 3 1 16 (held s p Upper 1 16 e).run_found).order

  pub within : part.to ≤ length s
  within = (found s p 3 1 16 (held s p Upper 1 16 e).run_found).inside
