use Rattle.std.proofs.Common.{◌≡◌, ◌&&◌, Bool, ℕ, List, [], ◌∷◌, ◌++◌, refl, rules, sym, ◌∙◌}
use Rattle.std.proofs.Math.Bool.{and-true}
use Rattle.std.proofs.lemmas.Fn.{fold_over, slice_gives, fronts}
use Rattle.std.proofs.lemmas.List.Folds.{list_all-append}
use Rattle.std.specs.List.{list_all}
use Rattle.cbor_strings.specs.Strings.{is_hex}
use Rattle.cbor_strings.proofs.hex_group.Goals as goal

-- one more character
more : (f : ℕ → Bool) (s : List ℕ) (c : ℕ) (all : Bool) → all ≡ list_all f s → (all && f c) ≡ list_all f (s ++ (c ∷ []))
more f s c all e = sym (list_all-append f s (c ∷ []) ∙ rw (and-true (f c), e))

pub returns : goal.returns
returns c =
    rw (← c.iter.ensures.rest)
    (fold_over (fronts {A = ℕ}) (λ y. y.now) _ (λ ys b. b ≡ list_all is_hex ys) _ (λ ys a x b f' e k. let m = more is_hex ys x.now a e in search rules) _ _ _ _ (slice_gives c.iter.result) refl c.fold.ensures.ran)
