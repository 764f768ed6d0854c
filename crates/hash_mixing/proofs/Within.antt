-- A list by a rule, inside its length: what it holds, and when two are the same.
use Rattle.std.proofs.Common.{◌≡◌, ℕ, zero, suc, ◌+◌, ◌<◌, Bool, true, false, ltb, List, [], ◌∷◌, ◌++◌, length, get_or, refl, ◌∙◌, ap₂, arith, get_or-append-add, ltb-false, ltb-true}
use lib.ListN.{get_or-append}
use Rattle.basis.specs.Basis.{tab}
use Rattle.basis.specs.Tabs.{tab_length}

pub tab_at : (n : ℕ) (f : ℕ → ℕ) (i : ℕ) → i < n → get_or (tab n f) i 0 ≡ f i
unfolding tab
tab_at zero f i h = omega arith
tab_at (suc n) f i h = by (ltb i n) refl (tab_at n f i)
  where
    by : (b : Bool) → ltb i n ≡ b → (i < n → get_or (tab n f) i 0 ≡ f i) → get_or (tab n f ++ (f n ∷ [])) i 0 ≡ f i
    by true e g =
        let k : i < n = ltb-true i n e in
        get_or-append (tab n f) (f n ∷ []) 0 i (rw (tab_length n f) k) ∙ g k
    by false e g =
        let at : i ≡ n = omega (arith, ltb-false i n e) in
        let end : length (tab n f) + 0 ≡ n = omega (arith, tab_length n f) in
        rw at (rw end at (get_or-append-add (tab n f) (f n ∷ []) 0 0))

pub tab_within : (n : ℕ) {f g : ℕ → ℕ} → ((i : ℕ) → i < n → f i ≡ g i) → tab n f ≡ tab n g
unfolding tab
tab_within zero e = refl
tab_within (suc n) e = ap₂ (λ (s : List ℕ) (x : ℕ). s ++ (x ∷ [])) (tab_within n (λ i h. e i (omega arith))) (e n (omega arith))
