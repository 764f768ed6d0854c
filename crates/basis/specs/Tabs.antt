-- Inner. Laws of `tab`: how long such a list is, what stands in it, when two are the same.
use Rattle.std.specs.Prelude.{◌≡◌, refl, Bool, true, false, List, [], ◌∷◌, ◌++◌, ℕ, zero, suc, ◌+◌, ◌-◌, ◌<◌, ◌≤◌, length, take, get_or, ltb}
use Rattle.std.proofs.Common.{sym, ap, ap₂, ◌∙◌, add-one, arith, length-append, get_or-append-add, take-suc, take_all, ltb-true, ltb-false}
use Rattle.std.proofs.Math.ListN.{get_or-append}
use Rattle.basis.specs.Basis.{tab}

pub tab_length : (n : ℕ) (f : ℕ → ℕ) → length (tab n f) ≡ n
unfolding tab
tab_length zero f = refl
tab_length (suc n) f = length-append (tab n f) _ ∙ ap (λ (k : ℕ). k + 1) (tab_length n f) ∙ add-one n

pub tab_same : (n : ℕ) {f g : ℕ → ℕ} → ((i : ℕ) → f i ≡ g i) → tab n f ≡ tab n g
unfolding tab
tab_same zero e = refl
tab_same (suc n) e = ap₂ (λ (s : List ℕ) (x : ℕ). s ++ (x ∷ [])) (tab_same n e) (e n)

single : (top : ℕ) → 0 < top → (x : ℕ) → x < top → (i : ℕ) → get_or (x ∷ []) i 0 < top
single top z x h zero = h
single top z x h (suc i) = z

-- what holds below a bound for each f i holds of every element, and of the 0 past the end
pub tab_below : (top : ℕ) → 0 < top → (n : ℕ) (f : ℕ → ℕ) → ((i : ℕ) → f i < top) → (i : ℕ) → get_or (tab n f) i 0 < top
unfolding tab
tab_below top z zero f h i = z
tab_below top z (suc n) f h i = by (ltb i n) refl (tab_below top z n f h i)
  where
    by : (b : Bool) → ltb i n ≡ b → get_or (tab n f) i 0 < top → get_or (tab n f ++ (f n ∷ [])) i 0 < top
    by true e g = rw (get_or-append (tab n f) (f n ∷ []) 0 i (rw (tab_length n f) (ltb-true i n e))) g
    by false e g =
        let k : n ≤ i = ltb-false i n e in
        let at : i ≡ length (tab n f) + (i - n) = rw (tab_length n f) (omega arith) in
        rw (at, get_or-append-add (tab n f) (f n ∷ []) (i - n) 0) (single top z (f n) (h n) (i - n))

-- a list is the list of its elements
pub tab_take : (n : ℕ) (s : List ℕ) → n ≤ length s → tab n (λ i. get_or s i 0) ≡ take n s
unfolding tab
tab_take zero s h = refl
tab_take (suc n) s h = ap (λ (l : List ℕ). l ++ (get_or s n 0 ∷ [])) (tab_take n s (omega arith)) ∙ sym (take-suc s n 0 (omega arith))

pub tab_all : (n : ℕ) (s : List ℕ) → length s ≡ n → tab n (λ i. get_or s i 0) ≡ s
tab_all n s e = tab_take n s (omega arith) ∙ take_all n s (omega arith)
