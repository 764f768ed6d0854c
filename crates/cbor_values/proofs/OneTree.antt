-- One tree for one encoding: two trees within limits whose encodings begin one list of bytes are the same tree.
use mathlib.Core.Path.{◌≡◌, refl, sym, ap, ap₂, ◌∙◌}
use mathlib.Core.Bool.{Bool, ◌||◌}
use mathlib.Core.List.{List, [], ◌++◌, append_assoc, append-nil}
use Prim.Native.Nat.{ℕ, zero, suc, ◌-◌, ◌^◌, ◌<◌}
use native.Mathlib.Omega.{arith}
use lib.Dec.{eqb}
use lib.ListN.{length, take, drop}
use lib.Seq.{take-append_seam, drop-append_seam}
use Rattle.basis.specs.Basis.{pick}
use Rattle.cbor_heads.specs.Heads.{head}
use Rattle.cbor_heads.proofs.HeadLaws.{head_unique}
use Rattle.cbor_values.specs.Trees.{Value, number, negative, bytes, text, simple, array, Values, none, more, count, encode, encodes, Good, AllGood}

-- a tree is its head's two numbers, a string's content and an array's elements
abbrev major : Value → ℕ
major (number n) = 0
major (negative n) = 1
major (bytes c) = 2
major (text c) = 3
major (simple n) = 7
major (array vs) = 4

abbrev arg : Value → ℕ
arg (number n) = n
arg (negative n) = n
arg (bytes c) = length c
arg (text c) = length c
arg (simple n) = n
arg (array vs) = count vs

abbrev content : Value → List ℕ
content (number n) = []
content (negative n) = []
content (bytes c) = c
content (text c) = c
content (simple n) = []
content (array vs) = []

abbrev elements : Value → Values
elements (number n) = none
elements (negative n) = none
elements (bytes c) = none
elements (text c) = none
elements (simple n) = none
elements (array vs) = vs

build : ℕ → ℕ → List ℕ → Values → Value
build m n c vs =
    pick (eqb m 0) (number n) (pick (eqb m 1) (negative n) (pick (eqb m 2) (bytes c) (pick (eqb m 3) (text c) (pick (eqb m 7) (simple n) (array vs)))))

rebuilt : (v : Value) → build (major v) (arg v) (content v) (elements v) ≡ v
unfolding build
rebuilt (number n) = refl
rebuilt (negative n) = refl
rebuilt (bytes c) = refl
rebuilt (text c) = refl
rebuilt (simple n) = refl
rebuilt (array vs) = refl

-- what stands behind the head
abbrev behind : Value → List ℕ
behind v = content v ++ encodes (elements v)

parts : (v : Value) → encode v ≡ head (major v) (arg v) ++ behind v
unfolding encode
parts (number n) = sym (append-nil (head 0 n))
parts (negative n) = sym (append-nil (head 1 n))
parts (bytes c) = ap (λ (t : List ℕ). head 2 (length c) ++ t) (sym (append-nil c))
parts (text c) = ap (λ (t : List ℕ). head 3 (length c) ++ t) (sym (append-nil c))
parts (simple n) = sym (append-nil (head 7 n))
parts (array vs) = refl

arg_small : (v : Value) (d : ℕ) → Good v d → arg v < 2 ^ 64
unfolding Good
arg_small (number n) d g = g
arg_small (negative n) d g = g
arg_small (bytes c) d g = g
arg_small (text c) d g = g.0
arg_small (simple n) d g = omega (arith, g.1)
arg_small (array vs) zero g = elim g [ ]
arg_small (array vs) (suc d) g = g.0

-- a content is told by the head and what stands behind it
abbrev is_string : ℕ → Bool
is_string m = eqb m 2 || eqb m 3

content_told : (v : Value) (t : List ℕ) → content v ≡ pick (is_string (major v)) (take (arg v) (behind v ++ t)) []
unfolding encode
content_told (number n) t = refl
content_told (negative n) t = refl
content_told (bytes c) t = sym (ap (take (length c)) (append_assoc c [] t) ∙ take-append_seam c ([] ++ t))
content_told (text c) t = sym (ap (take (length c)) (append_assoc c [] t) ∙ take-append_seam c ([] ++ t))
content_told (simple n) t = refl
content_told (array vs) t = refl

count_told : (v : Value) → count (elements v) ≡ pick (eqb (major v) 4) (arg v) 0
unfolding count
count_told (number n) = refl
count_told (negative n) = refl
count_told (bytes c) = refl
count_told (text c) = refl
count_told (simple n) = refl
count_told (array vs) = refl

elements_good : (v : Value) (d : ℕ) → Good v d → AllGood (elements v) (d - 1)
unfolding Good
elements_good (number n) d g = tt
elements_good (negative n) d g = tt
elements_good (bytes c) d g = tt
elements_good (text c) d g = tt
elements_good (simple n) d g = tt
elements_good (array vs) zero g = elim g [ ]
elements_good (array vs) (suc d) g = let e : suc d - 1 ≡ d = omega arith in rw e g.1

-- all but the elements
module _ (v w : Value) (d e : ℕ) (g : Good v d) (h : Good w e) (t u : List ℕ) (p : encode v ++ t ≡ encode w ++ u) where
  heads : (major v ≡ major w) × (arg v ≡ arg w) × (behind v ++ t ≡ behind w ++ u)
  heads =
      head_unique (major v) (arg v) (major w) (arg w) (behind v ++ t) (behind w ++ u) (arg_small v d g) (arg_small w e h)
      (sym (ap (λ (x : List ℕ). x ++ t) (parts v) ∙ append_assoc (head (major v) (arg v)) (behind v) t) ∙ p
      ∙ ap (λ (x : List ℕ). x ++ u) (parts w) ∙ append_assoc (head (major w) (arg w)) (behind w) u)

  contents : content v ≡ content w
  contents = content_told v t ∙ rw (heads.0, heads.1, heads.2) (sym (content_told w u))

  counts : count (elements v) ≡ count (elements w)
  counts = count_told v ∙ rw (heads.0, heads.1) (sym (count_told w))

  rest : encodes (elements v) ++ t ≡ encodes (elements w) ++ u
  rest =
      let a = append_assoc (content v) (encodes (elements v)) t in
      let b = append_assoc (content w) (encodes (elements w)) u in
      let x : content v ++ (encodes (elements v) ++ t) ≡ content v ++ (encodes (elements w) ++ u) =
      sym a ∙ heads.2 ∙ b ∙ ap (λ (c : List ℕ). c ++ (encodes (elements w) ++ u)) (sym contents) in
      sym (drop-append_seam (content v) (encodes (elements v) ++ t)) ∙ ap (drop (length (content v))) x
      ∙ drop-append_seam (content v) (encodes (elements w) ++ u)

  join : elements v ≡ elements w → v ≡ w
  join q = sym (rebuilt v) ∙ rw (heads.0, heads.1, contents, q) (rebuilt w)

-- no elements
nothing : (ws : Values) (t u : List ℕ) → count none ≡ count ws → encodes none ++ t ≡ encodes ws ++ u → (none ≡ ws) × (t ≡ u)
unfolding encode count
nothing none t u c p = (refl, p)
nothing (more w ws) t u c p = let z : ⊥ = omega arith in elim z [ ]

leaf : (v w : Value) (d e : ℕ) → Good v d → Good w e → (t u : List ℕ) → encode v ++ t ≡ encode w ++ u → elements v ≡ none → (v ≡ w) × (t ≡ u)
leaf v w d e g h t u p q =
    let r = nothing (elements w) t u (rw q at (counts v w d e g h t u p)) (rw q at (rest v w d e g h t u p)) in
    (join v w d e g h t u p (q ∙ r.0), r.1)

mutual
  unfolding Good encode count

  pub one_tree : (v w : Value) (d e : ℕ) → Good v d → Good w e → (t u : List ℕ) → encode v ++ t ≡ encode w ++ u → (v ≡ w) × (t ≡ u)
  one_tree (number n) w d e g h t u p = leaf (number n) w d e g h t u p refl
  one_tree (negative n) w d e g h t u p = leaf (negative n) w d e g h t u p refl
  one_tree (bytes c) w d e g h t u p = leaf (bytes c) w d e g h t u p refl
  one_tree (text c) w d e g h t u p = leaf (text c) w d e g h t u p refl
  one_tree (simple n) w d e g h t u p = leaf (simple n) w d e g h t u p refl
  one_tree (array vs) w d e g h t u p =
      let r = one_run vs (elements w) (d - 1) (e - 1) (elements_good (array vs) d g) (elements_good w e h) t u (counts (array vs) w d e g h t u p) (rest (array vs) w d e g h t u p) in
      (join (array vs) w d e g h t u p r.0, r.1)

  one_run : (vs ws : Values) (d e : ℕ) → AllGood vs d → AllGood ws e → (t u : List ℕ) → count vs ≡ count ws → encodes vs ++ t ≡ encodes ws ++ u
      → (vs ≡ ws) × (t ≡ u)
  one_run none ws d e g h t u c p = nothing ws t u c p
  one_run (more v vs) none d e g h t u c p = let z : ⊥ = omega arith in elim z [ ]
  one_run (more v vs) (more w ws) d e g h t u c p =
      let q = sym (append_assoc (encode v) (encodes vs) t) ∙ p ∙ append_assoc (encode w) (encodes ws) u in
      let r = one_tree v w d e g.0 h.0 (encodes vs ++ t) (encodes ws ++ u) q in
      let s = one_run vs ws d e g.1 h.1 t u (omega arith) r.1 in
      (ap₂ more r.0 s.0, s.1)
