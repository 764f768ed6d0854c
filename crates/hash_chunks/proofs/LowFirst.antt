-- Words and their bytes, the low one first: std's conversions are the definitions', and the words of a word's bytes are the word again.
use Rattle.std.proofs.Common.{◌≡◌, sym, ℕ, zero, suc, ◌+◌, ◌*◌, ◌/◌, ◌%◌, ◌<◌, List, [], ◌∷◌, ◌++◌, length, get_or, take, drop, refl, ap, ◌∙◌, arith, ap₂, map, div-one, append_assoc}
use Rattle.std.proofs.lemmas.List.{get_or-take, get_or-drop, drop-drop}
use Rattle.std.specs.Int.{w32, from_le_bytes, to_le_bytes}
use Rattle.std.specs.Simd.{first_chunks}
use Rattle.std.specs.List.{flat_map}
use Rattle.std.proofs.lemmas.List.Concat.{flat_map-append}
use Rattle.basis.specs.Basis.{tab}
use Rattle.basis.specs.Tabs.{tab_all}
use Rattle.hash_chunks.specs.Chunks.{le32, words_of, byte_of, bytes_of_words}

-- the chunk i of n elements
chunk_at : (n k i : ℕ) (s : List ℕ) → i < k → get_or (first_chunks n k s) i [] ≡ take n (drop (i * n) s)
chunk_at n zero i s h = absurd (omega arith)
chunk_at n (suc k) zero s h = let z : 0 * n ≡ 0 = omega arith in rw z refl
chunk_at n (suc k) (suc i) s h =
    let e : n + i * n ≡ suc i * n = omega arith in
    chunk_at n k i (drop n s) (omega arith) ∙ ap (take n) (drop-drop (i * n) n s ∙ ap (λ (j : ℕ). drop j s) e)

-- the word that std makes of the chunk i is the definition's
pub quad : (k i : ℕ) (s : List ℕ) → i < k → from_le_bytes w32 (get_or (first_chunks 4 k s) i []) ≡ le32 s (i * 4)
quad k i s h =
    let at : (j : ℕ) → j < 4 → get_or (take 4 (drop (i * 4) s)) j 0 ≡ get_or s (i * 4 + j) 0 =
    λ j g. get_or-take 4 (drop (i * 4) s) j 0 g ∙ get_or-drop (i * 4) s j 0 in
    let z : i * 4 + 0 ≡ i * 4 = omega arith in
    rw (chunk_at 4 k i s h, at 0 (omega arith), at 1 (omega arith), at 2 (omega arith), at 3 (omega arith), z) refl

-- a word from its four bytes
abbrev again : ℕ → ℕ
again x = x % 256 + x / 256 % 256 * 256 + x / 65536 % 256 * 65536 + x / 16777216 % 256 * 16777216

-- in steps of one byte: at once `omega` does not find it
digits : (x : ℕ) → x < 4294967296 → again x ≡ x
digits x h =
    let low : x % 256 + x / 256 * 256 ≡ x = omega arith in
    let next : x / 256 % 256 + x / 65536 * 256 ≡ x / 256 = omega arith in
    let third : x / 65536 % 256 + x / 16777216 * 256 ≡ x / 65536 = omega arith in
    let top : x / 16777216 % 256 ≡ x / 16777216 = omega arith in
    omega arith

-- a list whose elements are f's is the map of f
mapped : (f : ℕ → List ℕ) (w : List ℕ) (q : List (List ℕ)) → length q ≡ length w → ((i : ℕ) → i < length w → get_or q i [] ≡ f (get_or w i 0))
    → q ≡ map f w
mapped f [] [] l h = refl
mapped f [] (y ∷ q) l h = absurd (omega arith)
mapped f (x ∷ w) [] l h = absurd (omega arith)
mapped f (x ∷ w) (y ∷ q) l h =
    ap₂ (λ (a : List ℕ) (b : List (List ℕ)). a ∷ b) (h 0 (omega arith)) (mapped f w q (omega arith) (λ i g. h (suc i) (omega arith)))

-- words laid down as bytes, over any number of them: each is its four bytes
pub words_laid : (n : ℕ) (f : ℕ → ℕ) → flat_map (to_le_bytes w32) (tab n f) ≡ tab (n * 4) (λ i. byte_of (f (i / 4)) (i % 4))
unfolding tab
words_laid zero f = refl
words_laid (suc n) f =
    let rule : ℕ → ℕ = λ i. byte_of (f (i / 4)) (i % 4) in
    let at : (i k : ℕ) → i ≡ n * 4 + k → k < 4 → rule i ≡ byte_of (f n) k = λ i k e h.
    let q : i / 4 ≡ n = omega arith in
    let r : i % 4 ≡ k = omega arith in
    rw (q, r) in
    let four : suc n * 4 ≡ suc (suc (suc (suc (n * 4)))) = omega arith in
    let quad : tab (suc (suc (suc (suc (n * 4))))) rule ≡ tab (n * 4) rule ++ (byte_of (f n) 0 ∷ byte_of (f n) 1 ∷ byte_of (f n) 2 ∷ byte_of (f n) 3 ∷ []) =
    rw (at (n * 4) 0 (omega arith) (omega arith), at (suc (n * 4)) 1 (omega arith) (omega arith), at (suc (suc (n * 4))) 2 (omega arith) (omega arith), at (suc (suc (suc (n * 4)))) 3 (omega arith) (omega arith)) (simp append_assoc) in
    rw (flat_map-append (to_le_bytes w32) (tab n f) (f n ∷ []), words_laid n f, four, quad) (simp div-one)

joined : (f : ℕ → List ℕ) (w : List ℕ) → flat_map (λ x. x) (map f w) ≡ flat_map f w
joined f [] = refl
joined f (x ∷ w) = ap (λ (l : List ℕ). f x ++ l) (joined f w)

-- eight words, each as four bytes, are the 32 bytes of the words
pub flat : (w : List ℕ) (q : List (List ℕ)) → length w ≡ 8 → length q ≡ 8 → ((i : ℕ) → i < 8 → get_or q i [] ≡ to_le_bytes w32 (get_or w i 0))
    → flat_map (λ x. x) q ≡ bytes_of_words w
flat w q size long h =
    ap (flat_map (λ x. x)) (mapped (to_le_bytes w32) w q (omega arith) (λ i g. h i (omega arith)))
    ∙ joined (to_le_bytes w32) w
    ∙ ap (flat_map (to_le_bytes w32)) (sym (tab_all 8 w size))
    ∙ words_laid 8 (λ i. get_or w i 0)

-- the words of the bytes of eight words and eight more are those words
pub words_back : (a b : List ℕ) → length a ≡ 8 → length b ≡ 8 → ((i : ℕ) → get_or a i 0 < 4294967296) → ((i : ℕ) → get_or b i 0 < 4294967296)
    → words_of 16 (bytes_of_words a ++ (bytes_of_words b ++ [])) ≡ a ++ b
unfolding tab
words_back a b la lb fa fb =
    let da : (i : ℕ) → again (get_or a i 0) ≡ get_or a i 0 = λ i. digits (get_or a i 0) (fa i) in
    let db : (i : ℕ) → again (get_or b i 0) ≡ get_or b i 0 = λ i. digits (get_or b i 0) (fb i) in
    simp (div-one, da, db) (ap₂ (λ (x y : List ℕ). x ++ y) (tab_all 8 a la) (tab_all 8 b lb))
