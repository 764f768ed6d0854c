-- Whether a text stands for bytes.
use Rattle.std.proofs.Common.{◌≡◌, refl, sym, ◌∙◌, ℕ, zero, suc, ◌+◌, ◌-◌, ◌*◌, ◌/◌, ◌≤◌, ◌<◌, List, [], ◌∷◌, ◌++◌, Bool, true, false, not, cond, arith, length, take, drop, get_or, Option, None, zero-mul, zero-add, take-append-drop, length-append, length-drop, le-ltb}
use Rattle.std.specs.List.{list_any, position, position_or_len}
use Rattle.std.specs.Option.{unwrap_or, option_map}
use Rattle.std.specs.Simd.{first_chunks}
use Rattle.std.proofs.lemmas.List.{drop-drop, length-take-le}
use Rattle.std.proofs.Math.Seq.{take_all}
use Rattle.std.proofs.lemmas.List.Folds.{prefix_len-append}
use Rattle.std.proofs.lemmas.List.Sums.{prefix_len_passes, prefix_len-le-length}
use Rattle.std.proofs.lemmas.Grind.{common_steps}
use Rattle.text_reading.specs.Reading.{digit_of, is_bad, bad_at, unused_of}

-- `position` by the number that it compares
module _ {X : Type 0} (p : X → Bool) (xs : List X) where
  none_before : position p xs ≡ None → length xs ≤ position_or_len p xs
  none_before e = grind (arith, common_steps)

  pub none_after : length xs ≤ position_or_len p xs → position p xs ≡ None
  none_after h = rw (le-ltb _ _ h)

  or_all : unwrap_or (position p xs) (length xs) ≡ position_or_len p xs
  or_all = let g = prefix_len-le-length (λ x. not (p x)) xs in grind (arith, common_steps)

-- where no character is bad, each is a letter
pub letter_at : (text : List ℕ) (i : ℕ) → bad_at text ≡ None → i < length text → digit_of (get_or text i 0) < 64
letter_at text i e h =
    let g = none_before is_bad text e in
    let t = prefix_len_passes (λ c. not (is_bad c)) text i 0 (omega arith) in
    grind (arith, common_steps)

-- and none is in a part
pub letters_parts : (s t : List ℕ) → bad_at (s ++ t) ≡ None → (bad_at s ≡ None) × (bad_at t ≡ None)
letters_parts s t e =
    let f = rw (length-append, prefix_len-append) at (none_before is_bad (s ++ t) e) in
    let g = prefix_len-le-length (λ c. not (is_bad c)) s in
    let r : (length s ≤ position_or_len is_bad s) × (length t ≤ position_or_len is_bad t) = (grind (arith, common_steps), grind (arith, common_steps)) in
    (none_after is_bad s r.0, none_after is_bad t r.1)

-- passing what has none in front, and so passing groups
module _ (p : ℕ → Bool) where
  past : (xs ys : List ℕ) → list_any p xs ≡ false → position_or_len p (xs ++ ys) ≡ length xs + position_or_len p ys
  past [] ys e = sym (zero-add (position_or_len p ys))
  past (x ∷ xs) ys e = let r = past xs ys in grind (arith, common_steps)

  group_past : (b : Bool) (n j k : ℕ) (s : List ℕ) → n ≤ length s → list_any p (take n s) ≡ b → k ≡ cond (not b) (1 + j) 0
      → position_or_len p (drop n s) ≡ j * n + position_or_len p (drop (j * n) (drop n s)) → position_or_len p s ≡ k * n + position_or_len p (drop (k * n) s)
  group_past true n j k s h q e r = rw (e, zero-mul, zero-add)
  group_past false n j k s h q e r =
      let a = rw (take-append-drop, length-take-le n s h) at (past (take n s) (drop n s) q) in
      let t = rw drop-drop at r in
      let i : (1 + j) * n ≡ n + j * n = omega arith in
      rw (e, i) (omega arith)

  groups_past : (n count k : ℕ) (s : List ℕ) → count * n ≤ length s → k ≡ position_or_len (λ g. list_any p g) (first_chunks n count s)
      → position_or_len p s ≡ k * n + position_or_len p (drop (k * n) s)
  groups_past n zero k s h e = rw (e, zero-mul, zero-add)
  groups_past n (suc count) k s h e =
      let r = groups_past n count _ (drop n s) (rw length-drop (omega arith)) refl in
      group_past (list_any p (take n s)) n _ k s (omega arith) refl e r

  position_past : (s : List ℕ) (j : ℕ) → j ≤ length s → position_or_len p s ≡ j + position_or_len p (drop j s)
      → option_map (λ i. j + i) (position p (drop j s)) ≡ position p s
  position_past s j h e = let l = length-drop j s in grind (arith, common_steps)

-- the place behind the groups that are passed is the place in the text
pub place_past : (text : List ℕ) (groups : List (List ℕ)) (k : ℕ) (r : Option ℕ) → groups ≡ first_chunks 16 (length text / 16) text
    → length groups ≡ length text / 16 → k ≡ unwrap_or (position (λ g. list_any is_bad g) groups) (length groups)
    → r ≡ bad_at (take (length text - k * 16) (drop (k * 16) text)) → option_map (λ i. k * 16 + i) r ≡ bad_at text
place_past text groups k r e l u f =
    let q = u ∙ or_all (λ g. list_any is_bad g) groups in
    let h : k ≤ length groups = rw q (prefix_len-le-length _ groups) in
    let all = take_all (length text - k * 16) (drop (k * 16) text) (rw length-drop (omega arith)) in
    let past = groups_past is_bad 16 (length text / 16) k text (omega arith) (rw e at q) in
    rw (f, all) (position_past is_bad text (k * 16) (omega arith) past)

-- the unused bits are those of what is left behind the groups of four
pub unused_rest : (text : List ℕ) → unused_of text ≡ unused_of (drop (length text / 4 * 4) text)
unfolding unused_of
unused_rest [] = refl
unused_rest (a ∷ []) = refl
unused_rest (a ∷ b ∷ []) = refl
unused_rest (a ∷ b ∷ c ∷ []) = refl
unused_rest (a ∷ b ∷ c ∷ d ∷ t) =
    let i : suc (suc (suc (suc (length t)))) / 4 * 4 ≡ suc (suc (suc (suc (length t / 4 * 4)))) = omega arith in
    rw i (unused_rest t)

pub some_unused : (rest : List ℕ) → (unused_of rest ≡ 0 → ⊥) → 0 < length rest
unfolding unused_of
some_unused [] h = absurd (h refl)
some_unused (a ∷ t) h = omega arith

pub ruleset unused_bits = (unused_rest, some_unused)
