-- One answer: two results, and the rooms left with them, that meet a writer's promise are equal.
use mathlib.Core.Path.{◌≡◌}
use mathlib.Core.List.{List}
use Prim.Native.Nat.{ℕ}
use lib.ListN.{length}
use Rattle.basis.proofs.OneAnswer.{told}
use Rattle.cbor_heads.specs.Heads.{head}
use Rattle.cbor_strings.specs.Strings.{string}
use Rattle.cbor_writing.specs.Placing.{Placed}

pub head_length_one_answer : (n : ℕ) {r s : ℕ} → r ≡ length (head 0 n) → s ≡ length (head 0 n) → r ≡ s
head_length_one_answer n p q = told p q

pub placed_one_answer : (text entry : List ℕ) (at : ℕ) {r s : ℕ} {x y : List ℕ} → Placed text entry at r x → Placed text entry at s y
    → (r ≡ s) × (x ≡ y)
placed_one_answer text entry at p q = (told p.behind q.behind, told p.content q.content)

module _ (entry : List ℕ) (at : ℕ) {r s : ℕ} {x y : List ℕ} where
  pub put_at_one_answer : (text : List ℕ) → Placed text entry at r x → Placed text entry at s y → (r ≡ s) × (x ≡ y)
  put_at_one_answer text p q = placed_one_answer text entry at p q

  pub put_head_one_answer : (major n : ℕ) → Placed (head major n) entry at r x → Placed (head major n) entry at s y → (r ≡ s) × (x ≡ y)
  put_head_one_answer major n p q = placed_one_answer (head major n) entry at p q

  pub put_string_one_answer : (major : ℕ) (content : List ℕ) → Placed (string major content) entry at r x
      → Placed (string major content) entry at s y → (r ≡ s) × (x ≡ y)
  put_string_one_answer major content p q = placed_one_answer (string major content) entry at p q
