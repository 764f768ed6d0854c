-- What a text is that is judged to stand for bytes.
use Rattle.std.proofs.Common.{◌≡◌, ℕ, ◌%◌, arith, List, length, None, Ok}
use Rattle.std.proofs.lemmas.Grind.{common_steps}
use Rattle.text_reading.specs.Reading.{bad_at, unused_of, byte_length, judged_of}

-- what a text is that stands for n bytes
pub record Sound (text : List ℕ) (n : ℕ) : Type 0 where
  pub letters : bad_at text ≡ None
  pub left : length text % 4 ≡ 1 → ⊥
  pub unused : unused_of text ≡ 0
  pub count : n ≡ byte_length (length text)

pub sound : (text : List ℕ) {n : ℕ} → judged_of text ≡ Ok n → Sound text n
unfolding judged_of
sound text {n} e = record {
  letters = grind (arith, common_steps);
  left = grind (arith, common_steps);
  unused = grind (arith, common_steps);
  count = grind (arith, common_steps);
}
