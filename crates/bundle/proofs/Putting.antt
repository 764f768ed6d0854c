-- One line put at a place: the words, and the byte behind them. None is longer than 27 bytes.
use mathlib.Core.Path.{◌≡◌, refl, sym, ap, ◌∙◌}
use mathlib.Core.List.{List, [], ◌∷◌, ◌++◌}
use Prim.Native.Nat.{ℕ, ◌+◌, ◌-◌, ◌≤◌}
use native.Mathlib.Omega.{arith}
use borrow.Author.Tests.{eq-eqb, ne_eqb}
use lib.Dec.{eqb}
use lib.ListN.{length, take, drop, length-append}
use Rattle.basis.specs.Basis.{ascii, Written}
use Rattle.basis.proofs.Picks.{either}
use Rattle.answers.specs.Answers.{number_of, name_of, answer_of}
use Rattle.answers.specs.declared.Answer.{Answer}
use Rattle.answers.specs.declared.Answer.TheVariants.{Allow}
use Rattle.answers.proofs.Named.{name_short}
use Rattle.answers.proofs.Distinct.{number_back, numbers_differ}
use Rattle.std.specs.Prelude.{Option, Some, None}
use Rattle.bundle.specs.Lines.{name_in, line_words, line}

listed_short : (x : Option Answer) → length (name_in x) ≤ 21
listed_short (Some a) = name_short a
listed_short None = omega arith

words_short : (n : ℕ) → length (line_words n) ≤ 26
unfolding line_words
words_short n =
    either (λ (x : List ℕ). length x ≤ 26) (eqb n 0) (omega arith)
    (rw (length-append (ascii "deny ") (name_in (answer_of n))) (omega (arith, listed_short (answer_of n))))

pub line_short : (n : ℕ) → length (line n) ≤ 27
unfolding line
line_short n = omega (arith, length-append (line_words n) (10 ∷ []), words_short n)

pub allows : (a : Answer) → a ≡ Allow → line_words (number_of a) ≡ ascii "allow"
unfolding line_words
allows a e = rw e

-- whose number is not 0
pub denies : (a : Answer) → (a ≡ Allow → ⊥) → line_words (number_of a) ≡ ascii "deny " ++ name_of a
unfolding line_words
denies a h = rw (ne_eqb (number_of a) 0 (λ e. h (numbers_differ a Allow e)), number_back a)
