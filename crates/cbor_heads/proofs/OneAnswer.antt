-- Widths, heads and counts have one reading each.
use mathlib.Core.Path.{◌≡◌}
use mathlib.Core.List.{List}
use Prim.Native.Nat.{ℕ}
use Rattle.basis.proofs.OneAnswer.{told}
use Rattle.cbor_heads.specs.Reading.{width_of, read_head}
use Rattle.cbor_heads.specs.Counts.{read_count, count_numbered, map_with, array_up_to, number_up_to}
use Rattle.cbor_heads.specs.declared.Width.{Width}
use Rattle.cbor_heads.specs.declared.Head.{Head}
use Rattle.cbor_heads.specs.declared.defect.Kind.{Kind}
use Rattle.cbor_heads.specs.declared.defect.Defect.{Defect}
use Rattle.cbor_heads.specs.declared.defect.NumberedDefect.{NumberedDefect}
use Rattle.cbor_heads.specs.Defects.{Reading, numbered}
use Rattle.std.specs.Prelude.{Result}

pub width_of_one_answer : (low : ℕ) {r s : Width} → r ≡ width_of low → s ≡ width_of low → r ≡ s
width_of_one_answer low p q = told p q

pub read_head_one_answer : (bytes : List ℕ) (at : ℕ) {r s : Reading Head} → r ≡ read_head bytes at → s ≡ read_head bytes at → r ≡ s
read_head_one_answer bytes at p q = told p q

pub read_count_one_answer : (bytes : List ℕ) (at major least most : ℕ) (above : Kind) {r s : Reading (ℕ × ℕ)} → r ≡ read_count bytes at major least most above
    → s ≡ read_count bytes at major least most above → r ≡ s
read_count_one_answer bytes at major least most above p q = told p q

pub count_numbered_one_answer : (bytes : List ℕ) (at major least most above : ℕ) {r s : Result (ℕ × ℕ) NumberedDefect} → r ≡ count_numbered bytes at major least most above
    → s ≡ count_numbered bytes at major least most above → r ≡ s
count_numbered_one_answer bytes at major least most above p q = told p q

pub numbered_one_answer : (above : ℕ) (defect : Defect) {r s : NumberedDefect} → r ≡ numbered above defect → s ≡ numbered above defect → r ≡ s
numbered_one_answer above defect p q = told p q

pub map_with_one_answer : (bytes : List ℕ) (at required known : ℕ) {r s : Reading (ℕ × ℕ)} → r ≡ map_with required known bytes at → s ≡ map_with required known bytes at → r ≡ s
map_with_one_answer bytes at required known p q = told p q

pub array_up_to_one_answer : (bytes : List ℕ) (at most : ℕ) {r s : Reading (ℕ × ℕ)} → r ≡ array_up_to most bytes at → s ≡ array_up_to most bytes at → r ≡ s
array_up_to_one_answer bytes at most p q = told p q

pub number_up_to_one_answer : (bytes : List ℕ) (at most : ℕ) {r s : Reading (ℕ × ℕ)} → r ≡ number_up_to most bytes at → s ≡ number_up_to most bytes at → r ≡ s
number_up_to_one_answer bytes at most p q = told p q
