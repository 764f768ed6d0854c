-- `compress` has one result for its arguments.
use Rattle.std.proofs.Common.{◌≡◌, ℕ, List, sym, ◌∙◌}
use Rattle.hash_mixing.specs.Compression.{compress_of}

pub compress_one_answer : (h m : List ℕ) (counter len flags : ℕ) {r s : List ℕ} → r ≡ compress_of h m counter len flags
    → s ≡ compress_of h m counter len flags → r ≡ s
compress_one_answer h m counter len flags p q = p ∙ sym q
