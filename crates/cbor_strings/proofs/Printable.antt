-- All characters of a text lie from 0x21 to 0x7e where its least and its greatest one do: one more character.
use Rattle.std.proofs.Common.{◌≡◌, ◌&&◌, ℕ, ◌<◌, ◌+◌, min, List, length, take, get_or, leb, arith, ap, ap₂, ◌∙◌, sym, Bool}
use Rattle.std.proofs.lemmas.List.Folds.{list_all_more}
use Rattle.std.specs.List.{list_all}
use Rattle.std.specs.Ordering.{ord_max, nat_cmp}
use Rattle.cbor_strings.specs.Strings.{is_printable}

low_min : (a v c : ℕ) → leb a (min v c) ≡ (leb a v && leb a c)
low_min a v c = grind arith

high_max : (b w c : ℕ) → leb (ord_max nat_cmp w c) b ≡ (leb w b && leb c b)
high_max b w c = grind arith

and_swap : (p q x y : Bool) → ((p && x) && (q && y)) ≡ ((p && q) && (x && y))
and_swap p q x y = grind arith

pub printable_more : (s : List ℕ) (i v w : ℕ) → i < length s → (leb 0x21 v && leb w 0x7e) ≡ list_all is_printable (take i s)
    → (leb 0x21 (min v (get_or s i 0)) && leb (ord_max nat_cmp w (get_or s i 0)) 0x7e) ≡ list_all is_printable (take (i + 1) s)
unfolding is_printable
printable_more s i v w h e =
    let c = get_or s i 0 in
    ap₂ ◌&&◌ (low_min 0x21 v c) (high_max 0x7e w c) ∙ and_swap (leb 0x21 v) (leb w 0x7e) (leb 0x21 c) (leb c 0x7e)
    ∙ ap (λ b. b && is_printable c) e ∙ sym (list_all_more is_printable s i 0 h)
