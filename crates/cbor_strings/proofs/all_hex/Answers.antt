use Rattle.std.proofs.Common.{◌≡◌, sym, ◌∙◌, ap, ℕ, List, length, ◌/◌, ◌*◌, drop, Bool, true, false, ◌&&◌}
use Rattle.std.specs.List.{list_all}
use Rattle.std.specs.Simd.{first_chunks}
use Rattle.cbor_strings.specs.Strings.{is_hex}
use Rattle.cbor_strings.proofs.Groups.{all_parts}
use Rattle.cbor_strings.proofs.all_hex.Goals as goal

-- the whole by its groups and what is left, where the groups are judged
judged : (s : List ℕ) (groups : List (List ℕ)) (b : Bool) → groups ≡ first_chunks 16 (length s / 16) s → list_all (λ g. list_all is_hex g) groups ≡ b
    → (b && list_all is_hex (drop (length s / 16 * 16) s)) ≡ list_all is_hex s
judged s groups b e f =
    let g : b ≡ list_all (λ g. list_all is_hex g) (first_chunks 16 (length s / 16) s) = sym f ∙ ap (list_all (λ g. list_all is_hex g)) e in
    ap (λ a. a && list_all is_hex (drop (length s / 16 * 16) s)) g ∙ sym (all_parts is_hex 16 (length s / 16) s)

pub returns-then-hex_groups : goal.returns-then-hex_groups
returns-then-hex_groups c =
    let parts = c.as_chunks.ensures in
    c.hex_each.ensures ∙ ap (list_all is_hex) parts.back ∙ judged _ _ true parts.front (sym c.hex_groups.ensures ∙ c.if-hex_groups.true)

pub returns-else-hex_groups : goal.returns-else-hex_groups
returns-else-hex_groups c =
    let parts = c.as_chunks.ensures in
    c.if-hex_groups.false ∙ judged _ _ false parts.front (sym c.hex_groups.ensures ∙ c.if-hex_groups.false)
