-- The keys of each map stand in the bytewise order of their encodings (RFC 8949, 4.2.1), which is the order that document 01's readings ask
-- for: by computation, over the order that the rows of a table have.
use Rattle.std.specs.Prelude.{◌≡◌, refl, Bool, true, false, List, [], ◌∷◌}
use Prim.Native.String.{String}
use Rattle.basis.specs.Basis.{pick, ascii}
use Rattle.cbor_heads.specs.Heads.{big, head}
use Rattle.cbor_keys.specs.Keys.{keys_of}
use Rattle.cbor_keys.specs.Maps.{text}
use Rattle.cbor_keys.specs.declared.Names.TheVariants.{Token, Scope, Caveat, Rate, Custom}
use Rattle.records_table.specs.Order.{before_of}

abbrev in_order : List String → Bool
in_order [] = true
in_order (a ∷ []) = true
in_order (a ∷ b ∷ rest) = pick (before_of (text (ascii a)) (text (ascii b))) (in_order (b ∷ rest)) false

pub keys_in_order :
    (in_order (keys_of Token) ≡ true)
    × (in_order (keys_of Scope) ≡ true)
    × (in_order (keys_of Caveat) ≡ true)
    × (in_order (keys_of Rate) ≡ true)
    × (in_order (keys_of Custom) ≡ true)
unfolding keys_of before_of big head
keys_in_order = (refl, refl, refl, refl, refl)
