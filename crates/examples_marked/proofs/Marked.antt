-- Document 01, "Examples on the line": those marked *, shown once, as one table, by computation.
use Rattle.std.specs.Prelude.{◌≡◌, refl, [], ◌∷◌, Err}
use Rattle.std.proofs.Math.Option.{none}
use Rattle.basis.specs.Basis.{ascii}
use Rattle.basis.specs.Bytes.{index_of, index_after}
use Rattle.cbor_heads.specs.Defects.{bad}
use Rattle.cbor_heads.specs.Heads.{big, head}
use Rattle.cbor_heads.specs.Reading.{number_from, width_of, head_by, head_at, read_head}
use Rattle.cbor_heads.specs.declared.defect.Kind.TheVariants.{Cbor}
use Rattle.cbor_keys.specs.Maps.{texts}
use Rattle.token_scope.specs.Scopes.{encode_methods, encode_scope}
use Rattle.text_writing.specs.Base64url.{letter_of, base64url}
use Rattle.text_reading.specs.Reading.{digit_of, unused_of, judged_of}

pub marked :
    (head 0 23 ≡ 0x17 ∷ [])
    × (head 0 24 ≡ 0x18 ∷ 0x18 ∷ [])
    × (head 0 255 ≡ 0x18 ∷ 0xff ∷ [])
    × (head 0 256 ≡ 0x19 ∷ 0x01 ∷ 0x00 ∷ [])
    × (head 0 65535 ≡ 0x19 ∷ 0xff ∷ 0xff ∷ [])
    × (head 0 65536 ≡ 0x1a ∷ 0x00 ∷ 0x01 ∷ 0x00 ∷ 0x00 ∷ [])
    × (head 0 4294967296 ≡ 0x1b ∷ 0x00 ∷ 0x00 ∷ 0x00 ∷ 0x01 ∷ 0x00 ∷ 0x00 ∷ 0x00 ∷ 0x00 ∷ [])
    × (read_head (0x1a ∷ 0x00 ∷ 0x00 ∷ 0xff ∷ 0xff ∷ []) 0 ≡ bad Cbor 0)
    × (base64url (0xff ∷ []) ≡ ascii "_w")
    × (judged_of (ascii "_x") ≡ Err 1)
    × (base64url (0xfb ∷ 0xff ∷ []) ≡ ascii "-_8")
    × (encode_scope (record { prefix = none; methods = ascii "GET" ∷ []; max_bytes = none })
    ≡ 0xa1 ∷ 0x67 ∷ 0x6d ∷ 0x65 ∷ 0x74 ∷ 0x68 ∷ 0x6f ∷ 0x64 ∷ 0x73 ∷ 0x81 ∷ 0x63 ∷ 0x47 ∷ 0x45 ∷ 0x54 ∷ [])
unfolding big head number_from width_of head_by head_at letter_of base64url digit_of index_of index_after unused_of judged_of texts encode_methods encode_scope
marked = (refl, refl, refl, refl, refl, refl, refl, refl, refl, refl, refl, refl)
