-- Meaning. UTF-8 by RFC 3629, section 4: what may stand first, and what each first byte asks of those behind it.
use Rattle.std.specs.Prelude.{Bool, false, List, [], ◌∷◌, ℕ, ◌-◌, ltb, eqb, Option, Some, None}
use Rattle.basis.specs.Basis.{pick}
use Rattle.cbor_values.specs.declared.Due.{Due}

-- so many bytes follow, the first of them from low to high
abbrev pub asked : ℕ → ℕ → ℕ → Due
asked n low high = record { n = n; low = low; high = high }

abbrev pub asks : ℕ → ℕ → ℕ → Option Due
asks n low high = Some (asked n low high)

-- the rows of the RFC's grammar, by ascending first byte: how many bytes follow, and from where to where the first of them goes
unfoldable pub lead_of : ℕ → Option Due
lead_of c =
    pick (ltb c 0x80) (asks 0 0x80 0xbf)  -- UTF8-1: 00 to 7F
    (pick (ltb c 0xc2) None  -- a tail, or an overlong form
    (pick (ltb c 0xe0) (asks 1 0x80 0xbf)  -- UTF8-2: C2 to DF
    (pick (eqb c 0xe0) (asks 2 0xa0 0xbf)  -- UTF8-3: E0 A0 to BF
    (pick (ltb c 0xed) (asks 2 0x80 0xbf)  -- E1 to EC
    (pick (eqb c 0xed) (asks 2 0x80 0x9f)  -- ED 80 to 9F: no surrogates
    (pick (ltb c 0xf0) (asks 2 0x80 0xbf)  -- EE to EF
    (pick (eqb c 0xf0) (asks 3 0x90 0xbf)  -- UTF8-4: F0 90 to BF
    (pick (ltb c 0xf4) (asks 3 0x80 0xbf)  -- F1 to F3
    (pick (eqb c 0xf4) (asks 3 0x80 0x8f)  -- F4 80 to 8F: nothing past 10FFFF
    None)))))))))

-- one byte more, behind those that asked for `due`
unfoldable pub step_of : ℕ → Due → Option Due
step_of c d =
    pick (eqb d.n 0) (lead_of c)
    (pick (ltb c d.low) None
    (pick (ltb d.high c) None (asks (d.n - 1) 0x80 0xbf)))

unfoldable pub go_on : Option Due → (Due → Bool) → Bool
go_on None f = false
go_on (Some d) f = f d

unfoldable pub utf8_from : List ℕ → Due → Bool
utf8_from [] d = eqb d.n 0
utf8_from (c ∷ t) d = go_on (step_of c d) (utf8_from t)

abbrev pub utf8 : List ℕ → Bool
utf8 s = utf8_from s (asked 0 0x80 0xbf)
