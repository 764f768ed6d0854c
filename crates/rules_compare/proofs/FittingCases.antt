-- Document 02's cases of a prefix and a path (M-100), and those about the edges of its sentence, by computation.
use Rattle.std.proofs.Common.{◌≡◌, true, false, refl}
use Rattle.basis.specs.Basis.{ascii}
use Rattle.cbor_strings.specs.Paths.{starts}
use Rattle.rules_compare.specs.Fitting.{ends_in_slash, next_is_slash, fits_of}

-- "add cases for /relay/1 with /relay/1, /relay/1/count, /relay/12"
pub relay_cases :
    (fits_of (ascii "/relay/1") (ascii "/relay/1") ≡ true)
    × (fits_of (ascii "/relay/1") (ascii "/relay/1/count") ≡ true)
    × (fits_of (ascii "/relay/1") (ascii "/relay/12") ≡ false)
unfolding starts ends_in_slash next_is_slash fits_of
relay_cases = (refl, refl, refl)

-- a prefix that ends in "/": its own path, what lies under it, and the path without it
pub slash_cases :
    (fits_of (ascii "/relay/1/") (ascii "/relay/1/") ≡ true)
    × (fits_of (ascii "/relay/1/") (ascii "/relay/1/count") ≡ true)
    × (fits_of (ascii "/relay/1/") (ascii "/relay/1") ≡ false)
    × (fits_of (ascii "/relay/1/") (ascii "/relay/12/") ≡ false)
unfolding starts ends_in_slash next_is_slash fits_of
slash_cases = (refl, refl, refl, refl)

-- a next byte that is another one
pub next_cases :
    (fits_of (ascii "/relay/1") (ascii "/relay/1?n=2") ≡ false)
    × (fits_of (ascii "/relay/1") (ascii "/relay/1#count") ≡ false)
    × (fits_of (ascii "/relay/1") (ascii "/relay/12/") ≡ false)
unfolding starts ends_in_slash next_is_slash fits_of
next_cases = (refl, refl, refl)
