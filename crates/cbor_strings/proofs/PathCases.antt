-- Paths that may stand in a request, a scope or path_prefix, and those that may not (document 02, M-106), by computation.
use mathlib.Core.Path.{◌≡◌, refl}
use mathlib.Core.Bool.{true, false}
use Rattle.basis.specs.Basis.{ascii}
use Rattle.cbor_strings.specs.Paths.{starts, has, up_to, segments, among, is_rewritten}
use Rattle.cbor_strings.specs.Strings.{is_printable, content_of}
use Rattle.cbor_strings.specs.declared.Class.TheVariants.{Path}

-- the root, an empty last segment, and segments that only begin with dots, also before a "?"; then the segments "." and "..", "//" and "%" anywhere,
-- also behind a "?", and what does not begin with "/"
pub clean_cases :
    (content_of Path (ascii "/") ≡ true)
    × (content_of Path (ascii "/a/") ≡ true)
    × (content_of Path (ascii "/.a") ≡ true)
    × (content_of Path (ascii "/...") ≡ true)
    × (content_of Path (ascii "/a/.b") ≡ true)
    × (content_of Path (ascii "/.?x") ≡ true)
    × (content_of Path (ascii "/.") ≡ false)
    × (content_of Path (ascii "/..") ≡ false)
    × (content_of Path (ascii "/a/..") ≡ false)
    × (content_of Path (ascii "/./a") ≡ false)
    × (content_of Path (ascii "/../a") ≡ false)
    × (content_of Path (ascii "//") ≡ false)
    × (content_of Path (ascii "/a//b") ≡ false)
    × (content_of Path (ascii "/a%2fb") ≡ false)
    × (content_of Path (ascii "/a?x=//") ≡ false)
    × (content_of Path (ascii "") ≡ false)
    × (content_of Path (ascii "a") ≡ false)
unfolding starts has up_to segments among is_rewritten is_printable content_of
clean_cases = (refl, refl, refl, refl, refl, refl, refl, refl, refl, refl, refl, refl, refl, refl, refl, refl, refl)
