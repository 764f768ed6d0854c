-- Reading. The one reading of a custom caveat's value. Document 01: "an integer of either sign, byte string, text (UTF-8 by RFC 3629),
-- true, false, null, or arrays inside arrays, four deep at most. Array elements are any of these, in any number." From the top: the head;
-- then by its type a number, which ends there; a string, whose bytes follow, and of a text are UTF-8; an array, whose elements follow one
-- level deeper, if one is left; or one of three simple values.
use Rattle.std.specs.Prelude.{List, ℕ, zero, suc, ◌+◌, ◌-◌, length, take, drop, ltb, leb, eqb, Ok}
use Rattle.basis.specs.Basis.{pick}
use Rattle.cbor_heads.specs.Defects.{Reading, bad, after}
use Rattle.cbor_heads.specs.declared.defect.Kind.TheVariants.{Cbor, Bounds}
use Rattle.cbor_heads.specs.Majors.{byte_string, text_string, simple, array as array_major, simple_false, simple_null}
use Rattle.cbor_heads.specs.Reading.{read_head}
use Rattle.cbor_heads.specs.declared.Head.{Head}
use Rattle.cbor_values.specs.Utf8.{utf8}

-- n bytes from `next` on, behind a head at `at`
unfoldable pub run_of : List ℕ → ℕ → ℕ → ℕ → Reading ℕ
run_of s at next n = pick (ltb (length s - next) n) (bad Cbor at) (Ok (next + n))

-- the same of text: bad content carries the first byte of the content
unfoldable pub text_of : List ℕ → ℕ → ℕ → ℕ → Reading ℕ
text_of s at next n =
    pick (ltb (length s - next) n) (bad Cbor at)
    (pick (utf8 (take n (drop next s))) (Ok (next + n)) (bad Cbor next))

-- count items, each read by f
unfoldable pub items_of : (ℕ → Reading ℕ) → ℕ → ℕ → Reading ℕ
items_of f zero at = Ok at
items_of f (suc k) at = after (items_of f k) (f at)

-- by the head's major type, where those below byte_string are the integers; `array n next` is what an array of n elements gives. Of the simple
-- values only false, true and null are taken
unfoldable pub by_major : (ℕ → ℕ → Reading ℕ) → List ℕ → ℕ → Head → Reading ℕ
by_major array s at h =
    pick (ltb h.major byte_string) (Ok h.next)
    (pick (eqb h.major byte_string) (run_of s at h.next h.value)
    (pick (eqb h.major text_string) (text_of s at h.next h.value)
    (pick (eqb h.major array_major) (array h.value h.next)
    (pick (eqb h.major simple) (pick (ltb h.value simple_false) (bad Cbor at) (pick (leb h.value simple_null) (Ok h.next) (bad Cbor at)))
    (bad Cbor at)))))

-- a value with at most so many arrays inside each other. 01: "nesting over four (a fifth array's head, once that head itself is good) ..:
-- parse.bounds"
unfoldable pub value_of : ℕ → List ℕ → ℕ → Reading ℕ
value_of zero s at = after (by_major (λ n next. bad Bounds at) s at) (read_head s at)
value_of (suc d) s at = after (by_major (λ n next. items_of (value_of d s) n next) s at) (read_head s at)
