-- Reading. A head, at a place. Document 01, "Token bytes": "definite lengths, shortest heads". The first byte says the major type and how
-- many bytes follow; those are the number; a form that is not the shortest is a defect.
use Rattle.std.specs.Prelude.{List, [], ◌∷◌, ℕ, ◌+◌, ◌*◌, ◌/◌, ◌%◌, length, take, drop, ltb, eqb, Ok}
use Rattle.basis.specs.Basis.{pick}
use Rattle.cbor_heads.specs.declared.Width.{Width}
use Rattle.cbor_heads.specs.declared.Width.TheVariants.{Here, Follow, Refused}
use Rattle.cbor_heads.specs.declared.Head.{Head}
use Rattle.cbor_heads.specs.declared.defect.Kind.TheVariants.{Cbor}
use Rattle.cbor_heads.specs.Defects.{Reading, bad}

-- the number that bytes stand for, the first byte the highest
unfoldable pub number_from : ℕ → List ℕ → ℕ
number_from v [] = v
number_from v (b ∷ t) = number_from (v * 256 + b) t

abbrev pub big_of : List ℕ → ℕ
big_of = number_from 0

-- 01: "0 to 23 is the number; 24, 25, 26, 27 mean 1, 2, 4, 8 bytes follow; the rest are refused", each with the least number
-- for which it is the shortest form
unfoldable pub width_of : ℕ → Width
width_of low =
    pick (ltb low 24) Here
    (pick (eqb low 24) (Follow 1 24)
    (pick (eqb low 25) (Follow 2 256)
    (pick (eqb low 26) (Follow 4 65536)
    (pick (eqb low 27) (Follow 8 4294967296)
    Refused))))

-- a head of a major type with its number, and the place behind it
abbrev pub got : ℕ → ℕ → ℕ → Head
got major value next = record { major = major; value = value; next = next }

-- a head whose first byte is read, and t stands behind it; a defect carries the place of the head
unfoldable pub head_by : ℕ → ℕ → ℕ → Width → List ℕ → Reading Head
head_by at major low Here t = Ok (got major low (at + 1))
head_by at major low Refused t = bad Cbor at
head_by at major low (Follow n least) t =
    pick (ltb (length t) n) (bad Cbor at)
    (pick (ltb (big_of (take n t)) least) (bad Cbor at)
    (Ok (got major (big_of (take n t)) (at + 1 + n))))

-- the head at the front of a list that stands at `at`
unfoldable pub head_at : ℕ → List ℕ → Reading Head
head_at at [] = bad Cbor at
head_at at (b ∷ t) = head_by at (b / 32) (b % 32) (width_of (b % 32)) t

abbrev pub read_head : List ℕ → ℕ → Reading Head
read_head s at = head_at at (drop at s)
