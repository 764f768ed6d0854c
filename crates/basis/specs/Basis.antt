-- Meaning. Words that every crate's definitions share: a choice by a test, a name's bytes, a list by its rule, a text over the front of a
-- room. They say nothing of tokens.
use Rattle.std.specs.Prelude.{◌≡◌, Bool, true, false, List, [], ◌∷◌, ◌++◌, ℕ, zero, suc, ◌+◌, ◌-◌, ◌<◌, min, length, take, drop, get_or, leb, ltb, Option, Some, None}
use Prim.Native.Char.{code}
use Prim.Native.String.{String, [] as none, ◌∷◌ as ◌then◌}
use Rattle.basis.specs.declared.Span.{Span}

abbrev pub pick : {A : Type 0} → Bool → A → A → A
pick true a b = a
pick false a b = b

-- the bytes of a name in ASCII
abbrev pub ascii : String → List ℕ
ascii none = []
ascii (c then s) = code c ∷ ascii s

-- every element is a byte
abbrev pub IsBytes : List ℕ → Type 0
IsBytes s = (i : ℕ) → get_or s i 0 < 256

-- a part of a list by where it begins and where it ends, and the bytes that lie there
abbrev pub from_to : ℕ → ℕ → Span
from_to from to = record { from = from; to = to }

abbrev pub between : List ℕ → Span → List ℕ
between s part = take (part.to - part.from) (drop part.from s)

-- where a part that is handed back lies: so many bytes behind the first of what it is a part of. A place in memory is a block and an offset in it
abbrev pub behind : ℕ × ℕ → ℕ → ℕ × ℕ
behind place n = (place.0, n + place.1)

-- at its first byte, or at the beginning where nothing lies there
abbrev pub part_place : List ℕ → Span → ℕ
part_place s part = pick (ltb (min part.to (length s)) part.from) 0 part.from

-- f 0, f 1, .., f (n - 1)
unfoldable pub tab : ℕ → (ℕ → ℕ) → List ℕ
tab zero f = []
tab (suc n) f = tab n f ++ (f n ∷ [])

-- a text over the front of a room, the rest of which stays
abbrev pub over : List ℕ → List ℕ → List ℕ
over text room = text ++ drop (length text) room

-- a text is written where the room holds it, and its length is told; otherwise nothing is
pub record Written (text entry : List ℕ) (count : Option ℕ) (exit : List ℕ) : Type 0 where
  pub counted : count ≡ pick (leb (length text) (length entry)) (Some (length text)) None
  pub content : exit ≡ pick (leb (length text) (length entry)) (over text entry) entry
