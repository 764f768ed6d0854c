-- Inner. How the code judges a path: a byte after the other, or many at a time where nothing is near.
use Rattle.std.specs.Prelude.{Bool, true, false, not, ◌&&◌, ◌||◌, List, [], ◌∷◌, ℕ, eqb, ltb, Option, Some, None, option_and_then}
use Rattle.basis.specs.Basis.{pick}
use Rattle.cbor_strings.specs.Paths.{slash, percent}
use Rattle.cbor_strings.specs.Strings.{is_printable}
use Rattle.cbor_strings.specs.declared.Seen.{Seen}
use Rattle.cbor_strings.specs.declared.Seen.TheVariants.{Anything, Nothing, Dot, Dots}

-- a byte that no path has
unfoldable pub is_outside : ℕ → Bool
is_outside c = eqb c percent || not (is_printable c)

-- what is seen of the open segment is nothing, ".", ".." or anything else. Behind a "/", which opens another, and behind a ".":
abbrev pub after_slash : Seen → Option Seen
after_slash Anything = Some Nothing
after_slash _ = None

abbrev pub after_dot : Seen → Seen
after_dot Nothing = Dot
after_dot Dot = Dots
after_dot _ = Anything

-- behind one more byte; None where the path is refused, whatever follows
unfoldable pub next_seen : Seen → ℕ → Option Seen
next_seen seen c = pick (is_outside c) None (pick (eqb c slash) (after_slash seen) (Some (pick (eqb c 46) (after_dot seen) Anything)))

unfoldable pub seen_by : Seen → List ℕ → Option Seen
seen_by seen [] = Some seen
seen_by seen (c ∷ t) = option_and_then (λ next. seen_by next t) (next_seen seen c)

-- whether a path may end there
abbrev pub may_end : Seen → Bool
may_end Anything = true
may_end Nothing = true
may_end _ = false

-- behind a byte where nothing is near
abbrev pub seen_behind : ℕ → Seen
seen_behind c = pick (eqb c slash) Nothing Anything

-- a byte below "-", where "%" is, or past "~"; or a "." or a "/" behind a "/"
unfoldable pub is_near : ℕ → ℕ → Bool
is_near before c = (ltb c 0x2d || ltb 0x7e c) || (eqb before slash && (eqb c 46 || eqb c slash))

-- behind this byte, and in a text: behind its first byte
unfoldable pub near_behind : ℕ → List ℕ → Bool
near_behind before [] = false
near_behind before (c ∷ t) = is_near before c || near_behind c t

unfoldable pub near_in : List ℕ → Bool
near_in [] = false
near_in (c ∷ t) = near_behind c t
