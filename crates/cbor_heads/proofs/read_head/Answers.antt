use Rattle.cbor_heads.specs.Reading.{big_of}
use lib.ListN.{take, drop, length-take}
use native.Mathlib.Omega.{arith}
use mathlib.Core.Path.{◌≡◌, ap}
use Prim.Native.Nat.{ℕ, ◌+◌, ◌-◌}
use Rattle.cbor_heads.proofs.HeadReads.{at_here, at_refused, at_short, at_small, at_value, follow_le}
use mathlib.Core.Path.{sym, ◌∙◌}
use Rattle.cbor_heads.proofs.HeadReads.{at_end}
use Rattle.cbor_heads.proofs.read_head.Goals as goal

pub returns-then-s-at : goal.returns-then-s-at
returns-then-s-at c = at_end _ _ c.if-s-at.true

pub returns-then-s-from : goal.returns-then-s-from
returns-then-s-from c = at_short _ _ c.if-s-at.false (sym c.width_of.ensures ∙ c.in-Follow.is) c.if-s-from.true

pub number-value-requires : goal.number-value-requires
number-value-requires c = let h = follow_le _ (sym c.width_of.ensures ∙ c.in-Follow.is) in
    simp length-take (omega arith)

pub returns-then-value-least : goal.returns-then-value-least
returns-then-value-least c = let s = c.args.s.now in
    let from = c.args.at + 1 in
    let n = c.in-Follow.n in
    let e : from + n - from ≡ n = omega arith in
    let v = c.number-value.ensures ∙ ap (λ (k : ℕ). big_of (take k (drop from s))) e in
    at_small _ _ c.if-s-at.false (sym c.width_of.ensures ∙ c.in-Follow.is)
    c.if-s-from.false (rw v at c.if-value-least.true)

pub returns-in-Here : goal.returns-in-Here
returns-in-Here c = rw c.from.ensures (at_here _ _ c.if-s-at.false (sym c.width_of.ensures ∙ c.in-Here.is))

pub returns-in-Refused : goal.returns-in-Refused
returns-in-Refused c = at_refused _ _ c.if-s-at.false (sym c.width_of.ensures ∙ c.in-Refused.is)

pub returns-else-value-least : goal.returns-else-value-least
returns-else-value-least c = let s = c.args.s.now in
    let from = c.args.at + 1 in
    let n = c.in-Follow.n in
    let e : from + n - from ≡ n = omega arith in
    let v = c.number-value.ensures ∙ ap (λ (k : ℕ). big_of (take k (drop from s))) e in
    rw v
    (at_value _ _ c.if-s-at.false (sym c.width_of.ensures ∙ c.in-Follow.is)
    c.if-s-from.false (rw v at c.if-value-least.false))
