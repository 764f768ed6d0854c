use Rattle.std.proofs.Common.{arith}
use Rattle.std.proofs.lemmas.Slice.Zip.{Zip-more, either_empty_from_Zip}
use Rattle.token_cidr.proofs.Comparing.{last_byte, differs, compared_one, none_left, some_left}
use Rattle.token_cidr.proofs.first_bits_agree.Goals as goal

pub returns-then-left-lt8 : goal.returns-then-left-lt8
returns-then-left-lt8 c =
    let z = Zip-more c.loop-a.a-iterator c.next.new.self _ _ c.in-Some.is c.next.ensures.steps in
    rw (c.from.ensures, c.from-then-left-lt8.ensures) (last_byte c.loop-a.invariant z.0 z.1 c.if-left-lt8.true)

pub returns-then-a-b : goal.returns-then-a-b
returns-then-a-b c =
    let z = Zip-more c.loop-a.a-iterator c.next.new.self _ _ c.in-Some.is c.next.ensures.steps in
    differs c.loop-a.invariant z.0 z.1 c.if-left-lt8.false (λ e. omega arith)

pub loop-a-preserved : goal.loop-a-preserved
loop-a-preserved c =
    let z = Zip-more c.loop-a.a-iterator c.next.new.self _ _ c.in-Some.is c.next.ensures.steps in
    compared_one c.loop-a.invariant z.0 z.1 c.if-left-lt8.false (omega arith)

pub returns-then-left-eq0 : goal.returns-then-left-eq0
returns-then-left-eq0 c =
    none_left _ _ c.loop-a.invariant (either_empty_from_Zip c.loop-a.a-iterator c.next.new.self _ c.in-None.is c.next.ensures.steps) c.if-left-eq0.true

pub returns-else-left-eq0 : goal.returns-else-left-eq0
returns-else-left-eq0 c =
    some_left _ _ c.loop-a.invariant (either_empty_from_Zip c.loop-a.a-iterator c.next.new.self _ c.in-None.is c.next.ensures.steps) c.if-left-eq0.false
