use Rattle.std.proofs.Common.{◌≡◌, drop}
use Rattle.cbor_strings.specs.Inner.{seen_by}
use Rattle.cbor_strings.specs.declared.Seen.TheVariants.{Nothing}
use Rattle.cbor_strings.proofs.walk.Given as goal

abbrev pub invariant-loop-c : goal.invariant-loop-c
invariant-loop-c l = seen_by l.seen (drop l.c-index l.s) ≡ seen_by Nothing l.s
