use Rattle.std.proofs.Common.{◌≡◌, ◌&&◌, take, leb}
use Rattle.std.specs.List.{list_all}
use Rattle.cbor_strings.specs.Strings.{is_printable}
use Rattle.cbor_strings.proofs.all_printable.Given as goal

abbrev pub invariant-loop-c : goal.invariant-loop-c
invariant-loop-c l = (leb 0x21 l.first && leb l.last 0x7e) ≡ list_all is_printable (take l.c-index l.s)
