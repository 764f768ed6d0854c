use Rattle.std.proofs.Common.{rules, tests}
use Rattle.std.proofs.lemmas.Iterator.{YieldsList-from_slice}
use Rattle.std.proofs.lemmas.Iterator.Search.{all_from_yields_List}
use Rattle.cbor_strings.specs.Strings.{is_name, is_upper, content_of}
use Rattle.cbor_strings.proofs.content_is.Goals as goal

pub returns-in-Name : goal.returns-in-Name
unfolding content_of
returns-in-Name c = rw c.in-Name.is (all_from_yields_List is_name _ _ _ c.all.ensures.ran (YieldsList-from_slice c.args.s.now cc) (λ x b q k. search (rules, tests)))

pub returns-in-Upper : goal.returns-in-Upper
unfolding content_of is_upper
returns-in-Upper c = rw c.in-Upper.is (all_from_yields_List is_upper _ _ _ c.all-in-Upper.ensures.ran (YieldsList-from_slice c.args.s.now cc) (λ x b q k. search (rules, tests)))
