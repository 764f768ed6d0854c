use Rattle.outcome.proofs.Carrying.{count_fits, text_carried, none_carried}
use Rattle.outcome.proofs.write_text.Goals as goal

pub returns-in_default-clause-carried : goal.returns-in_default-clause-carried
returns-in_default-clause-carried c = none_carried _ _ c.encode.ensures c.in_default.is

pub overflow_cast-result : goal.overflow_cast-result
overflow_cast-result c = record { fits = count_fits _ _ c.encode.ensures c.requires c.in-Some.is }

pub returns-clause-carried : goal.returns-clause-carried
returns-clause-carried c = text_carried _ _ c.encode.ensures c.in-Some.is
