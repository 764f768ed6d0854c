use mathlib.Core.Path.{refl}
use Rattle.hash_chain.proofs.Linking.{next_is}
use Rattle.hash_chain.proofs.next_link.Goals as goal

pub returns : goal.returns
returns c =
    next_is c.args.key.now c.args.link c.args.caveat.now _ refl c.well_formed.1.0.1.0.1
    c.put_at-a.ensures
    c.put_at-b.ensures
    c.mac.ensures
