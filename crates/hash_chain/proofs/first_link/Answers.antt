use mathlib.Core.Path.{refl}
use Rattle.hash_chain.proofs.Linking.{first_is}
use Rattle.hash_chain.proofs.first_link.Goals as goal

pub returns : goal.returns
returns c =
    first_is c.args.key.now c.args.tid.now c.args.kid.now c.args.scope.now _ c.requires refl
    c.put_at-a.ensures
    c.put_at-b.ensures
    c.put_at-c.ensures
    c.mac.ensures
