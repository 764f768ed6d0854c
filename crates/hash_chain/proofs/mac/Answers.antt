use Rattle.hash_chain.proofs.Linking.{mac_bytes}
use Rattle.hash_chain.proofs.mac.Goals as goal

pub returns : goal.returns
returns c =
    mac_bytes c.args.key.now c.args.head.now c.args.body.now c.requires c.keyed_hash_joined-hashed.ensures
