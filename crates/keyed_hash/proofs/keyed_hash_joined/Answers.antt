use Rattle.std.proofs.Common.{◌∙◌, ap, List, ℕ, arith, rules}
use Rattle.hash_chunks.specs.Chunks.{root_flag, bytes_of_words}
use Rattle.keyed_hash.specs.Tree.{tree_of}
use Rattle.keyed_hash.specs.KeyedHash.{hashed_of}
use Rattle.keyed_hash.proofs.Hashing.{taken}
use Rattle.keyed_hash.proofs.keyed_hash_joined.Goals as goal

pub returns : goal.returns
returns c =
    let s = c.args in
    let m = c.new-m.result in
    let root = c.root-top.ensures ∙ ap (λ (k : List ℕ). tree_of k 3 m 0 root_flag) c.words.ensures in
    taken s.key.now m (omega arith) (omega arith) (search rules) (c.bytes.ensures ∙ ap bytes_of_words root) ∙ ap (hashed_of s.key.now) c.new-m.ensures
