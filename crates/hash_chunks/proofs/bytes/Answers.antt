use Rattle.std.proofs.Common.{rules, ◌≡◌, ◌∙◌, arith, length, append-nil, take_all}
use Rattle.hash_chunks.proofs.LowFirst.{flat}
use Rattle.hash_chunks.proofs.bytes.Goals as goal

pub returns : goal.returns
returns c =
    let w : length c.args.w ≡ 8 = search rules in
    let q : length c.map-quads.result ≡ 8 = search rules in
    let s = c.as_flattened.result.now in
    let n : c.copy.result ≡ 32 = omega arith in
    (rw (n, append-nil, take_all 32 s (omega arith)) at c.copy.ensures.content)
    ∙ c.as_flattened.ensures.value ∙ flat c.args.w c.map-quads.result w q (λ i h. (c.map-quads.ensures.items.at i 0 _ h).2.met)
