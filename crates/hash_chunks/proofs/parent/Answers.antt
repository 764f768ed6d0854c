use Rattle.std.proofs.Common.{rules, ◌≡◌, ◌∙◌, ◌++◌, ℕ, List, length, ap, ap₂, w32, []}
use borrow.Author.Rules.{elem_Fits}
use Rattle.basis.specs.Basis.{tab}
use Rattle.hash_chunks.specs.Chunks.{words_of}
use Rattle.hash_chunks.proofs.Blocks.{parent_run}
use Rattle.hash_chunks.proofs.LowFirst.{words_back}
use Rattle.hash_chunks.proofs.parent.Goals as goal

-- word by word (`unfolding tab`), so that a child laid anew from its own words is that child
pub returns : goal.returns
unfolding tab
returns c =
    let a = c.args.left in
    let b = c.args.right in
    let la : length a ≡ 8 = search rules in
    let lb : length b ≡ 8 = search rules in
    let f = c.well_formed.1.0 in
    let g = c.well_formed.1.1.0 in
    let bytes = c.new.ensures ∙ c.as_flattened.ensures.value ∙ ap₂ (λ (x y : List ℕ). x ++ (y ++ [])) c.bytes.ensures c.bytes-2.ensures in
    let words = ap (words_of 16) bytes
    ∙ words_back a b la lb (λ i. (elem_Fits w32 w32 a f.0 i f.1.1 tt).fits) (λ i. (elem_Fits w32 w32 b g.0 i g.1.1 tt).fits) in
    parent_run c.args.key c.new.result a b _ c.args.root (ap length c.new.ensures ∙ c.as_flattened.ensures.len) words c.run.ensures
