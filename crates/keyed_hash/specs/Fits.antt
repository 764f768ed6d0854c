-- Inner. What the recursion over the tree keeps: at most eight chunks in all, and room for the flags.
use Rattle.std.specs.Prelude.{ℕ, ◌+◌, ◌^◌, ◌≤◌}
use Rattle.keyed_hash.specs.Tree.{full_of}

pub record Fit (h n counter root : ℕ) : Type 0 where
  pub low : h ≤ 3
  pub bytes : n ≤ full_of h
  pub number : counter + 2 ^ h ≤ 8
  pub flag : root ≤ 8
