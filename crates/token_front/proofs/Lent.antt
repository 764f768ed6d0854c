-- A caveat's places count from its first byte, and lie in what is left from there: so do their sums with that place.
use Rattle.std.specs.Prelude.{Ok, Err}
use mathlib.Core.Path.{◌≡◌, subst}
use mathlib.Core.List.{List}
use Prim.Native.Nat.{ℕ, ◌+◌, ◌-◌, ◌^◌, ◌≤◌, ◌<◌}
use native.Mathlib.Omega.{arith}
use lib.ListN.{length, drop, length-drop}
use Rattle.cbor_heads.specs.declared.defect.Defect.{Defect}
use Rattle.cbor_strings.proofs.Inside.{PairIn}
use Rattle.token_caveat.specs.Reading.{caveat_of}
use Rattle.token_caveat.proofs.Inside.{caveat_in}
use Rattle.token_caveat_values.specs.declared.CaveatAt.{CaveatAt}

module _ (s : List ℕ) (at : ℕ) (l : length s < 2 ^ 64) (h : at < 2 ^ 64) where
  pub defect_fits : {d : Defect} → caveat_of (drop at s) ≡ Err d → at + d.at < 2 ^ 64
  defect_fits {d} e = let i : d.at ≤ length s - at = rw length-drop at (subst (PairIn (length (drop at s))) e (caveat_in (drop at s))) in omega arith

  pub end_fits : {caveat : CaveatAt} {next : ℕ} → caveat_of (drop at s) ≡ Ok (caveat, next) → at + next < 2 ^ 64
  end_fits {caveat} {next} e = let i : next ≤ length s - at = rw length-drop at (subst (PairIn (length (drop at s))) e (caveat_in (drop at s))) in omega arith
