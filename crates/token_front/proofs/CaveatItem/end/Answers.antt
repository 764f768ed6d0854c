use mathlib.Core.Path.{◌≡◌, sym, ◌∙◌}
use Prim.Native.Nat.{◌+◌, ◌^◌, ◌<◌}
use native.Mathlib.Omega.{arith}
use Rattle.std.specs.Prelude.{Result, Ok, Err, MatchResult}
use Rattle.std.proofs.iter.Serving.{serving}
use Rattle.token_front.proofs.Lent.{defect_fits, end_fits}
use Rattle.token_front.proofs.CaveatItem.end.Goals as goal

-- what `map_err` answers as it was
as_it_was : {A E : Type 0} {Q : E → Type 0} {a : A} (r : Result A E) → ((e : E) → Q e → ⊥) → MatchResult r (λ x. ◌≡◌ {A = Result A E} (Ok a) (Ok x)) Q → r ≡ Ok a
as_it_was (Ok x) never p = sym p
as_it_was (Err e) never p = absurd (never e p)

pub map_err-requires : goal.map_err-requires
map_err-requires c e was =
    let fits : c.args.at + e.at < 2 ^ 64 = defect_fits c.args.s.now c.args.at c.well_formed.0.0 c.ranges.at.fits (sym c.caveat_at.ensures ∙ was) in
    grind (serving, arith)

pub overflow_add-result : goal.overflow_add-result
overflow_add-result c =
    let was = as_it_was c.caveat_at.result (λ e q. q) c.in_ok-next.ensures.cases in
    record { fits = end_fits c.args.s.now c.args.at c.well_formed.0.0 c.ranges.at.fits (sym c.caveat_at.ensures ∙ was) }
