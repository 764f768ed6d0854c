-- Reading. Need not be believed: the laws of `rules` hold it to Holding. What single rules compare, where the parts lie: of strings and
-- lists by their places, of numbers as they were read.
use Rattle.std.specs.Prelude.{ℕ, zero, suc, Bool, true, false, List, nat_le, Option, Some, None, Ok, Err}
use Rattle.basis.specs.Basis.{pick, between}
use Rattle.basis.specs.Same.{same_of}
use Rattle.basis.specs.declared.Span.{Span}
use Rattle.basis.specs.Limits.{method_most}
use Rattle.cbor_heads.specs.Defects.{Reading}
use Rattle.cbor_strings.specs.Reading.{read_string}
use Rattle.cbor_strings.specs.declared.Class.TheVariants.{Upper}
use Rattle.cbor_values.specs.declared.ListAt.{ListAt}
use Rattle.token_cidr.specs.Bits.{agree_of}
use Rattle.token_cidr.specs.declared.Network.{Network}
use Rattle.records_request.specs.declared.Rate.{Rate}
use Rattle.rules_compare.specs.Fitting.{fits_of}

-- no method is met where none can be read
abbrev pub member_then : (ℕ → Bool) → List ℕ → List ℕ → Reading Span → Bool
member_then rest s m (Err d) = false
member_then rest s m (Ok part) = pick (same_of (between s part) m) true (rest part.to)

-- among so many methods from a place on
unfoldable pub member_at : ℕ → List ℕ → List ℕ → ℕ → Bool
member_at zero s m at = false
member_at (suc k) s m at = member_then (member_at k s m) s m (read_string s at Upper 1 method_most)

abbrev pub member_in : List ℕ → ListAt → List ℕ → Bool
member_in s methods m = member_at methods.count s m methods.span.from

unfoldable pub rate_holds : Option Rate → ℕ → ℕ → Bool
rate_holds None per-s burst = false
rate_holds (Some rate) per-s burst = pick (nat_le rate.per_s per-s) (nat_le rate.burst burst) false

-- the scope's parts; see Holds of `token_scope`
unfoldable pub prefix_fits : List ℕ → Option Span → List ℕ → Bool
prefix_fits s None path = true
prefix_fits s (Some part) path = fits_of (between s part) path

unfoldable pub limit_holds : Option ℕ → ℕ → Bool
limit_holds None size = true
limit_holds (Some n) size = nat_le size n

-- the request's parts in its body; see Holds of `records_request`. A present part is the text: audience and digest
unfoldable pub part_is : List ℕ → Option Span → List ℕ → Bool
part_is body None x = false
part_is body (Some part) x = same_of x (between body part)

-- the four address bytes, in written order
unfoldable pub peer_agrees : List ℕ → Option Span → Network → Bool
peer_agrees body None network = false
peer_agrees body (Some part) network = agree_of network.address (between body part) network.size
