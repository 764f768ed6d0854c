-- Each comparison has one outcome for its arguments.
use Rattle.std.proofs.Common.{◌≡◌, ℕ, ◌+◌, Bool, leb, List, Option}
use Rattle.basis.proofs.OneAnswer.{told}
use Rattle.basis.specs.declared.Span.{Span}
use Rattle.cbor_values.specs.declared.ListAt.{ListAt}
use Rattle.records_request.specs.declared.Rate.{Rate}
use Rattle.token_cidr.specs.declared.Network.{Network}
use Rattle.rules_compare.specs.Comparing.{member_in, rate_holds, prefix_fits, limit_holds, part_is, peer_agrees}
use Rattle.rules_compare.specs.Fitting.{fits_of}

pub fits_one_answer : (prefix path : List ℕ) {r q : Bool} → r ≡ fits_of prefix path → q ≡ fits_of prefix path → r ≡ q
fits_one_answer prefix path x y = told x y

pub method_in_one_answer : (s : List ℕ) (methods : ListAt) (method : List ℕ) {r q : Bool} → r ≡ member_in s methods method → q ≡ member_in s methods method → r ≡ q
method_in_one_answer s methods method x y = told x y

pub within_skew_one_answer : (a b skew : ℕ) {r q : Bool} → r ≡ leb a (b + skew) → q ≡ leb a (b + skew) → r ≡ q
within_skew_one_answer a b skew x y = told x y

pub rate_holds_one_answer : (rate : Option Rate) (per-s burst : ℕ) {r q : Bool} → r ≡ rate_holds rate per-s burst → q ≡ rate_holds rate per-s burst → r ≡ q
rate_holds_one_answer rate per-s burst x y = told x y

pub prefix_fits_one_answer : (s : List ℕ) (prefix : Option Span) (path : List ℕ) {r q : Bool} → r ≡ prefix_fits s prefix path → q ≡ prefix_fits s prefix path → r ≡ q
prefix_fits_one_answer s prefix path x y = told x y

pub limit_holds_one_answer : (limit : Option ℕ) (size : ℕ) {r q : Bool} → r ≡ limit_holds limit size → q ≡ limit_holds limit size → r ≡ q
limit_holds_one_answer limit size x y = told x y

pub part_is_one_answer : (body : List ℕ) (part : Option Span) (a : List ℕ) {r q : Bool} → r ≡ part_is body part a → q ≡ part_is body part a → r ≡ q
part_is_one_answer body part a x y = told x y

pub peer_agrees_one_answer : (body : List ℕ) (peer : Option Span) (network : Network) {r q : Bool} → r ≡ peer_agrees body peer network → q ≡ peer_agrees body peer network → r ≡ q
peer_agrees_one_answer body peer network x y = told x y
