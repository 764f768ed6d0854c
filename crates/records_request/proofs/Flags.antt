-- The flags: each tells of one part, in both directions.
use mathlib.Core.Path.{◌≡◌, refl, sym, ◌∙◌}
use mathlib.Core.Bool.{Bool, true, false}
use mathlib.Core.Option.{Option, some, none}
use Prim.Native.Nat.{ℕ, ◌+◌, ◌*◌, ◌/◌, ◌%◌, ◌^◌, ◌≤◌, ◌<◌}
use native.Mathlib.Nat.{add-zero}
use native.Mathlib.Omega.{arith}
use borrow.Author.Tests.{eqb-true, eqb-false, eq-eqb, ne_eqb}
use lib.Dec.{eqb}
use Rattle.std.specs.Prelude.{Option as Maybe, Some, None}
use Rattle.std.proofs.lemmas.Nat.{pow_pos}
use Rattle.std.proofs.lemmas.Nat.Bits.{and_pow}
use Rattle.basis.specs.Basis.{pick}
use Rattle.cbor_keys.specs.Maps.{present}
use Rattle.records_request.specs.Requests.{Request, amnesia_flag, flags_of}
use Rattle.records_request.specs.Reading.{is_set, if_flagged}

few : {A : Type 0} (o : Option A) → present o ≤ 1
few none = omega arith
few (some a) = omega arith

few_bit : (b : Bool) → pick b 1 0 ≤ 1
few_bit true = omega arith
few_bit false = omega arith

-- what the flags of a request tell
pub record Flagged (flags : ℕ) (x : Request) : Type 0 where
  pub small : flags < 32
  pub amnesia_bit : flags % 2 ≡ pick x.amnesia 1 0
  pub peer_bit : flags / 2 % 2 ≡ present x.peer
  pub audience_bit : flags / 4 % 2 ≡ present x.audience
  pub digest_bit : flags / 8 % 2 ≡ present x.digest
  pub rate_bit : flags / 16 % 2 ≡ present x.rate

pub flags_written : (x : Request) → Flagged (flags_of x) x
unfolding flags_of
flags_written x =
    let a = few_bit x.amnesia in
    let b = few x.peer in
    let c = few x.audience in
    let d = few x.digest in
    let e = few x.rate in
    record { small = omega arith; amnesia_bit = omega arith; peer_bit = omega arith; audience_bit = omega arith; digest_bit = omega arith; rate_bit = omega arith }

bits : (n : ℕ) → n < 32 → n % 2 + n / 2 % 2 * 2 + n / 4 % 2 * 4 + n / 8 % 2 * 8 + n / 16 % 2 * 16 ≡ n
bits n h =
    let a : n / 2 ≡ n / 4 * 2 + n / 2 % 2 = omega arith in
    let b : n / 4 ≡ n / 8 * 2 + n / 4 % 2 = omega arith in
    let c : n / 8 ≡ n / 16 * 2 + n / 8 % 2 = omega arith in
    let d : n / 16 % 2 ≡ n / 16 = omega arith in
    let e : n ≡ n / 2 * 2 + n % 2 = omega arith in
    omega (arith, a, b, c, d, e)

pub flags_read : (flags : ℕ) (x : Request) → Flagged flags x → flags_of x ≡ flags
unfolding flags_of
flags_read flags x w =
    rw (← w.amnesia_bit, ← w.peer_bit, ← w.audience_bit, ← w.digest_bit, ← w.rate_bit) (bits flags w.small)

-- the bit that the test of a flag asks for
pub bit_is : (k n : ℕ) → n / 2 ^ k % 2 ≡ pick (is_set (2 ^ k) n) 1 0
bit_is k n = by (eqb (n / 2 ^ k % 2) 0) refl
  where
    by : (b : Bool) → eqb (n / 2 ^ k % 2) 0 ≡ b → n / 2 ^ k % 2 ≡ pick (is_set (2 ^ k) n) 1 0
    by true q =
        let z = eqb-true (n / 2 ^ k % 2) 0 q in
        rw (and_pow n k, z, eq-eqb (0 * 2 ^ k) 0 (omega arith))
    by false q =
        let z = eqb-false (n / 2 ^ k % 2) 0 q in
        let o : n / 2 ^ k % 2 ≡ 1 = omega arith in
        rw (and_pow n k, o, ne_eqb (1 * 2 ^ k) 0 (omega (arith, pow_pos k)))

same_bit : (a b : Bool) → ◌≡◌ {A = ℕ} (pick a 1 0) (pick b 1 0) → a ≡ b
same_bit true true e = refl
same_bit true false e = cc
same_bit false true e = cc
same_bit false false e = refl

-- bit 0 as the answer's amnesia
pub amnesia_was : (n : ℕ) → n % 2 ≡ pick (is_set amnesia_flag n) 1 0
amnesia_was n = omega (arith, bit_is 0 n)

pub amnesia_is : (b : Bool) (n : ℕ) → n % 2 ≡ pick b 1 0 → b ≡ is_set amnesia_flag n
amnesia_is b n e = same_bit b (is_set amnesia_flag n) (sym e ∙ amnesia_was n)

module _ {A : Type 0} (k flags at : ℕ) where
  -- what is not flagged is not looked for, and takes no room
  pub not_flagged : (found : Maybe (A × ℕ)) → flags / 2 ^ k % 2 ≡ 0 → if_flagged (2 ^ k) flags at found ≡ Some (None, at + 0)
  not_flagged found z = let e = same_bit false (is_set (2 ^ k) flags) (sym z ∙ bit_is k flags) in rw (← e, add-zero)

  pub flagged : {found : Maybe (A × ℕ)} {part : A} {next : ℕ} → flags / 2 ^ k % 2 ≡ 1 → found ≡ Some (part, next) → if_flagged (2 ^ k) flags at found ≡ Some (Some part, next)
  flagged z f = let e = same_bit true (is_set (2 ^ k) flags) (sym z ∙ bit_is k flags) in rw (← e, f)
