-- The child: what the checks behind the caveat decide, and that its writer wrote it.
use Rattle.std.specs.Prelude.{Option, None, Ok, Err}
use Rattle.cbor_heads.specs.Defects.{kind_number}
use Rattle.cbor_heads.specs.declared.defect.Defect.{Defect}
use mathlib.Core.Path.{◌≡◌, ap, ◌∙◌}
use mathlib.Core.List.{List, ◌++◌}
use Prim.Native.Nat.{ℕ, ◌+◌, ◌≤◌, ◌<◌}
use native.Mathlib.Omega.{arith}
use borrow.Author.Tests.{eq-eqb, ne_eqb, le-leb, lt-leb, lt-ltb, le-ltb}
use lib.ListN.{length, length-append}
use Rattle.basis.specs.Basis.{between, Written}
use Rattle.text_writing.specs.Base64url.{base64url}
use Rattle.hash_chain.specs.Chain.{next_link}
use Rattle.hash_chain.specs.Inner.{NextOf}
use Rattle.token_caveat.specs.Reading.{caveat_of}
use Rattle.token_caveat_values.specs.declared.CaveatAt.{CaveatAt}
use Rattle.token.specs.Tokens.{token_bytes}
use Rattle.token.specs.declared.TokenAt.{TokenAt}
use Rattle.outcome.specs.Decisions.{refused, granted}
use Rattle.outcome.proofs.Carrying.{made_none}
use Rattle.narrow_child.specs.Child.{sized, child_of, caveat_added}

-- a token is no shorter than its last caveat
module _ (n : ℕ) (caveats caveat scope tag kid tid : List ℕ) where
  long_as_caveat : length caveat ≤ length (token_bytes n (caveats ++ caveat) scope tag kid tid)
  unfolding token_bytes
  long_as_caveat = simp length-append (omega arith)

pub short_caveat : (key caveat : List ℕ) → length key ≡ 32 → length caveat ≤ 4096 → NextOf key caveat
short_caveat key caveat k l = record { keyed = k; narrow = l }

module _ (key link s : List ℕ) (p : TokenAt) (caveat : List ℕ) where
  pub full : 64 ≤ p.caveats.count → refused 34 ≡ child_of key link s p caveat
  unfolding child_of
  full h = rw (le-leb 64 p.caveats.count h)

  module _ (h : p.caveats.count < 64) where
    pub caveat_too_long : 4096 < length caveat → refused 35 ≡ child_of key link s p caveat
    unfolding child_of sized
    caveat_too_long l =
        let caveats = between s p.caveats.span in
        let scope = between s p.scope in
        let kid = between s p.kid in
        let tid = between s p.tid in
        let tag = next_link key link caveat in
        let n = long_as_caveat (p.caveats.count + 1) caveats caveat scope tag kid tid in
        rw (lt-leb 64 p.caveats.count h, lt-ltb 4096 (length (token_bytes (p.caveats.count + 1) (caveats ++ caveat) scope tag kid tid)) (omega (arith, l, n)))

    module _ {tag caveats scope kid tid : List ℕ} (et : tag ≡ next_link key link caveat) (ec : caveats ≡ between s p.caveats.span) (es : scope ≡ between s p.scope)
        (ek : kid ≡ between s p.kid) (ei : tid ≡ between s p.tid) where
      abbrev child : List ℕ
      child = token_bytes (p.caveats.count + 1) (caveats ++ caveat) scope tag kid tid

      by_size : sized child ≡ child_of key link s p caveat
      unfolding child_of
      by_size = rw (lt-leb 64 p.caveats.count h, et, ec, es, ek, ei)

      pub child_too_long : {entry exit : List ℕ} {r : Option ℕ} → Written child entry r exit → length entry ≡ 4096 → r ≡ None → refused 35 ≡ child_of key link s p caveat
      unfolding sized
      child_too_long {entry} w l z =
          let n = made_none child entry w z in
          rw (lt-ltb 4096 (length child) (omega (arith, n, l))) at by_size

      pub child_granted : {bytes : List ℕ} → bytes ≡ child → length child ≤ 4096 → granted (base64url bytes) ≡ child_of key link s p caveat
      unfolding sized
      child_granted {bytes} e l = ap (λ (b : List ℕ). granted (base64url b)) e ∙ (rw (le-ltb 4096 (length child) l) at by_size)

  -- the caveat's reading
  pub caveat_bad : {d : Defect} → caveat_of caveat ≡ Err d → refused (kind_number d.kind + 27) ≡ caveat_added key link s p caveat (caveat_of caveat)
  unfolding caveat_added
  caveat_bad e = rw e

  module _ {part : CaveatAt} {next : ℕ} (e : caveat_of caveat ≡ Ok (part, next)) where
    pub caveat_left_over : (next ≡ length caveat → ⊥) → refused 31 ≡ caveat_added key link s p caveat (caveat_of caveat)
    unfolding caveat_added
    caveat_left_over n = rw (e, ne_eqb next (length caveat) n)

    pub caveat_whole : next ≡ length caveat → child_of key link s p caveat ≡ caveat_added key link s p caveat (caveat_of caveat)
    unfolding caveat_added
    caveat_whole n = rw (e, eq-eqb next (length caveat) n)
