-- A token that was read, and its key: what its parts keep, and what the key decides.
use Rattle.std.specs.Prelude.{Ok, Err}
use Rattle.cbor_heads.specs.Defects.{kind_number}
use Rattle.cbor_heads.specs.declared.defect.Defect.{Defect}
use mathlib.Core.Path.{◌≡◌}
use mathlib.Core.List.{List}
use Prim.Native.Nat.{ℕ, ◌≤◌}
use borrow.Author.Tests.{eq-eqb, ne_eqb}
use lib.ListN.{length}
use Rattle.basis.specs.Basis.{between, IsBytes}
use Rattle.records_table.specs.Reading.{find_from}
use Rattle.records_request.specs.declared.RequestAt.{RequestAt}
use Rattle.token.specs.Reading.{token_of}
use Rattle.token.specs.declared.TokenAt.{TokenAt}
use Rattle.token.proofs.TokenRead.{token_read}
use Rattle.verify_walk.specs.Walking.{key_judged}
use Rattle.verify_walk.specs.Ready.{Ready}
use Rattle.verify.specs.Verifying.{key_found, token_judged, bytes_judged}

-- what a token that was read keeps
pub read_ready : (s : List ℕ) {p : TokenAt} → token_of s ≡ Ok p → IsBytes s → length s ≤ 4096 → {key : List ℕ} → length key ≡ 32 → Ready key s p
read_ready s e b l {key} k =
    let t = token_read s b e in
    record {
      walkable = record { key_long = k; short = l };
      tid_short = rw t.holds.back.tid_held t.good.good_tid.most;
      kid_short = rw t.holds.back.kid_held t.good.good_kid.most;
    }

module _ (table s body : List ℕ) (q : RequestAt) where
  pub unreadable : {d : Defect} → token_of s ≡ Err d → kind_number d.kind ≡ bytes_judged table s body q
  unfolding bytes_judged token_judged
  unreadable e = rw e

  module _ {p : TokenAt} (e : token_of s ≡ Ok p) {t k key : List ℕ} (et : t ≡ between s p.tid) (ek : k ≡ between s p.kid) (ef : key ≡ find_from 64 table t k 0) where
    found : key_found key s p body q ≡ bytes_judged table s body q
    unfolding bytes_judged token_judged
    found = rw (e, ef, et, ek)

    pub with_its_key : length key ≡ 32 → key_judged key s p body q ≡ bytes_judged table s body q
    unfolding key_found
    with_its_key l = rw (eq-eqb (length key) 32 l) at found

    pub no_key : (length key ≡ 32 → ⊥) → 7 ≡ bytes_judged table s body q
    unfolding key_found
    no_key l = rw (ne_eqb (length key) 32 l) at found
