-- Issue: what is read and found keeps the limits that writing needs, and what each check decides.
use Rattle.std.specs.Prelude.{Ok, Err}
use Rattle.cbor_heads.specs.Defects.{kind_number}
use Rattle.cbor_heads.specs.declared.defect.Defect.{Defect}
use mathlib.Core.Path.{◌≡◌, refl, sym, ap, subst, ◌∙◌}
use mathlib.Core.Bool.{Bool, true, false, ◌&&◌}
use mathlib.Core.List.{List, [], ◌∷◌, ◌++◌, append-nil}
use Prim.Native.Nat.{ℕ, ◌≤◌}
use native.Mathlib.Omega.{arith}
use borrow.Author.Tests.{eq-eqb, ne_eqb}
use lib.ListN.{length, drop, drop_of_length-le}
use Rattle.basis.specs.Basis.{pick, IsBytes}
use Rattle.basis.specs.Same.{same_of}
use Rattle.basis.proofs.Sameness.{same_equal}
use Rattle.text_writing.specs.Base64url.{base64url}
use Rattle.cbor_strings.specs.declared.Class.TheVariants.{Name}
use Rattle.cbor_keys.specs.Maps.{GoodText}
use Rattle.hash_chain.specs.Chain.{first_link}
use Rattle.hash_chain.specs.Inner.{FirstOf}
use Rattle.hash_chain.proofs.ChainLaws.{link_length}
use Rattle.token_scope.specs.Scopes.{Scope, encode_scope, GoodScope}
use Rattle.token_scope.specs.Reading.{scope_of}
use Rattle.token_scope.specs.declared.ScopeAt.{ScopeAt}
use Rattle.token_scope.proofs.ScopeRead.{scope_read}
use Rattle.token_scope.proofs.Lengths.{scope_short}
use Rattle.token.specs.Writing.{fresh_bytes}
use Rattle.records_table.specs.Order.{same_ids}
use Rattle.records_table.specs.Tables.{Row, GoodFrom, GoodTable, has_row, key_in}
use Rattle.records_table.specs.Reading.{table_ok, find_from}
use Rattle.records_table.proofs.TableLaws.{table_read, find_finds, key_of_row}
use Rattle.outcome.specs.Decisions.{refused, granted}
use Rattle.issue.specs.Issuing.{issue_with, issue_then, issue_of}
use Rattle.issue.specs.Inner.{Issuable}
use Rattle.issue.proofs.Sizes.{fresh_few}

-- a row that is found has these ids, which are of the right form
pub record Named (tid kid : List ℕ) : Type 0 where
  pub good_tid : GoodText Name 1 64 tid
  pub good_kid : GoodText Name 1 64 kid

ids_same : (t k tid kid : List ℕ) → same_ids t k tid kid ≡ true → (t ≡ tid) × (k ≡ kid)
unfolding same_ids
ids_same t k tid kid e = by (same_of t tid) refl e
  where
    by : (b : Bool) → same_of t tid ≡ b → (b && same_of k kid) ≡ true → (t ≡ tid) × (k ≡ kid)
    by true p q = (same_equal t tid p, same_equal k kid q)
    by false p q = let z : ◌≡◌ {A = ℕ} 0 1 = cc in let z : ⊥ = omega arith in elim z [ ]

row_named : (rs : List Row) (t k : List ℕ) → GoodFrom t k rs → (tid kid : List ℕ) → has_row rs tid kid ≡ true → Named tid kid
unfolding GoodFrom has_row
row_named [] t k g tid kid e = let z : ◌≡◌ {A = ℕ} 0 1 = cc in let z : ⊥ = omega arith in elim z [ ]
row_named (r ∷ rs) t k g tid kid e = by (same_ids r.tid r.kid tid kid) refl e (row_named rs r.tid r.kid g.2 tid kid)
  where
    by : (b : Bool) → same_ids r.tid r.kid tid kid ≡ b → pick b true (has_row rs tid kid) ≡ true → (has_row rs tid kid ≡ true → Named tid kid) → Named tid kid
    by true p q m =
        let s = ids_same r.tid r.kid tid kid p in
        record { good_tid = subst (GoodText Name 1 64) s.0 g.0.good_tid; good_kid = subst (GoodText Name 1 64) s.1 g.0.good_kid }
    by false p q m = m q

pub known_named : (rs : List Row) → GoodTable rs → (tid kid : List ℕ) → has_row rs tid kid ≡ true → Named tid kid
known_named rs g tid kid e = row_named rs [] [] g.rows tid kid e

found_named : (table tid kid : List ℕ) → IsBytes table → table_ok table ≡ true → length (find_from 64 table tid kid 0) ≡ 32 → Named tid kid
found_named table tid kid b e l =
    let t = table_read table b e in
    let f = ap (λ (x : List ℕ). find_from 64 x tid kid 0) t.whole ∙ find_finds t.rows t.good tid kid in
    let n : length (key_in t.rows tid kid) ≡ 32 = ap length (sym f) ∙ l in
    known_named t.rows t.good tid kid (sym (key_of_row t.rows t.good tid kid) ∙ eq-eqb (length (key_in t.rows tid kid)) 32 n)

-- bytes that are one scope are the encoding of one within limits
pub record IsWhole (scope : List ℕ) : Type 0 where
  pub tree : Scope
  pub good : GoodScope tree
  pub whole : scope ≡ encode_scope tree

pub scope_whole : (scope : List ℕ) → IsBytes scope → {parts : ScopeAt} {next : ℕ} → scope_of scope 0 ≡ Ok (parts, next)
    → next ≡ length scope → IsWhole scope
scope_whole scope b {parts} {next} e n =
    let x = scope_read scope b 0 e in
    let z : drop next scope ≡ [] = drop_of_length-le scope {i = next} (omega (arith, n)) in
    record { tree = x.tree; good = x.good; whole = x.there ∙ ap (λ (t : List ℕ). encode_scope x.tree ++ t) z ∙ append-nil (encode_scope x.tree) }

pub issuable : (table tid kid scope key : List ℕ) → IsBytes table → IsBytes scope → table_ok table ≡ true
    → {parts : ScopeAt} {next : ℕ} → scope_of scope 0 ≡ Ok (parts, next) → next ≡ length scope
    → key ≡ find_from 64 table tid kid 0 → Issuable key tid kid scope
issuable table tid kid scope key bt bs et es n ek =
    let w = scope_whole scope bs es n in
    let named : length key ≡ 32 → Named tid kid = λ l. found_named table tid kid bt et (ap length (sym ek) ∙ l) in
    record {
      tid_short = λ l. (named l).good_tid.most;
      kid_short = λ l. (named l).good_kid.most;
      scope_short = subst (λ (s : List ℕ). length s ≤ 567) (sym w.whole) (scope_short w.tree w.good);
    }

-- with the key
module _ (key tid kid scope : List ℕ) where
  pub first_of : Issuable key tid kid scope → length key ≡ 32 → FirstOf key tid kid scope
  first_of w l = let s = w.scope_short in record { keyed = l; tenant = w.tid_short l; named = w.kid_short l; scoped = omega arith }

  pub fresh_fits : Issuable key tid kid scope → length key ≡ 32 → {tag : List ℕ} → tag ≡ first_link key tid kid scope → length (fresh_bytes scope tag kid tid) ≤ 752
  fresh_fits w l {tag} e = fresh_few scope tag kid tid w.scope_short (ap length e ∙ link_length key tid kid scope) (w.kid_short l) (w.tid_short l)

  pub issued : length key ≡ 32 → {tag bytes : List ℕ} → tag ≡ first_link key tid kid scope → bytes ≡ fresh_bytes scope tag kid tid
      → granted (base64url bytes) ≡ issue_with key tid kid scope
  unfolding issue_with
  issued l e f = rw (eq-eqb (length key) 32 l, f, e)

  pub key_missing : (length key ≡ 32 → ⊥) → refused 7 ≡ issue_with key tid kid scope
  unfolding issue_with
  key_missing l = rw (ne_eqb (length key) 32 l)

module _ (table tid kid scope : List ℕ) where
  pub issue_bad_table : table_ok table ≡ false → refused 1 ≡ issue_of table tid kid scope
  unfolding issue_of
  issue_bad_table e = rw e

  module _ (e : table_ok table ≡ true) where
    pub issue_bad_scope : {d : Defect} → scope_of scope 0 ≡ Err d → refused (kind_number d.kind) ≡ issue_of table tid kid scope
    unfolding issue_of issue_then
    issue_bad_scope f = rw (e, f)

    module _ {parts : ScopeAt} {next : ℕ} (f : scope_of scope 0 ≡ Ok (parts, next)) where
      pub issue_left_over : (next ≡ length scope → ⊥) → refused 4 ≡ issue_of table tid kid scope
      unfolding issue_of issue_then
      issue_left_over n = rw (e, f, ne_eqb next (length scope) n)

      pub issue_found : next ≡ length scope → {key : List ℕ} → key ≡ find_from 64 table tid kid 0 → issue_with key tid kid scope ≡ issue_of table tid kid scope
      unfolding issue_of issue_then
      issue_found n g = rw (e, f, eq-eqb next (length scope) n, g)
