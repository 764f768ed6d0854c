-- Issue, one equation for each case of its verdict.
use mathlib.Core.Path.{◌≡◌, refl, sym, ap, ap₂, ◌∙◌}
use mathlib.Core.Bool.{Bool, false}
use mathlib.Core.List.{List, [], append-nil}
use Prim.Native.Nat.{ℕ}
use native.Mathlib.Omega.{arith}
use lib.ListN.{length}
use Rattle.basis.specs.Basis.{pick, IsBytes}
use Rattle.hash_chain.specs.Chain.{first_link, chain_of, tag_of}
use Rattle.token_scope.specs.Scopes.{Scope, encode_scope}
use Rattle.token_scope.proofs.ScopeWritten.{scope_written}
use Rattle.token_scope.proofs.ScopeMap.{defect_scope}
use Rattle.token.proofs.WritingLaws.{fresh_written}
use Rattle.records_table.specs.Tables.{Row, encode_table, has_row, key_in}
use Rattle.records_table.specs.Reading.{find_from}
use Rattle.records_table.proofs.TableLaws.{find_finds, key_of_row}
use Rattle.outcome.specs.Decisions.{refused, granted}
use Rattle.issue.specs.Issuing.{issue_with, issue_of}
use Rattle.issue.proofs.Fresh.{issue_bad_table, issue_bad_scope, issue_left_over, issue_found}
use Rattle.bhinorpa.specs.Allowed.{EncodesTable, token_text}
use Rattle.bhinorpa.specs.NewTokens.{EncodesScope, Grant, fresh_token}
use Rattle.bhinorpa.specs.Verdicts.{NoTable, ScopeDefect, scope_unreadable, scope_left_over}
use Rattle.bhinorpa.proofs.Tables.{good_table, bad_table}
use Rattle.bhinorpa.proofs.Items.{all_left}

module _ (table tid kid bytes : List ℕ) where
  pub issue_no_table : IsBytes table → NoTable table → issue_of table tid kid bytes ≡ refused 1
  issue_no_table b h = sym (issue_bad_table table tid kid bytes (bad_table table b h))

  module _ (rows : List Row) (t : EncodesTable table rows) where
    pub issue_defect : (n : ℕ) → ScopeDefect bytes n → issue_of table tid kid bytes ≡ refused n
    issue_defect n (scope_unreadable d e m) = sym (issue_bad_scope table tid kid bytes (good_table table rows t) (defect_scope bytes 0 e)) ∙ ap refused (sym m)
    issue_defect n (scope_left_over scope g rest e h z) =
        let w = scope_written scope g bytes rest 0 e in
        sym (issue_left_over table tid kid bytes (good_table table rows t) w.answer (λ l. all_left bytes (encode_scope scope) rest e h (omega (arith, l)))) ∙ ap refused (sym z)

    found : (scope : Scope) → issue_with (find_from 64 (encode_table rows) tid kid 0) tid kid (encode_scope scope)
        ≡ pick (has_row rows tid kid) (granted (token_text (fresh_token rows scope tid kid))) (refused 7)
    unfolding issue_with tag_of chain_of
    found scope =
        let key = key_in rows tid kid in
        rw (find_finds rows t.good tid kid, key_of_row rows t.good tid kid, fresh_written scope (first_link key tid kid (encode_scope scope)) kid tid)

    issue_scoped : (scope : Scope) → EncodesScope bytes scope → issue_of table tid kid bytes ≡ pick (has_row rows tid kid) (granted (token_text (fresh_token rows scope tid kid))) (refused 7)
    issue_scoped scope s =
        let w = scope_written scope s.good bytes [] 0 (s.written ∙ sym (append-nil (encode_scope scope))) in
        sym (issue_found table tid kid bytes (good_table table rows t) w.answer (omega (arith, ap length s.written)) refl)
        ∙ ap₂ (λ (a b : List ℕ). issue_with (find_from 64 a tid kid 0) tid kid b) t.written s.written
        ∙ found scope

    pub issue_unknown : (scope : Scope) → EncodesScope bytes scope → has_row rows tid kid ≡ false → issue_of table tid kid bytes ≡ refused 7
    issue_unknown scope s k = issue_scoped scope s ∙ ap (λ (b : Bool). pick b (granted (token_text (fresh_token rows scope tid kid))) (refused 7)) k

  pub issue_granted : (rows : List Row) (scope : Scope) → Grant table tid kid bytes rows scope → issue_of table tid kid bytes ≡ granted (token_text (fresh_token rows scope tid kid))
  issue_granted rows scope g =
      issue_scoped rows g.table_is scope g.scope_is
      ∙ ap (λ (b : Bool). pick b (granted (token_text (fresh_token rows scope tid kid))) (refused 7)) g.known
