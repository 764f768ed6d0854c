-- Demands 1 and 2 of issue: the first failing check, the closed list, what is written. The statements are those of specs/Demands.antt.
use mathlib.Core.Path.{◌≡◌, refl, ap, subst, ◌∙◌}
use mathlib.Core.Bool.{Bool, true, false}
use mathlib.Core.List.{List}
use Prim.Native.Nat.{ℕ}
use native.Mathlib.Omega.{arith}
use lib.ListN.{length}
use Rattle.basis.specs.Basis.{IsBytes}
use Rattle.basis.proofs.All.{all}
use Rattle.token_scope.specs.Scopes.{Scope}
use Rattle.records_table.specs.Tables.{Row, has_row, key_in}
use Rattle.outcome.specs.Decisions.{Decision, answer_for, Carried}
use Rattle.outcome.specs.declared.Outcome.{Outcome}
use Rattle.issue.specs.Issuing.{issue_of}
use Rattle.issue.proofs.Fresh.{known_named}
use Rattle.issue.proofs.OneAnswer.{issue_one_answer}
use Rattle.bhinorpa.specs.Allowed.{EncodesTable, token_text, caveat_bytes, chain_tag}
use Rattle.bhinorpa.specs.NewTokens.{EncodesScope, Grant, fresh_token, Issued}
use Rattle.bhinorpa.specs.Verdicts.{out_short, done, IssueVerdict, issue_table_bad, issue_scope_bad, issue_kid_unknown, issue_grants, one_of, issue_answers}
use Rattle.bhinorpa.specs.Demands.{IssueList, IssueFirstFailing, IssueVerdictOne, IdsOfRows, IssueRefusals, IssueWrites}
use Rattle.bhinorpa.proofs.Lists.{listed}
use Rattle.bhinorpa.proofs.Rooms.{refuses, refuses_back, in_room, in_room_back, wrote}
use Rattle.bhinorpa.proofs.Tables.{TableIs, no_table, one_table, table_is}
use Rattle.bhinorpa.proofs.Items.{ScopeIs, no_scope, one_scope, scope_is, scope_few}
use Rattle.bhinorpa.proofs.NewTokens.{fresh_canonical}
use Rattle.bhinorpa.proofs.IssueIs.{issue_no_table, issue_defect, issue_unknown, issue_granted}

pub issue_first_failing : IssueFirstFailing
issue_first_failing table tid kid bytes bt bb entry outcome exit w = by_table (table_is table bt)
  where
    h : Decision
    h = issue_of table tid kid bytes

    by_row : (rows : List Row) → EncodesTable table rows → (scope : Scope) → EncodesScope bytes scope → (b : Bool) → has_row rows tid kid ≡ b → IssueVerdict table tid kid bytes entry outcome exit
    by_row rows t scope s false k = issue_kid_unknown rows t scope s k (refuses h entry outcome exit 7 (issue_unknown table tid kid bytes rows t scope s k) w)
    by_row rows t scope s true k =
        let g : Grant table tid kid bytes rows scope = record { table_is = t; scope_is = s; known = k } in
        issue_grants rows scope g (in_room h entry outcome exit (token_text (fresh_token rows scope tid kid)) (issue_granted table tid kid bytes rows scope g) w)

    by_scope : (rows : List Row) → EncodesTable table rows → ScopeIs bytes → IssueVerdict table tid kid bytes entry outcome exit
    by_scope rows t (no_scope n d) = issue_scope_bad rows t n d (refuses h entry outcome exit n (issue_defect table tid kid bytes rows t n d) w)
    by_scope rows t (one_scope scope s) = by_row rows t scope s (has_row rows tid kid) refl

    by_table : TableIs table → IssueVerdict table tid kid bytes entry outcome exit
    by_table (no_table x) = issue_table_bad x (refuses h entry outcome exit 1 (issue_no_table table tid kid bytes bt x) w)
    by_table (one_table rows t) = by_scope rows t (scope_is bytes bb)

-- a verdict is what the contract says
module _ (table tid kid bytes : List ℕ) (bt : IsBytes table) (entry : List ℕ) (outcome : Outcome) (exit : List ℕ) where
  abbrev out : Decision
  out = issue_of table tid kid bytes

  verdict_is : IssueVerdict table tid kid bytes entry outcome exit → Carried (issue_of table tid kid bytes) entry outcome exit
  verdict_is (issue_table_bad h r) = refuses_back out entry outcome exit 1 (issue_no_table table tid kid bytes bt h) r
  verdict_is (issue_scope_bad rows t n d r) = refuses_back out entry outcome exit n (issue_defect table tid kid bytes rows t n d) r
  verdict_is (issue_kid_unknown rows t scope s k r) = refuses_back out entry outcome exit 7 (issue_unknown table tid kid bytes rows t scope s k) r
  verdict_is (issue_grants rows scope g o) = in_room_back out entry outcome exit (token_text (fresh_token rows scope tid kid)) (issue_granted table tid kid bytes rows scope g) o

pub issue_verdict_one : IssueVerdictOne
issue_verdict_one table tid kid bytes bt entry first second left right v w =
    issue_one_answer table tid kid bytes entry (verdict_is table tid kid bytes bt entry first left v) (verdict_is table tid kid bytes bt entry second right w)

pub issue_list : IssueList
unfolding all one_of
issue_list table tid kid bytes bt bb entry outcome exit w = by (issue_first_failing table tid kid bytes bt bb entry outcome exit w)
  where
    by : IssueVerdict table tid kid bytes entry outcome exit → one_of issue_answers outcome.answer ≡ true
    by (issue_table_bad h r) = rw r.answer
    by (issue_scope_bad rows t n d r) = let k = scope_few bytes n d in rw r.answer (listed (one_of issue_answers) 4 refl n k.0 k.1)
    by (issue_kid_unknown rows t scope s k r) = rw r.answer
    by (issue_grants rows scope g (done l r)) = rw r.answer
    by (issue_grants rows scope g (out_short l r)) = rw r.answer

pub ids_of_rows : IdsOfRows
ids_of_rows rows g tid kid e = let n = known_named rows g tid kid e in (n.good_tid, n.good_kid)

pub issue_refusals : IssueRefusals
issue_refusals table tid kid bytes rows scope g entry outcome exit w =
    w.answer ∙ ap (λ (h : Decision). answer_for h (length entry)) (issue_granted table tid kid bytes rows scope g)

fresh_tagged : (rows : List Row) (scope : Scope) (tid kid : List ℕ) → chain_tag (key_in rows tid kid) (fresh_token rows scope tid kid) ≡ (fresh_token rows scope tid kid).tag
unfolding caveat_bytes
fresh_tagged rows scope tid kid = refl

pub issue_writes : IssueWrites
issue_writes table tid kid bytes bt bi bk bb entry outcome exit w z = by (issue_first_failing table tid kid bytes bt bb entry outcome exit w)
  where
    by : IssueVerdict table tid kid bytes entry outcome exit → Issued table tid kid bytes entry outcome exit
    by (issue_table_bad h r) = let x : ⊥ = omega (arith, r.answer, z) in elim x [ ]
    by (issue_scope_bad rows t n d r) = let x : ⊥ = omega (arith, r.answer, z, (scope_few bytes n d).0) in elim x [ ]
    by (issue_kid_unknown rows t scope s k r) = let x : ⊥ = omega (arith, r.answer, z) in elim x [ ]
    by (issue_grants rows scope g o) =
        let c = fresh_canonical rows g.table_is.good scope g.scope_is.good (subst IsBytes g.scope_is.written bb) tid kid bi bk g.known in
        record {
          rows = rows;
          scope = scope;
          granted = g;
          tagged = fresh_tagged rows scope tid kid;
          wrote = wrote (fresh_token rows scope tid kid) entry outcome exit c o z;
        }
