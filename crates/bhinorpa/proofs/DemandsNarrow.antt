-- Demands 1 and 2 of narrow, and its refusals: the first failing check, the closed list, what is written. The statements are those of
-- specs/Demands.antt.
use mathlib.Core.Path.{◌≡◌, refl, sym, ap, subst, ◌∙◌}
use mathlib.Core.Bool.{Bool, true, false}
use mathlib.Core.List.{List}
use Prim.Native.Nat.{ℕ, ◌+◌, ◌≤◌, ◌<◌}
use native.Mathlib.Omega.{arith}
use borrow.Author.Tests.{eqb-true, eqb-false, ltb-true, ltb-false}
use lib.Dec.{eqb, leb, ltb}
use lib.ListN.{length}
use Rattle.basis.specs.Basis.{pick, IsBytes}
use Rattle.basis.specs.Same.{same_of}
use Rattle.basis.proofs.All.{all}
use Rattle.basis.proofs.Sameness.{same_equal, equal_same}
use Rattle.token_caveat.specs.Caveats.{Caveat}
use Rattle.token.specs.Tokens.{Token, encode_token}
use Rattle.records_table.specs.Tables.{Row, has_row}
use Rattle.outcome.specs.Decisions.{Decision, refused, granted, answer_for, Carried}
use Rattle.outcome.specs.declared.Outcome.{Outcome}
use Rattle.narrow.specs.Narrowing.{narrow_of}
use Rattle.narrow.proofs.OneAnswer.{narrow_one_answer}
use Rattle.bhinorpa.specs.Allowed.{EncodesTable, token_text, Canonical, chain_tag, key_for}
use Rattle.bhinorpa.specs.NewTokens.{EncodesCaveat, Parent, child_token}
use Rattle.bhinorpa.specs.Verdicts.{RoomVerdict, out_short, done, NarrowVerdict, narrow_table_bad, narrow_no_token, narrow_kid_unknown, narrow_mac, narrow_caveat_bad, narrow_full, narrow_size_full, narrow_child, one_of, narrow_answers}
use Rattle.bhinorpa.specs.Demands.{NarrowList, NarrowFirstFailing, NarrowVerdictOne, NarrowWrites, NarrowingRefusals}
use Rattle.bhinorpa.proofs.Lists.{listed}
use Rattle.bhinorpa.proofs.Rooms.{refuses, refuses_back, in_room, in_room_back, wrote}
use Rattle.bhinorpa.proofs.Tables.{TableIs, no_table, one_table, table_is}
use Rattle.bhinorpa.proofs.Texts.{TextIs, no_token, one_token, text_is, defect_few}
use Rattle.bhinorpa.proofs.Items.{CaveatIs, no_caveat, one_caveat, caveat_is, caveat_few}
use Rattle.bhinorpa.proofs.NewTokens.{child_canonical, child_tagged}
use Rattle.bhinorpa.proofs.NarrowIs.{narrow_no_table, narrow_defect, narrow_unknown, narrow_other_tag, narrow_caveat_defect, narrow_is_full, narrow_sized, narrow_too_large, narrow_granted}

module _ (table text bytes : List ℕ) (bt : IsBytes table) (bb : IsBytes bytes) (entry : List ℕ) (outcome : Outcome) (exit : List ℕ) (w : Carried (narrow_of table text bytes) entry outcome exit) where
  abbrev Is : Type 0
  Is = NarrowVerdict table text bytes entry outcome exit

  abbrev h : Decision
  h = narrow_of table text bytes

  -- behind the tag
  module _ (rows : List Row) (token : Token) (p : Parent table text rows token) where
    by_size : (added : Caveat) → EncodesCaveat bytes added → length token.caveats < 64 → (b : Bool) → ltb 4096 (length (encode_token (child_token rows token added))) ≡ b → Is
    by_size added a l true q =
        let g = ltb-true 4096 (length (encode_token (child_token rows token added))) q in
        narrow_size_full rows token p added a l g (refuses h entry outcome exit 35 (narrow_too_large table text bytes rows token p added a l g) w)
    by_size added a l false q =
        let g = ltb-false 4096 (length (encode_token (child_token rows token added))) q in
        narrow_child rows token p added a l g
        (in_room h entry outcome exit (token_text (child_token rows token added)) (narrow_granted table text bytes rows token p added a l g) w)

    by_count : (added : Caveat) → EncodesCaveat bytes added → (b : Bool) → eqb (length token.caveats) 64 ≡ b → Is
    by_count added a true q =
        let f = eqb-true (length token.caveats) 64 q in
        narrow_full rows token p added a f (refuses h entry outcome exit 34 (narrow_is_full table text bytes rows token p added a f) w)
    by_count added a false q =
        by_size added a (omega (arith, eqb-false (length token.caveats) 64 q, p.canonical.good.few)) (ltb 4096 (length (encode_token (child_token rows token added)))) refl

    by_caveat : CaveatIs bytes → Is
    by_caveat (no_caveat n d) = narrow_caveat_bad rows token p n d (refuses h entry outcome exit (n + 27) (narrow_caveat_defect table text bytes rows token p n d) w)
    by_caveat (one_caveat added a) = by_count added a (eqb (length token.caveats) 64) refl

  module _ (rows : List Row) (t : EncodesTable table rows) (token : Token) (c : Canonical text token) where
    abbrev link : List ℕ
    link = chain_tag (key_for rows token) token

    unequal : same_of link token.tag ≡ false → link ≡ token.tag → ⊥
    unequal s e = let z : ◌≡◌ {A = ℕ} 0 1 = ap (λ (b : Bool). pick b 1 0) (sym s ∙ equal_same link token.tag e) in omega arith

    by_tag : has_row rows token.tid token.kid ≡ true → (b : Bool) → same_of link token.tag ≡ b → Is
    by_tag k true s =
        by_caveat rows token (record { table_is = t; canonical = c; known = k; tagged = same_equal link token.tag s }) (caveat_is bytes bb)
    by_tag k false s =
        narrow_mac rows t token c k (unequal s) (refuses h entry outcome exit 8 (narrow_other_tag table text bytes rows t token c k (unequal s)) w)

    by_row : (b : Bool) → has_row rows token.tid token.kid ≡ b → Is
    by_row true k = by_tag k (same_of link token.tag) refl
    by_row false k = narrow_kid_unknown rows t token c k (refuses h entry outcome exit 7 (narrow_unknown table text bytes rows t token c k) w)

  by_text : (rows : List Row) → EncodesTable table rows → TextIs text → Is
  by_text rows t (no_token n d) = narrow_no_token rows t n d (refuses h entry outcome exit n (narrow_defect table text bytes rows t n d) w)
  by_text rows t (one_token token c) = by_row rows t token c (has_row rows token.tid token.kid) refl

  by_table : TableIs table → Is
  by_table (no_table x) = narrow_table_bad x (refuses h entry outcome exit 1 (narrow_no_table table text bytes bt x) w)
  by_table (one_table rows t) = by_text rows t (text_is text)

pub narrow_first_failing : NarrowFirstFailing
narrow_first_failing table text bytes bt bb entry outcome exit w = by_table table text bytes bt bb entry outcome exit w (table_is table bt)

-- a verdict is what the contract says
module _ (table text bytes : List ℕ) (bt : IsBytes table) (entry : List ℕ) (outcome : Outcome) (exit : List ℕ) where
  abbrev out : Decision
  out = narrow_of table text bytes

  verdict_is : NarrowVerdict table text bytes entry outcome exit → Carried (narrow_of table text bytes) entry outcome exit
  verdict_is (narrow_table_bad h r) = refuses_back out entry outcome exit 1 (narrow_no_table table text bytes bt h) r
  verdict_is (narrow_no_token rows t n d r) = refuses_back out entry outcome exit n (narrow_defect table text bytes rows t n d) r
  verdict_is (narrow_kid_unknown rows t token c k r) = refuses_back out entry outcome exit 7 (narrow_unknown table text bytes rows t token c k) r
  verdict_is (narrow_mac rows t token c k d r) = refuses_back out entry outcome exit 8 (narrow_other_tag table text bytes rows t token c k d) r
  verdict_is (narrow_caveat_bad rows token p n d r) = refuses_back out entry outcome exit (n + 27) (narrow_caveat_defect table text bytes rows token p n d) r
  verdict_is (narrow_full rows token p added a f r) = refuses_back out entry outcome exit 34 (narrow_is_full table text bytes rows token p added a f) r
  verdict_is (narrow_size_full rows token p added a l g r) = refuses_back out entry outcome exit 35 (narrow_too_large table text bytes rows token p added a l g) r
  verdict_is (narrow_child rows token p added a l g o) =
      in_room_back out entry outcome exit (token_text (child_token rows token added)) (narrow_granted table text bytes rows token p added a l g) o

pub narrow_verdict_one : NarrowVerdictOne
narrow_verdict_one table text bytes bt entry first second left right v w =
    narrow_one_answer table text bytes entry (verdict_is table text bytes bt entry first left v) (verdict_is table text bytes bt entry second right w)

pub narrow_list : NarrowList
unfolding all one_of
narrow_list table text bytes bt bb entry outcome exit w = by (narrow_first_failing table text bytes bt bb entry outcome exit w)
  where
    by : NarrowVerdict table text bytes entry outcome exit → one_of narrow_answers outcome.answer ≡ true
    by (narrow_table_bad h r) = rw r.answer
    by (narrow_no_token rows t n d r) = let k = defect_few text n d in rw r.answer (listed (one_of narrow_answers) 3 refl n k.0 k.1)
    by (narrow_kid_unknown rows t token c k r) = rw r.answer
    by (narrow_mac rows t token c k d r) = rw r.answer
    by (narrow_caveat_bad rows token p n d r) = let k = caveat_few bytes n d in rw r.answer (listed (λ n. one_of narrow_answers (n + 27)) 4 refl n k.0 k.1)
    by (narrow_full rows token p added a f r) = rw r.answer
    by (narrow_size_full rows token p added a l g r) = rw r.answer
    by (narrow_child rows token p added a l g (done m r)) = rw r.answer
    by (narrow_child rows token p added a l g (out_short m r)) = rw r.answer

-- an answer of 0 is of a child
pub record Child (table text bytes entry : List ℕ) (outcome : Outcome) (exit : List ℕ) : Type 0 where
  pub rows : List Row
  pub token : Token
  pub parent : Parent table text rows token
  pub added : Caveat
  pub caveat_is : EncodesCaveat bytes added
  pub canonical : Canonical (token_text (child_token rows token added)) (child_token rows token added)
  pub room : RoomVerdict (token_text (child_token rows token added)) entry outcome exit

pub child_of : (table text bytes : List ℕ) → IsBytes table → IsBytes bytes → (entry : List ℕ) (outcome : Outcome) (exit : List ℕ)
    → Carried (narrow_of table text bytes) entry outcome exit → outcome.answer ≡ 0 → Child table text bytes entry outcome exit
child_of table text bytes bt bb entry outcome exit w z = by (narrow_first_failing table text bytes bt bb entry outcome exit w)
  where
    refused_not : (n : ℕ) → outcome.answer ≡ n → 1 ≤ n → Child table text bytes entry outcome exit
    refused_not n e l = let x : ⊥ = omega (arith, e, l, z) in elim x [ ]

    by : NarrowVerdict table text bytes entry outcome exit → Child table text bytes entry outcome exit
    by (narrow_table_bad h r) = refused_not 1 r.answer (omega arith)
    by (narrow_no_token rows t n d r) = refused_not n r.answer (omega (arith, (defect_few text n d).0))
    by (narrow_kid_unknown rows t token c k r) = refused_not 7 r.answer (omega arith)
    by (narrow_mac rows t token c k d r) = refused_not 8 r.answer (omega arith)
    by (narrow_caveat_bad rows token p n d r) = refused_not (n + 27) r.answer (omega arith)
    by (narrow_full rows token p added a f r) = refused_not 34 r.answer (omega arith)
    by (narrow_size_full rows token p added a l g r) = refused_not 35 r.answer (omega arith)
    by (narrow_child rows token p added a l g o) =
        record {
          rows = rows;
          token = token;
          parent = p;
          added = added;
          caveat_is = a;
          canonical = child_canonical rows text token p.canonical added a.good (subst IsBytes a.written bb) l g;
          room = o;
        }

pub narrow_writes : NarrowWrites
narrow_writes table text bytes bt bb entry outcome exit w z =
    let c = child_of table text bytes bt bb entry outcome exit w z in
    record {
      rows = c.rows;
      token = c.token;
      parent = c.parent;
      added = c.added;
      caveat_is = c.caveat_is;
      tagged = child_tagged c.rows c.token c.added c.parent.tagged;
      wrote = wrote (child_token c.rows c.token c.added) entry outcome exit c.canonical c.room z;
    }

pub narrowing_refusals : NarrowingRefusals
narrowing_refusals table text bytes rows token p added a entry outcome exit w =
    w.answer ∙ by (eqb (length token.caveats) 64) refl
  where
    child : Token
    child = child_token rows token added

    answer : Decision → ℕ
    answer h = answer_for h (length entry)

    sized_answer : (b : Bool) → answer (pick b (refused 35) (granted (token_text child))) ≡ pick b 35 (pick (leb (length (token_text child)) (length entry)) 0 36)
    sized_answer true = refl
    sized_answer false = refl

    by : (b : Bool) → eqb (length token.caveats) 64 ≡ b
        → answer (narrow_of table text bytes) ≡ pick b 34 (pick (ltb 4096 (length (encode_token child))) 35 (pick (leb (length (token_text child)) (length entry)) 0 36))
    by true q = ap answer (narrow_is_full table text bytes rows token p added a (eqb-true (length token.caveats) 64 q))
    by false q =
        ap answer (narrow_sized table text bytes rows token p added a (omega (arith, eqb-false (length token.caveats) 64 q, p.canonical.good.few)))
        ∙ sized_answer (ltb 4096 (length (encode_token child)))
