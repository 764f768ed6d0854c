-- Demands 1 and 2 of verify: its closed list, the first failing check, and allowed exactly. The statements are those of specs/Demands.antt.
use mathlib.Core.Path.{◌≡◌, refl, sym, ap, ◌∙◌}
use mathlib.Core.Bool.{Bool, true, false}
use mathlib.Core.List.{List, [], ◌∷◌}
use Prim.Native.Nat.{ℕ}
use native.Mathlib.Omega.{arith}
use lib.Dec.{eqb}
use Rattle.basis.specs.Basis.{pick, IsBytes}
use Rattle.basis.specs.Same.{same_of}
use Rattle.basis.proofs.All.{all, all_at}
use Rattle.basis.proofs.Sameness.{same_equal, equal_same}
use Rattle.answers.specs.Answers.{number_of}
use Rattle.token_caveat.specs.Caveats.{Caveat}
use Rattle.token.specs.Tokens.{Token}
use Rattle.records_table.specs.Tables.{Row, has_row}
use Rattle.records_request.specs.Requests.{Request}
use Rattle.rules.specs.Holding.{failing, caveat_holds}
use Rattle.rules.proofs.Meanings as meanings
use Rattle.verify.specs.Verifying.{verify_of}
use Rattle.verify.proofs.Numbers.{verify_low}
use Rattle.bhinorpa.specs.Allowed.{EncodesTable, EncodesRequest, chain_tag, key_for, method_holds, path_holds, bytes_hold, failing_first, caveat_checks, scope_checks, checks_of, EachHolds, AllHold, Allowed}
use Rattle.bhinorpa.specs.Verdicts.{Verdict, table_bad, ctx_bad, no_token, judged, one_of, verify_answers}
use Rattle.bhinorpa.specs.Demands.{VerifyList, FirstFailing, VerdictOne, AllowedExactly, FirstBits, NoPeer}
use Rattle.bhinorpa.proofs.Judged.{failing_some}
use Rattle.bhinorpa.proofs.Tables.{good_table, bad_table, TableIs, no_table, one_table, table_is}
use Rattle.bhinorpa.proofs.Texts.{TextIs, no_token as text_defect, one_token, text_is, defect_few}
use Rattle.bhinorpa.proofs.VerifyIs.{verify_no_table, verify_no_request, verify_defect, verify_token, RequestIs, no_request, one_request, request_is, bad_request}

pub verify_list : VerifyList
unfolding all one_of
verify_list table request text = all_at 22 (one_of verify_answers) refl (verify_of table request text) (verify_low table request text)

pub first_failing : FirstFailing
first_failing table request text bt br = by_table (table_is table bt)
  where
    by_text : (rows : List Row) → EncodesTable table rows → (asked : Request) → EncodesRequest request asked → TextIs text → Verdict table request text (verify_of table request text)
    by_text rows t asked r (text_defect n d) = let e = verify_defect table request rows t asked r text n d in rw e (no_token rows t asked r d)
    by_text rows t asked r (one_token token c) = judged rows t asked r token c (verify_token table request rows t asked r text token c)

    by_request : (rows : List Row) → EncodesTable table rows → RequestIs request → Verdict table request text (verify_of table request text)
    by_request rows t (no_request h e) = ctx_bad rows t h (verify_no_request table request text (good_table table rows t) e)
    by_request rows t (one_request asked r) = by_text rows t asked r (text_is text)

    by_table : TableIs table → Verdict table request text (verify_of table request text)
    by_table (no_table h) = table_bad h (verify_no_table table request text (bad_table table bt h))
    by_table (one_table rows t) = by_request rows t (request_is request br)

-- a verdict's number is verify's
verdict_is : (table request text : List ℕ) → IsBytes table → IsBytes request → (n : ℕ) → Verdict table request text n → n ≡ verify_of table request text
verdict_is table request text bt br n (table_bad h e) = e ∙ sym (verify_no_table table request text (bad_table table bt h))
verdict_is table request text bt br n (ctx_bad rows t h e) = e ∙ sym (verify_no_request table request text (good_table table rows t) (bad_request request br h))
verdict_is table request text bt br n (no_token rows t asked r d) = sym (verify_defect table request rows t asked r text n d)
verdict_is table request text bt br n (judged rows t asked r token c e) = e ∙ sym (verify_token table request rows t asked r text token c)

pub verdict_one : VerdictOne
verdict_one table request text bt br n m v w = verdict_is table request text bt br n v ∙ sym (verdict_is table request text bt br m w)

-- a check that holds
passed : (b : Bool) (n rest : ℕ) → eqb n 0 ≡ false → pick b rest n ≡ 0 → (b ≡ true) × (rest ≡ 0)
passed true n rest h e = (refl, e)
passed false n rest h e =
    let z : ◌≡◌ {A = ℕ} 0 1 = ap (λ (b : Bool). pick b 1 0) (sym h ∙ ap (λ (k : ℕ). eqb k 0) e) in
    let z : ⊥ = omega arith in
    elim z [ ]

each_passed : (asked : Request) (tid : List ℕ) (cs : List Caveat) → failing_first (caveat_checks asked tid cs) ≡ 0 → EachHolds asked tid cs
unfolding failing_first caveat_checks EachHolds
each_passed asked tid [] e = tt
each_passed asked tid (c ∷ cs) e =
    let p = passed (caveat_holds asked tid c) (number_of (failing c)) (failing_first (caveat_checks asked tid cs)) (failing_some c) e in
    (p.0, each_passed asked tid cs p.1)

each_passes : (asked : Request) (tid : List ℕ) (cs : List Caveat) → EachHolds asked tid cs → failing_first (caveat_checks asked tid cs) ≡ 0
unfolding failing_first caveat_checks EachHolds
each_passes asked tid [] h = refl
each_passes asked tid (c ∷ cs) h = rw h.0 (each_passes asked tid cs h.1)

all_passed : (rows : List Row) (asked : Request) (token : Token) → failing_first (checks_of rows asked token) ≡ 0 → AllHold rows asked token
unfolding failing_first checks_of scope_checks
all_passed rows asked token e =
    let scope = token.scope in
    let p7 = passed (has_row rows token.tid token.kid) 7 _ refl e in
    let p8 = passed (same_of (chain_tag (key_for rows token) token) token.tag) 8 _ refl p7.1 in
    let p9 = passed (same_of token.tid asked.tenant) 9 _ refl p8.1 in
    let p10 = passed (method_holds asked scope) 10 _ refl p9.1 in
    let p11 = passed (path_holds asked scope) 11 _ refl p10.1 in
    let p12 = passed (bytes_hold asked scope) 12 _ refl p11.1 in
    record {
      known = p7.0;
      tagged = same_equal _ _ p8.0;
      own_tenant = same_equal _ _ p9.0;
      holds_method = p10.0;
      holds_path = p11.0;
      holds_bytes = p12.0;
      caveats_hold = each_passed asked token.tid token.caveats p12.1;
    }

all_pass : (rows : List Row) (asked : Request) (token : Token) → AllHold rows asked token → failing_first (checks_of rows asked token) ≡ 0
unfolding failing_first checks_of scope_checks
all_pass rows asked token a =
    rw (
      a.known,
      equal_same (chain_tag (key_for rows token) token) token.tag a.tagged,
      equal_same token.tid asked.tenant a.own_tenant,
      a.holds_method,
      a.holds_path,
      a.holds_bytes,
    )
    (each_passes asked token.tid token.caveats a.caveats_hold)

pub allowed_exactly : AllowedExactly
allowed_exactly table request text rows t asked r = (λ e. by e (text_is text), λ a. verify_token table request rows t asked r text a.token a.canonical ∙ all_pass rows asked a.token a.all_hold)
  where
    by : verify_of table request text ≡ 0 → TextIs text → Allowed rows asked text
    by e (text_defect n d) = let z : ⊥ = omega (arith, sym (verify_defect table request rows t asked r text n d) ∙ e, (defect_few text n d).0) in elim z [ ]
    by e (one_token token c) = record { token = token; canonical = c; all_hold = all_passed rows asked token (sym (verify_token table request rows t asked r text token c) ∙ e) }

pub first_bits : FirstBits
first_bits = meanings.first_bits

pub no_peer : NoPeer
no_peer = meanings.no_peer
