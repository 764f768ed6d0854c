-- Verify, one equation for each case of its verdict: by these the verdict is verify's answer, and is the only one.
use mathlib.Core.Path.{◌≡◌, refl, sym, ap₂, ◌∙◌}
use mathlib.Core.Bool.{true, false}
use mathlib.Core.List.{List}
use Prim.Native.Nat.{ℕ}
use native.Mathlib.Omega.{arith}
use borrow.Author.Tests.{le-ltb, le-leb}
use lib.ListN.{length}
use Rattle.basis.specs.Basis.{IsBytes}
use Rattle.text_writing.specs.Base64url.{base64url}
use Rattle.text_reading.specs.Reading.{decoded_of}
use Rattle.text_reading.proofs.TextLaws.{bytes_text, judged_text}
use Rattle.token.specs.Tokens.{Token, encode_token}
use Rattle.records_table.specs.Tables.{Row, encode_table, GoodTable}
use Rattle.records_table.specs.Reading.{table_ok}
use Rattle.records_table.proofs.TableLaws.{table_written}
use Rattle.records_request.specs.Requests.{Request, encode_request}
use Rattle.records_request.specs.Reading.{request_of}
use Rattle.records_request.specs.declared.RequestAt.{RequestAt}
use Rattle.std.specs.Prelude.{Option, Some, None}
use Rattle.records_request.proofs.Holds.{Holds}
use Rattle.records_request.proofs.RequestWritten.{request_written}
use Rattle.records_request.proofs.RequestRead.{request_read}
use Rattle.outcome.proofs.Sizes.{short_text}
use Rattle.verify.specs.Verifying.{token_judged, bytes_judged, decoded_judged, text_judged, request_judged, verify_of}
use Rattle.verify.proofs.Decoding.{too_long as long_is}
use Rattle.bhinorpa.specs.Allowed.{EncodesTable, EncodesRequest, Canonical, failing_first, checks_of}
use Rattle.bhinorpa.specs.Verdicts.{TextDefect, NoRequest}
use Rattle.bhinorpa.proofs.Judged.{token_law}
use Rattle.bhinorpa.proofs.Texts.{bytes_few, Unread, unread_long, unread_fault, unread_bytes, defect_unread}

module _ (rows : List Row) (gr : GoodTable rows) (body : List ℕ) (asked : Request) (q : RequestAt) (h : Holds body asked q) (text : List ℕ) where
  canonical_is : (token : Token) → Canonical text token → text_judged (encode_table rows) text body q ≡ failing_first (checks_of rows asked token)
  unfolding text_judged decoded_of decoded_judged
  canonical_is token c =
      let b = encode_token token in
      let l = short_text b c.short in
      rw (c.written, le-ltb 5462 (length (base64url b)) l, judged_text b c.are_bytes, le-leb (length b) 4096 c.short, bytes_text b c.are_bytes)
      (token_law rows gr body asked q h token c.good b refl)

  unread_is : (n : ℕ) → Unread text n → text_judged (encode_table rows) text body q ≡ n
  unfolding text_judged decoded_of decoded_judged bytes_judged token_judged
  unread_is n (unread_long l e) = sym (long_is (encode_table rows) text body q l) ∙ sym e
  unread_is n (unread_fault l at j e) = rw (le-ltb 5462 (length text) l, j) (sym e)
  unread_is n (unread_bytes l k j d f m) = rw (le-ltb 5462 (length text) l, j, le-leb k 4096 (bytes_few text j l), f) (sym m)

-- with a good table and a good request, the text decides
module _ (table request : List ℕ) (rows : List Row) (t : EncodesTable table rows) (asked : Request) (r : EncodesRequest request asked) (text : List ℕ) where
  by_text : (n : ℕ) → ((body : List ℕ) (q : RequestAt) → Holds body asked q → text_judged (encode_table rows) text body q ≡ n) → verify_of table request text ≡ n
  unfolding verify_of request_judged
  by_text n k =
      let body = encode_request asked in
      let w = request_written asked r.good body refl in
      ap₂ (λ (a b : List ℕ). verify_of a b text) t.written r.written ∙ rw (table_written rows t.good, w.answer) (k body w.parts w.holds)

  pub verify_defect : (n : ℕ) → TextDefect text n → verify_of table request text ≡ n
  verify_defect n d = by_text n (λ body q h. unread_is rows t.good body asked q h text n (defect_unread text n d))

  pub verify_token : (token : Token) → Canonical text token → verify_of table request text ≡ failing_first (checks_of rows asked token)
  verify_token token c = by_text (failing_first (checks_of rows asked token)) (λ body q h. canonical_is rows t.good body asked q h text token c)

module _ (table request text : List ℕ) where
  pub verify_no_table : table_ok table ≡ false → verify_of table request text ≡ 1
  unfolding verify_of
  verify_no_table e = rw e

  pub verify_no_request : table_ok table ≡ true → request_of request ≡ None → verify_of table request text ≡ 2
  unfolding verify_of request_judged
  verify_no_request e p = rw (e, p)

-- a request's bytes are those of one good request exactly where the reading takes them
pub data RequestIs (request : List ℕ) : Type 0 where
  no_request : NoRequest request → request_of request ≡ None → RequestIs request
  one_request : (asked : Request) → EncodesRequest request asked → RequestIs request

pub request_is : (request : List ℕ) → IsBytes request → RequestIs request
request_is request b = by (request_of request) refl
  where
    apart : {parts : RequestAt} → ◌≡◌ {A = Option RequestAt} None (Some parts) → ⊥
    apart x = let z : ◌≡◌ {A = ℕ} 0 1 = cc in omega arith

    by : (p : Option RequestAt) → request_of request ≡ p → RequestIs request
    by None e = no_request (λ asked r. apart (sym e ∙ (request_written asked r.good request r.written).answer)) e
    by (Some parts) e = let i = request_read request b e in one_request i.tree (record { good = i.good; written = i.there })

pub bad_request : (request : List ℕ) → IsBytes request → NoRequest request → request_of request ≡ None
bad_request request b h = by (request_is request b)
  where
    by : RequestIs request → request_of request ≡ None
    by (no_request k e) = e
    by (one_request asked r) = let z = h asked r in elim z [ ]
