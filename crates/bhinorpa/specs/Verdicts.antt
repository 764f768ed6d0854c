-- Meaning. Which check each entry point names, in document 01's order ("Numbers and names"). Each case says that all checks before it held;
-- of issue and narrow it also says what was returned and what the room holds.
use Rattle.cbor_heads.specs.Defects.{kind_number}
use Rattle.cbor_heads.specs.declared.defect.Defect.{Defect}
use Rattle.std.specs.Prelude.{◌≡◌, Bool, true, false, List, [], ◌∷◌, ◌++◌, ℕ, ◌+◌, ◌≤◌, ◌<◌, eqb, length, Err}
use Rattle.basis.specs.Basis.{pick, over, IsBytes}
use Rattle.basis.specs.Limits.{text_most, token_most, caveats_most}
use Rattle.answers.specs.Answers.{number_of}
use Rattle.answers.specs.declared.Answer.{Answer}
use Rattle.answers.specs.declared.Answer.TheVariants.{Allow, TableBad, CtxBad, ParseB64, ParseCbor, ParseBounds, SchemaUnknownField, KidUnknown, MacMismatch, TenantMismatch}
use Rattle.answers.specs.declared.Answer.TheVariants.{CaveatMethod, CaveatPath, CaveatBytes, CaveatExp, CaveatNbf, CaveatAud, CaveatIp, CaveatRate, CaveatTenant, CaveatAmnesia, CaveatPolicyDigest, CaveatCustomUnknown}
use Rattle.answers.specs.declared.Answer.TheVariants.{CavCbor, CavBounds, CavUnknown, CavFull, SizeFull, OutShort}
use Rattle.text_writing.specs.Base64url.{base64url}
use Rattle.token_scope.specs.Scopes.{Scope, encode_scope, GoodScope}
use Rattle.token_scope.specs.Fields.{read_scope}
use Rattle.token_caveat.specs.Caveats.{Caveat, encode_caveat, GoodCaveat}
use Rattle.token_caveat.specs.Fields.{read_caveat}
use Rattle.token.specs.Tokens.{Token, encode_token}
use Rattle.token.specs.Fields.{read_token}
use Rattle.records_table.specs.Tables.{Row, has_row}
use Rattle.records_request.specs.Requests.{Request}
use Rattle.outcome.specs.declared.Outcome.{Outcome}
use Rattle.bhinorpa.specs.Allowed.{EncodesTable, EncodesRequest, token_text, Canonical, chain_tag, key_for, failing_first, checks_of}
use Rattle.bhinorpa.specs.NewTokens.{EncodesScope, EncodesCaveat, Grant, Parent, fresh_token, child_token}

abbrev pub NoTable : List ℕ → Type 0
NoTable table = (rows : List Row) → EncodesTable table rows → ⊥

abbrev pub NoRequest : List ℕ → Type 0
NoRequest request = (asked : Request) → EncodesRequest request asked → ⊥

-- the first defect of a text that is no token's
pub data TextDefect (text : List ℕ) (n : ℕ) : Type 0 where
  -- "text over 5,462 characters (5)"
  too_long : text_most < length text → n ≡ number_of ParseBounds → TextDefect text n
  -- 3: no bytes have this text
  no_base64 : length text ≤ text_most → ((bytes : List ℕ) → IsBytes bytes → text ≡ base64url bytes → ⊥) → n ≡ number_of ParseB64 → TextDefect text n
  -- "reading (4 to 6)": the first defect of the bytes that have this text
  unreadable : length text ≤ text_most → (bytes : List ℕ) → IsBytes bytes → text ≡ base64url bytes → (d : Defect) → read_token bytes ≡ Err d
      → n ≡ kind_number d.kind → TextDefect text n

-- the first defect of bytes that are not one scope, or not one caveat: of its reading, or that bytes are left over (4)
pub data ScopeDefect (bytes : List ℕ) (n : ℕ) : Type 0 where
  scope_unreadable : (d : Defect) → read_scope bytes 0 ≡ Err d → n ≡ kind_number d.kind → ScopeDefect bytes n
  scope_left_over : (scope : Scope) → GoodScope scope → (rest : List ℕ) → bytes ≡ encode_scope scope ++ rest → (rest ≡ [] → ⊥) → n ≡ number_of ParseCbor → ScopeDefect bytes n

pub data CaveatDefect (bytes : List ℕ) (n : ℕ) : Type 0 where
  caveat_unreadable : (d : Defect) → read_caveat bytes ≡ Err d → n ≡ kind_number d.kind → CaveatDefect bytes n
  caveat_left_over : (caveat : Caveat) → GoodCaveat caveat → (rest : List ℕ) → bytes ≡ encode_caveat caveat ++ rest → (rest ≡ [] → ⊥) → n ≡ number_of ParseCbor → CaveatDefect bytes n

-- "Verify: 1, 2, text over 5,462 characters (5), 3, reading (4 to 6), 7, 8, 9, scope method, path, bytes (10 to 12), caveats in token order."
pub data Verdict (table request text : List ℕ) (n : ℕ) : Type 0 where
  table_bad : NoTable table → n ≡ number_of TableBad → Verdict table request text n
  ctx_bad : (rows : List Row) → EncodesTable table rows → NoRequest request → n ≡ number_of CtxBad → Verdict table request text n
  -- 5, 3, 4 to 6
  no_token : (rows : List Row) → EncodesTable table rows → (asked : Request) → EncodesRequest request asked → TextDefect text n → Verdict table request text n
  -- 7 to 21, or 0
  judged : (rows : List Row) → EncodesTable table rows → (asked : Request) → EncodesRequest request asked → (token : Token) → Canonical text token
      → n ≡ failing_first (checks_of rows asked token) → Verdict table request text n

-- "Every refusal by these three returns 0 bytes and writes nothing."
pub record Refuses (n : ℕ) (entry : List ℕ) (outcome : Outcome) (exit : List ℕ) : Type 0 where
  pub answer : outcome.answer ≡ n
  pub count : outcome.length ≡ 0
  pub content : exit ≡ entry

-- "Done returns the text's length; the rest of the room stays."
pub record Writes (text entry : List ℕ) (outcome : Outcome) (exit : List ℕ) : Type 0 where
  pub answer : outcome.answer ≡ number_of Allow
  pub count : outcome.length ≡ length text
  pub content : exit ≡ over text entry

-- 36, the last check: the text in a room that holds it, or a refusal
pub data RoomVerdict (text entry : List ℕ) (outcome : Outcome) (exit : List ℕ) : Type 0 where
  out_short : length entry < length text → Refuses (number_of OutShort) entry outcome exit → RoomVerdict text entry outcome exit
  done : length text ≤ length entry → Writes text entry outcome exit → RoomVerdict text entry outcome exit

-- "Issue: 1, the scope's reading (4 to 6), 7 (also for a tid or kid of wrong form), 36."
pub data IssueVerdict (table tid kid bytes entry : List ℕ) (outcome : Outcome) (exit : List ℕ) : Type 0 where
  issue_table_bad : NoTable table → Refuses (number_of TableBad) entry outcome exit → IssueVerdict table tid kid bytes entry outcome exit
  issue_scope_bad : (rows : List Row) → EncodesTable table rows → (n : ℕ) → ScopeDefect bytes n → Refuses n entry outcome exit → IssueVerdict table tid kid bytes entry outcome exit
  issue_kid_unknown : (rows : List Row) → EncodesTable table rows → (scope : Scope) → EncodesScope bytes scope → has_row rows tid kid ≡ false
      → Refuses (number_of KidUnknown) entry outcome exit → IssueVerdict table tid kid bytes entry outcome exit
  issue_grants : (rows : List Row) (scope : Scope) → Grant table tid kid bytes rows scope → RoomVerdict (token_text (fresh_token rows scope tid kid)) entry outcome exit
      → IssueVerdict table tid kid bytes entry outcome exit

-- "Narrow: 1, text length, 3, reading, 7, 8, the caveat's reading as 31, 32, 33 for 4, 5, 6, then 34, 35, 36."
pub data NarrowVerdict (table text bytes entry : List ℕ) (outcome : Outcome) (exit : List ℕ) : Type 0 where
  narrow_table_bad : NoTable table → Refuses (number_of TableBad) entry outcome exit → NarrowVerdict table text bytes entry outcome exit
  narrow_no_token : (rows : List Row) → EncodesTable table rows → (n : ℕ) → TextDefect text n → Refuses n entry outcome exit → NarrowVerdict table text bytes entry outcome exit
  narrow_kid_unknown : (rows : List Row) → EncodesTable table rows → (token : Token) → Canonical text token → has_row rows token.tid token.kid ≡ false
      → Refuses (number_of KidUnknown) entry outcome exit → NarrowVerdict table text bytes entry outcome exit
  narrow_mac : (rows : List Row) → EncodesTable table rows → (token : Token) → Canonical text token → has_row rows token.tid token.kid ≡ true
      → (chain_tag (key_for rows token) token ≡ token.tag → ⊥) → Refuses (number_of MacMismatch) entry outcome exit → NarrowVerdict table text bytes entry outcome exit
  narrow_caveat_bad : (rows : List Row) (token : Token) → Parent table text rows token → (n : ℕ) → CaveatDefect bytes n → Refuses (n + 27) entry outcome exit
      → NarrowVerdict table text bytes entry outcome exit
  narrow_full : (rows : List Row) (token : Token) → Parent table text rows token → (added : Caveat) → EncodesCaveat bytes added → length token.caveats ≡ caveats_most
      → Refuses (number_of CavFull) entry outcome exit → NarrowVerdict table text bytes entry outcome exit
  narrow_size_full : (rows : List Row) (token : Token) → Parent table text rows token → (added : Caveat) → EncodesCaveat bytes added → length token.caveats < caveats_most
      → token_most < length (encode_token (child_token rows token added)) → Refuses (number_of SizeFull) entry outcome exit → NarrowVerdict table text bytes entry outcome exit
  narrow_child : (rows : List Row) (token : Token) → Parent table text rows token → (added : Caveat) → EncodesCaveat bytes added → length token.caveats < caveats_most
      → length (encode_token (child_token rows token added)) ≤ token_most → RoomVerdict (token_text (child_token rows token added)) entry outcome exit
      → NarrowVerdict table text bytes entry outcome exit

-- the closed list of each entry point's answers
unfoldable pub one_of : List Answer → ℕ → Bool
one_of [] n = false
one_of (answer ∷ rest) n = pick (eqb n (number_of answer)) true (one_of rest n)

-- 0 to 21
abbrev pub verify_answers : List Answer
verify_answers =
    Allow ∷ TableBad ∷ CtxBad ∷ ParseB64 ∷ ParseCbor ∷ ParseBounds ∷ SchemaUnknownField ∷ KidUnknown ∷ MacMismatch ∷ TenantMismatch ∷ CaveatMethod ∷ CaveatPath ∷ CaveatBytes ∷ CaveatExp ∷ CaveatNbf ∷ CaveatAud ∷ CaveatIp ∷ CaveatRate ∷ CaveatTenant ∷ CaveatAmnesia ∷ CaveatPolicyDigest ∷ CaveatCustomUnknown ∷ []

-- 0, 1, 4 to 7, 36
abbrev pub issue_answers : List Answer
issue_answers = Allow ∷ TableBad ∷ ParseCbor ∷ ParseBounds ∷ SchemaUnknownField ∷ KidUnknown ∷ OutShort ∷ []

-- 0, 1, 3 to 8, 31 to 36
abbrev pub narrow_answers : List Answer
narrow_answers =
    Allow ∷ TableBad ∷ ParseB64 ∷ ParseCbor ∷ ParseBounds ∷ SchemaUnknownField ∷ KidUnknown ∷ MacMismatch ∷ CavCbor ∷ CavBounds ∷ CavUnknown ∷ CavFull ∷ SizeFull ∷ OutShort ∷ []
