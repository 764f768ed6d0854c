-- Meaning. The statements that the product is judged by, in the order of the demands: each a type, whose theorem (the same name in small
-- letters) stands under proofs/. `verify_of`, `issue_of`, `narrow_of` and `Carried` are what the exported functions' contracts say
-- (src/lib.rt); that each takes any bytes, touches only what it was lent and ends is those contracts, none of which asks anything of its
-- caller.
use Rattle.std.specs.Prelude.{◌≡◌, true, false, List, ◌∷◌, ℕ, ◌≤◌, eqb, leb, ltb, length, take}
use Rattle.std.proofs.Math.Option.{some, none}
use Rattle.basis.specs.Limits.{caveats_most, token_most, text_most}
use Rattle.basis.specs.Basis.{pick, IsBytes}
use Rattle.answers.specs.Answers.{number_of}
use Rattle.answers.specs.declared.Answer.TheVariants.{Allow, CavFull, SizeFull, OutShort}
use Rattle.cbor_strings.specs.Strings.{content_of}
use Rattle.cbor_strings.specs.Segments.{Clean}
use Rattle.cbor_strings.specs.declared.Class.TheVariants.{Path}
use Rattle.cbor_keys.specs.Maps.{GoodName}
use Rattle.token_cidr.specs.Prefixes.{Prefix, GoodPrefix}
use Rattle.token_cidr.specs.Bits.{Agree}
use Rattle.token_scope.specs.Scopes.{Scope, encode_scope}
use Rattle.token_caveat.specs.Caveats.{Caveat, ip_cidr}
use Rattle.token.specs.Tokens.{Token, encode_token}
use Rattle.records_table.specs.Tables.{Row, GoodTable, has_row}
use Rattle.records_request.specs.Requests.{Request}
use Rattle.rules_compare.specs.Fitting.{fits_of, Fits}
use Rattle.rules_compare.specs.FittingSegments.{FitsBySegments}
use Rattle.rules.specs.Holding.{address_bytes, caveat_holds}
use Rattle.verify.specs.Verifying.{verify_of}
use Rattle.outcome.specs.Decisions.{Decision, Carried}
use Rattle.outcome.specs.declared.Outcome.{Outcome}
use Rattle.issue.specs.Issuing.{issue_of}
use Rattle.narrow.specs.Narrowing.{narrow_of}
use Rattle.bhinorpa.specs.Allowed.{EncodesTable, EncodesRequest, token_text, Canonical, caveat_bytes, Allowed}
use Rattle.bhinorpa.specs.NewTokens.{EncodesCaveat, Grant, Parent, fresh_token, child_token, Issued, Narrowed, NarrowsExactly, Call, left_by, Narrowings, last_call, AllDone}
use Rattle.bhinorpa.specs.Verdicts.{TextDefect, Verdict, IssueVerdict, NarrowVerdict, one_of, verify_answers, issue_answers, narrow_answers}

-- DEMAND 1: "Any bytes may arrive at any entry point. Each judges them itself, ends, and answers from one numbered list in a stated order."

-- verify answers 0 to 21
abbrev pub VerifyList : Type 0
VerifyList = (table request text : List ℕ) → one_of verify_answers (verify_of table request text) ≡ true

-- issue answers 0, 1, 4 to 7 or 36
abbrev pub IssueList : Type 0
IssueList =
    (table tid kid bytes : List ℕ) → IsBytes table → IsBytes bytes → (entry : List ℕ) (outcome : Outcome) (exit : List ℕ)
    → Carried (issue_of table tid kid bytes) entry outcome exit → one_of issue_answers outcome.answer ≡ true

-- narrow answers 0, 1, 3 to 8 or 31 to 36
abbrev pub NarrowList : Type 0
NarrowList =
    (table text bytes : List ℕ) → IsBytes table → IsBytes bytes → (entry : List ℕ) (outcome : Outcome) (exit : List ℕ)
    → Carried (narrow_of table text bytes) entry outcome exit → one_of narrow_answers outcome.answer ≡ true

-- "A refusal reports 0 bytes written and changes no byte of the lent room." Whatever is handed out: issue's `issue_of ..`, narrow's `narrow_of ..`
abbrev pub RefusalWritesNothing : Type 0
RefusalWritesNothing =
    (decision : Decision) (entry : List ℕ) (outcome : Outcome) (exit : List ℕ) → Carried decision entry outcome exit → (outcome.answer ≡ number_of Allow → ⊥)
    → (outcome.length ≡ 0) × (exit ≡ entry)

-- DEMAND 2: "A token is allowed exactly when it is canonical, its key is known, the BLAKE3 chain gives its tag, and tenant, scope and every
-- caveat hold"
abbrev pub AllowedExactly : Type 0
AllowedExactly =
    (table request text : List ℕ) (rows : List Row) → EncodesTable table rows → (asked : Request) → EncodesRequest request asked
    → (verify_of table request text ≡ number_of Allow → Allowed rows asked text) × (Allowed rows asked text → verify_of table request text ≡ number_of Allow)

-- "otherwise the first failing check is named": verify's number is that of a verdict, and a verdict has one number
abbrev pub FirstFailing : Type 0
FirstFailing = (table request text : List ℕ) → IsBytes table → IsBytes request → Verdict table request text (verify_of table request text)

abbrev pub VerdictOne : Type 0
VerdictOne =
    (table request text : List ℕ) → IsBytes table → IsBytes request → (n m : ℕ) → Verdict table request text n → Verdict table request text m → n ≡ m

-- and a text with a defect is no token's
abbrev pub DefectNoToken : Type 0
DefectNoToken = (text : List ℕ) (n : ℕ) → TextDefect text n → (token : Token) → Canonical text token → ⊥

-- the same of issue: what its contract says is a verdict, and a verdict settles number, length and final room
abbrev pub IssueFirstFailing : Type 0
IssueFirstFailing =
    (table tid kid bytes : List ℕ) → IsBytes table → IsBytes bytes → (entry : List ℕ) (outcome : Outcome) (exit : List ℕ)
    → Carried (issue_of table tid kid bytes) entry outcome exit → IssueVerdict table tid kid bytes entry outcome exit

abbrev pub IssueVerdictOne : Type 0
IssueVerdictOne =
    (table tid kid bytes : List ℕ) → IsBytes table → (entry : List ℕ) (first second : Outcome) (left right : List ℕ)
    → IssueVerdict table tid kid bytes entry first left → IssueVerdict table tid kid bytes entry second right → (first ≡ second) × (left ≡ right)

-- "7 (also for a tid or kid of wrong form)": only ids of the right form have a row in a good table
abbrev pub IdsOfRows : Type 0
IdsOfRows = (rows : List Row) → GoodTable rows → (tid kid : List ℕ) → has_row rows tid kid ≡ true → GoodName tid × GoodName kid

-- a good table, scope and row are refused only for the room
abbrev pub IssueRefusals : Type 0
IssueRefusals =
    (table tid kid bytes : List ℕ) (rows : List Row) (scope : Scope) → Grant table tid kid bytes rows scope → (entry : List ℕ) (outcome : Outcome) (exit : List ℕ)
    → Carried (issue_of table tid kid bytes) entry outcome exit
    → outcome.answer ≡ pick (leb (length (token_text (fresh_token rows scope tid kid))) (length entry)) (number_of Allow) (number_of OutShort)

-- and of narrow
abbrev pub NarrowFirstFailing : Type 0
NarrowFirstFailing =
    (table text bytes : List ℕ) → IsBytes table → IsBytes bytes → (entry : List ℕ) (outcome : Outcome) (exit : List ℕ)
    → Carried (narrow_of table text bytes) entry outcome exit → NarrowVerdict table text bytes entry outcome exit

abbrev pub NarrowVerdictOne : Type 0
NarrowVerdictOne =
    (table text bytes : List ℕ) → IsBytes table → (entry : List ℕ) (first second : Outcome) (left right : List ℕ)
    → NarrowVerdict table text bytes entry first left → NarrowVerdict table text bytes entry second right → (first ≡ second) × (left ≡ right)

-- "Issue and narrow write exactly that form": the canonical text of the fresh token of the scope asked for; of the parent's token with the
-- caveat last and the next tag
abbrev pub IssueWrites : Type 0
IssueWrites =
    (table tid kid bytes : List ℕ) → IsBytes table → IsBytes tid → IsBytes kid → IsBytes bytes → (entry : List ℕ) (outcome : Outcome) (exit : List ℕ)
    → Carried (issue_of table tid kid bytes) entry outcome exit → outcome.answer ≡ number_of Allow → Issued table tid kid bytes entry outcome exit

abbrev pub NarrowWrites : Type 0
NarrowWrites =
    (table text bytes : List ℕ) → IsBytes table → IsBytes bytes → (entry : List ℕ) (outcome : Outcome) (exit : List ℕ)
    → Carried (narrow_of table text bytes) entry outcome exit → outcome.answer ≡ number_of Allow → Narrowed table text bytes entry outcome exit

-- "and every readable, rightly tagged text is what issuing and narrowing in order would have written": whatever rooms of at least 5,462 bytes
-- are lent, each call meeting its contract on the text that the call before left, all are done, and the last one leaves the text
abbrev pub Rebuilt : Type 0
Rebuilt =
    (table text : List ℕ) (rows : List Row) (token : Token) → Parent table text rows token
    → (first : Call) → text_most ≤ length first.entry → Carried (issue_of table token.tid token.kid (encode_scope token.scope)) first.entry first.outcome first.exit
    → (calls : List Call) → Narrowings table (left_by first) (caveat_bytes token.caveats) calls
    → AllDone (first ∷ calls) × (left_by (last_call first calls) ≡ text)

-- a room of 5,462 bytes takes every token's text
abbrev pub RoomEnough : Type 0
RoomEnough = (text : List ℕ) (token : Token) → Canonical text token → length text ≤ text_most

-- DEMAND 3: "Whenever narrow hands out a child, the child is allowed exactly when the parent is and the added caveat holds"
abbrev pub NarrowingExact : Type 0
NarrowingExact =
    (table text bytes : List ℕ) → IsBytes table → IsBytes bytes → (entry : List ℕ) (outcome : Outcome) (exit : List ℕ)
    → Carried (narrow_of table text bytes) entry outcome exit → outcome.answer ≡ number_of Allow → NarrowsExactly table text bytes (take outcome.length exit)

-- "and narrow refuses a good parent and caveat only for the three listed reasons": 34 exactly for a parent of 64 caveats; else 35 exactly for a
-- child of over 4,096 bytes; else 36 exactly for a room shorter than the child's text; else 0
abbrev pub NarrowingRefusals : Type 0
NarrowingRefusals =
    (table text bytes : List ℕ) (rows : List Row) (token : Token) → Parent table text rows token → (added : Caveat) → EncodesCaveat bytes added
    → (entry : List ℕ) (outcome : Outcome) (exit : List ℕ) → Carried (narrow_of table text bytes) entry outcome exit
    → outcome.answer
    ≡ pick (eqb (length token.caveats) caveats_most) (number_of CavFull)
    (pick (ltb token_most (length (encode_token (child_token rows token added)))) (number_of SizeFull)
    (pick (leb (length (token_text (child_token rows token added))) (length entry)) (number_of Allow) (number_of OutShort)))

-- Document 01, "What holds when": "ip_cidr, a present peer's first n bits agree"
abbrev pub FirstBits : Type 0
FirstBits =
    (asked : Request) (tid : List ℕ) (prefix : Prefix) → GoodPrefix prefix → (peer : List ℕ) → IsBytes peer → asked.peer ≡ some peer
    → (caveat_holds asked tid (ip_cidr prefix) ≡ true → Agree (address_bytes prefix) peer prefix.size)
    × (Agree (address_bytes prefix) peer prefix.size → caveat_holds asked tid (ip_cidr prefix) ≡ true)

abbrev pub NoPeer : Type 0
NoPeer = (asked : Request) (tid : List ℕ) (prefix : Prefix) → asked.peer ≡ none → caveat_holds asked tid (ip_cidr prefix) ≡ false

-- Document 02, M-100: "a prefix fits a path if they are equal, or the path begins with the prefix and either the prefix ends in "/" or the
-- next path byte is "/""
abbrev pub FitsExactly : Type 0
FitsExactly = (prefix path : List ℕ) → (fits_of prefix path ≡ true → Fits prefix path) × (Fits prefix path → fits_of prefix path ≡ true)

-- so a prefix under another one never widens
abbrev pub FitsNarrows : Type 0
FitsNarrows = (prefix longer path : List ℕ) → fits_of prefix longer ≡ true → fits_of longer path ≡ true → fits_of prefix path ≡ true

-- Document 02, M-106: "Refuse a request path with "%", "//", or a segment "." or "..". Refuse the same in a scope prefix or path_prefix": a path
-- is "/" and a segment, as often as it has segments, none of them empty but the last
abbrev pub CleanExactly : Type 0
CleanExactly = (path : List ℕ) → (content_of Path path ≡ true → Clean path) × (Clean path → content_of Path path ≡ true)

-- so a prefix fits a path segment by segment
abbrev pub FitsSegments : Type 0
FitsSegments =
    (prefix path : List ℕ) → content_of Path prefix ≡ true → content_of Path path ≡ true
    → (fits_of prefix path ≡ true → FitsBySegments prefix path) × (FitsBySegments prefix path → fits_of prefix path ≡ true)
