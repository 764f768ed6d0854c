-- Meaning. What issue and narrow hand out, on trees. Demand 2: issue and narrow write exactly the canonical form, and every readable,
-- rightly tagged text is what issuing and narrowing in order would have written.
use Rattle.std.specs.Prelude.{◌≡◌, true, List, [], ◌∷◌, ◌++◌, ℕ, ◌≤◌, length, take}
use Rattle.basis.specs.Limits.{text_most}
use Rattle.answers.specs.Answers.{number_of}
use Rattle.answers.specs.declared.Answer.TheVariants.{Allow}
use Rattle.basis.specs.Basis.{over}
use Rattle.text_writing.specs.Base64url.{text_length}
use Rattle.hash_chain.specs.Chain.{tag_of, next_link}
use Rattle.token_scope.specs.Scopes.{Scope, encode_scope, GoodScope}
use Rattle.token_caveat.specs.Caveats.{Caveat, encode_caveat, GoodCaveat}
use Rattle.token.specs.Tokens.{Token, encode_token}
use Rattle.records_table.specs.Tables.{Row, has_row, key_in}
use Rattle.records_request.specs.Requests.{Request}
use Rattle.rules.specs.Holding.{caveat_holds}
use Rattle.verify.specs.Verifying.{verify_of}
use Rattle.outcome.specs.Decisions.{Carried}
use Rattle.narrow.specs.Narrowing.{narrow_of}
use Rattle.outcome.specs.declared.Outcome.{Outcome}
use Rattle.bhinorpa.specs.Allowed.{EncodesTable, EncodesRequest, Canonical, Allowed, chain_tag, key_for}

-- the scope, and the caveat, that bytes are
pub record EncodesScope (bytes : List ℕ) (scope : Scope) : Type 0 where
  pub good : GoodScope scope
  pub written : bytes ≡ encode_scope scope

pub record EncodesCaveat (bytes : List ℕ) (caveat : Caveat) : Type 0 where
  pub good : GoodCaveat caveat
  pub written : bytes ≡ encode_caveat caveat

-- what issue is given, all good: a table, a scope, and ids that have a row
pub record Grant (table tid kid bytes : List ℕ) (rows : List Row) (scope : Scope) : Type 0 where
  pub table_is : EncodesTable table rows
  pub scope_is : EncodesScope bytes scope
  pub known : has_row rows tid kid ≡ true

-- a good parent: readable, its key known, rightly tagged
pub record Parent (table text : List ℕ) (rows : List Row) (token : Token) : Type 0 where
  pub table_is : EncodesTable table rows
  pub canonical : Canonical text token
  pub known : has_row rows token.tid token.kid ≡ true
  pub tagged : chain_tag (key_for rows token) token ≡ token.tag

-- a token without caveats, tagged with the first link
abbrev pub fresh_token : List Row → Scope → List ℕ → List ℕ → Token
fresh_token rows scope tid kid =
    record { caveats = []; scope = scope; tag = tag_of (key_in rows tid kid) tid kid (encode_scope scope) []; kid = kid; tid = tid }

-- the parent with one caveat more behind its own, tagged with the next link
abbrev pub child_token : List Row → Token → Caveat → Token
child_token rows token caveat =
    record {
      caveats = token.caveats ++ (caveat ∷ []);
      scope = token.scope;
      tag = next_link (key_for rows token) token.tag (encode_caveat caveat);
      kid = token.kid;
      tid = token.tid;
    }

-- the canonical text of a token stands at the front of the room, whose rest stayed, and its length was said: by the formula too
pub record Wrote (token : Token) (entry : List ℕ) (outcome : Outcome) (exit : List ℕ) : Type 0 where
  pub text : List ℕ
  pub canonical : Canonical text token
  pub enough : length text ≤ length entry
  pub content : exit ≡ over text entry
  pub count : outcome.length ≡ length text
  pub formula : outcome.length ≡ text_length (length (encode_token token))

-- what was issued: the scope asked for, under the ids asked for
pub record Issued (table tid kid bytes : List ℕ) (entry : List ℕ) (outcome : Outcome) (exit : List ℕ) : Type 0 where
  pub rows : List Row
  pub scope : Scope
  pub granted : Grant table tid kid bytes rows scope
  pub tagged : chain_tag (key_in rows tid kid) (fresh_token rows scope tid kid) ≡ (fresh_token rows scope tid kid).tag
  pub wrote : Wrote (fresh_token rows scope tid kid) entry outcome exit

-- what narrow made of a good parent and a good caveat
pub record Narrowed (table text bytes : List ℕ) (entry : List ℕ) (outcome : Outcome) (exit : List ℕ) : Type 0 where
  pub rows : List Row
  pub token : Token
  pub parent : Parent table text rows token
  pub added : Caveat
  pub caveat_is : EncodesCaveat bytes added
  pub tagged : chain_tag (key_for rows token) (child_token rows token added) ≡ (child_token rows token added).tag
  pub wrote : Wrote (child_token rows token added) entry outcome exit

-- a child beside its parent, for every well-formed request: both ways in demand 2's meaning of allowed, and by verify's own answers
pub record NarrowsExactly (table text bytes child : List ℕ) : Type 0 where
  pub rows : List Row
  pub token : Token
  pub parent : Parent table text rows token
  pub added : Caveat
  pub caveat_is : EncodesCaveat bytes added
  pub exactly : (asked : Request)
      → (Allowed rows asked child → Allowed rows asked text × (caveat_holds asked token.tid added ≡ true))
      × (Allowed rows asked text × (caveat_holds asked token.tid added ≡ true) → Allowed rows asked child)
  pub by_verify : (request : List ℕ) (asked : Request) → EncodesRequest request asked
      → (verify_of table request child ≡ number_of Allow → (verify_of table request text ≡ number_of Allow) × (caveat_holds asked token.tid added ≡ true))
      × ((verify_of table request text ≡ number_of Allow) × (caveat_holds asked token.tid added ≡ true) → verify_of table request child ≡ number_of Allow)

-- a call into a room: as it was, what was answered, and as it is then
pub record Call : Type 0 where
  pub entry : List ℕ
  pub outcome : Outcome
  pub exit : List ℕ

-- the text that a call left at the front of its room
abbrev pub left_by : Call → List ℕ
left_by call = take call.outcome.length call.exit

-- calls of narrow in order, a caveat each: each meets its contract, in a room of at least 5,462 bytes, on the text that the one before left
unfoldable pub Narrowings : List ℕ → List ℕ → List (List ℕ) → List Call → Type 0
Narrowings table text [] [] = Unit {0}
Narrowings table text [] (call ∷ calls) = ⊥
Narrowings table text (bytes ∷ rest) [] = ⊥
Narrowings table text (bytes ∷ rest) (call ∷ calls) =
    (text_most ≤ length call.entry) × Carried (narrow_of table text bytes) call.entry call.outcome call.exit × Narrowings table (left_by call) rest calls

-- the last call of all
unfoldable pub last_call : Call → List Call → Call
last_call first [] = first
last_call first (call ∷ calls) = last_call call calls

unfoldable pub AllDone : List Call → Type 0
AllDone [] = Unit {0}
AllDone (call ∷ calls) = (call.outcome.answer ≡ number_of Allow) × AllDone calls
