-- Meaning. What allowed means, on trees. Demand 2: a token is allowed exactly when it is canonical, its key is known, the BLAKE3 chain
-- gives its tag, and tenant, scope and every caveat hold; otherwise the first failing check is named.
use Rattle.std.specs.Prelude.{◌≡◌, Bool, true, List, [], ◌∷◌, ℕ, ◌≤◌, leb, length}
use Rattle.basis.specs.Basis.{pick, IsBytes}
use Rattle.basis.specs.Same.{same_of}
use Rattle.basis.specs.Limits.{token_most}
use Rattle.answers.specs.Answers.{number_of}
use Rattle.answers.specs.declared.Answer.{Answer}
use Rattle.answers.specs.declared.Answer.TheVariants.{Allow, KidUnknown, MacMismatch, TenantMismatch, CaveatMethod, CaveatPath, CaveatBytes}
use Rattle.text_writing.specs.Base64url.{base64url}
use Rattle.hash_chain.specs.Chain.{tag_of}
use Rattle.token_scope.specs.Scopes.{Scope, encode_scope}
use Rattle.token_caveat.specs.Caveats.{Caveat, encode_caveat}
use Rattle.token.specs.Tokens.{Token, encode_token, GoodToken}
use Rattle.records_table.specs.Tables.{Row, encode_table, GoodTable, has_row, key_in}
use Rattle.records_request.specs.Requests.{Request, encode_request, GoodRequest}
use Rattle.rules.specs.Holding.{member_of, if_there, failing, caveat_holds}
use Rattle.rules_compare.specs.Fitting.{fits_of}

-- the rows that a table's bytes are, and what a request's body asks
pub record EncodesTable (table : List ℕ) (rows : List Row) : Type 0 where
  pub good : GoodTable rows
  pub written : table ≡ encode_table rows

pub record EncodesRequest (request : List ℕ) (asked : Request) : Type 0 where
  pub good : GoodRequest asked
  pub written : request ≡ encode_request asked

-- the one text of a token within limits. 01: "Text is Base64URL without padding ... At most 4,096 decoded bytes"
abbrev pub token_text : Token → List ℕ
token_text token = base64url (encode_token token)

pub record Canonical (text : List ℕ) (token : Token) : Type 0 where
  pub good : GoodToken token
  pub are_bytes : IsBytes (encode_token token)
  pub short : length (encode_token token) ≤ token_most
  pub written : text ≡ token_text token

unfoldable pub caveat_bytes : List Caveat → List (List ℕ)
caveat_bytes [] = []
caveat_bytes (caveat ∷ rest) = encode_caveat caveat ∷ caveat_bytes rest

-- the tag that the chain gives under a key
abbrev pub chain_tag : List ℕ → Token → List ℕ
chain_tag key token = tag_of key token.tid token.kid (encode_scope token.scope) (caveat_bytes token.caveats)

-- the key of the row with the token's ids
abbrev pub key_for : List Row → Token → List ℕ
key_for rows token = key_in rows token.tid token.kid

-- "the request's method is in methods; its path starts with prefix, if there is one; body size is at most max_bytes, if there is one";
-- 02, M-100, for "starts with": "a prefix fits a path if .."
abbrev pub method_holds : Request → Scope → Bool
method_holds asked scope = member_of asked.method scope.methods

abbrev pub path_holds : Request → Scope → Bool
path_holds asked scope = if_there (λ prefix. fits_of prefix asked.path) scope.prefix

abbrev pub bytes_hold : Request → Scope → Bool
bytes_hold asked scope = if_there (leb asked.size) scope.max_bytes

-- a check, and the answer where it fails
pub record Check : Type 0 where
  pub answer : Answer
  pub holds : Bool

abbrev pub check : Answer → Bool → Check
check answer holds = record { answer = answer; holds = holds }

unfoldable pub failing_first : List Check → ℕ
failing_first [] = number_of Allow
failing_first (first ∷ rest) = pick first.holds (failing_first rest) (number_of first.answer)

-- "caveats in token order"
unfoldable pub caveat_checks : Request → List ℕ → List Caveat → List Check
caveat_checks asked tid [] = []
caveat_checks asked tid (caveat ∷ rest) = check (failing caveat) (caveat_holds asked tid caveat) ∷ caveat_checks asked tid rest

-- 01, of a token that was read: "7, 8, 9, scope method, path, bytes (10 to 12), caveats in token order"
unfoldable pub scope_checks : Request → Scope → List Check → List Check
scope_checks asked scope rest =
    check CaveatMethod (method_holds asked scope)
    ∷ check CaveatPath (path_holds asked scope)
    ∷ check CaveatBytes (bytes_hold asked scope)
    ∷ rest

unfoldable pub checks_of : List Row → Request → Token → List Check
checks_of rows asked token =
    check KidUnknown (has_row rows token.tid token.kid)
    ∷ check MacMismatch (same_of (chain_tag (key_for rows token) token) token.tag)
    ∷ check TenantMismatch (same_of token.tid asked.tenant)
    ∷ scope_checks asked token.scope (caveat_checks asked token.tid token.caveats)

unfoldable pub EachHolds : Request → List ℕ → List Caveat → Type 0
EachHolds asked tid [] = Unit {0}
EachHolds asked tid (caveat ∷ rest) = (caveat_holds asked tid caveat ≡ true) × EachHolds asked tid rest

-- its key is known, the chain gives its tag, and tenant, scope and every caveat hold
pub record AllHold (rows : List Row) (asked : Request) (token : Token) : Type 0 where
  pub known : has_row rows token.tid token.kid ≡ true
  pub tagged : chain_tag (key_for rows token) token ≡ token.tag
  pub own_tenant : token.tid ≡ asked.tenant
  pub holds_method : method_holds asked token.scope ≡ true
  pub holds_path : path_holds asked token.scope ≡ true
  pub holds_bytes : bytes_hold asked token.scope ≡ true
  pub caveats_hold : EachHolds asked token.tid token.caveats

pub record Allowed (rows : List Row) (asked : Request) (text : List ℕ) : Type 0 where
  pub token : Token
  pub canonical : Canonical text token
  pub all_hold : AllHold rows asked token
