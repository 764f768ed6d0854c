-- Demand 3, over demand 2's meaning of allowed: a child is allowed exactly when its parent is and the added caveat holds.
use mathlib.Core.Path.{◌≡◌, sym, ap, subst, ◌∙◌}
use mathlib.Core.Bool.{true}
use mathlib.Core.List.{List, [], ◌∷◌, ◌++◌}
use Prim.Native.Nat.{ℕ}
use lib.ListN.{take}
use Rattle.text_reading.specs.Reading.{bytes_of}
use Rattle.text_reading.proofs.TextLaws.{bytes_text}
use Rattle.token_caveat.specs.Caveats.{Caveat}
use Rattle.token.specs.Tokens.{Token, encode_token}
use Rattle.token.proofs.OneToken.{token_one}
use Rattle.records_table.specs.Tables.{Row}
use Rattle.records_request.specs.Requests.{Request}
use Rattle.rules.specs.Holding.{caveat_holds}
use Rattle.bhinorpa.specs.Allowed.{token_text, Canonical, chain_tag, key_for, EachHolds, AllHold, Allowed}
use Rattle.bhinorpa.specs.NewTokens.{child_token}
use Rattle.bhinorpa.specs.Demands.{NarrowingExact}
use Rattle.bhinorpa.proofs.NewTokens.{child_tagged}
use Rattle.bhinorpa.proofs.Rooms.{granted_text, front_text}
use Rattle.bhinorpa.proofs.DemandsVerify.{allowed_exactly}
use Rattle.bhinorpa.proofs.DemandsNarrow.{child_of}

each_behind : (asked : Request) (tid : List ℕ) (cs : List Caveat) (added : Caveat) → EachHolds asked tid cs → caveat_holds asked tid added ≡ true → EachHolds asked tid (cs ++ (added ∷ []))
unfolding EachHolds
each_behind asked tid [] added h k = (k, tt)
each_behind asked tid (c ∷ cs) added h k = (h.0, each_behind asked tid cs added h.1 k)

each_split : (asked : Request) (tid : List ℕ) (cs : List Caveat) (added : Caveat) → EachHolds asked tid (cs ++ (added ∷ [])) → EachHolds asked tid cs × (caveat_holds asked tid added ≡ true)
unfolding EachHolds
each_split asked tid [] added h = (tt, h.0)
each_split asked tid (c ∷ cs) added h = let s = each_split asked tid cs added h.1 in ((h.0, s.0), s.1)

-- what holds of the child
module _ (rows : List Row) (asked : Request) (token : Token) (added : Caveat) where
  child_holds : AllHold rows asked token → caveat_holds asked token.tid added ≡ true → AllHold rows asked (child_token rows token added)
  child_holds a k =
      record {
        known = a.known;
        tagged = child_tagged rows token added a.tagged;
        own_tenant = a.own_tenant;
        holds_method = a.holds_method;
        holds_path = a.holds_path;
        holds_bytes = a.holds_bytes;
        caveats_hold = each_behind asked token.tid token.caveats added a.caveats_hold k;
      }

  parent_holds : chain_tag (key_for rows token) token ≡ token.tag → AllHold rows asked (child_token rows token added) → AllHold rows asked token × (caveat_holds asked token.tid added ≡ true)
  parent_holds e a =
      let s = each_split asked token.tid token.caveats added a.caveats_hold in (
        record {
          known = a.known;
          tagged = e;
          own_tenant = a.own_tenant;
          holds_method = a.holds_method;
          holds_path = a.holds_path;
          holds_bytes = a.holds_bytes;
          caveats_hold = s.0;
        },
        s.1,
      )

-- a text is that of one token, so all of that token holds where the text is allowed
allowed_holds : (rows : List Row) (asked : Request) (text : List ℕ) (token : Token) → Canonical text token → Allowed rows asked text → AllHold rows asked token
allowed_holds rows asked text token c a = subst (AllHold rows asked) (token_one a.token token a.canonical.good c.good same) a.all_hold
  where
    same : encode_token a.token ≡ encode_token token
    same =
        sym (bytes_text (encode_token a.token) a.canonical.are_bytes)
        ∙ ap bytes_of (sym a.canonical.written ∙ c.written)
        ∙ bytes_text (encode_token token) c.are_bytes

pub narrowing_exact : NarrowingExact
narrowing_exact table text bytes bt bb entry outcome exit w z =
    let c = child_of table text bytes bt bb entry outcome exit w z in
    let rows = c.rows in
    let token = c.token in
    let added = c.added in
    let p = c.parent in
    let child = child_token rows token added in
    let left = front_text (token_text child) entry outcome exit (granted_text (token_text child) entry outcome exit c.room z).1 in
    let k : Canonical (take outcome.length exit) child = subst (λ (x : List ℕ). Canonical x child) (sym left) c.canonical in
    let down : (asked : Request) → Allowed rows asked (take outcome.length exit) → Allowed rows asked text × (caveat_holds asked token.tid added ≡ true) =
    λ asked a.
    let h = parent_holds rows asked token added p.tagged (allowed_holds rows asked (take outcome.length exit) child k a) in
    (record { token = token; canonical = p.canonical; all_hold = h.0 }, h.1) in
    let up : (asked : Request) → Allowed rows asked text × (caveat_holds asked token.tid added ≡ true) → Allowed rows asked (take outcome.length exit) =
    λ asked a.
    record {
      token = child;
      canonical = k;
      all_hold = child_holds rows asked token added (allowed_holds rows asked text token p.canonical a.0) a.1;
    } in
    record {
      rows = rows;
      token = token;
      parent = p;
      added = added;
      caveat_is = c.caveat_is;
      exactly = λ asked. (down asked, up asked);
      by_verify = λ request asked r.
          let of-child = allowed_exactly table request (take outcome.length exit) rows p.table_is asked r in
          let of-parent = allowed_exactly table request text rows p.table_is asked r in (
            λ e. let h = down asked (of-child.0 e) in (of-parent.1 h.0, h.1),
            λ h. of-child.1 (up asked (of-parent.0 h.0, h.1)),
          );
    }
