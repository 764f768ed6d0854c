-- Of a canonical parent, narrow's checks where the parts lie are checks on its tree.
use Rattle.std.specs.Prelude.{Ok, Err}
use Rattle.cbor_heads.specs.Defects.{Reading, kind_number}
use Rattle.token_caveat_values.specs.declared.CaveatAt.{CaveatAt}
use mathlib.Core.Path.{◌≡◌, refl, ap}
use mathlib.Core.List.{List}
use Prim.Native.Nat.{ℕ, ◌+◌}
use borrow.Author.Tests.{le-ltb, le-leb}
use lib.Dec.{eqb, leb}
use lib.ListN.{length, drop}
use Rattle.basis.specs.Basis.{pick}
use Rattle.basis.specs.Same.{same_of}
use Rattle.text_writing.specs.Base64url.{base64url}
use Rattle.text_reading.specs.Reading.{decoded_of}
use Rattle.text_reading.proofs.TextLaws.{bytes_text, judged_text}
use Rattle.hash_chain.specs.Chain.{first_link, next_link, tag_of}
use Rattle.token_scope.specs.Scopes.{encode_scope}
use Rattle.token_caveat.specs.Reading.{caveat_of}
use Rattle.token.specs.Tokens.{Token, encode_caveats, encode_token, GoodToken}
use Rattle.token.specs.declared.TokenAt.{TokenAt}
use Rattle.token.specs.Writing.{child_bytes}
use Rattle.token.proofs.TokenWritten.{token_written}
use Rattle.token.proofs.Holds.{Holds}
use Rattle.records_table.specs.Tables.{Row, encode_table, GoodTable, has_row}
use Rattle.records_table.proofs.TableLaws.{table_written, find_finds, key_of_row}
use Rattle.verify_walk.specs.Walking.{links_of}
use Rattle.outcome.specs.Decisions.{Decision, refused}
use Rattle.narrow_child.specs.Child.{sized, child_of, caveat_added}
use Rattle.narrow.specs.Narrowing.{tag_narrowed, key_narrowed, token_narrowed, bytes_narrowed, decoded_narrowed, text_narrowed, narrow_of}
use Rattle.outcome.proofs.Sizes.{short_text}
use Rattle.bhinorpa.specs.Allowed.{Canonical, chain_tag, key_for}
use Rattle.bhinorpa.proofs.Walks.{links_law}

-- the checks behind the tag, of the parent's tree
abbrev pub child_tree : List ℕ → List ℕ → Token → List ℕ → Decision
child_tree key link t caveat =
    pick (leb 64 (length t.caveats)) (refused 34)
    (sized (child_bytes (length t.caveats) (encode_caveats t.caveats) caveat (encode_scope t.scope) (next_link key link caveat) t.kid t.tid))

abbrev pub add_tree : List ℕ → List ℕ → Token → List ℕ → Reading (CaveatAt × ℕ) → Decision
add_tree key link t caveat (Err d) = refused (kind_number d.kind + 27)
add_tree key link t caveat (Ok (part, next)) = pick (eqb next (length caveat)) (child_tree key link t caveat) (refused 31)

abbrev pub narrow_tree : List Row → Token → List ℕ → Decision
narrow_tree rows t caveat =
    pick (has_row rows t.tid t.kid)
    (pick (same_of (chain_tag (key_for rows t) t) t.tag) (add_tree (key_for rows t) (chain_tag (key_for rows t) t) t caveat (caveat_of caveat)) (refused 8)) (refused 7)

module _ (key s : List ℕ) (t : Token) (g : GoodToken t) (caveat : List ℕ) {p : TokenAt} (w : Holds s t p) where
  child_law : (link : List ℕ) → child_of key link s p caveat ≡ child_tree key link t caveat
  unfolding child_of
  child_law link = rw (← w.front.counted_so, w.front.caveats_held, w.front.scope_held, w.back.kid_held, w.back.tid_held)

  add_law : (link : List ℕ) (r : Reading (CaveatAt × ℕ)) → caveat_added key link s p caveat r ≡ add_tree key link t caveat r
  unfolding caveat_added
  add_law link (Err d) = refl
  add_law link (Ok (part, next)) = ap (λ (h : Decision). pick (eqb next (length caveat)) h (refused 31)) (child_law link)

  last_law : links_of s p.caveats key (first_link key t.tid t.kid (encode_scope t.scope)) ≡ chain_tag key t
  unfolding tag_of
  last_law =
      rw (← w.front.counted_so)
      (links_law key t.caveats g.each s (drop p.caveats.span.to s) p.caveats.span.from w.front.caveats_lie
      (first_link key t.tid t.kid (encode_scope t.scope)))

parent_law : (rows : List Row) → GoodTable rows → (t : Token) → GoodToken t → (s : List ℕ) → s ≡ encode_token t → (caveat : List ℕ)
    → bytes_narrowed (encode_table rows) s caveat ≡ narrow_tree rows t caveat
unfolding bytes_narrowed token_narrowed key_narrowed tag_narrowed
parent_law rows gr t g s e caveat =
    let w = token_written t g s e in
    let key = key_for rows t in
    rw (
      w.answer,
      w.holds.back.tid_held,
      w.holds.back.kid_held,
      w.holds.front.scope_held,
      find_finds rows gr t.tid t.kid,
      key_of_row rows gr t.tid t.kid,
      last_law key s t g caveat w.holds,
      w.holds.back.tag_held,
      add_law key s t g caveat w.holds (chain_tag key t) (caveat_of caveat),
    )

-- of any canonical text
pub narrow_canonical : (rows : List Row) → GoodTable rows → (text : List ℕ) (t : Token) → Canonical text t → (caveat : List ℕ)
    → narrow_of (encode_table rows) text caveat ≡ narrow_tree rows t caveat
unfolding narrow_of text_narrowed decoded_of decoded_narrowed
narrow_canonical rows gr text t c caveat =
    let b = encode_token t in
    let l = short_text b c.short in
    rw (table_written rows gr, c.written, le-ltb 5462 (length (base64url b)) l, judged_text b c.are_bytes, le-leb (length b) 4096 c.short, bytes_text b c.are_bytes)
    (parent_law rows gr t c.good b refl caveat)
