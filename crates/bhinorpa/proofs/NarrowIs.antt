-- Narrow, one equation for each case of its verdict.
use mathlib.Core.Path.{◌≡◌, refl, sym, ap, ◌∙◌}
use mathlib.Core.Bool.{Bool, true, false}
use mathlib.Core.List.{List, [], append-nil}
use Prim.Native.Nat.{ℕ, ◌+◌, ◌≤◌, ◌<◌}
use native.Mathlib.Omega.{arith}
use borrow.Author.Tests.{eq-eqb, ne_eqb, lt-ltb, le-ltb, le-leb, lt-leb}
use lib.Dec.{leb, ltb}
use lib.ListN.{length}
use Rattle.basis.specs.Basis.{pick, IsBytes}
use Rattle.basis.specs.Same.{same_of}
use Rattle.basis.proofs.Sameness.{same_equal, equal_same}
use Rattle.text_reading.specs.Reading.{decoded_of}
use Rattle.hash_chain.specs.Chain.{next_link}
use Rattle.token_caveat.proofs.CaveatMap.{defect_caveat}
use Rattle.token_caveat.specs.Caveats.{Caveat, encode_caveat}
use Rattle.token_caveat.specs.Reading.{caveat_of}
use Rattle.token_caveat.proofs.CaveatLaws.{caveat_written}
use Rattle.token.specs.Tokens.{Token, encode_token}
use Rattle.token.proofs.WritingLaws.{child_written}
use Rattle.records_table.specs.Tables.{Row, has_row}
use Rattle.outcome.specs.Decisions.{refused, granted}
use Rattle.narrow_child.specs.Child.{sized}
use Rattle.narrow.specs.Narrowing.{token_narrowed, bytes_narrowed, decoded_narrowed, text_narrowed, narrow_of}
use Rattle.narrow.proofs.Narrowed.{narrow_too_long, narrow_bad_table, narrow_good_table}
use Rattle.bhinorpa.specs.Allowed.{EncodesTable, token_text, Canonical, chain_tag, key_for}
use Rattle.bhinorpa.specs.NewTokens.{EncodesCaveat, Parent, child_token}
use Rattle.bhinorpa.specs.Verdicts.{NoTable, TextDefect, CaveatDefect, caveat_unreadable, caveat_left_over}
use Rattle.bhinorpa.proofs.Tables.{good_table, bad_table}
use Rattle.bhinorpa.proofs.Texts.{bytes_few, Unread, unread_long, unread_fault, unread_bytes, defect_unread}
use Rattle.bhinorpa.proofs.Items.{all_left}
use Rattle.bhinorpa.proofs.Parents.{add_tree, narrow_tree, narrow_canonical}

unread_refused : (table text bytes : List ℕ) (n : ℕ) → Unread text n → text_narrowed table text bytes ≡ refused n
unfolding text_narrowed decoded_of decoded_narrowed bytes_narrowed token_narrowed
unread_refused table text bytes n (unread_long l e) = sym (narrow_too_long table text bytes l) ∙ ap refused (sym e)
unread_refused table text bytes n (unread_fault l at j e) = rw (le-ltb 5462 (length text) l, j) (ap refused (sym e))
unread_refused table text bytes n (unread_bytes l k j d f m) = rw (le-ltb 5462 (length text) l, j, le-leb k 4096 (bytes_few text j l), f) (ap refused (sym m))

other_tag : (link tag : List ℕ) → (link ≡ tag → ⊥) → same_of link tag ≡ false
other_tag link tag h = by (same_of link tag) refl
  where
    by : (b : Bool) → same_of link tag ≡ b → b ≡ false
    by false e = refl
    by true e = let z = h (same_equal link tag e) in elim z [ ]

module _ (table text bytes : List ℕ) where
  pub narrow_no_table : IsBytes table → NoTable table → narrow_of table text bytes ≡ refused 1
  narrow_no_table b h = sym (narrow_bad_table table text bytes (bad_table table b h))

  module _ (rows : List Row) (t : EncodesTable table rows) where
    pub narrow_defect : (n : ℕ) → TextDefect text n → narrow_of table text bytes ≡ refused n
    narrow_defect n d = sym (narrow_good_table table text bytes (good_table table rows t)) ∙ unread_refused table text bytes n (defect_unread text n d)

    module _ (token : Token) (c : Canonical text token) where
      of_tree : narrow_of table text bytes ≡ narrow_tree rows token bytes
      of_tree = ap (λ (a : List ℕ). narrow_of a text bytes) t.written ∙ narrow_canonical rows t.good text token c bytes

      pub narrow_unknown : has_row rows token.tid token.kid ≡ false → narrow_of table text bytes ≡ refused 7
      narrow_unknown k = of_tree ∙ rw k

      pub narrow_other_tag : has_row rows token.tid token.kid ≡ true → (chain_tag (key_for rows token) token ≡ token.tag → ⊥) → narrow_of table text bytes ≡ refused 8
      narrow_other_tag k h = of_tree ∙ rw (k, other_tag (chain_tag (key_for rows token) token) token.tag h)

  module _ (rows : List Row) (token : Token) (p : Parent table text rows token) where
    tagged : narrow_of table text bytes ≡ add_tree (key_for rows token) (chain_tag (key_for rows token) token) token bytes (caveat_of bytes)
    tagged = of_tree rows p.table_is token p.canonical ∙ rw (p.known, equal_same (chain_tag (key_for rows token) token) token.tag p.tagged)

    pub narrow_caveat_defect : (n : ℕ) → CaveatDefect bytes n → narrow_of table text bytes ≡ refused (n + 27)
    narrow_caveat_defect n (caveat_unreadable d e m) = tagged ∙ rw (defect_caveat bytes e) (ap (λ (n : ℕ). refused (n + 27)) (sym m))
    narrow_caveat_defect n (caveat_left_over caveat g rest e h z) =
        let w = caveat_written caveat g bytes rest e in
        tagged ∙ rw (w.answer, ne_eqb (length (encode_caveat caveat)) (length bytes) (all_left bytes (encode_caveat caveat) rest e h)) (ap (λ (k : ℕ). refused (k + 27)) (sym z))

    module _ (added : Caveat) (a : EncodesCaveat bytes added) where
      child : List ℕ
      child = encode_token (child_token rows token added)

      -- what narrow makes of a good parent and a good caveat
      narrow_good : narrow_of table text bytes ≡ pick (leb 64 (length token.caveats)) (refused 34) (sized (encode_token (child_token rows token added)))
      narrow_good =
          let key = key_for rows token in
          let x = encode_caveat added in
          let w = caveat_written added a.good bytes [] (a.written ∙ sym (append-nil x)) in
          tagged
          ∙ rw (w.answer, eq-eqb (length x) (length bytes) (ap length (sym a.written)), p.tagged, a.written, child_written token added (next_link key token.tag x))

      pub narrow_is_full : length token.caveats ≡ 64 → narrow_of table text bytes ≡ refused 34
      narrow_is_full e = narrow_good ∙ rw (le-leb 64 (length token.caveats) (omega (arith, e)))

      pub narrow_sized : length token.caveats < 64
          → narrow_of table text bytes ≡ pick (ltb 4096 (length (encode_token (child_token rows token added)))) (refused 35) (granted (token_text (child_token rows token added)))
      unfolding sized
      narrow_sized l = narrow_good ∙ rw (lt-leb 64 (length token.caveats) l)

      pub narrow_too_large : length token.caveats < 64 → 4096 < length (encode_token (child_token rows token added)) → narrow_of table text bytes ≡ refused 35
      narrow_too_large l g = narrow_sized l ∙ rw (lt-ltb 4096 (length (encode_token (child_token rows token added))) g)

      pub narrow_granted : length token.caveats < 64 → length (encode_token (child_token rows token added)) ≤ 4096
          → narrow_of table text bytes ≡ granted (token_text (child_token rows token added))
      narrow_granted l g = narrow_sized l ∙ rw (le-ltb 4096 (length (encode_token (child_token rows token added))) g)
