-- Narrow: what each check before the caveat decides, in the terms that the code has.
use Rattle.std.specs.Prelude.{Result, Ok, Err}
use Rattle.cbor_heads.specs.Defects.{kind_number}
use Rattle.cbor_heads.specs.declared.defect.Defect.{Defect}
use mathlib.Core.Path.{◌≡◌}
use mathlib.Core.Bool.{true, false}
use mathlib.Core.List.{List}
use Prim.Native.Nat.{ℕ, ◌≤◌, ◌<◌}
use borrow.Author.Tests.{eq-eqb, ne_eqb, lt-ltb, le-ltb}
use lib.ListN.{length}
use Rattle.basis.specs.Basis.{between}
use Rattle.basis.specs.Same.{same_of}
use Rattle.text_reading.specs.Reading.{undecoded_answer, bytes_of, Filled}
use Rattle.text_reading.specs.declared.Undecoded.{Undecoded}
use Rattle.answers.specs.Answers.{number_of}
use Rattle.token_caveat.specs.Reading.{caveat_of}
use Rattle.token.specs.Reading.{token_of}
use Rattle.records_table.specs.Reading.{table_ok, find_from}
use Rattle.token.specs.declared.TokenAt.{TokenAt}
use Rattle.verify_walk.specs.Walking.{link_first, links_of}
use Rattle.outcome.specs.Decisions.{refused}
use Rattle.narrow_child.specs.Child.{caveat_added}
use Rattle.narrow.specs.Narrowing.{last_link, tag_narrowed, key_narrowed, token_narrowed, bytes_narrowed, decoded_narrowed, text_narrowed, narrow_of}

module _ (key s : List ℕ) (p : TokenAt) (caveat : List ℕ) {first link tag : List ℕ} (ef : first ≡ link_first key s p) (el : link ≡ links_of s p.caveats key first)
    (eg : tag ≡ between s p.tag) where
  is_last : link ≡ last_link key s p
  is_last = rw (el, ef)

  pub narrow_other_tag : same_of link tag ≡ false → refused 8 ≡ tag_narrowed key s p caveat
  unfolding tag_narrowed
  narrow_other_tag e = rw (← is_last, ← eg, e)

  pub narrow_right_tag : same_of link tag ≡ true → caveat_added key link s p caveat (caveat_of caveat) ≡ tag_narrowed key s p caveat
  unfolding tag_narrowed
  narrow_right_tag e = rw (← is_last, ← eg, e)

module _ (table s caveat : List ℕ) where
  pub narrow_unreadable : {d : Defect} → token_of s ≡ Err d → refused (kind_number d.kind) ≡ bytes_narrowed table s caveat
  unfolding bytes_narrowed token_narrowed
  narrow_unreadable e = rw e

  module _ {p : TokenAt} (e : token_of s ≡ Ok p) {t k key : List ℕ} (et : t ≡ between s p.tid) (ek : k ≡ between s p.kid) (ef : key ≡ find_from 64 table t k 0) where
    found : key_narrowed key s p caveat ≡ bytes_narrowed table s caveat
    unfolding bytes_narrowed token_narrowed
    found = rw (e, ef, et, ek)

    pub narrow_found : length key ≡ 32 → tag_narrowed key s p caveat ≡ bytes_narrowed table s caveat
    unfolding key_narrowed
    narrow_found l = rw (eq-eqb (length key) 32 l) at found

    pub narrow_no_key : (length key ≡ 32 → ⊥) → refused 7 ≡ bytes_narrowed table s caveat
    unfolding key_narrowed
    narrow_no_key l = rw (ne_eqb (length key) 32 l) at found

module _ (table text caveat : List ℕ) where
  pub narrow_too_long : 5462 < length text → refused 5 ≡ text_narrowed table text caveat
  unfolding text_narrowed
  narrow_too_long h = rw (lt-ltb 5462 (length text) h)

  module _ (h : length text ≤ 5462) (entry : List ℕ) (l : length entry ≡ 4096) (r : Result ℕ Undecoded) (exit : List ℕ) (f : Filled text entry r exit) where
    decoded : decoded_narrowed table text caveat r ≡ text_narrowed table text caveat
    unfolding text_narrowed
    decoded = rw (le-ltb 5462 (length text) h, ← l, f.answer)

    pub narrow_no_bytes : {e : Undecoded} → r ≡ Err e → refused (number_of (undecoded_answer e)) ≡ text_narrowed table text caveat
    unfolding decoded_narrowed
    narrow_no_bytes e = rw e at decoded

    pub narrow_whole : {n : ℕ} → r ≡ Ok n → {s : List ℕ} → s ≡ bytes_of text → bytes_narrowed table s caveat ≡ text_narrowed table text caveat
    unfolding decoded_narrowed
    narrow_whole e s = rw s (rw e at decoded)

  pub narrow_bad_table : table_ok table ≡ false → refused 1 ≡ narrow_of table text caveat
  unfolding narrow_of
  narrow_bad_table e = rw e

  pub narrow_good_table : table_ok table ≡ true → text_narrowed table text caveat ≡ narrow_of table text caveat
  unfolding narrow_of
  narrow_good_table e = rw e
