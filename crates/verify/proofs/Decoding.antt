-- The text decoded into a room of 4,096 bytes: what the answer says of it, and which check it decides.
use mathlib.Core.Path.{◌≡◌, refl, sym, ap, ◌∙◌}
use mathlib.Core.Bool.{Bool, true, false}
use mathlib.Core.List.{List}
use Prim.Native.Nat.{ℕ, ◌-◌, ◌<◌, ◌≤◌}
use native.Mathlib.Omega.{arith}
use borrow.Author.Tests.{lt-ltb, le-ltb, leb-true}
use lib.Dec.{leb}
use lib.ListN.{length, take, drop, length-take}
use lib.Seq.{take_at}
use Rattle.basis.specs.Basis.{pick}
use Rattle.text_reading.specs.Reading.{undecoded_answer, judged_of, bytes_of, decoded_of, left_of, Filled}
use Rattle.std.specs.Prelude.{Result, Ok, Err}
use Rattle.basis.proofs.Pairs.{ok_same}
use Rattle.text_reading.specs.declared.Undecoded.{Undecoded}
use Rattle.text_reading.specs.declared.Undecoded.TheVariants.{Short}
use Rattle.answers.specs.Answers.{number_of}
use Rattle.text_reading.proofs.TextLaws.{whole_length}
use Rattle.records_request.specs.declared.RequestAt.{RequestAt}
use Rattle.verify.specs.Verifying.{bytes_judged, decoded_judged, text_judged}

-- bytes were told: the text is whole, and the room holds them
pub record Told (text : List ℕ) (n room : ℕ) : Type 0 where
  pub whole : judged_of text ≡ Ok n
  pub fits : n ≤ room

pub told_bytes : (text : List ℕ) (n room : ℕ) → decoded_of (judged_of text) room ≡ Ok n → Told text n room
unfolding decoded_of
told_bytes text n room = by (judged_of text) refl
  where
    by_room : (m : ℕ) → judged_of text ≡ Ok m → (b : Bool) → leb m room ≡ b → pick b (Ok m) (Err Short) ≡ Ok n → Told text n room
    by_room m p true l e = let x : m ≡ n = ok_same e in record { whole = p ∙ ap Ok x; fits = rw (← x) (leb-true m room l) }
    by_room m p false l e = let z : ◌≡◌ {A = ℕ} 0 1 = cc in let z : ⊥ = omega arith in elim z [ ]

    by : (j : Result ℕ ℕ) → judged_of text ≡ j → decoded_of j room ≡ Ok n → Told text n room
    by (Err at) p e = let z : ◌≡◌ {A = ℕ} 0 1 = cc in let z : ⊥ = omega arith in elim z [ ]
    by (Ok m) p e = by_room m p (leb m room) refl e

module _ (text entry : List ℕ) (r : Result ℕ Undecoded) (exit : List ℕ) (f : Filled text entry r exit) {n : ℕ} (e : r ≡ Ok n) where
  told : Told text n (length entry)
  told = told_bytes text n (length entry) (sym f.answer ∙ e)

  pub bytes_fit : length exit ≡ length entry → n ≤ length exit
  bytes_fit k = let t = told.fits in omega arith

  -- the part that is lent holds the text's bytes
  pub bytes_lent : take (n - 0) exit ≡ bytes_of text
  unfolding left_of
  bytes_lent =
      let c : exit ≡ left_of (Ok n) (bytes_of text) entry = f.content ∙ ap (λ (d : Result ℕ Undecoded). left_of d (bytes_of text) entry) e in
      let z : n - 0 ≡ n = omega arith in
      ap (take (n - 0)) c ∙ take_at (bytes_of text) (drop (length (bytes_of text)) entry) (n - 0) (whole_length text told.whole ∙ sym z)

  pub lent_short : length entry ≡ 4096 → length (take (n - 0) exit) ≤ 4096
  lent_short l = let t = told.fits in rw length-take (omega arith)

module _ (table text body : List ℕ) (q : RequestAt) where
  pub too_long : 5462 < length text → 5 ≡ text_judged table text body q
  unfolding text_judged
  too_long h = rw (lt-ltb 5462 (length text) h)

  module _ (h : length text ≤ 5462) (entry : List ℕ) (l : length entry ≡ 4096) (r : Result ℕ Undecoded) (exit : List ℕ) (f : Filled text entry r exit) where
    decoded : decoded_judged table text body q r ≡ text_judged table text body q
    unfolding text_judged
    decoded = rw (le-ltb 5462 (length text) h, ← l, f.answer)

    pub no_bytes : {e : Undecoded} → r ≡ Err e → number_of (undecoded_answer e) ≡ text_judged table text body q
    unfolding decoded_judged
    no_bytes e = rw e at decoded

    pub whole_text : {n : ℕ} → r ≡ Ok n → {s : List ℕ} → s ≡ bytes_of text → bytes_judged table s body q ≡ text_judged table text body q
    unfolding decoded_judged
    whole_text e s = rw s (rw e at decoded)
