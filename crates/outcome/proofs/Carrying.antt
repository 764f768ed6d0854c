-- What is written into a room is what is handed out: of a text by its encoder, and of a token by its writer.
use mathlib.Core.Path.{◌≡◌, refl, sym, ap, ◌∙◌}
use mathlib.Core.Bool.{Bool, true, false}
use mathlib.Core.List.{List}
use Prim.Native.Nat.{ℕ, ◌-◌, ◌^◌, ◌≤◌, ◌<◌}
use native.Mathlib.Omega.{arith}
use borrow.Author.Tests.{le-leb, leb-true, leb-false}
use lib.Dec.{leb}
use lib.ListN.{length, take, drop}
use lib.Seq.{take_at}
use Rattle.std.specs.Prelude.{Option, Some, None, Ok}
use Rattle.basis.specs.Basis.{pick, over, Written}
use Rattle.basis.proofs.Pairs.{some_same}
use Rattle.text_writing.specs.Base64url.{base64url}
use Rattle.outcome.specs.Decisions.{Decision, refused, granted, refusal, outcome_of, Carried}
use Rattle.outcome.specs.declared.Outcome.{Outcome}
use Rattle.outcome.proofs.Sizes.{short_text}

pub refused_is : {n : ℕ} {entry : List ℕ} → Carried (refused n) entry (refusal n) entry
refused_is = record { answer = refl; count = refl; content = refl }

pub moved : {h k : Decision} {entry : List ℕ} {r : Outcome} {exit : List ℕ} → h ≡ k → Carried h entry r exit → Carried k entry r exit
moved e w = rw (← e) w

-- what a writer told, by whether the room holds the text
module _ (text entry : List ℕ) {r : Option ℕ} {exit : List ℕ} (w : Written text entry r exit) where
  told_some : {n : ℕ} → r ≡ Some n → (b : Bool) → leb (length text) (length entry) ≡ b → pick b (Some (length text)) None ≡ Some n → (b ≡ true) × (length text ≡ n)
  told_some e true p q = (refl, some_same q)
  told_some e false p q = let z : ◌≡◌ {A = ℕ} 0 1 = cc in let z : ⊥ = omega arith in elim z [ ]

  told_none : (b : Bool) → pick b (Some (length text)) None ≡ None → b ≡ false
  told_none true q = let z : ◌≡◌ {A = ℕ} 0 1 = cc in let z : ⊥ = omega arith in elim z [ ]
  told_none false q = refl

  -- a text that its room holds
  module _ {n : ℕ} (e : r ≡ Some n) where
    held : (leb (length text) (length entry) ≡ true) × (length text ≡ n)
    held = told_some e (leb (length text) (length entry)) refl (sym w.counted ∙ e)

    made_content : exit ≡ over text entry
    made_content = w.content ∙ ap (λ (b : Bool). pick b (over text entry) entry) held.0

    pub made_fits : length text ≤ length entry
    made_fits = leb-true (length text) (length entry) held.0

    pub made_lent : take (n - 0) exit ≡ text
    made_lent =
        let z : n - 0 ≡ length text = omega (arith, held.1) in
        ap (take (n - 0)) made_content ∙ take_at text (drop (length text) entry) (n - 0) (sym z)

    -- what a writer says that it wrote is inside of its room
    pub said_inside : length exit ≡ length entry → n ≤ length exit
    said_inside k = omega (arith, made_fits, held.1, k)

  pub made_none : r ≡ None → length entry < length text
  made_none e = leb-false (length text) (length entry) (told_none (leb (length text) (length entry)) (sym w.counted ∙ e))

  -- and one that it would hold is written
  pub made_some : length text ≤ length entry → r ≡ Some (length text)
  made_some h = w.counted ∙ ap (λ (b : Bool). pick b (Some (length text)) None) (le-leb (length text) (length entry) h)

module _ (bytes entry : List ℕ) {r : Option ℕ} {exit : List ℕ} (w : Written (base64url bytes) entry r exit) where
  abbrev text : List ℕ
  text = base64url bytes

  pub text_carried : {n : ℕ} → r ≡ Some n → Carried (granted text) entry (outcome_of (Ok n)) exit
  text_carried e =
      let f = held text entry w e in
      record { answer = rw f.0; count = rw f.0 (sym f.1); content = rw f.0 (made_content text entry w e) }

  pub none_carried : r ≡ None → Carried (granted text) entry (refusal 36) exit
  none_carried e =
      let f = told_none text entry w (leb (length text) (length entry)) (sym w.counted ∙ e) in
      let c : exit ≡ entry = w.content ∙ ap (λ (b : Bool). pick b (over text entry) entry) f in
      record { answer = rw f; count = rw f; content = rw f c }

  pub count_fits : length bytes ≤ 4096 → {n : ℕ} → r ≡ Some n → n < 2 ^ 32
  count_fits l e = let f = held text entry w e in let s = short_text bytes l in omega (arith, f.1)
