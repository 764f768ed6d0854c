-- What is handed out and what the room holds then: the contract's words (`Carried`) and the verdicts' (`Refuses`, `RoomVerdict`) are one.
use mathlib.Core.Path.{◌≡◌, refl, sym, ap, subst, ◌∙◌}
use mathlib.Core.Bool.{Bool, true, false}
use mathlib.Core.List.{List}
use Prim.Native.Nat.{ℕ, ◌≤◌}
use native.Mathlib.Omega.{arith}
use borrow.Author.Tests.{leb-true, leb-false, le-leb, lt-leb}
use lib.Dec.{leb}
use lib.ListN.{length, take}
use lib.Seq.{take_at}
use Rattle.basis.specs.Basis.{pick, over}
use Rattle.text_writing.proofs.Writings.{text_length_lem}
use Rattle.token.specs.Tokens.{Token, encode_token}
use Rattle.outcome.specs.Decisions.{Decision, refused, granted, Carried}
use Rattle.outcome.specs.declared.Outcome.{Outcome}
use Rattle.bhinorpa.specs.Allowed.{token_text, Canonical}
use Rattle.bhinorpa.specs.NewTokens.{Wrote}
use Rattle.bhinorpa.specs.Verdicts.{Refuses, Writes, RoomVerdict, out_short, done}
use Rattle.bhinorpa.specs.Demands.{RefusalWritesNothing}

module _ (h : Decision) (entry : List ℕ) (outcome : Outcome) (exit : List ℕ) where
  pub refuses : (n : ℕ) → h ≡ refused n → Carried h entry outcome exit → Refuses n entry outcome exit
  refuses n e w =
      let v : Carried (refused n) entry outcome exit = subst (λ x. Carried x entry outcome exit) e w in
      record { answer = v.answer; count = v.count; content = v.content }

  pub refuses_back : (n : ℕ) → h ≡ refused n → Refuses n entry outcome exit → Carried h entry outcome exit
  refuses_back n e r =
      let v : Carried (refused n) entry outcome exit = record { answer = r.answer; count = r.count; content = r.content } in
      subst (λ x. Carried x entry outcome exit) (sym e) v

  pub in_room : (text : List ℕ) → h ≡ granted text → Carried h entry outcome exit → RoomVerdict text entry outcome exit
  in_room text e w =
      let v : Carried (granted text) entry outcome exit = subst (λ x. Carried x entry outcome exit) e w in
      by (leb (length text) (length entry)) refl v.answer v.count v.content
    where
      by : (b : Bool) → leb (length text) (length entry) ≡ b → outcome.answer ≡ pick b 0 36 → outcome.length ≡ pick b (length text) 0 → exit ≡ pick b (over text entry) entry
          → RoomVerdict text entry outcome exit
      by true p a n c = done (leb-true (length text) (length entry) p) (record { answer = a; count = n; content = c })
      by false p a n c = out_short (leb-false (length text) (length entry) p) (record { answer = a; count = n; content = c })

  pub in_room_back : (text : List ℕ) → h ≡ granted text → RoomVerdict text entry outcome exit → Carried h entry outcome exit
  in_room_back text e o = subst (λ x. Carried x entry outcome exit) (sym e) (by o)
    where
      by : RoomVerdict text entry outcome exit → Carried (granted text) entry outcome exit
      by (done l r) = let q = le-leb (length text) (length entry) l in record { answer = rw q r.answer; count = rw q r.count; content = rw q r.content }
      by (out_short l r) = let q = lt-leb (length text) (length entry) l in record { answer = rw q r.answer; count = rw q r.count; content = rw q r.content }

-- what is handed out and answered with 0 is the text, whole
pub granted_text : (text entry : List ℕ) (outcome : Outcome) (exit : List ℕ) → RoomVerdict text entry outcome exit → outcome.answer ≡ 0
    → (length text ≤ length entry) × Writes text entry outcome exit
granted_text text entry outcome exit (done l r) z = (l, r)
granted_text text entry outcome exit (out_short l r) z = let x : ⊥ = omega (arith, r.answer, z) in elim x [ ]

pub wrote : (token : Token) (entry : List ℕ) (outcome : Outcome) (exit : List ℕ) → Canonical (token_text token) token → RoomVerdict (token_text token) entry outcome exit
    → outcome.answer ≡ 0 → Wrote token entry outcome exit
wrote token entry outcome exit c o z =
    let w = granted_text (token_text token) entry outcome exit o z in
    record {
      text = token_text token;
      canonical = c;
      enough = w.0;
      content = w.1.content;
      count = w.1.count;
      formula = w.1.count ∙ text_length_lem (encode_token token);
    }

-- the text stands at the front of the room
pub front_text : (text entry : List ℕ) (outcome : Outcome) (exit : List ℕ) → Writes text entry outcome exit → take outcome.length exit ≡ text
front_text text entry outcome exit r =
    ap (λ (n : ℕ). take n exit) r.count ∙ ap (take (length text)) r.content ∙ take_at text _ (length text) refl

pub refusal_writes_nothing : RefusalWritesNothing
refusal_writes_nothing (refused n) entry outcome exit w d = (w.count, w.content)
refusal_writes_nothing (granted text) entry outcome exit w d = by (in_room (granted text) entry outcome exit text refl w)
  where
    by : RoomVerdict text entry outcome exit → (outcome.length ≡ 0) × (exit ≡ entry)
    by (done l r) = let z = d r.answer in elim z [ ]
    by (out_short l r) = (r.count, r.content)
