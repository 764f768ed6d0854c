-- Texts within limits both ways: one that was written reads back, and what reads well was written so.
use Rattle.std.specs.Prelude.{Ok}
use mathlib.Core.Path.{◌≡◌, refl, sym, ap, ◌∙◌}
use mathlib.Core.List.{List, ◌++◌, append_assoc}
use Prim.Native.Nat.{ℕ, ◌+◌, ◌-◌, ◌^◌, ◌<◌}
use native.Mathlib.Omega.{arith}
use lib.ListN.{length, take, drop, length-drop}
use lib.Seq.{length-take-le, take-append_seam, drop-append_seam}
use Rattle.basis.specs.Basis.{from_to, between, IsBytes}
use Rattle.basis.specs.declared.Span.{Span}
use Rattle.basis.proofs.Parts.{ends}
use Rattle.cbor_heads.specs.Heads.{head}
use Rattle.cbor_strings.specs.Reading.{read_string}
use Rattle.cbor_strings.specs.declared.Class.{Class}
use Rattle.cbor_heads.proofs.HeadLaws.{head_unique}
use Rattle.cbor_strings.proofs.RunReads.{found, held}
use Rattle.cbor_strings.proofs.StringLaws.{read_string_written, content_there, written_run}
use Rattle.cbor_keys.specs.Maps.{text, GoodText}

pub text_written : (class : Class) (low high : ℕ) (m : List ℕ) → GoodText class low high m → high < 2 ^ 64 → (s rest : List ℕ) (at : ℕ) → drop at s ≡ text m ++ rest
    → read_string s at class low high ≡ Ok (from_to (at + length (head 3 (length m))) (at + length (text m)))
text_written class low high m g h s rest at e =
    let l = g.most in
    read_string_written s m rest at 3 e (omega arith) class low high refl g.enough l g.content
    ∙ ap (λ (to : ℕ). Ok (from_to (at + length (head 3 (length m))) to)) (ends (head 3 (length m)) m at)

-- what stands where the content was found
pub text_held : (m : List ℕ) → length m < 2 ^ 64 → (s rest : List ℕ) (at : ℕ) → drop at s ≡ text m ++ rest
    → between s (from_to (at + length (head 3 (length m))) (at + length (text m))) ≡ m
text_held m l s rest at e =
    let f = at + length (head 3 (length m)) in
    let n : at + length (text m) - f ≡ length m = rw (← ends (head 3 (length m)) m at) (omega arith) in
    ap (λ (k : ℕ). take k (drop f s)) n ∙ content_there s m rest at 3 e l

pub record IsText (class : Class) (low high : ℕ) (s : List ℕ) (at : ℕ) (part : Span) : Type 0 where
  pub tree : List ℕ
  pub good : GoodText class low high tree
  pub held : between s part ≡ tree
  pub there : drop at s ≡ text tree ++ drop part.to s

pub text_read : (class : Class) (low high : ℕ) (s : List ℕ) → IsBytes s → (at : ℕ) {part : Span} → read_string s at class low high ≡ Ok part → IsText class low high s at part
text_read class low high s b at {part} e =
    let h = held s at class low high e in
    let f = found s at 3 low high h.run_found in
    let n : length (between s part) ≡ part.to - part.from = length-take-le (part.to - part.from) (drop part.from s) (simp length-drop (omega (arith, f.order, f.inside))) in
    record {
      tree = between s part;
      good = record { enough = rw n f.enough; most = rw n f.most; content = h.good };
      held = refl;
      there = written_run s at 3 low high b h.run_found;
    }

-- one text for one encoding, whatever stands behind
pub text_one : (m n : List ℕ) → length m < 2 ^ 64 → length n < 2 ^ 64 → (t u : List ℕ) → text m ++ t ≡ text n ++ u → (m ≡ n) × (t ≡ u)
text_one m n lm ln t u e =
    let h = head_unique 3 (length m) 3 (length n) (m ++ t) (n ++ u) lm ln (sym (append_assoc (head 3 (length m)) m t) ∙ e ∙ append_assoc (head 3 (length n)) n u) in
    let q : length m ≡ length n = h.1 in
    let p : m ++ t ≡ n ++ u = h.2 in (
      sym (take-append_seam m t) ∙ ap (take (length m)) p ∙ ap (λ (k : ℕ). take k (n ++ u)) q ∙ take-append_seam n u,
      sym (drop-append_seam m t) ∙ ap (drop (length m)) p ∙ ap (λ (k : ℕ). drop k (n ++ u)) q ∙ drop-append_seam n u,
    )
