-- Texts and tokens: every text has a first defect or is the canonical text of a token, and not both. What a defect is, on lists of bytes, is
-- what the readings find.
use Rattle.std.specs.Prelude.{Result, Ok, Err}
use Rattle.cbor_heads.specs.Defects.{Reading, kind_number}
use mathlib.Core.Path.{◌≡◌, refl, sym, ap, subst, ◌∙◌}
use mathlib.Core.Bool.{Bool, true, false}
use mathlib.Core.List.{List}
use Prim.Native.Nat.{ℕ, ◌≤◌, ◌<◌}
use native.Mathlib.Omega.{arith}
use borrow.Author.Tests.{ltb-true, ltb-false}
use lib.Dec.{ltb}
use lib.ListN.{length}
use Rattle.basis.specs.Basis.{IsBytes}
use Rattle.text_writing.specs.Base64url.{base64url}
use Rattle.text_reading.specs.Reading.{byte_length, judged_of, bytes_of}
use Rattle.cbor_heads.specs.declared.defect.Defect.{Defect}
use Rattle.cbor_heads.proofs.DefectKinds.{numbered}
use Rattle.text_reading.proofs.Decoding.{sound}
use Rattle.text_reading.proofs.TextLaws.{bytes_text, judged_text, whole_text, whole_bytes, whole_length}
use Rattle.token.specs.Tokens.{Token, encode_token}
use Rattle.token.specs.Reading.{token_of}
use Rattle.token.specs.declared.TokenAt.{TokenAt}
use Rattle.token.proofs.TokenWritten.{token_written}
use Rattle.token.proofs.TokenRead.{token_read}
use Rattle.token.proofs.TokenMap.{token_defect, defect_token}
use Rattle.outcome.proofs.Sizes.{short_text}
use Rattle.bhinorpa.specs.Allowed.{Canonical}
use Rattle.bhinorpa.specs.Verdicts.{TextDefect, too_long, no_base64, unreadable}
use Rattle.bhinorpa.specs.Demands.{DefectNoToken}

few_bytes : (l n : ℕ) → n ≡ byte_length l → l ≤ 5462 → n ≤ 4096
few_bytes l n e h = omega arith

pub bytes_few : (text : List ℕ) {n : ℕ} → judged_of text ≡ Ok n → length text ≤ 5462 → n ≤ 4096
bytes_few text {n} e h = few_bytes (length text) n (sound text e).count h

-- a text that reads well is that of one token
pub record Tokened (text : List ℕ) : Type 0 where
  pub token : Token
  pub canonical : Canonical text token

reads_canonical : (text : List ℕ) {n : ℕ} → judged_of text ≡ Ok n → length text ≤ 5462
    → {parts : TokenAt} → token_of (bytes_of text) ≡ Ok parts → Tokened text
reads_canonical text {n} j h e =
    let b = whole_bytes text j in
    let t = token_read (bytes_of text) b e in
    let l : length (encode_token t.tree) ≤ 4096 = subst (λ (s : List ℕ). length s ≤ 4096) t.whole (rw (whole_length text j) (bytes_few text j h)) in
    record {
      token = t.tree;
      canonical = record { good = t.good; are_bytes = subst IsBytes t.whole b; short = l; written = sym (whole_text text j) ∙ ap base64url t.whole };
    }

-- what the readings find of a text that is no token's
pub data Unread (text : List ℕ) (n : ℕ) : Type 0 where
  unread_long : 5462 < length text → n ≡ 5 → Unread text n
  unread_fault : length text ≤ 5462 → (at : ℕ) → judged_of text ≡ Err at → n ≡ 3 → Unread text n
  unread_bytes : length text ≤ 5462 → (k : ℕ) → judged_of text ≡ Ok k → (d : Defect) → token_of (bytes_of text) ≡ Err d → n ≡ kind_number d.kind → Unread text n

no_fault : (text bytes : List ℕ) → IsBytes bytes → text ≡ base64url bytes → (at : ℕ) → judged_of text ≡ Err at → ⊥
no_fault text bytes b e at j = apart (sym j ∙ ap judged_of e ∙ judged_text bytes b)
  where
    apart : {k : ℕ} → ◌≡◌ {A = Result ℕ ℕ} (Err at) (Ok k) → ⊥
    apart x = let z : ◌≡◌ {A = ℕ} 0 1 = cc in omega arith

pub defect_unread : (text : List ℕ) (n : ℕ) → TextDefect text n → Unread text n
defect_unread text n (too_long h e) = unread_long h e
defect_unread text n (no_base64 l h e) = by (judged_of text) refl
  where
    by : (j : Result ℕ ℕ) → judged_of text ≡ j → Unread text n
    by (Err at) j = unread_fault l at j e
    by (Ok k) j = let z = h (bytes_of text) (whole_bytes text j) (sym (whole_text text j)) in elim z [ ]
defect_unread text n (unreadable l bytes b e d f m) =
    unread_bytes l (length bytes) (ap judged_of e ∙ judged_text bytes b) d (ap token_of (ap bytes_of e ∙ bytes_text bytes b) ∙ defect_token bytes f) m

unread_defect : (text : List ℕ) (n : ℕ) → Unread text n → TextDefect text n
unread_defect text n (unread_long h e) = too_long h e
unread_defect text n (unread_fault l at j e) = no_base64 l (λ bytes b f. no_fault text bytes b f at j) e
unread_defect text n (unread_bytes l k j d f m) = unreadable l (bytes_of text) (whole_bytes text j) (sym (whole_text text j)) d (token_defect (bytes_of text) f) m

-- a defect's number is one of 3 to 6
pub defect_few : (text : List ℕ) (n : ℕ) → TextDefect text n → (3 ≤ n) × (n ≤ 6)
defect_few text n (too_long h e) = (omega (arith, e), omega (arith, e))
defect_few text n (no_base64 l h e) = (omega (arith, e), omega (arith, e))
defect_few text n (unreadable l bytes b e d f m) = let k = numbered d.kind in (omega (arith, k.0, m), omega (arith, k.1, m))

pub defect_no_token : DefectNoToken
defect_no_token text n d token c = by (defect_unread text n d)
  where
    bytes : List ℕ
    bytes = encode_token token

    apart : {d : Defect} {parts : TokenAt} → ◌≡◌ {A = Reading TokenAt} (Err d) (Ok parts) → ⊥
    apart q = let z : ◌≡◌ {A = ℕ} 0 1 = cc in omega arith

    by : Unread text n → ⊥
    by (unread_long h e) = omega (arith, h, subst (λ (x : List ℕ). length x ≤ 5462) (sym c.written) (short_text bytes c.short))
    by (unread_fault l at j e) = no_fault text bytes c.are_bytes c.written at j
    by (unread_bytes l k j d f m) = apart (sym f ∙ ap token_of (ap bytes_of c.written ∙ bytes_text bytes c.are_bytes) ∙ (token_written token c.good bytes refl).answer)

-- every text has a first defect, or is that of a token
pub data TextIs (text : List ℕ) : Type 0 where
  no_token : (n : ℕ) → TextDefect text n → TextIs text
  one_token : (token : Token) → Canonical text token → TextIs text

pub text_is : (text : List ℕ) → TextIs text
text_is text = by_length (ltb 5462 (length text)) refl
  where
    defect : (n : ℕ) → Unread text n → TextIs text
    defect n u = no_token n (unread_defect text n u)

    by_token : length text ≤ 5462 → (k : ℕ) → judged_of text ≡ Ok k → (p : Reading TokenAt) → token_of (bytes_of text) ≡ p → TextIs text
    by_token l k j (Err d) p = defect (kind_number d.kind) (unread_bytes l k j d p refl)
    by_token l k j (Ok parts) p = let t = reads_canonical text j l p in one_token t.token t.canonical

    by_judged : length text ≤ 5462 → (j : Result ℕ ℕ) → judged_of text ≡ j → TextIs text
    by_judged l (Err at) j = defect 3 (unread_fault l at j refl)
    by_judged l (Ok k) j = by_token l k j (token_of (bytes_of text)) refl

    by_length : (b : Bool) → ltb 5462 (length text) ≡ b → TextIs text
    by_length true p = defect 5 (unread_long (ltb-true 5462 (length text) p) refl)
    by_length false p = by_judged (ltb-false 5462 (length text) p) (judged_of text) refl
