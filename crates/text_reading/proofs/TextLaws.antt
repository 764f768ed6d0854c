-- One text for one list of bytes: decoding what encoding wrote gives the bytes, and whatever decodes is what encoding its bytes
-- writes.
use mathlib.Core.Path.{◌≡◌, refl, sym, ◌∙◌}
use mathlib.Core.Bool.{false}
use mathlib.Core.List.{List, [], ◌∷◌}
use Prim.Native.Nat.{ℕ, zero, suc, ◌+◌, ◌*◌, ◌/◌, ◌%◌, ◌≤◌, ◌<◌}
use native.Mathlib.Omega.{arith}
use borrow.Author.Tests.{lt-leb, ne_eqb}
use lib.ListN.{length}
use Rattle.basis.specs.Basis.{IsBytes}
use Rattle.text_writing.specs.Base64url.{letter_of, base64url}
use Rattle.text_reading.specs.Reading.{digit_of, is_bad, bad_at, unused_of, byte_length, judged_of, bytes_of}
use Rattle.std.specs.Prelude.{None, Ok}
use Rattle.std.specs.List.{position_or_len}
use Rattle.text_reading.proofs.Letters.{digit_letter, letter_digit}
use Rattle.text_reading.proofs.Judging.{letter_at, letters_parts, none_after}
use Rattle.text_reading.proofs.Filling.{bytes_length}
use Rattle.text_reading.proofs.Decoding.{sound}

-- the digits of a text that was written
module _ (x y z : ℕ) (hx : x < 256) (hy : y < 256) (hz : z < 256) where
  d1 : digit_of (letter_of (x / 4)) ≡ x / 4
  d1 = digit_letter (x / 4) (omega arith)

  d2 : digit_of (letter_of (x % 4 * 16 + y / 16)) ≡ x % 4 * 16 + y / 16
  d2 = digit_letter (x % 4 * 16 + y / 16) (omega arith)

  d3 : digit_of (letter_of (y % 16 * 4 + z / 64)) ≡ y % 16 * 4 + z / 64
  d3 = digit_letter (y % 16 * 4 + z / 64) (omega arith)

  d4 : digit_of (letter_of (z % 64)) ≡ z % 64
  d4 = digit_letter (z % 64) (omega arith)

  e2 : digit_of (letter_of (x % 4 * 16)) ≡ x % 4 * 16
  e2 = digit_letter (x % 4 * 16) (omega arith)

  e3 : digit_of (letter_of (y % 16 * 4)) ≡ y % 16 * 4
  e3 = digit_letter (y % 16 * 4) (omega arith)

  v1 : x / 4 * 4 + (x % 4 * 16 + y / 16) / 16 ≡ x
  v1 = omega arith

  v2 : (x % 4 * 16 + y / 16) % 16 * 16 + (y % 16 * 4 + z / 64) / 4 ≡ y
  v2 = omega arith

  v3 : (y % 16 * 4 + z / 64) % 4 * 64 + z % 64 ≡ z
  v3 = omega arith

  w1 : x / 4 * 4 + x % 4 * 16 / 16 ≡ x
  w1 = omega arith

  w2 : (x % 4 * 16 + y / 16) % 16 * 16 + y % 16 * 4 / 4 ≡ y
  w2 = omega arith

pub bytes_text : (b : List ℕ) → IsBytes b → bytes_of (base64url b) ≡ b
unfolding base64url bytes_of
bytes_text [] h = refl
bytes_text (x ∷ []) h = let f = h 0 in rw (d1 x 0 0 f (omega arith) (omega arith), e2 x 0 0 f (omega arith) (omega arith), w1 x 0 0 f (omega arith) (omega arith))
bytes_text (x ∷ y ∷ []) h =
    let f = h 0 in
    let g = h 1 in
    let z : 0 < 256 = omega arith in
    rw (d1 x y 0 f g z, d2 x y 0 f g z, e3 x y 0 f g z, v1 x y 0 f g z, w2 x y 0 f g z)
bytes_text (x ∷ y ∷ z ∷ t) h =
    let f = h 0 in
    let g = h 1 in
    let k = h 2 in
    rw (d1 x y z f g k, d2 x y z f g k, d3 x y z f g k, d4 x y z f g k, v1 x y z f g k, v2 x y z f g k, v3 x y z f g k, bytes_text t (λ i. h (suc (suc (suc i)))))

-- a text that was written is sound
good : (v : ℕ) → v < 64 → is_bad (letter_of v) ≡ false
good v h = rw (digit_letter v h) (lt-leb 64 v h)

text_letters : (b : List ℕ) → IsBytes b → length (base64url b) ≤ position_or_len is_bad (base64url b)
unfolding base64url
text_letters [] h = omega arith
text_letters (x ∷ []) h = let f = h 0 in rw (good (x / 4) (omega arith), good (x % 4 * 16) (omega arith)) (omega arith)
text_letters (x ∷ y ∷ []) h =
    let f = h 0 in
    let g = h 1 in
    rw (good (x / 4) (omega arith), good (x % 4 * 16 + y / 16) (omega arith), good (y % 16 * 4) (omega arith)) (omega arith)
text_letters (x ∷ y ∷ z ∷ t) h =
    let f = h 0 in
    let g = h 1 in
    let k = h 2 in
    let r = text_letters t (λ i. h (suc (suc (suc i)))) in
    rw (good (x / 4) (omega arith), good (x % 4 * 16 + y / 16) (omega arith), good (y % 16 * 4 + z / 64) (omega arith), good (z % 64) (omega arith)) (omega arith)

pub unused_text : (b : List ℕ) → IsBytes b → unused_of (base64url b) ≡ 0
unfolding base64url unused_of
unused_text [] h = refl
unused_text (x ∷ []) h = let f = h 0 in let z : 0 < 256 = omega arith in rw (e2 x 0 0 f z z) (omega arith)
unused_text (x ∷ y ∷ []) h = let f = h 0 in let g = h 1 in let z : 0 < 256 = omega arith in rw (e3 x y 0 f g z) (omega arith)
unused_text (x ∷ y ∷ z ∷ t) h = unused_text t (λ i. h (suc (suc (suc i))))

shape_text : (b : List ℕ) → (length (base64url b) % 4 ≡ 1 → ⊥) × (byte_length (length (base64url b)) ≡ length b)
unfolding base64url
shape_text [] = (λ e. omega arith, refl)
shape_text (x ∷ []) = (λ e. omega arith, refl)
shape_text (x ∷ y ∷ []) = (λ e. omega arith, refl)
shape_text (x ∷ y ∷ z ∷ t) = let r = shape_text t in (λ e. r.0 (omega arith), omega (arith, r.1))

-- decoding what encoding wrote
pub judged_text : (b : List ℕ) → IsBytes b → judged_of (base64url b) ≡ Ok (length b)
unfolding judged_of
judged_text b h =
    let s = shape_text b in
    let e = none_after is_bad (base64url b) (text_letters b h) in
    rw (e, ne_eqb _ _ s.0, unused_text b h, s.1)

-- the letters of bytes that were read
module _ (a b c d : ℕ) (ha : a < 64) (hb : b < 64) (hc : c < 64) (hd : d < 64) where
  r1 : (a * 4 + b / 16) / 4 ≡ a
  r1 = omega arith

  r2 : (a * 4 + b / 16) % 4 * 16 + (b % 16 * 16 + c / 4) / 16 ≡ b
  r2 = omega arith

  r3 : (b % 16 * 16 + c / 4) % 16 * 4 + (c % 4 * 64 + d) / 64 ≡ c
  r3 = omega arith

  r4 : (c % 4 * 64 + d) % 64 ≡ d
  r4 = omega arith

  s2 : b % 16 ≡ 0 → (a * 4 + b / 16) % 4 * 16 ≡ b
  s2 e = omega arith

  s3 : c % 4 ≡ 0 → (b % 16 * 16 + c / 4) % 16 * 4 ≡ c
  s3 e = omega arith

text_bytes : (text : List ℕ) → bad_at text ≡ None → (length text % 4 ≡ 1 → ⊥) → unused_of text ≡ 0 → base64url (bytes_of text) ≡ text
unfolding base64url bytes_of unused_of
text_bytes [] e l u = refl
text_bytes (a ∷ []) e l u = elim (l refl) [ ]
text_bytes (a ∷ b ∷ []) e l u =
    let la = letter_at (a ∷ b ∷ []) 0 e (omega arith) in
    let lb = letter_at (a ∷ b ∷ []) 1 e (omega arith) in
    let z : 0 < 64 = omega arith in
    rw (r1 (digit_of a) (digit_of b) 0 0 la lb z z, s2 (digit_of a) (digit_of b) 0 0 la lb z z u, letter_digit a la, letter_digit b lb)
text_bytes (a ∷ b ∷ c ∷ []) e l u =
    let la = letter_at (a ∷ b ∷ c ∷ []) 0 e (omega arith) in
    let lb = letter_at (a ∷ b ∷ c ∷ []) 1 e (omega arith) in
    let lc = letter_at (a ∷ b ∷ c ∷ []) 2 e (omega arith) in
    let z : 0 < 64 = omega arith in
    rw (
      r1 (digit_of a) (digit_of b) (digit_of c) 0 la lb lc z,
      r2 (digit_of a) (digit_of b) (digit_of c) 0 la lb lc z,
      s3 (digit_of a) (digit_of b) (digit_of c) 0 la lb lc z u,
      letter_digit a la,
      letter_digit b lb,
      letter_digit c lc,
    )
text_bytes (a ∷ b ∷ c ∷ d ∷ t) e l u =
    let la = letter_at (a ∷ b ∷ c ∷ d ∷ t) 0 e (omega arith) in
    let lb = letter_at (a ∷ b ∷ c ∷ d ∷ t) 1 e (omega arith) in
    let lc = letter_at (a ∷ b ∷ c ∷ d ∷ t) 2 e (omega arith) in
    let ld = letter_at (a ∷ b ∷ c ∷ d ∷ t) 3 e (omega arith) in
    rw (
      r1 (digit_of a) (digit_of b) (digit_of c) (digit_of d) la lb lc ld,
      r2 (digit_of a) (digit_of b) (digit_of c) (digit_of d) la lb lc ld,
      r3 (digit_of a) (digit_of b) (digit_of c) (digit_of d) la lb lc ld,
      r4 (digit_of a) (digit_of b) (digit_of c) (digit_of d) la lb lc ld,
      letter_digit a la,
      letter_digit b lb,
      letter_digit c lc,
      letter_digit d ld,
      text_bytes t ((letters_parts (a ∷ b ∷ c ∷ d ∷ []) t e).1) (λ f. l (omega arith)) u,
    )

-- whatever decodes is the text of its bytes
pub whole_text : (text : List ℕ) {n : ℕ} → judged_of text ≡ Ok n → base64url (bytes_of text) ≡ text
whole_text text e = let s = sound text e in text_bytes text s.letters s.left s.unused

-- and what it stands for are bytes
decoded_bytes : (text : List ℕ) → bad_at text ≡ None → IsBytes (bytes_of text)
unfolding bytes_of
decoded_bytes [] e i = omega arith
decoded_bytes (a ∷ []) e i = omega arith
decoded_bytes (a ∷ b ∷ []) e zero =
    let la = letter_at (a ∷ b ∷ []) 0 e (omega arith) in
    let lb = letter_at (a ∷ b ∷ []) 1 e (omega arith) in
    omega arith
decoded_bytes (a ∷ b ∷ []) e (suc i) = omega arith
decoded_bytes (a ∷ b ∷ c ∷ []) e zero =
    let la = letter_at (a ∷ b ∷ c ∷ []) 0 e (omega arith) in
    let lb = letter_at (a ∷ b ∷ c ∷ []) 1 e (omega arith) in
    omega arith
decoded_bytes (a ∷ b ∷ c ∷ []) e (suc zero) = let lc = letter_at (a ∷ b ∷ c ∷ []) 2 e (omega arith) in omega arith
decoded_bytes (a ∷ b ∷ c ∷ []) e (suc (suc i)) = omega arith
decoded_bytes (a ∷ b ∷ c ∷ d ∷ t) e zero =
    let la = letter_at (a ∷ b ∷ c ∷ d ∷ t) 0 e (omega arith) in
    let lb = letter_at (a ∷ b ∷ c ∷ d ∷ t) 1 e (omega arith) in
    omega arith
decoded_bytes (a ∷ b ∷ c ∷ d ∷ t) e (suc zero) = let lc = letter_at (a ∷ b ∷ c ∷ d ∷ t) 2 e (omega arith) in omega arith
decoded_bytes (a ∷ b ∷ c ∷ d ∷ t) e (suc (suc zero)) = let ld = letter_at (a ∷ b ∷ c ∷ d ∷ t) 3 e (omega arith) in omega arith
decoded_bytes (a ∷ b ∷ c ∷ d ∷ t) e (suc (suc (suc i))) = decoded_bytes t ((letters_parts (a ∷ b ∷ c ∷ d ∷ []) t e).1) i

pub whole_bytes : (text : List ℕ) {n : ℕ} → judged_of text ≡ Ok n → IsBytes (bytes_of text)
whole_bytes text e = decoded_bytes text (sound text e).letters

-- as many as were counted
pub whole_length : (text : List ℕ) {n : ℕ} → judged_of text ≡ Ok n → length (bytes_of text) ≡ n
whole_length text e = bytes_length text ∙ sym (sound text e).count
