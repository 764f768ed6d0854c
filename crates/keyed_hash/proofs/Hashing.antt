-- From the tests on key and length to the whole answer; eight chunks are as tall a tree as any message that is taken needs. No crate
-- above can name this module: its law `taken` says how the hash is made.
use mathlib.Core.Path.{◌≡◌, sym, ap, ◌∙◌}
use mathlib.Core.List.{List, ◌++◌}
use Prim.Native.Nat.{ℕ, zero, suc, ◌*◌, ◌^◌, ◌≤◌, ◌<◌}
use native.Mathlib.Nat.{pow-suc}
use native.Mathlib.Omega.{arith}
use borrow.Author.Tests.{eq-eqb, ne_eqb, lt-ltb, le-ltb}
use lib.Pow.{pow_pos}
use lib.ListN.{length, length-append}
use Rattle.answers.specs.Answers.{number_of}
use Rattle.answers.specs.declared.Answer.TheVariants.{Allow}
use Rattle.keyed_hash.specs.declared.Hashed.{Hashed}
use Rattle.keyed_hash.specs.declared.Inside.TheVariants.{Here}
use Rattle.hash_chunks.specs.Chunks.{root_flag, words_of, bytes_of_words}
use Rattle.keyed_hash.specs.Tree.{tree_of}
use Rattle.keyed_hash.specs.KeyedHash.{hash_is, refused_hash, hashed_of}
use Rattle.keyed_hash.specs.Fits.{Fit}
use Rattle.keyed_hash.proofs.Halves.{any_height}

pub bad_key : (key message : List ℕ) → (length key ≡ 32 → ⊥) → refused_hash ≡ hashed_of key message
unfolding hashed_of
bad_key key message h = rw (ne_eqb (length key) 32 h)

pub too_long : (key message : List ℕ) → length key ≡ 32 → 8192 < length message → refused_hash ≡ hashed_of key message
unfolding hashed_of
too_long key message h g = rw (eq-eqb (length key) 32 h, lt-ltb _ _ g)

-- of a head that alone is too long. The code asks no such thing; the edit head_of_8192 does, and so is refused for its number
pub long_head : (key head body : List ℕ) → length key ≡ 32 → 8192 < length head → refused_hash ≡ hashed_of key (head ++ body)
long_head key head body h g = too_long key (head ++ body) h (rw length-append (omega (arith, g)))

enough : (n : ℕ) → n ≤ 2 ^ n
enough zero = omega arith
enough (suc n) = let e : 2 ^ suc n ≡ 2 ^ n * 2 = pow-suc 2 n in omega (arith, enough n, pow_pos n)

pub fit_all : (n : ℕ) → n ≤ 8192 → Fit 3 n 0 root_flag
fit_all n l = record { low = omega arith; bytes = l; number = omega arith; flag = omega arith }

pub taken : (key message : List ℕ) {number : ℕ} {bytes : List ℕ} → length key ≡ 32 → length message ≤ 8192 → number ≡ number_of Allow
    → bytes ≡ bytes_of_words (tree_of (words_of 8 key) 3 message 0 root_flag)
    → ◌≡◌ {A = Hashed} (record { answer = number; bytes = bytes }) (hashed_of key message)
unfolding hashed_of
taken key message h g a b =
    let n = length message in
    let t = any_height (words_of 8 key) message 0 root_flag 3 n g (omega (arith, enough n)) in
    rw (eq-eqb (length key) 32 h, le-ltb _ _ g, a, b ∙ ap bytes_of_words t ∙ sym (hash_is Here key message))
