-- What the functions make is the link: the pieces that were placed in the room are the message's front, and the hash of front
-- and rest, which it never refuses, is that of the message.
use mathlib.Core.Path.{◌≡◌, ap, ◌∙◌}
use mathlib.Core.List.{List, ◌++◌, append_assoc}
use Prim.Native.Nat.{ℕ, ◌+◌, ◌≤◌}
use native.Mathlib.Nat.{zero-add}
use native.Mathlib.Omega.{arith}
use borrow.Author.Tests.{eq-eqb, le-ltb}
use lib.ListN.{length, take, length-append}
use lib.Seq.{take-append_seam}
use Rattle.keyed_hash.specs.declared.Hashed.{Hashed}
use Rattle.keyed_hash.specs.KeyedHash.{keyed_hash, hashed_of}
use Rattle.cbor_writing.specs.Placing.{Placed}
use Rattle.cbor_writing.proofs.PlacingLaws.{placed_front, placed_then}
use Rattle.hash_chain.specs.Chain.{domain, first_message, next_message, first_link, next_link}
use Rattle.hash_chain.specs.Inner.{Macable, FirstOf}

pub mac_bytes : (key head body : List ℕ) {r : Hashed} → Macable key head body → r ≡ hashed_of key (head ++ body)
    → r.bytes ≡ keyed_hash key (head ++ body)
unfolding hashed_of
mac_bytes key head body m p =
    ap (λ (h : Hashed). h.bytes) p ∙ rw (eq-eqb (length key) 32 m.keyed, length-append, le-ltb _ _ m.taken)

-- what was placed at the front of a room is what the room begins with
front_taken : (x e m : List ℕ) (n : ℕ) → Placed x e 0 n m → take n m ≡ x
front_taken x e m n p =
    ap (λ (k : ℕ). take k m) (p.behind ∙ zero-add _)
    ∙ ap (take (length x)) (p.content ∙ placed_front x e)
    ∙ take-append_seam x _

module _ (key tid kid scope e : List ℕ) (f : FirstOf key tid kid scope) (long : length e ≡ 144) {a b c : ℕ} {m1 m2 m3 : List ℕ}
    (p : Placed (domain "init") e 0 a m1) (q : Placed tid m1 a b m2) (r : Placed kid m2 b c m3) where
  first_front : take c m3 ≡ domain "init" ++ tid ++ kid
  first_front =
      let two : 0 + length (domain "init" ++ tid) ≤ length e =
      rw (length-append (domain "init") tid, long) (omega (arith, f.tenant)) in
      let three : 0 + length (domain "init" ++ tid ++ kid) ≤ length e =
      rw (length-append (domain "init" ++ tid) kid, length-append (domain "init") tid, long) (omega (arith, f.tenant, f.named)) in
      front_taken (domain "init" ++ tid ++ kid) e m3 c (placed_then (domain "init" ++ tid) kid e 0 three (placed_then (domain "init") tid e 0 two p q) r)

  pub first_is : {l : List ℕ} → l ≡ keyed_hash key (take c m3 ++ scope) → l ≡ first_link key tid kid scope
  unfolding first_link first_message
  first_is h = h ∙ ap (keyed_hash key) (rw first_front (simp append_assoc))

module _ (key link caveat e : List ℕ) (long : length e ≡ 50) (whole : length link ≡ 32) {a b : ℕ} {m1 m2 : List ℕ}
    (p : Placed (domain "caveat") e 0 a m1) (q : Placed link m1 a b m2) where
  next_front : take b m2 ≡ domain "caveat" ++ link
  next_front =
      let two : 0 + length (domain "caveat" ++ link) ≤ length e = rw (length-append (domain "caveat") link, long) (omega (arith, whole)) in
      front_taken (domain "caveat" ++ link) e m2 b (placed_then (domain "caveat") link e 0 two p q)

  pub next_is : {l : List ℕ} → l ≡ keyed_hash key (take b m2 ++ caveat) → l ≡ next_link key link caveat
  unfolding next_link next_message
  next_is h = h ∙ ap (keyed_hash key) (rw next_front (append_assoc (domain "caveat") link caveat))
