-- A token's encoding is a list of bytes exactly where its parts are.
use mathlib.Core.List.{List, [], ◌∷◌, ◌++◌}
use Prim.Native.Nat.{ℕ, zero, suc, ◌+◌, ◌*◌, ◌/◌, ◌%◌, ◌<◌}
use Prim.Native.String.{String}
use native.Mathlib.Omega.{arith}
use borrow.Author.Tests.{ltb-true}
use lib.Dec.{ltb}
use lib.ListN.{length}
use Rattle.basis.specs.Basis.{ascii, IsBytes}
use Rattle.basis.proofs.Picks.{either, tested}
use Rattle.cbor_heads.specs.Heads.{big, head}
use Rattle.cbor_strings.specs.Strings.{string}
use Rattle.cbor_keys.specs.Maps.{text, entry}
use Rattle.token.specs.Tokens.{token_bytes}

pub none_bytes : IsBytes []
none_bytes i = omega arith

cons_bytes : (x : ℕ) (t : List ℕ) → x < 256 → IsBytes t → IsBytes (x ∷ t)
cons_bytes x t h b zero = h
cons_bytes x t h b (suc i) = b i

pub both_bytes : (a b : List ℕ) → IsBytes a → IsBytes b → IsBytes (a ++ b)
both_bytes [] b x y i = y i
both_bytes (c ∷ a) b x y zero = x 0
both_bytes (c ∷ a) b x y (suc i) = both_bytes a b (λ j. x (suc j)) y i

pub front_bytes : (a b : List ℕ) → IsBytes (a ++ b) → IsBytes a
front_bytes [] b x i = omega arith
front_bytes (c ∷ a) b x zero = x 0
front_bytes (c ∷ a) b x (suc i) = front_bytes a b (λ j. x (suc j)) i

pub rest_bytes : (a b : List ℕ) → IsBytes (a ++ b) → IsBytes b
rest_bytes [] b x = x
rest_bytes (c ∷ a) b x = rest_bytes a b (λ j. x (suc j))

big_bytes : (k n : ℕ) → IsBytes (big k n)
unfolding big
big_bytes zero n = none_bytes
big_bytes (suc k) n = both_bytes (big k (n / 256)) ((n % 256) ∷ []) (big_bytes k (n / 256)) (cons_bytes (n % 256) [] (omega arith) none_bytes)

head_bytes : (major n : ℕ) → major < 8 → IsBytes (head major n)
unfolding head
head_bytes major n h =
    tested IsBytes (ltb n 24) (λ e. cons_bytes (major * 32 + n) [] (omega (arith, h, ltb-true n 24 e)) none_bytes)
    (λ e.
    either IsBytes (ltb n 256) (cons_bytes (major * 32 + 24) (big 1 n) (omega arith) (big_bytes 1 n))
    (either IsBytes (ltb n 65536) (cons_bytes (major * 32 + 25) (big 2 n) (omega arith) (big_bytes 2 n))
    (either IsBytes (ltb n 4294967296) (cons_bytes (major * 32 + 26) (big 4 n) (omega arith) (big_bytes 4 n))
    (cons_bytes (major * 32 + 27) (big 8 n) (omega arith) (big_bytes 8 n)))))

string_bytes : (major : ℕ) (s : List ℕ) → major < 8 → IsBytes s → IsBytes (string major s)
string_bytes major s h b = both_bytes (head major (length s)) s (head_bytes major (length s) h) b

entry_bytes : (key : String) (value : List ℕ) → IsBytes (ascii key) → IsBytes value → IsBytes (entry key value)
entry_bytes key value k v = both_bytes (text (ascii key)) value (string_bytes 3 (ascii key) (omega arith) k) v

letter : (x : ℕ) → x < 256 → IsBytes (x ∷ [])
letter x h = cons_bytes x [] h none_bytes

pub token_bytes_lem : (n : ℕ) (caveats scope tag kid tid : List ℕ) → IsBytes caveats → IsBytes scope → IsBytes tag → IsBytes kid → IsBytes tid
    → IsBytes (token_bytes n caveats scope tag kid tid)
unfolding token_bytes
token_bytes_lem n caveats scope tag kid tid bc br bs bk bi =
    let c = entry "c" (head 4 n ++ caveats) in
    let r = entry "r" scope in
    let s = entry "s" (string 2 tag) in
    let v = entry "v" (head 0 1) in
    let k = entry "kid" (text kid) in
    let i = entry "tid" (text tid) in
    let kid_name : IsBytes (ascii "kid") = cons_bytes 107 (105 ∷ 100 ∷ []) (omega arith) (cons_bytes 105 (100 ∷ []) (omega arith) (letter 100 (omega arith))) in
    let tid_name : IsBytes (ascii "tid") = cons_bytes 116 (105 ∷ 100 ∷ []) (omega arith) (cons_bytes 105 (100 ∷ []) (omega arith) (letter 100 (omega arith))) in
    let b0 = entry_bytes "tid" (text tid) tid_name (string_bytes 3 tid (omega arith) bi) in
    let b1 = both_bytes k i (entry_bytes "kid" (text kid) kid_name (string_bytes 3 kid (omega arith) bk)) b0 in
    let b2 = both_bytes v (k ++ i) (entry_bytes "v" (head 0 1) (letter 118 (omega arith)) (head_bytes 0 1 (omega arith))) b1 in
    let b3 = both_bytes s (v ++ (k ++ i)) (entry_bytes "s" (string 2 tag) (letter 115 (omega arith)) (string_bytes 2 tag (omega arith) bs)) b2 in
    let b4 = both_bytes r (s ++ (v ++ (k ++ i))) (entry_bytes "r" scope (letter 114 (omega arith)) br) b3 in
    let b5 = both_bytes c (r ++ (s ++ (v ++ (k ++ i)))) (entry_bytes "c" (head 4 n ++ caveats) (letter 99 (omega arith)) (both_bytes (head 4 n) caveats (head_bytes 4 n (omega arith)) bc)) b4 in
    both_bytes (head 5 6) (c ++ (r ++ (s ++ (v ++ (k ++ i))))) (head_bytes 5 6 (omega arith)) b5

pub record PartsAre (caveats scope tag kid tid : List ℕ) : Type 0 where
  pub caveats_are : IsBytes caveats
  pub scope_is : IsBytes scope
  pub tag_is : IsBytes tag
  pub kid_is : IsBytes kid
  pub tid_is : IsBytes tid

pub parts_bytes : (n : ℕ) (caveats scope tag kid tid : List ℕ) → IsBytes (token_bytes n caveats scope tag kid tid) → PartsAre caveats scope tag kid tid
unfolding token_bytes
parts_bytes n caveats scope tag kid tid b =
    let c = entry "c" (head 4 n ++ caveats) in
    let r = entry "r" scope in
    let s = entry "s" (string 2 tag) in
    let v = entry "v" (head 0 1) in
    let k = entry "kid" (text kid) in
    let i = entry "tid" (text tid) in
    let b5 = rest_bytes (head 5 6) (c ++ (r ++ (s ++ (v ++ (k ++ i))))) b in
    let b4 = rest_bytes c (r ++ (s ++ (v ++ (k ++ i)))) b5 in
    let b3 = rest_bytes r (s ++ (v ++ (k ++ i))) b4 in
    let b2 = rest_bytes s (v ++ (k ++ i)) b3 in
    let b1 = rest_bytes v (k ++ i) b2 in
    let value : (key : String) (x : List ℕ) → IsBytes (entry key x) → IsBytes x = λ key x. rest_bytes (text (ascii key)) x in
    let content : (major : ℕ) (x : List ℕ) → IsBytes (string major x) → IsBytes x = λ major x. rest_bytes (head major (length x)) x in
    record {
      caveats_are = rest_bytes (head 4 n) caveats (value "c" (head 4 n ++ caveats) (front_bytes c (r ++ (s ++ (v ++ (k ++ i)))) b5));
      scope_is = value "r" scope (front_bytes r (s ++ (v ++ (k ++ i))) b4);
      tag_is = content 2 tag (value "s" (string 2 tag) (front_bytes s (v ++ (k ++ i)) b3));
      kid_is = content 3 kid (value "kid" (text kid) (front_bytes k i b1));
      tid_is = content 3 tid (value "tid" (text tid) (rest_bytes k i b1));
    }
