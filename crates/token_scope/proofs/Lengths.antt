-- The longest scope, so that an issued token always fits: every scope within limits is written in at most 567 bytes.
use mathlib.Core.List.{List, [], ◌∷◌}
use mathlib.Core.Option.{Option, some, none}
use Prim.Native.Nat.{ℕ, ◌+◌, ◌*◌, ◌≤◌, ◌<◌}
use native.Mathlib.Omega.{arith}
use lib.ListN.{length, length-append}
use Rattle.cbor_heads.specs.Heads.{head}
use Rattle.cbor_heads.proofs.HeadLengths.{head_one, head_three, head_nine}
use Rattle.cbor_keys.specs.Maps.{text, texts, entry_if, IfPresent, present}
use Rattle.token_scope.specs.Scopes.{Scope, encode_methods, encode_scope, AllMethods, GoodMethods, GoodPath, GoodScope}

texts_short : (ms : List (List ℕ)) → AllMethods ms → length (texts ms) ≤ 17 * length ms
unfolding texts AllMethods
texts_short [] g = omega arith
texts_short (m ∷ ms) g =
    let l = g.0.most in
    simp length-append (omega (arith, head_one 3 (length m) (omega arith), texts_short ms g.1))

methods_short : (ms : List (List ℕ)) → GoodMethods ms → length (encode_methods ms) ≤ 273
unfolding encode_methods
methods_short ms g =
    let l = g.few in
    simp length-append (omega (arith, head_one 4 (length ms) (omega arith), texts_short ms g.each))

prefix_short : (p : Option (List ℕ)) → IfPresent GoodPath p → length (entry_if "prefix" text p) ≤ 266
prefix_short none g = omega arith
prefix_short (some p) g =
    let l = g.most in
    simp length-append (omega (arith, head_one 3 6 (omega arith), head_three 3 (length p) (omega arith)))

max_bytes_short : (n : Option ℕ) → length (entry_if "max_bytes" (head 0) n) ≤ 19
max_bytes_short none = omega arith
max_bytes_short (some n) = simp length-append (omega (arith, head_one 3 9 (omega arith), head_nine 0 n))

few : {A B : Type 0} (a : Option A) (b : Option B) → present a + 1 + present b < 24
few none none = omega arith
few none (some b) = omega arith
few (some a) none = omega arith
few (some a) (some b) = omega arith

pub scope_short : (s : Scope) → GoodScope s → length (encode_scope s) ≤ 567
unfolding encode_scope
scope_short s g =
    simp length-append (omega (arith, head_one 5 _ (few s.prefix s.max_bytes), prefix_short s.prefix g.good_prefix, head_one 3 7 (omega arith), methods_short s.methods g.good_methods, max_bytes_short s.max_bytes))
