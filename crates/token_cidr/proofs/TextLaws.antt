-- One spelling: the text of a prefix reads back as that prefix, and what reads as a prefix is its text.
use Rattle.std.proofs.Common.{◌≡◌, refl, ap, ℕ, zero, suc, ◌+◌, ◌-◌, ◌*◌, ◌/◌, ◌%◌, ◌≤◌, ◌<◌, Bool, true, false, List, [], ◌∷◌, ◌++◌, length, drop, slice_index, arith, add-one, length-drop, drop-cons, slice_get, Option, Some, None}
use mathlib.Core.Path.{sym, subst, ◌∙◌}
use mathlib.Core.List.{append-nil}
use borrow.Author.Tests.{lt-ltb, le-ltb, le-leb, eq-eqb, ne_eqb, ltb-true, ltb-false, leb-true, eqb-true, eqb-false}
use lib.Dec.{ltb, leb, eqb}
use lib.Seq.{drop-drop, drop_at, drop-length}
use Rattle.std.specs.Bool.{then_some}
use Rattle.std.specs.Char.{is_ascii_digit}
use Rattle.std.specs.Int.{w32, from_be_bytes}
use Rattle.std.proofs.lemmas.Bool.{and_parts}
use Rattle.std.proofs.lemmas.Bool.Decides.{nat_tests}
use Rattle.std.proofs.lemmas.Option.{slice_get_within, get_or_from_slice_get, slice_get_past, option_and_then_some}
use Rattle.basis.specs.Basis.{pick}
use Rattle.basis.proofs.Pairs.{some_same, pair_same}
use Rattle.token_cidr.specs.Prefixes.{decimal, Prefix, prefix_text, address_of, GoodPrefix}
use Rattle.token_cidr.specs.Reading.{digit_at, digits_by, decimal_at, part_at, size_at, net_of, cidr_of}
use Rattle.token_cidr.specs.declared.Network.{Network}

-- what stands at a place
got : (s : List ℕ) (k : ℕ) {m : ℕ} {t : List ℕ} → drop k s ≡ m ∷ t → slice_get s k ≡ Some m
got [] zero e = cc
got [] (suc k) e = cc
got (c ∷ s) zero e = cc
got (c ∷ s) (suc k) e = got s k e

there : (s : List ℕ) (k : ℕ) {m : ℕ} → slice_get s k ≡ Some m → drop k s ≡ m ∷ drop (k + 1) s
there s k {m} e = rw add-one (rw (get_or_from_slice_get s k m 0 e) at (drop-cons s k 0 (slice_get_within s k m e)))

-- and behind what stands there
behind : (s x t : List ℕ) (at : ℕ) → drop at s ≡ x ++ t → drop (at + length x) s ≡ t
behind s x t at e = sym (drop-drop (length x) at s) ∙ ap (drop (length x)) e ∙ drop_at x t (length x) refl

behind_one : (s : List ℕ) (at : ℕ) {m : ℕ} {t : List ℕ} → drop at s ≡ m ∷ t → drop (at + 1) s ≡ t
behind_one s at e = behind s (_ ∷ []) _ at e

then_some_is : {A : Type 0} (b : Bool) {x y : A} → then_some b x ≡ Some y → (b ≡ true) × (x ≡ y)
then_some_is true e = (refl, some_same e)
then_some_is false e = cc

is_digit : (c : ℕ) → is_ascii_digit c ≡ true → (48 ≤ c) × (c ≤ 57)
is_digit c e = grind (arith, nat_tests)

digit_is : (x : ℕ) → x ≤ 9 → is_ascii_digit (48 + x) ≡ true
digit_is x h = grind (arith, nat_tests)

-- a digit as it is written, and as it is read
digit_written : (s : List ℕ) (at x : ℕ) {t : List ℕ} → x ≤ 9 → drop at s ≡ (48 + x) ∷ t → digit_at s at ≡ Some x
unfolding digit_at
digit_written s at x h e = let m : 48 + x - 48 ≡ x = omega arith in rw (got s at e, digit_is x h, m)

digit_read : (s : List ℕ) (at : ℕ) {x : ℕ} → digit_at s at ≡ Some x → (x ≤ 9) × (drop at s ≡ (48 + x) ∷ drop (at + 1) s)
unfolding digit_at
digit_read s at {x} e = option_and_then_some _ _ _ e (λ c p q.
    let r = then_some_is _ q in
    let d = is_digit c r.0 in
    let m : 48 + x ≡ c = omega (arith, r.1, d.0) in
    (omega (arith, r.1, d.1), rw m (there s at p)))

-- a number by its digits
one_is : (x : ℕ) → x ≤ 9 → decimal x ≡ (48 + x) ∷ []
unfolding decimal
one_is x h = rw (lt-ltb x 10 (omega arith))

two_is : (x y : ℕ) → 0 < x → x ≤ 9 → y ≤ 9 → decimal (x * 10 + y) ≡ (48 + x) ∷ (48 + y) ∷ []
unfolding decimal
two_is x y h i j =
    let u : (x * 10 + y) / 10 ≡ x = omega arith in
    let v : (x * 10 + y) % 10 ≡ y = omega arith in
    rw (le-ltb (x * 10 + y) 10 (omega arith), lt-ltb (x * 10 + y) 100 (omega arith), u, v)

three_is : (x y z : ℕ) → 0 < x → x ≤ 9 → y ≤ 9 → z ≤ 9 → decimal (x * 100 + y * 10 + z) ≡ (48 + x) ∷ (48 + y) ∷ (48 + z) ∷ []
unfolding decimal
three_is x y z h i j k =
    let n : ℕ = x * 100 + y * 10 + z in
    let u : n / 100 ≡ x = omega arith in
    let v : n / 10 % 10 ≡ y = omega arith in
    let w : n % 10 ≡ z = omega arith in
    rw (le-ltb n 10 (omega arith), le-ltb n 100 (omega arith), u, v, w)

-- a written number reads back, where no digit follows it
number_written : (s : List ℕ) (at v : ℕ) (t : List ℕ) → v < 1000 → drop at s ≡ decimal v ++ t → digit_at s (at + length (decimal v)) ≡ None
    → decimal_at s at ≡ Some (v, at + length (decimal v))
unfolding decimal_at
number_written s at v t h e n = by (ltb v 10) refl (ltb v 100) refl
  where
    alone : (z : Bool) → eqb v 0 ≡ z → pick {A = ℕ × ℕ} z (0, at + 1) (v, at + 1) ≡ (v, at + 1)
    alone true p = rw (eqb-true v 0 p)
    alone false p = refl

    by : (a : Bool) → ltb v 10 ≡ a → (b : Bool) → ltb v 100 ≡ b → decimal_at s at ≡ Some (v, at + length (decimal v))
    by true p b q =
        let l : v ≤ 9 = omega (arith, ltb-true v 10 p) in
        let i = one_is v l in
        let x = digit_written s at v l (rw i at e) in
        let y : digit_at s (at + 1) ≡ None = rw i at n in
        rw (i, x, y) (ap Some (alone (eqb v 0) refl))
    by false p true q =
        let l = ltb-false v 10 p in
        let m = ltb-true v 100 q in
        let w : v / 10 * 10 + v % 10 ≡ v = omega arith in
        let i : decimal v ≡ (48 + v / 10) ∷ (48 + v % 10) ∷ [] = rw w at (two_is (v / 10) (v % 10) (omega arith) (omega arith) (omega arith)) in
        let f = rw i at e in
        let x = digit_written s at (v / 10) (omega arith) f in
        let y = digit_written s (at + 1) (v % 10) (omega arith) (behind_one s at f) in
        let z : digit_at s (at + 2) ≡ None = rw i at n in
        rw (i, x, y, z, ne_eqb (v / 10) 0 (λ o. omega arith), w)
    by false p false q =
        let l = ltb-false v 100 q in
        let w : v / 100 * 100 + v / 10 % 10 * 10 + v % 10 ≡ v = omega arith in
        let i : decimal v ≡ (48 + v / 100) ∷ (48 + v / 10 % 10) ∷ (48 + v % 10) ∷ [] =
        rw w at (three_is (v / 100) (v / 10 % 10) (v % 10) (omega arith) (omega arith) (omega arith) (omega arith)) in
        let f = rw i at e in
        let g = behind_one s at f in
        let j : at + 1 + 1 ≡ at + 2 = omega arith in
        let x = digit_written s at (v / 100) (omega arith) f in
        let y = digit_written s (at + 1) (v / 10 % 10) (omega arith) g in
        let z = digit_written s (at + 2) (v % 10) (omega arith) (rw j at (behind_one s (at + 1) g)) in
        rw (i, x, y, z, ne_eqb (v / 100) 0 (λ o. omega arith), w)

-- and what reads as a number is that number as it is written
number_read : (s : List ℕ) (at : ℕ) {v next : ℕ} → decimal_at s at ≡ Some (v, next) → drop at s ≡ decimal v ++ drop next s
unfolding decimal_at
number_read s at {v} {next} e =
    option_and_then_some _ _ _ e (λ x p q. subst (λ (r : ℕ × ℕ). drop at s ≡ decimal r.0 ++ drop r.1 s) (some_same q)
    (by x (digit_read s at p) (eqb x 0) refl (digit_at s (at + 1)) refl (digit_at s (at + 2)) refl))
  where
    by : (x : ℕ) → (x ≤ 9) × (drop at s ≡ (48 + x) ∷ drop (at + 1) s) → (a : Bool) → eqb x 0 ≡ a
        → (y : Option ℕ) → digit_at s (at + 1) ≡ y → (z : Option ℕ) → digit_at s (at + 2) ≡ z
        → (let r : ℕ × ℕ = pick a (0, at + 1) (digits_by at x y z) in drop at s ≡ decimal r.0 ++ drop r.1 s)
    by x d true p y f z g = rw (one_is 0 (omega arith)) (rw (eqb-true x 0 p) at d.1)
    by x d false p None f z g = rw (one_is x d.0) d.1
    by x d false p (Some y) f None g =
        let o = eqb-false x 0 p in
        let b = digit_read s (at + 1) f in
        let j : at + 1 + 1 ≡ at + 2 = omega arith in
        rw (two_is x y (omega (arith, o)) d.0 b.0, ← j) (d.1 ∙ ap (λ l. (48 + x) ∷ l) b.1)
    by x d false p (Some y) f (Some z) g =
        let o = eqb-false x 0 p in
        let b = digit_read s (at + 1) f in
        let c = digit_read s (at + 2) g in
        let j : at + 1 + 1 ≡ at + 2 = omega arith in
        let k : at + 2 + 1 ≡ at + 3 = omega arith in
        rw (three_is x y z (omega (arith, o)) d.0 b.0 c.0, ← k)
        (d.1 ∙ ap (λ l. (48 + x) ∷ l) (b.1 ∙ ap (λ l. (48 + y) ∷ l) (ap (λ i. drop i s) j ∙ c.1)))

-- a part as it is written: the mark is no digit
module _ (s : List ℕ) (at v mark : ℕ) (t : List ℕ) (e : drop at s ≡ decimal v ++ (mark ∷ t)) where
  part_behind : drop (at + length (decimal v) + 1) s ≡ t
  part_behind = behind_one s _ (behind s (decimal v) (mark ∷ t) at e)

  part_written : is_ascii_digit mark ≡ false → v < 256 → part_at s at mark ≡ Some (v, at + length (decimal v) + 1)
  unfolding digit_at part_at
  part_written m h =
      let g = got s _ (behind s (decimal v) (mark ∷ t) at e) in
      let n : digit_at s (at + length (decimal v)) ≡ None = rw (g, m) in
      rw (number_written s at v (mark ∷ t) (omega arith) e n, lt-ltb v 256 h, g, eq-eqb mark mark refl)

-- and as it is read
part_read : (s : List ℕ) (at mark : ℕ) {v next : ℕ} → part_at s at mark ≡ Some (v, next) → (drop at s ≡ decimal v ++ (mark ∷ drop next s)) × (v < 256)
unfolding part_at
part_read s at mark {v} {next} e =
    option_and_then_some _ _ _ e (λ (w, n) p e. option_and_then_some _ _ _ e (λ b q e. option_and_then_some _ _ _ e (λ c r e.
    let x = then_some_is (ltb w 256) q in
    let y = then_some_is (eqb c mark) e in
    let z : (b ≡ v) × (n + 1 ≡ next) = pair_same y.1 in
    let m = eqb-true c mark y.0 in
    let h = ltb-true w 256 x.0 in
    let f = there s n r in
    let d = number_read s at p in
    (rw (← z.0, ← x.1, ← z.1, ← m) (d ∙ ap (λ t. decimal w ++ t) f), omega (arith, x.1, z.0)))))

decimal_some : (v : ℕ) → 0 < length (decimal v)
unfolding decimal
decimal_some v = by (ltb v 10) (ltb v 100)
  where
    by : (a b : Bool) → 0 < length (pick a ((48 + v) ∷ []) (pick b ((48 + v / 10) ∷ (48 + v % 10) ∷ []) ((48 + v / 100) ∷ (48 + v / 10 % 10) ∷ (48 + v % 10) ∷ [])))
    by true b = omega arith
    by false true = omega arith
    by false false = omega arith

-- a size as it is written, and as it is read
size_written : (s : List ℕ) (at v : ℕ) → drop at s ≡ decimal v → v ≤ 32 → size_at s at ≡ Some v
unfolding digit_at size_at
size_written s at v e h =
    let l : at + length (decimal v) ≡ length s = omega (arith, decimal_some v, length-drop at s, ap length e) in
    let n : digit_at s (at + length (decimal v)) ≡ None = rw (slice_get_past s (at + length (decimal v)) (omega arith)) in
    rw (number_written s at v [] (omega arith) (e ∙ sym (append-nil (decimal v))) n, le-leb v 32 h, eq-eqb _ _ l)

size_read : (s : List ℕ) (at : ℕ) {v : ℕ} → size_at s at ≡ Some v → (drop at s ≡ decimal v) × (v ≤ 32)
unfolding size_at
size_read s at e =
    option_and_then_some _ _ _ e (λ (w, n) p e.
    let x = then_some_is _ e in
    let y = and_parts (leb w 32) (eqb n (length s)) x.0 in
    let f : drop n s ≡ [] = rw (eqb-true n (length s) y.1) (drop-length s) in
    (rw (← x.1) (number_read s at p ∙ ap (λ t. decimal w ++ t) f ∙ append-nil (decimal w)), omega (arith, leb-true w 32 y.0, x.1)))

-- the four bytes as one number
as_number : (p : Prefix) → from_be_bytes w32 (net_of p).address ≡ address_of p.a p.b p.c p.d
as_number p = omega arith

-- the text of a prefix reads as that prefix
pub text_reads : (p : Prefix) → GoodPrefix p → cidr_of (prefix_text p) ≡ Some (net_of p)
unfolding cidr_of prefix_text
text_reads p g =
    let s = prefix_text p in
    let b = part_behind s 0 p.a 46 _ refl in
    let c = part_behind s _ p.b 46 _ b in
    let d = part_behind s _ p.c 46 _ c in
    let n = part_behind s _ p.d 47 _ d in
    rw (
      part_written s 0 p.a 46 _ refl refl g.a_byte,
      part_written s _ p.b 46 _ b refl g.b_byte,
      part_written s _ p.c 46 _ c refl g.c_byte,
      part_written s _ p.d 47 _ d refl g.d_byte,
      size_written s _ p.size n g.short,
      as_number p,
      eq-eqb _ _ g.zeros,
    )

-- the prefix that a reading answers
abbrev pub prefix_of : Network → Prefix
prefix_of net =
    let byte = slice_index net.address in
    record { a = byte 0; b = byte 1; c = byte 2; d = byte 3; size = net.size }

-- and what reads as a prefix is its text
pub reads_text : (s : List ℕ) {net : Network} → cidr_of s ≡ Some net → GoodPrefix (prefix_of net) × (s ≡ prefix_text (prefix_of net)) × (net_of (prefix_of net) ≡ net)
unfolding cidr_of prefix_text
reads_text s {net} e =
    option_and_then_some _ _ _ e (λ (a, i) p e. option_and_then_some _ _ _ e (λ (b, j) q e.
    option_and_then_some _ _ _ e (λ (c, k) r e. option_and_then_some _ _ _ e (λ (d, l) t e.
    option_and_then_some _ _ _ e (λ n u e.
    let x = then_some_is _ e in
    let pa = part_read s 0 46 p in
    let pb = part_read s i 46 q in
    let pc = part_read s j 46 r in
    let pd = part_read s k 47 t in
    let pn = size_read s l u in
    let z = rw (as_number _) at (eqb-true _ 0 x.0) in
    subst (λ net. GoodPrefix (prefix_of net) × (s ≡ prefix_text (prefix_of net)) × (net_of (prefix_of net) ≡ net)) x.1
    (record { a_byte = pa.1; b_byte = pb.1; c_byte = pc.1; d_byte = pd.1; short = pn.1; zeros = z }, cc (pa.0, pb.0, pc.0, pd.0, pn.0), refl))))))
