-- Reading what was written gives it back, and what reads well is what writing gives.
use mathlib.Core.Path.{◌≡◌, refl, sym, ap, ap₂, ◌∙◌, subst}
use mathlib.Core.List.{List, [], ◌∷◌, ◌++◌}
use mathlib.Core.Bool.{Bool, true, false}
use Prim.Native.Nat.{ℕ, zero, suc, ◌+◌, ◌*◌, ◌/◌, ◌%◌, ◌^◌, ◌≤◌, ◌<◌}
use native.Mathlib.Nat.{pow-suc, div-lt_iff_lt-mul, div-add-mod', zero-lt-suc}
use native.Mathlib.Numerals.{add-one}
use native.Mathlib.Omega.{arith}
use borrow.Author.Tests.{lt-ltb, le-ltb, ltb-true, ltb-false, eqb-true}
use Rattle.basis.specs.Basis.{pick, IsBytes}
use Rattle.basis.proofs.Pairs.{ok_same}
use lib.ListN.{length, take, drop, get_or, length-append, length-drop, take-append-drop}
use lib.Seq.{get_or-drop, drop-append_seam, take_at, take-suc, take_all, length-take-le}
use lib.Dec.{ltb, eqb}
use lib.Arith.{digits_lt, digits_div, digits_mod}
use Rattle.cbor_heads.specs.declared.defect.Kind.TheVariants.{Cbor}
use Rattle.cbor_heads.specs.Defects.{Reading, bad}
use Rattle.cbor_heads.specs.declared.Head.{Head}
use Rattle.std.specs.Prelude.{Ok}
use Rattle.cbor_heads.specs.declared.Width.{Width}
use Rattle.cbor_heads.specs.declared.Width.TheVariants.{Here, Follow, Refused}
use Rattle.cbor_heads.specs.Heads.{big, head}
use Rattle.cbor_heads.specs.Reading.{got, big_of, number_from, width_of, head_by, head_at, read_head}
use Rattle.cbor_heads.proofs.Numbers.{be_snoc}

-- two heads that are read the same are the same
pub same_head : {a b c x y z : ℕ} → ◌≡◌ {A = Reading Head} (Ok (got a b c)) (Ok (got x y z)) → (a ≡ x) × (b ≡ y) × (c ≡ z)
same_head {a} {b} {c} {x} {y} {z} e =
    let p = ok_same e in
    (ap (λ (h : Head). h.major) p, ap (λ (h : Head). h.value) p, ap (λ (h : Head). h.next) p)

pub bytes_length : (k n : ℕ) → length (big k n) ≡ k
unfolding big
bytes_length zero n = refl
bytes_length (suc k) n = length-append (big k (n / 256)) _ ∙ ap (λ (x : ℕ). x + 1) (bytes_length k (n / 256)) ∙ add-one k

-- the number of the bytes of a number
pub be_bytes : (k n : ℕ) → n < 256 ^ k → big_of (big k n) ≡ n
unfolding big number_from
be_bytes zero n h = omega (arith, h)
be_bytes (suc k) n h =
    let g : n / 256 < 256 ^ k = (div-lt_iff_lt-mul {k = 256} (zero-lt-suc 255)).1 (rw pow-suc at h) in
    be_snoc 0 (big k (n / 256)) (n % 256) ∙ ap (λ (x : ℕ). x * 256 + n % 256) (be_bytes k (n / 256) g) ∙ div-add-mod' n 256

pub bytes_take : (k : ℕ) (s : List ℕ) → IsBytes s → IsBytes (take k s)
bytes_take zero s b i = omega arith
bytes_take (suc k) [] b i = omega arith
bytes_take (suc k) (x ∷ s) b zero = b 0
bytes_take (suc k) (x ∷ s) b (suc i) = bytes_take k s (λ j. b (suc j)) i

pub drop_bytes : (k : ℕ) (s : List ℕ) → IsBytes s → IsBytes (drop k s)
drop_bytes k s b i = rw get_or-drop (b (k + i))

-- the bytes of the number of bytes
pub bytes_be : (k : ℕ) (s : List ℕ) → length s ≡ k → IsBytes s → (big_of s < 256 ^ k) × (big k (big_of s) ≡ s)
unfolding big number_from
bytes_be zero [] e b = (omega arith, refl)
bytes_be zero (a ∷ s) e b = let z : ⊥ = omega arith in elim z [ ]
bytes_be (suc k) s e b =
    let p = take k s in
    let x = get_or s k 0 in
    let split : p ++ (x ∷ []) ≡ s = sym (take-suc s k 0 (omega arith)) ∙ take_all (suc k) s (omega arith) in
    let ih = bytes_be k p (length-take-le k s (omega arith)) (bytes_take k s b) in
    let v : big_of s ≡ big_of p * 256 + x = ap big_of (sym split) ∙ be_snoc 0 p x in (
      rw (v, pow-suc) (digits_lt ih.0 (b k)),
      ap₂ (λ (q r : ℕ). big k q ++ (r ∷ [])) (ap (λ (n : ℕ). n / 256) v ∙ digits_div (big_of p) (b k)) (ap (λ (n : ℕ). n % 256) v ∙ digits_mod (big_of p) (b k))
          ∙ ap (λ (q : List ℕ). q ++ (x ∷ [])) ih.1 ∙ split,
    )

-- the four long forms: the low bits, the bytes that follow, their least value
data Form : ℕ → ℕ → ℕ → Type 0 where
  form1 : Form 24 1 24
  form2 : Form 25 2 256
  form4 : Form 26 4 65536
  form8 : Form 27 8 4294967296

form_low : {low k least : ℕ} → Form low k least → low < 32
form_low form1 = omega arith
form_low form2 = omega arith
form_low form4 = omega arith
form_low form8 = omega arith

form_small : {low k least x : ℕ} → Form low k least → x < 256 ^ k → x < 2 ^ 64
form_small form1 h = omega (arith, h)
form_small form2 h = omega (arith, h)
form_small form4 h = omega (arith, h)
form_small form8 h = omega (arith, h)

form_width : {low k least : ℕ} → Form low k least → width_of low ≡ Follow k least
unfolding width_of
form_width form1 = refl
form_width form2 = refl
form_width form4 = refl
form_width form8 = refl

form_writes : {low k least : ℕ} (major n : ℕ) → Form low k least → least ≤ n → n < 256 ^ k → head major n ≡ (major * 32 + low) ∷ big k n
unfolding head
form_writes major n form1 l h = rw (le-ltb n 24 l, lt-ltb n 256 h)
form_writes major n form2 l h = rw (le-ltb n 24 (omega arith), le-ltb n 256 l, lt-ltb n 65536 h)
form_writes major n form4 l h = rw (le-ltb n 24 (omega arith), le-ltb n 256 (omega arith), le-ltb n 65536 l, lt-ltb n 4294967296 h)
form_writes major n form8 l h = rw (le-ltb n 24 (omega arith), le-ltb n 256 (omega arith), le-ltb n 65536 (omega arith), le-ltb n 4294967296 l)

small_writes : (major n : ℕ) → n < 24 → head major n ≡ (major * 32 + n) ∷ []
unfolding head
small_writes major n h = rw (lt-ltb n 24 h)

small_width : (n : ℕ) → n < 24 → width_of n ≡ Here
unfolding width_of
small_width n h = rw (lt-ltb n 24 h)

-- a number below 2^64 is short, or has one long form
data Size (n : ℕ) : Type 0 where
  small : n < 24 → Size n
  long : {low k least : ℕ} → Form low k least → least ≤ n → n < 256 ^ k → Size n

size : (n : ℕ) → n < 2 ^ 64 → Size n
size n h = by (ltb n 24) refl (ltb n 256) refl (ltb n 65536) refl (ltb n 4294967296) refl
  where
    by : (a : Bool) → ltb n 24 ≡ a → (b : Bool) → ltb n 256 ≡ b → (c : Bool) → ltb n 65536 ≡ c → (d : Bool) → ltb n 4294967296 ≡ d → Size n
    by true p b q c r d s = small (ltb-true _ _ p)
    by false p true q c r d s = long form1 (ltb-false _ _ p) (ltb-true _ _ q)
    by false p false q true r d s = long form2 (ltb-false _ _ q) (ltb-true _ _ r)
    by false p false q false r true s = long form4 (ltb-false _ _ r) (ltb-true _ _ s)
    by false p false q false r false s = long form8 (ltb-false _ _ s) h

-- a first byte made of its two parts
first : (at major low : ℕ) (t : List ℕ) → low < 32 → head_at at ((major * 32 + low) ∷ t) ≡ head_by at major low (width_of low) t
unfolding head_at
first at major low t h = rw (digits_div major h, digits_mod major h)

-- reading what was written, with anything after it
pub read_written : (at major n : ℕ) (t : List ℕ) → n < 2 ^ 64 → head_at at (head major n ++ t) ≡ Ok (got major n (at + length (head major n)))
unfolding head_by
read_written at major n t h = by (size n h)
  where
    by : Size n → head_at at (head major n ++ t) ≡ Ok (got major n (at + length (head major n)))
    by (small l) = rw (small_writes major n l, first at major n t (omega arith), small_width n l)
    by (long {low} {k} {least} f l g) =
        let room : k ≤ length (big k n ++ t) = simp (length-append, bytes_length) (omega arith) in
        let v : big_of (take k (big k n ++ t)) ≡ n = ap big_of (take_at (big k n) t k (bytes_length k n)) ∙ be_bytes k n g in
        rw (form_writes major n f l g, first at major low (big k n ++ t) (form_low f), form_width f, le-ltb _ _ room, v, le-ltb _ _ l, bytes_length)
        (ap (λ (next : ℕ). Ok (got major n next)) (omega arith))

-- what is read well is what writing gives, and the next place is past it
pub record Written (at : ℕ) (s : List ℕ) (major n next : ℕ) : Type 0 where
  pub front : head major n ++ drop (length (head major n)) s ≡ s
  pub past : next ≡ at + length (head major n)
  pub small : n < 2 ^ 64

form_of : (low : ℕ) {k least : ℕ} → width_of low ≡ Follow k least → Form low k least
unfolding width_of
form_of low = by (ltb low 24) (eqb low 24) refl (eqb low 25) refl (eqb low 26) refl (eqb low 27) refl
  where
    by : (a b : Bool) → eqb low 24 ≡ b → (c : Bool) → eqb low 25 ≡ c → (d : Bool) → eqb low 26 ≡ d → (e : Bool) → eqb low 27 ≡ e → {k least : ℕ}
        → pick a Here (pick b (Follow 1 24) (pick c (Follow 2 256) (pick d (Follow 4 65536) (pick e (Follow 8 4294967296) Refused)))) ≡ Follow k least → Form low k least
    by true b q c r d s e t p = let z : ◌≡◌ {A = ℕ} 0 1 = cc in let z : ⊥ = omega arith in elim z [ ]
    by false true q c r d s e t {k} {least} p = subst (λ (x : ℕ × ℕ × ℕ). Form x.0 x.1 x.2) (cc (eqb-true low 24 q)) form1
    by false false q true r d s e t {k} {least} p = subst (λ (x : ℕ × ℕ × ℕ). Form x.0 x.1 x.2) (cc (eqb-true low 25 r)) form2
    by false false q false r true s e t {k} {least} p = subst (λ (x : ℕ × ℕ × ℕ). Form x.0 x.1 x.2) (cc (eqb-true low 26 s)) form4
    by false false q false r false s true t {k} {least} p = subst (λ (x : ℕ × ℕ × ℕ). Form x.0 x.1 x.2) (cc (eqb-true low 27 t)) form8
    by false false q false r false s false t p = let z : ◌≡◌ {A = ℕ} 0 1 = cc in let z : ⊥ = omega arith in elim z [ ]

here_low : (low : ℕ) → width_of low ≡ Here → low < 24
unfolding width_of
here_low low = by (ltb low 24) refl (eqb low 24) (eqb low 25) (eqb low 26) (eqb low 27)
  where
    by : (a : Bool) → ltb low 24 ≡ a → (b c d e : Bool)
        → pick a Here (pick b (Follow 1 24) (pick c (Follow 2 256) (pick d (Follow 4 65536) (pick e (Follow 8 4294967296) Refused)))) ≡ Here → low < 24
    by true q b c d e p = ltb-true _ _ q
    by false q true c d e p = let z : ◌≡◌ {A = ℕ} 0 1 = cc in omega arith
    by false q false true d e p = let z : ◌≡◌ {A = ℕ} 0 1 = cc in omega arith
    by false q false false true e p = let z : ◌≡◌ {A = ℕ} 0 1 = cc in omega arith
    by false q false false false true p = let z : ◌≡◌ {A = ℕ} 0 1 = cc in omega arith
    by false q false false false false p = let z : ◌≡◌ {A = ℕ} 0 1 = cc in omega arith

module _ (at b : ℕ) (t : List ℕ) (bs : IsBytes t) {major n next : ℕ} where
  by_here : width_of (b % 32) ≡ Here → b % 32 < 24 → head_by at (b / 32) (b % 32) Here t ≡ Ok (got major n next) → Written at (b ∷ t) major n next
  unfolding head_by
  by_here w l p =
      let (m, v, x) = same_head p in
      let e : head major n ≡ b ∷ [] = rw (← m, ← v, small_writes (b / 32) (b % 32) l, div-add-mod' b 32) in
      record { front = rw e; past = rw e (sym x); small = omega (arith, l, v) }

  by_follow : {k least : ℕ} → Form (b % 32) k least → (y z : Bool) → ltb (length t) k ≡ y → ltb (big_of (take k t)) least ≡ z
      → pick y (bad Cbor at) (pick z (bad Cbor at) (Ok (got (b / 32) (big_of (take k t)) (at + 1 + k)))) ≡ Ok (got major n next) → Written at (b ∷ t) major n next
  by_follow f true z q r p = let z : ◌≡◌ {A = ℕ} 0 1 = cc in let z : ⊥ = omega arith in elim z [ ]
  by_follow f false true q r p = let z : ◌≡◌ {A = ℕ} 0 1 = cc in let z : ⊥ = omega arith in elim z [ ]
  by_follow {k} f false false q r p =
      let (m, v, x) = same_head p in
      let room : k ≤ length t = ltb-false _ _ q in
      let back = bytes_be k (take k t) (length-take-le k t room) (bytes_take k t bs) in
      let e : head major n ≡ b ∷ take k t =
      rw (← m, ← v, form_writes (b / 32) (big_of (take k t)) f (ltb-false _ _ r) back.0, div-add-mod' b 32, back.1) in
      let l : length (head major n) ≡ suc k = ap length e ∙ ap suc (length-take-le k t room) in
      record { front = rw (l, e) (ap (λ (w : List ℕ). b ∷ w) (take-append-drop k t)); past = rw l (omega arith); small = rw (← v) (form_small f back.0) }

-- for byte lists
pub written_read : (at : ℕ) (s : List ℕ) → IsBytes s → {major n next : ℕ} → head_at at s ≡ Ok (got major n next) → Written at s major n next
unfolding head_at head_by
written_read at [] bs p = let z : ◌≡◌ {A = ℕ} 0 1 = cc in let z : ⊥ = omega arith in elim z [ ]
written_read at (b ∷ t) bs {major} {n} {next} p = by (width_of (b % 32)) refl p
  where
    by : (w : Width) → width_of (b % 32) ≡ w → head_by at (b / 32) (b % 32) w t ≡ Ok (got major n next) → Written at (b ∷ t) major n next
    by Here e p = by_here at b t (λ i. bs (suc i)) e (here_low (b % 32) e) p
    by Refused e p = let z : ◌≡◌ {A = ℕ} 0 1 = cc in let z : ⊥ = omega arith in elim z [ ]
    by (Follow k least) e p = by_follow at b t (λ i. bs (suc i)) (form_of (b % 32) e) (ltb (length t) k) (ltb (big_of (take k t)) least) refl refl p

-- the next place is past this one, and inside
pub next_inside : (at : ℕ) (s : List ℕ) {major n next : ℕ} → head_at at s ≡ Ok (got major n next) → (at < next) × (next ≤ at + length s)
unfolding head_at head_by
next_inside at [] p = let z : ◌≡◌ {A = ℕ} 0 1 = cc in let z : ⊥ = omega arith in elim z [ ]
next_inside at (b ∷ t) {major} {n} {next} p = by (width_of (b % 32)) p
  where
    pass : (k : ℕ) (y z : Bool) → ltb (length t) k ≡ y → (v : ℕ) → pick y (bad Cbor at) (pick z (bad Cbor at) (Ok (got (b / 32) v (at + 1 + k)))) ≡ Ok (got major n next)
        → (at < next) × (next ≤ at + length (b ∷ t))
    pass k true z q v p = let z : ◌≡◌ {A = ℕ} 0 1 = cc in let z : ⊥ = omega arith in elim z [ ]
    pass k false true q v p = let z : ◌≡◌ {A = ℕ} 0 1 = cc in let z : ⊥ = omega arith in elim z [ ]
    pass k false false q v p = let x = (same_head p).2 in let r : k ≤ length t = ltb-false _ _ q in (omega arith, omega arith)

    by : (w : Width) → head_by at (b / 32) (b % 32) w t ≡ Ok (got major n next) → (at < next) × (next ≤ at + length (b ∷ t))
    by Here p = let x = (same_head p).2 in (omega arith, omega arith)
    by Refused p = let z : ◌≡◌ {A = ℕ} 0 1 = cc in let z : ⊥ = omega arith in elim z [ ]
    by (Follow k least) p = pass k (ltb (length t) k) (ltb (big_of (take k t)) least) refl (big_of (take k t)) p

-- the same of a place in a slice
pub next_in : (s : List ℕ) (at : ℕ) {major n next : ℕ} → read_head s at ≡ Ok (got major n next) → (at < next) × (next ≤ length s)
next_in s at p =
    let g = next_inside at (drop at s) p in
    (g.0, omega (arith, length-drop at s))

-- a head and what stands behind it settle each other
pub head_unique : (m n k l : ℕ) (x y : List ℕ) → n < 2 ^ 64 → l < 2 ^ 64 → head m n ++ x ≡ head k l ++ y → (m ≡ k) × (n ≡ l) × (x ≡ y)
head_unique m n k l x y h g e =
    let r : ◌≡◌ {A = Reading Head} (Ok (got m n (0 + length (head m n)))) (Ok (got k l (0 + length (head k l)))) = sym (read_written 0 m n x h) ∙ ap (head_at 0) e ∙ read_written 0 k l y g in
    let p = (same_head r).0 in
    let q = (same_head r).1 in
    let t = ap (drop (length (head m n))) e in
    (p, q, sym (drop-append_seam (head m n) x) ∙ t ∙ rw (p, q) (drop-append_seam (head k l) y))
