-- The walk over a bundle's records, in the terms that the code has: one law for each way out and for each turn.
use mathlib.Core.Path.{◌≡◌, refl, sym, ap, subst, ◌∙◌}
use mathlib.Core.List.{List, [], ◌++◌, append-nil, append_assoc}
use Prim.Native.Nat.{ℕ, zero, suc, ◌+◌, ◌-◌, ◌*◌, ◌≤◌, ◌<◌}
use native.Mathlib.Omega.{arith}
use borrow.Author.Tests.{eq-eqb, ne_eqb}
use lib.ListN.{length, length-append}
use Rattle.basis.specs.Basis.{from_to, between, IsBytes}
use Rattle.basis.specs.declared.Span.{Span}
use Rattle.records.specs.Reading.{read_record}
use Rattle.records.specs.declared.RecordAt.{RecordAt}
use Rattle.std.specs.Prelude.{Some, None}
use Rattle.records.proofs.Fields.{IsRecord, record_read}
use Rattle.cbor_writing.specs.Placing.{Placed}
use Rattle.cbor_writing.proofs.PlacingLaws.{placed_length, placed_fits, placed_then}
use Rattle.verify.specs.Verifying.{verify_of}
use Rattle.bundle.specs.Lines.{line, bad_line, kind_then, record_then, lines_from}
use Rattle.bundle.proofs.Putting.{line_short}

-- these lines are done, so many records may follow, and there is room for a line of each
pub record Going (s entry room : List ℕ) (p n : ℕ) (t q : Span) : Type 0 where
  pub done : List ℕ
  pub left : ℕ
  pub wrote : Placed done entry 0 n room
  pub long : length room ≡ length entry
  pub rest : done ++ lines_from left s (between s t) (between s q) p ≡ lines_from 16384 s [] [] 0
  pub reach : length s ≤ p + 4 * left
  pub inside : p ≤ length s
  pub fits : length done + 27 * left ≤ 442368

pub going_none : (s entry : List ℕ) → length s ≤ 65536 → Going s entry entry 0 0 (from_to 0 0) (from_to 0 0)
going_none s entry h =
    record {
      done = [];
      left = 16384;
      wrote = record { behind = refl; content = refl };
      long = refl;
      rest = refl;
      reach = omega arith;
      inside = omega arith;
      fits = omega arith;
    }

-- one step of the definition, for any count of records
module _ (s table request : List ℕ) (p : ℕ) where
  at_end : p ≡ length s → (k : ℕ) → lines_from k s table request p ≡ []
  unfolding lines_from
  at_end h zero = refl
  at_end h (suc k) = rw (eq-eqb p (length s) h)

  module _ (k : ℕ) (h : p ≡ length s → ⊥) where
    at_cut : read_record s p ≡ None → lines_from (suc k) s table request p ≡ bad_line
    unfolding lines_from record_then
    at_cut e = rw (ne_eqb p (length s) h, e)

    at_record : {found : RecordAt} → read_record s p ≡ Some found
        → lines_from (suc k) s table request p ≡ kind_then (lines_from k s) s table request found
    unfolding lines_from record_then
    at_record e = rw (ne_eqb p (length s) h, e)

module _ {s entry room : List ℕ} {p n : ℕ} {t q : Span} (w : Going s entry room p n t q) where
  pub ends : p ≡ length s → Placed (lines_from 16384 s [] [] 0) entry 0 n room
  ends h =
      subst (λ (x : List ℕ). Placed x entry 0 n room)
      (sym (append-nil w.done) ∙ ap (λ (x : List ℕ). w.done ++ x) (sym (at_end s (between s t) (between s q) p h w.left)) ∙ w.rest)
      w.wrote

  module _ (big : 442368 ≤ length entry) (h : p ≡ length s → ⊥) where
    -- a line of at most 27 bytes more has room
    module _ (x : List ℕ) (short : length x ≤ 27) where
      room_for : 0 + length (w.done ++ x) ≤ length entry
      room_for = omega (arith, length-append w.done x, w.reach, w.inside, w.fits)

      line_fits : n + length x ≤ length room
      line_fits = placed_fits w.done x entry 0 room_for w.wrote

      behind : {r : ℕ} {f : List ℕ} → Placed x room n r f → Placed (w.done ++ x) entry 0 r f
      behind b = placed_then w.done x entry 0 room_for w.wrote b

    one : w.done ++ lines_from (suc (w.left - 1)) s (between s t) (between s q) p ≡ lines_from 16384 s [] [] 0
    one =
        let z : suc (w.left - 1) ≡ w.left = omega (arith, w.reach, w.inside) in
        ap (λ (k : ℕ). w.done ++ lines_from k s (between s t) (between s q) p) z ∙ w.rest

    pub stop_fits : n + length bad_line ≤ length room
    stop_fits = line_fits bad_line (omega arith)

    stops : {r : ℕ} {f : List ℕ} → w.done ++ bad_line ≡ lines_from 16384 s [] [] 0 → Placed bad_line room n r f
        → Placed (lines_from 16384 s [] [] 0) entry 0 r f
    stops {r} {f} e b = subst (λ (x : List ℕ). Placed x entry 0 r f) e (behind bad_line (omega arith) b)

    pub cut : {r : ℕ} {f : List ℕ} → read_record s p ≡ None → Placed bad_line room n r f → Placed (lines_from 16384 s [] [] 0) entry 0 r f
    cut e b =
        stops (ap (λ (x : List ℕ). w.done ++ x) (sym (at_cut s (between s t) (between s q) p (w.left - 1) h e)) ∙ one) b

    module _ {found : RecordAt} (e : read_record s p ≡ Some found) where
      turned : w.done ++ kind_then (lines_from (w.left - 1) s) s (between s t) (between s q) found ≡ lines_from 16384 s [] [] 0
      turned =
          ap (λ (x : List ℕ). w.done ++ x) (sym (at_record s (between s t) (between s q) p (w.left - 1) h e)) ∙ one

      pub other : {r : ℕ} {f : List ℕ} → (found.kind ≡ 16 → ⊥) → (found.kind ≡ 32 → ⊥) → (found.kind ≡ 48 → ⊥) → Placed bad_line room n r f
          → Placed (lines_from 16384 s [] [] 0) entry 0 r f
      unfolding kind_then
      other i j k b = stops (rw (ne_eqb found.kind 16 i, ne_eqb found.kind 32 j, ne_eqb found.kind 48 k) at turned) b

      pub token_fits : (a : ℕ) → n + length (line a) ≤ length room
      token_fits a = line_fits (line a) (line_short a)

      module _ (b : IsBytes s) where
        read : IsRecord s p found
        read = record_read s b p e

        pub falls : length s - found.body.to < length s - p
        falls = omega (arith, read.begins, read.order, read.inside)

        pub table_one : found.kind ≡ 16 → Going s entry room found.body.to n found.body q
        unfolding kind_then
        table_one i =
            record {
              done = w.done;
              left = w.left - 1;
              wrote = w.wrote;
              long = w.long;
              rest = rw (eq-eqb found.kind 16 i) at turned;
              reach = omega (arith, w.reach, w.inside, read.begins, read.order);
              inside = read.inside;
              fits = omega (arith, w.fits);
            }

        pub request_one : (found.kind ≡ 16 → ⊥) → found.kind ≡ 32 → Going s entry room found.body.to n t found.body
        unfolding kind_then
        request_one i j =
            record {
              done = w.done;
              left = w.left - 1;
              wrote = w.wrote;
              long = w.long;
              rest = rw (ne_eqb found.kind 16 i, eq-eqb found.kind 32 j) at turned;
              reach = omega (arith, w.reach, w.inside, read.begins, read.order);
              inside = read.inside;
              fits = omega (arith, w.fits);
            }

        judged : {a : ℕ} → (found.kind ≡ 16 → ⊥) → (found.kind ≡ 32 → ⊥) → found.kind ≡ 48 → a ≡ verify_of (between s t) (between s q) (between s found.body)
            → (w.done ++ line a) ++ lines_from (w.left - 1) s (between s t) (between s q) found.body.to ≡ lines_from 16384 s [] [] 0
        unfolding kind_then
        judged {a} i j k v =
            append_assoc w.done (line a) (lines_from (w.left - 1) s (between s t) (between s q) found.body.to)
            ∙ rw v (rw (ne_eqb found.kind 16 i, ne_eqb found.kind 32 j, eq-eqb found.kind 48 k) at turned)

        pub token_one : {x y z : List ℕ} {a r : ℕ} {f : List ℕ} → (found.kind ≡ 16 → ⊥) → (found.kind ≡ 32 → ⊥) → found.kind ≡ 48
            → x ≡ between s t → y ≡ between s q → z ≡ between s found.body → a ≡ verify_of x y z → Placed (line a) room n r f
            → Going s entry f found.body.to r t q
        token_one {x} {y} {z} {a} i j k ex ey ez v g =
            record {
              done = w.done ++ line a;
              left = w.left - 1;
              wrote = behind (line a) (line_short a) g;
              long = ap length (behind (line a) (line_short a) g).content ∙ placed_length (w.done ++ line a) entry 0 (room_for (line a) (line_short a));
              rest = judged i j k (rw (ex, ey, ez) at v);
              reach = omega (arith, w.reach, w.inside, read.begins, read.order);
              inside = read.inside;
              fits = omega (arith, length-append w.done (line a), line_short a, w.fits, w.reach, w.inside);
            }
