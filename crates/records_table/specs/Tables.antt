-- Meaning. What a key table is, which are good, and how one is written. Document 01, "House records": "Key table: 0 to 64 records of kind
-- 1, body: tid length (1 byte), tid, kid length, kid, 32 key bytes; strictly ascending"; tid and kid as everywhere: "1 to 64 of letters,
-- digits, "-", ".", "_"".
use Rattle.std.specs.Prelude.{◌≡◌, Bool, true, false, List, [], ◌∷◌, ◌++◌, ℕ, ◌≤◌, length}
use Rattle.cbor_keys.specs.Maps.{GoodName}
use Rattle.records.specs.Records.{counted, record_bytes}
use Rattle.basis.specs.Basis.{pick}
use Rattle.basis.specs.Limits.{key_length, rows_most, row_kind}
use Rattle.records_table.specs.Order.{ascends, same_ids}

pub record Row : Type 0 where
  pub tid : List ℕ
  pub kid : List ℕ
  pub key : List ℕ

unfoldable pub encode_row : Row → List ℕ
encode_row r = record_bytes row_kind (counted 1 r.tid ++ (counted 1 r.kid ++ r.key))

unfoldable pub encode_table : List Row → List ℕ
encode_table [] = []
encode_table (r ∷ rs) = encode_row r ++ encode_table rs

pub record GoodRow (r : Row) : Type 0 where
  pub good_tid : GoodName r.tid
  pub good_kid : GoodName r.kid
  pub key_long : length r.key ≡ key_length

-- each row good and behind the one before it
unfoldable pub GoodFrom : List ℕ → List ℕ → List Row → Type 0
GoodFrom t k [] = Unit {0}
GoodFrom t k (r ∷ rs) = GoodRow r × (ascends t k r.tid r.kid ≡ true) × GoodFrom r.tid r.kid rs

-- before the first row stand empty ids, which come before all others
pub record GoodTable (rs : List Row) : Type 0 where
  pub few : length rs ≤ rows_most
  pub rows : GoodFrom [] [] rs

-- whether there is a row with these ids. 01: "The lookup hands back the 32 key bytes as a part of the table ..; where the table is bad or has
-- no such row, an empty part."
unfoldable pub has_row : List Row → List ℕ → List ℕ → Bool
has_row [] tid kid = false
has_row (r ∷ rs) tid kid = pick (same_ids r.tid r.kid tid kid) true (has_row rs tid kid)

-- "the 32 key bytes" of the row with these ids; "where the table is bad or has no such row, an empty part": so no bytes
unfoldable pub key_in : List Row → List ℕ → List ℕ → List ℕ
key_in [] tid kid = []
key_in (r ∷ rs) tid kid = pick (same_ids r.tid r.kid tid kid) r.key (key_in rs tid kid)
