-- Meaning. What the maps of a token share: keys, entries that may be absent, lists of texts, strings within limits.
use Rattle.std.specs.Prelude.{◌≡◌, true, List, [], ◌∷◌, ◌++◌, ℕ, ◌≤◌, length}
use Rattle.std.proofs.Math.Option.{Option, some, none}
use Prim.Native.String.{String}
use Rattle.basis.specs.Basis.{ascii}
use Rattle.basis.specs.Limits.{name_most}
use Rattle.cbor_heads.specs.Majors.{text_string}
use Rattle.cbor_strings.specs.Strings.{string, content_of}
use Rattle.cbor_strings.specs.declared.Class.{Class}
use Rattle.cbor_strings.specs.declared.Class.TheVariants.{Name}

-- a text as it is written
abbrev pub text : List ℕ → List ℕ
text = string text_string

-- an entry of a map: its key and its value's bytes
abbrev pub entry : String → List ℕ → List ℕ
entry key value = text (ascii key) ++ value

abbrev pub entry_if : {A : Type 0} → String → (A → List ℕ) → Option A → List ℕ
entry_if key f none = []
entry_if key f (some a) = entry key (f a)

-- how many entries it adds
abbrev pub present : {A : Type 0} → Option A → ℕ
present none = 0
present (some a) = 1

abbrev pub IfPresent : {A : Type 0} → (A → Type 0) → Option A → Type 0
IfPresent f none = Unit {0}
IfPresent f (some a) = f a

unfoldable pub texts : List (List ℕ) → List ℕ
texts [] = []
texts (m ∷ ms) = text m ++ texts ms

-- a string of `low` to `high` bytes of one class
pub record GoodText (class : Class) (low high : ℕ) (s : List ℕ) : Type 0 where
  pub enough : low ≤ length s
  pub most : length s ≤ high
  pub content : content_of class s ≡ true

-- 01: "tid, kid, tenant, ns, name: 1 to 64 of letters, digits, "-", ".", "_""
abbrev pub GoodName : List ℕ → Type 0
GoodName = GoodText Name 1 name_most
