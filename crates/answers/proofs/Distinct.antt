-- Two answers never share a number or a name: each number, and each name, leads back to its answer. A number is told as free
-- exactly where no answer has it.
use Rattle.std.proofs.Common.{◌≡◌, ℕ, Bool, true, false, cond, ◌&&◌, ◌==◌, List, [], ◌∷◌, Option, Some, None, refl, sym, ap, ◌∙◌}
use Rattle.std.specs.List.{find, list_all}
use Rattle.std.specs.Str.{bytes_eq}
use Rattle.std.proofs.lemmas.Bool.{eqb-true}
use Rattle.answers.specs.Answers.{number_of, name_of, list, answer_of}
use Rattle.answers.specs.declared.Answer.{Answer}
use Rattle.answers.specs.declared.Answer.TheVariants.{
  Allow,
  TableBad,
  CtxBad,
  ParseB64,
  ParseCbor,
  ParseBounds,
  SchemaUnknownField,
  KidUnknown,
  MacMismatch,
  TenantMismatch,
  CaveatMethod,
  CaveatPath,
  CaveatBytes,
  CaveatExp,
  CaveatNbf,
  CaveatAud,
  CaveatIp,
  CaveatRate,
  CaveatTenant,
  CaveatAmnesia,
  CaveatPolicyDigest,
  CaveatCustomUnknown,
  CavCbor,
  CavBounds,
  CavUnknown,
  CavFull,
  SizeFull,
  OutShort,
  HashBad,
}

by_name : List ℕ → Option Answer
by_name s = find (λ a. bytes_eq s (name_of a)) list

back : (a : Answer) → (answer_of (number_of a) ≡ Some a) × (by_name (name_of a) ≡ Some a)
unfolding answer_of by_name
back Allow = (refl, refl)
back TableBad = (refl, refl)
back CtxBad = (refl, refl)
back ParseB64 = (refl, refl)
back ParseCbor = (refl, refl)
back ParseBounds = (refl, refl)
back SchemaUnknownField = (refl, refl)
back KidUnknown = (refl, refl)
back MacMismatch = (refl, refl)
back TenantMismatch = (refl, refl)
back CaveatMethod = (refl, refl)
back CaveatPath = (refl, refl)
back CaveatBytes = (refl, refl)
back CaveatExp = (refl, refl)
back CaveatNbf = (refl, refl)
back CaveatAud = (refl, refl)
back CaveatIp = (refl, refl)
back CaveatRate = (refl, refl)
back CaveatTenant = (refl, refl)
back CaveatAmnesia = (refl, refl)
back CaveatPolicyDigest = (refl, refl)
back CaveatCustomUnknown = (refl, refl)
back CavCbor = (refl, refl)
back CavBounds = (refl, refl)
back CavUnknown = (refl, refl)
back CavFull = (refl, refl)
back SizeFull = (refl, refl)
back OutShort = (refl, refl)
back HashBad = (refl, refl)

pub number_back : (a : Answer) → answer_of (number_of a) ≡ Some a
number_back a = (back a).0

-- what is found passes the test, and any other that all of the list pass
pub found : {A : Type 0} (test other : A → Bool) (l : List A) {a : A} → list_all other l ≡ true → find test l ≡ Some a
    → (test a ≡ true) × (other a ≡ true)
found test other [] all e = let z : ⊥ = cc in absurd z
found test other (b ∷ rest) {a} all e = by (test b) (other b) refl refl all e (found test other rest)
  where
    by : (t o : Bool) → test b ≡ t → other b ≡ o → (o && list_all other rest) ≡ true → cond t (Some b) (find test rest) ≡ Some a
        → (list_all other rest ≡ true → find test rest ≡ Some a → (test a ≡ true) × (other a ≡ true)) → (test a ≡ true) × (other a ≡ true)
    by true true p q all e h = let x : b ≡ a = cc in (ap test (sym x) ∙ p, ap other (sym x) ∙ q)
    by false true p q all e h = h all e
    by t false p q all e h = let z : ⊥ = cc in absurd z

-- the other way: a number that is told as an answer's is that answer's
pub listed_number : (n : ℕ) {a : Answer} → answer_of n ≡ Some a → number_of a ≡ n
unfolding answer_of
listed_number n {a} e = sym (eqb-true n (number_of a) (found (λ b. n == number_of b) (λ b. true) list refl e).0)

-- and one that is told as free is no answer's
pub free_number : (n : ℕ) → answer_of n ≡ None → (a : Answer) → number_of a ≡ n → ⊥
free_number n e a q = let p : Some a ≡ None = sym (number_back a) ∙ ap answer_of q ∙ e in cc

pub numbers_differ : (a b : Answer) → number_of a ≡ number_of b → a ≡ b
numbers_differ a b e = let p : Some a ≡ Some b = sym (number_back a) ∙ ap answer_of e ∙ number_back b in cc

pub names_differ : (a b : Answer) → name_of a ≡ name_of b → a ≡ b
names_differ a b e = let p : Some a ≡ Some b = sym (back a).1 ∙ ap by_name e ∙ (back b).1 in cc
