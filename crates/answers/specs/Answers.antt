-- Meaning. The one numbered list: document 01, "Numbers and names". Each answer has its number and its name here, and the demands'
-- statements name answers. Definitions that follow the code have the numbers as the code has them; the demands' theorems hold them to this
-- list.
use Rattle.std.specs.Prelude.{List, [], ◌∷◌, ℕ, ◌==◌, Option, find}
use Rattle.basis.specs.Basis.{ascii}
use Rattle.answers.specs.declared.Answer.{Answer}
use Rattle.answers.specs.declared.Answer.TheVariants.{
  Allow,
  TableBad,
  CtxBad,
  ParseB64,
  ParseCbor,
  ParseBounds,
  SchemaUnknownField,
  KidUnknown,
  MacMismatch,
  TenantMismatch,
  CaveatMethod,
  CaveatPath,
  CaveatBytes,
  CaveatExp,
  CaveatNbf,
  CaveatAud,
  CaveatIp,
  CaveatRate,
  CaveatTenant,
  CaveatAmnesia,
  CaveatPolicyDigest,
  CaveatCustomUnknown,
  CavCbor,
  CavBounds,
  CavUnknown,
  CavFull,
  SizeFull,
  OutShort,
  HashBad,
}

abbrev pub number_of : Answer → ℕ
number_of Allow = 0
number_of TableBad = 1
number_of CtxBad = 2
number_of ParseB64 = 3
number_of ParseCbor = 4
number_of ParseBounds = 5
number_of SchemaUnknownField = 6
number_of KidUnknown = 7
number_of MacMismatch = 8
number_of TenantMismatch = 9
number_of CaveatMethod = 10
number_of CaveatPath = 11
number_of CaveatBytes = 12
number_of CaveatExp = 13
number_of CaveatNbf = 14
number_of CaveatAud = 15
number_of CaveatIp = 16
number_of CaveatRate = 17
number_of CaveatTenant = 18
number_of CaveatAmnesia = 19
number_of CaveatPolicyDigest = 20
number_of CaveatCustomUnknown = 21
number_of CavCbor = 31
number_of CavBounds = 32
number_of CavUnknown = 33
number_of CavFull = 34
number_of SizeFull = 35
number_of OutShort = 36
number_of HashBad = 37

-- 0 is named "allow, or done": a name is asked for where a token was judged, so it is the first
abbrev pub name_of : Answer → List ℕ
name_of Allow = ascii "allow"
name_of TableBad = ascii "table.bad"
name_of CtxBad = ascii "ctx.bad"
name_of ParseB64 = ascii "parse.b64"
name_of ParseCbor = ascii "parse.cbor"
name_of ParseBounds = ascii "parse.bounds"
name_of SchemaUnknownField = ascii "schema.unknown_field"
name_of KidUnknown = ascii "kid.unknown"
name_of MacMismatch = ascii "mac.mismatch"
name_of TenantMismatch = ascii "tenant.mismatch"
name_of CaveatMethod = ascii "caveat.method"
name_of CaveatPath = ascii "caveat.path"
name_of CaveatBytes = ascii "caveat.bytes"
name_of CaveatExp = ascii "caveat.exp"
name_of CaveatNbf = ascii "caveat.nbf"
name_of CaveatAud = ascii "caveat.aud"
name_of CaveatIp = ascii "caveat.ip"
name_of CaveatRate = ascii "caveat.rate"
name_of CaveatTenant = ascii "caveat.tenant"
name_of CaveatAmnesia = ascii "caveat.amnesia"
name_of CaveatPolicyDigest = ascii "caveat.policy_digest"
name_of CaveatCustomUnknown = ascii "caveat.custom.unknown"
name_of CavCbor = ascii "cav.cbor"
name_of CavBounds = ascii "cav.bounds"
name_of CavUnknown = ascii "cav.unknown"
name_of CavFull = ascii "cav.full"
name_of SizeFull = ascii "size.full"
name_of OutShort = ascii "out.short"
name_of HashBad = ascii "hash.bad"

-- the list, in its order
abbrev pub list : List Answer
list =
    Allow ∷ TableBad ∷ CtxBad ∷ ParseB64 ∷ ParseCbor ∷ ParseBounds ∷ SchemaUnknownField ∷ KidUnknown ∷ MacMismatch ∷ TenantMismatch ∷ CaveatMethod ∷ CaveatPath ∷ CaveatBytes ∷ CaveatExp ∷ CaveatNbf ∷ CaveatAud ∷ CaveatIp ∷ CaveatRate ∷ CaveatTenant ∷ CaveatAmnesia ∷ CaveatPolicyDigest ∷ CaveatCustomUnknown ∷ CavCbor ∷ CavBounds ∷ CavUnknown ∷ CavFull ∷ SizeFull ∷ OutShort ∷ HashBad ∷ []

-- the one with this number; `None`: no answer has it
unfoldable pub answer_of : ℕ → Option Answer
answer_of n = find (λ a. n == number_of a) list
