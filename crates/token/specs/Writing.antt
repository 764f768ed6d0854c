-- Meaning. What issue and narrow write: the bytes of a fresh token around a scope, and those of a child, with one caveat more behind its
-- parent's and another tag. The array's head says how many there are, so that it grows from 23 to 24.
use Rattle.std.specs.Prelude.{List, [], ◌++◌, ℕ, ◌+◌}
use Rattle.token.specs.Tokens.{token_bytes}

-- 01: "issue a token without caveats"
abbrev pub fresh_bytes : List ℕ → List ℕ → List ℕ → List ℕ → List ℕ
fresh_bytes scope tag kid tid = token_bytes 0 [] scope tag kid tid

-- 01: "narrow a token by one caveat": of a parent with n caveats
abbrev pub child_bytes : ℕ → List ℕ → List ℕ → List ℕ → List ℕ → List ℕ → List ℕ → List ℕ
child_bytes n caveats caveat scope tag kid tid = token_bytes (n + 1) (caveats ++ caveat) scope tag kid tid
