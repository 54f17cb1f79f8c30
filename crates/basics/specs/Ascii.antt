-- A quoted text as the list of its bytes; every text that is quoted in a definition is ASCII.
-- Assumes nothing.
use Prim.Native.Char.{code}
use Rattle.std.specs.Prelude.{ℕ, zero, suc, List, [], ◌∷◌}
use Prim.Native.String.{String, len, char_at}

-- k bytes from an index on
abbrev pub ascii_from : ℕ → String → ℕ → List ℕ
ascii_from zero quoted at = []
ascii_from (suc k) quoted at = code (char_at quoted at) ∷ ascii_from k quoted (suc at)

abbrev pub ascii : String → List ℕ
ascii quoted = ascii_from (len quoted) quoted 0
