-- A key of the code is told by what it stands for, so `key_at` has one answer. Proved in proofs/Laws.antt.
-- Assumes nothing.
use Rattle.std.specs.Prelude.{◌<◌, ◌≡◌}
use Rattle.key.specs.Key.{key_from}
use Rattle.key.specs.declared.Key.{Key}
use Rattle.key.specs.declared.Key.TheVariants.{Plain, Wide}

-- the opcode is a byte, as in every key of the code
abbrev pub OfByte : Key → Type 0
OfByte (Plain op) = op < 256
OfByte (Wide op) = op < 256

abbrev pub KeyFromInjective : Type 0
KeyFromInjective = (one other : Key) → OfByte one → OfByte other → key_from one ≡ key_from other → one ≡ other
