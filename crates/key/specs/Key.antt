-- What the code's keys stand for: the keys of the tables (crates/jvms/specs/Stack.antt).
-- Assumes nothing.
use Rattle.std.specs.Prelude.{ℕ, ◌+◌}
use Rattle.key.specs.declared.Key.{Key}
use Rattle.key.specs.declared.Key.TheVariants.{Plain, Wide}

abbrev pub key_from : Key → ℕ
key_from (Plain op) = op
key_from (Wide op) = 256 + op
