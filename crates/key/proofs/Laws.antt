-- What a key of the code stands for tells it.
-- Assumes nothing.
use native.Mathlib.Omega.{arith}
use mathlib.Core.Path.{◌≡◌, ap}
use Rattle.key.specs.Laws.{KeyFromInjective}
use Rattle.key.specs.declared.Key.TheVariants.{Plain, Wide}

pub key_from_injective : KeyFromInjective
key_from_injective (Plain op) (Plain other) small little e = ap Plain e
key_from_injective (Plain op) (Wide other) small little e = absurd (omega (arith, small, e))
key_from_injective (Wide op) (Plain other) small little e = absurd (omega (arith, little, e))
key_from_injective (Wide op) (Wide other) small little e = let same : op ≡ other = omega (arith, e) in ap Wide same
