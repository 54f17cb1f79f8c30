-- JVMS 6.5 has a format for the opcodes from 0 to 201 and for no other: one computed test over all bytes.
-- Assumes nothing.
use Prim.Native.Nat.{ℕ, ◌<◌}
use mathlib.Core.Path.{◌≡◌}
use mathlib.Core.Bool.{Bool, true, false}
use lib.Dec.{leb}
use Rattle.basics.specs.Choice.{alike}
use Rattle.basics.proofs.Every.{every_at, alike_is}
use Rattle.jvms.specs.Format.{Format, fixed, tableswitch, lookupswitch, wide, reserved, format_of}

abbrev pub is_reserved : Format → Bool
is_reserved (fixed os) = false
is_reserved tableswitch = false
is_reserved lookupswitch = false
is_reserved wide = false
is_reserved reserved = true

pub reserved_from_202 : (op : ℕ) → op < 256 → is_reserved (format_of op) ≡ leb 202 op
unfolding format_of
reserved_from_202 op below =
    alike_is (is_reserved (format_of op)) (leb 202 op) (every_at (λ k. alike (is_reserved (format_of k)) (leb 202 k)) 256 tt op below)
