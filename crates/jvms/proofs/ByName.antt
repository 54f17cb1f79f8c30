-- The instructions of specs/ByName.antt do what is written there: each line computes.
-- Assumes nothing.
use Prim.Native.Nat.{ℕ}
use mathlib.Core.Path.{refl}
use Rattle.basics.specs.Bytes.{u16_at}
use Rattle.jvms.specs.ByName.{none, ◌&◌, InstructionsByName}
use Rattle.jvms.specs.Extent.{extent_at}
use Rattle.jvms.specs.Format.{formats, format_of}
use Rattle.jvms.specs.Machine.{target}
use Rattle.jvms.specs.Stack.{entries, entry_of}

pub instructions_by_name :
    (Val : Type 0) (opaque : ℕ → ℕ → Val) (locals : ℕ → Val) (a b c d e : Val) → InstructionsByName Val opaque locals a b c d e
unfolding entries entry_of target u16_at extent_at formats format_of
instructions_by_name Val opaque locals a b c d e =
    record {
      pop = refl;
      pop2 = refl;
      dup = refl;
      dup2 = refl;
      swap = refl;
      dup_x1 = refl;
      dup_x2 = refl;
      dup2_x1 = refl;
      dup2_x2 = refl;
      two_to_one = refl & refl & refl & refl & refl & refl & refl & refl & refl & refl & refl & refl & refl & refl & refl & refl & refl & refl & none;
      four_to_two = refl & refl & refl & refl & refl & refl & refl & refl & refl & refl & refl & refl & refl & none;
      three_to_two = refl & refl & refl & none;
      four_to_one = refl & refl & refl & none;
      one_to_one = refl & refl & refl & refl & refl & refl & refl & none;
      two_to_two = refl & refl & refl & refl & none;
      one_to_two = refl & refl & refl & refl & none;
      long_to_one = refl & refl & refl & refl & none;
      iaload = refl;
      aaload = refl;
      laload = refl;
      aaload_from = refl;
      array_stores = refl & refl & refl & refl & refl & refl & none;
      long_array_stores = refl & refl & none;
      dastore_to = refl;
      getfield_int = refl;
      getfield_long = refl;
      getfield_from = refl;
      putstatic_int = refl;
      putstatic_long = refl;
      putfield_int = refl;
      putfield_long = refl;
      putfield_to = refl;
      monitorenter = refl;
      monitorexit = refl;
      multianewarray = refl;
      invokestatic_int = refl;
      invokestatic_long = refl;
      invokevirtual_int = refl;
      invokevirtual_long = refl;
      invokevirtual_from = refl;
      wide_aload = refl;
      wide_lload = refl;
      wide_astore = refl;
      wide_astored = refl;
      wide_iinc = refl;
      wide_iinc_bytes = refl;
    }
