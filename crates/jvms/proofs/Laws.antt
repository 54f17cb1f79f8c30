-- The plain machine has the laws of specs/Laws.antt.
-- Assumes nothing.
use Prim.Native.Nat.{ℕ}
use mathlib.Core.List.{List}
use Rattle.jvms.specs.Laws.{MachineLaws}
use Rattle.jvms.specs.Machine.{Pool}
use Rattle.jvms.proofs.Copy.{copies}
use Rattle.jvms.proofs.Forms.{either-form}
use Rattle.jvms.proofs.Keeps.{iinc_writes, wide_iinc_writes, keeps-locals, checkcast_keeps, athrow_stays, unlisted-stays}
use Rattle.jvms.proofs.Keys.{plain-key, wide-key, cut-key}
use Rattle.jvms.proofs.Loads.{loads-one, loads-two}
use Rattle.jvms.proofs.Locals.{reads_to_65536, writes_to_65536}
use Rattle.jvms.proofs.Sizes.{table_lists, fixed-size, listed_extent, steps_on, invokeinterface_five, leaves_listed, never-back}
use Rattle.jvms.proofs.Stores.{stores-one, stores-two}

pub machine_laws : (Val : Type 0) (pool : Pool) (code : List ℕ) (opaque : ℕ → ℕ → Val) → MachineLaws Val pool code opaque
machine_laws Val pool code opaque =
    record {
      plain_key = plain-key code;
      wide_key = wide-key code;
      cut_key = cut-key code;
      stores_one = stores-one pool code opaque;
      stores_two = stores-two pool code opaque;
      loads_one = loads-one pool code opaque;
      loads_two = loads-two pool code opaque;
      iinc = iinc_writes pool code opaque;
      wide_iinc = wide_iinc_writes pool code opaque;
      keeps_locals = keeps-locals pool code opaque;
      checkcast = checkcast_keeps pool code opaque;
      either_form = λ op f others e g m cited own stack. either-form cited own stack op f others e g m;
      copies = copies pool opaque;
      reads_to65536 = λ are. reads_to_65536 code are pool opaque;
      writes_to65536 = λ are. writes_to_65536 code are pool opaque;
      lists = table_lists;
      fixed_size = fixed-size code;
      extents = λ are pc. listed_extent code pc are;
      steps = λ are st. steps_on pool code opaque st are;
      invokeinterface = invokeinterface_five pool code opaque;
      leaves = λ are st. leaves_listed pool code opaque st are;
      athrow = athrow_stays pool code opaque;
      unlisted_stays = unlisted-stays pool code opaque;
      never_back = never-back pool code opaque;
    }
