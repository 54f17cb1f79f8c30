-- The faulting instruction decoded (document 01, "Action and cause"): which action failed, and how deep the reference lies.
-- Assumes nothing.
use Rattle.std.specs.Prelude.{ℕ, ◌+◌, ◌-◌, Bool, List, [], ◌∷◌, eqb, Option, Some, None}
use Rattle.basics.specs.Ascii.{ascii}
use Rattle.basics.specs.Bytes.{byte_at, u16_at}
use Rattle.basics.specs.Choice.{pick, both, one_of, between, same_list}
use Rattle.items.specs.Text.{name_of}
use Rattle.lookup.specs.Lookup.{member_found}
use Rattle.effects.specs.Depth.{Depth, nowhere, at, depth_of}
use Rattle.effects.specs.Lookup.{lookup_in}
use Rattle.fault.specs.declared.Action.{Action}
use Rattle.fault.specs.declared.Action.TheVariants.{ReadField, AssignField, Invoke, LoadArray, StoreArray, ReadLength, ThrowException, EnterBlock, ExitBlock}
use Rattle.fault.specs.declared.Fault.{Fault}

-- "Invokes 182, 183, 185"
abbrev pub invokes : ℕ → Bool
invokes = one_of (182 ∷ 183 ∷ 185 ∷ [])

-- the action of an opcode that dereferences; the index is that of the member that it cites
unfoldable pub action_of : ℕ → ℕ → Action
action_of op index =
    pick (eqb op 180) (ReadField index)
    (pick (eqb op 181) (AssignField index)
    (pick (invokes op) (Invoke index)
    (pick (between 46 53 op) (LoadArray (op - 46))
    (pick (between 79 86 op) (StoreArray (op - 79))
    (pick (eqb op 190) ReadLength
    (pick (eqb op 191) ThrowException
    (pick (eqb op 194) EnterBlock ExitBlock)))))))

-- "a method named `<init>` gives answer 1 for all three"
unfoldable pub constructs : List ℕ → ℕ → ℕ → Bool
constructs members count index = same_list (name_of (member_found members index 1 count 0 0)) (ascii "<init>")

abbrev pub faulted : Action → ℕ → Option Fault
faulted action depth = Some (record { action = action; depth = depth })

abbrev pub failed_at : Depth → Action → Option Fault
failed_at nowhere action = None
failed_at (at depth) action = faulted action depth

-- nothing where answer 1 is given
unfoldable pub decoded : List ℕ → List ℕ → ℕ → ℕ → Option Fault
decoded code members count fault =
    pick (both (invokes (byte_at code fault)) (constructs members count (u16_at code (fault + 1)))) None
    (failed_at (depth_of (lookup_in members count) code fault) (action_of (byte_at code fault) (u16_at code (fault + 1))))
