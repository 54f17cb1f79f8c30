-- The fault and the action ask for one index: two runs of members in which that index finds the same are answered alike.
-- Assumes nothing.
use Prim.Native.Nat.{ℕ, ◌+◌, ◌-◌}
use mathlib.Core.Path.{◌≡◌, refl, ap}
use mathlib.Core.List.{List}
use lib.Dec.{eqb}
use Rattle.basics.specs.Bytes.{byte_at, u16_at}
use Rattle.basics.specs.Choice.{between}
use Rattle.basics.proofs.Choice.{chosen}
use Rattle.lookup.specs.Lookup.{member_found}
use Rattle.effects.specs.Lookup.{known_by, lookup_in}
use Rattle.effects.specs.Depth.{Rule, none, fixed, reads, writes, invokes as invokes_rule, depth_by, rule_of, depth_of}
use Rattle.fault.specs.Decoding.{invokes, action_of, constructs, decoded}
use Rattle.fault.specs.declared.Action.{Action}
use Rattle.fault.specs.declared.Action.TheVariants.{ReadField, AssignField, Invoke, LoadArray, StoreArray, ReadLength, ThrowException, EnterBlock, ExitBlock}
use Rattle.action.specs.Action.{action_text}
use Rattle.words.specs.declared.Wording.{Wording}

module _ (one all : List ℕ) (count whole index : ℕ)
    (same : (kind : ℕ) → member_found one index kind count 0 0 ≡ member_found all index kind whole 0 0) where
  known_alike : (kind : ℕ) → lookup_in one count kind index ≡ lookup_in all whole kind index
  unfolding lookup_in
  known_alike kind = ap known_by (same kind)

  module _ (code : List ℕ) (fault : ℕ) (cites : u16_at code (fault + 1) ≡ index) where
    depth_alike : (rule : Rule) → depth_by rule (lookup_in one count) code fault ≡ depth_by rule (lookup_in all whole) code fault
    depth_alike none = refl
    depth_alike (fixed depth) = refl
    depth_alike reads = rw (cites, known_alike 0)
    depth_alike writes = rw (cites, known_alike 0)
    depth_alike invokes_rule = rw (cites, known_alike 1)

    pub fault_alike : decoded code one count fault ≡ decoded code all whole fault
    unfolding decoded depth_of constructs
    fault_alike = rw (depth_alike (rule_of (byte_at code fault)), cites, same 1)

  module _ (wording : Wording) where
    abbrev Alike : Action → Type 0
    Alike action = action_text wording one count action ≡ action_text wording all whole action

    pub action_alike : (op : ℕ) → Alike (action_of op index)
    unfolding action_of action_text
    action_alike op =
        chosen Alike (eqb op 180) (ReadField index) _ (rw (same 0))
        (chosen Alike (eqb op 181) (AssignField index) _ (rw (same 0))
        (chosen Alike (invokes op) (Invoke index) _ (rw (same 1))
        (chosen Alike (between 46 53 op) (LoadArray (op - 46)) _ refl
        (chosen Alike (between 79 86 op) (StoreArray (op - 79)) _ refl
        (chosen Alike (eqb op 190) ReadLength _ refl
        (chosen Alike (eqb op 191) ThrowException _ refl
        (chosen Alike (eqb op 194) EnterBlock ExitBlock refl refl)))))))
