-- Condition 3. Rests on the walk's translation, the very slot, and the declared leader of `leaders`.
-- Assumes nothing.
use Prim.Native.Nat.{ℕ, ◌+◌, ◌-◌, ◌<◌}
use native.Mathlib.Omega.{arith}
use mathlib.Core.Path.{◌≡◌, ◌∙◌, sym, ap, subst}
use mathlib.Core.List.{List, [], ◌∷◌}
use lib.ListN.{length, get_or, take, length-append}
use lib.Seq.{take-append_seam, get_or-append-add}
use Rattle.basics.proofs.Each.{each_length, each_at}
use Rattle.jvms.specs.Machine.{Pool, State, target}
use Rattle.bytecode.specs.Rule.{LengthRule, document_rule, length_rule}
use Rattle.leaders.proofs.Declared.{nothing_lands_between, nothing_added_between}
use Rattle.effects.specs.Depth.{depth_of, at}
use Rattle.effects.specs.Lookup.{Lookup, lookup_in}
use Rattle.effects.specs.Rows.{rows_of}
use Rattle.effects.proofs.Rows.{model_agrees}
use Rattle.walk.specs.Room.{completed, block_walk_in}
use Rattle.cell.specs.Cell.{cell_of}
use Rattle.walk.specs.Walk.{cells, walk}
use Rattle.truth.specs.Condition.{Described, Findings, PremisesBy, ConditionOver, Condition3, DocumentCondition3}
use Rattle.truth.specs.Relation.{Setting, Speaks, Given, Translated}
use Rattle.truth.specs.Translation.{since, HeldWhen, Translates}
use Rattle.cell.proofs.Laws.{cell_injective, no_load_is_zero}
use Rattle.truth.proofs.Room.{Fitted, fitted}
use Rattle.truth.proofs.Slot.{very-slot}
use Rattle.truth.proofs.Walked.{walk_translates}

-- ---- a report

module _ {rule : LengthRule} {handlers : List ℕ} (f : Findings) (pool : Pool) (p : PremisesBy rule handlers f pool) where
  abbrev lookup : Lookup
  lookup = lookup_in f.members f.member_count

  -- the walk without room
  fits :
      Fitted p.room (completed cells (rows_of f.model) lookup f.code f.fault f.leader)
      (walk cells (rows_of f.model) lookup f.code f.fault f.leader) f.height f.count
  unfolding block_walk_in
  fits = fitted p.room _ _ f.height f.count p.walked

  -- the slots that are reported are the walk's
  slots_are : take f.height f.stack ≡ fits.slots
  unfolding block_walk_in
  slots_are = ap (take f.height) p.left ∙ fits.shows

  pub slots_tall : length (take f.height f.stack) ≡ f.height
  slots_tall = ap length slots_are ∙ sym fits.tall

  -- ---- a machine

  module _ (Val : Type 0) (opaque : ℕ → ℕ → Val) (entering : List Val) (locals : ℕ → Val) where
    abbrev states : ℕ → State Val
    states = since pool f.code opaque f.leader entering locals

    -- a cell that marks a load says what the local held then
    abbrev setting : Setting ℕ Val
    setting =
        record {
          code = f.code;
          leader = f.leader;
          fault = f.fault;
          lookup = lookup;
          rows = rows_of f.model;
          marks = cells;
          pool = pool;
          opaque = opaque;
          entering = entering;
          locals = locals;
          Says = λ cell v. (b n : ℕ) → n < 65536 → cell ≡ cell_of b n → HeldWhen states f.count b n v;
        }

    given : Given setting
    given = record { agrees = model_agrees f.model; bytes = p.bytes; inside = p.inside; described = p.described }

    speaks : (j : ℕ) → j < f.count → Speaks setting (states j)
    speaks j early =
        record {
          made = λ k b n small e. absurd (no_load_is_zero b n (sym e));
          held = λ local below b n small e.
              let same = cell_injective (states j).pc local b n below small e in
              record { turn = j; ran = early; there = same.0; held = ap (λ (i : ℕ). (states j).locals i) same.1 };
        }

    translated : Translated setting fits.slots f.count
    translated = walk_translates ℕ Val setting given fits.slots f.count fits.succeeds speaks

    one-each : length (states f.count).stack ≡ length entering + length fits.slots
    one-each =
        ap length translated.untouched ∙ length-append entering translated.above
        ∙ ap (λ (n : ℕ). length entering + n) (sym (each_length translated.held))

    -- the value above the entering stack that stands for a slot
    value_of :
        (k : ℕ) (absent : Val) →
        get_or translated.above k absent ≡ get_or (states f.count).stack (length entering + k) absent
    value_of k absent =
        sym (ap (λ (l : List Val). get_or l (length entering + k) absent) translated.untouched
        ∙ get_or-append-add entering translated.above k absent)

    translates : Translates states f.fault entering fits.slots f.count
    translates =
        record {
          reached = translated.reached;
          not_before = translated.not_before;
          untouched = ap (take (length entering)) translated.untouched ∙ take-append_seam entering translated.above;
          one_each = one-each;
          holds = λ k b n absent inside small e.
              subst (λ (v : Val). HeldWhen states f.count b n v) (value_of k absent)
              (each_at translated.held k inside 0 absent b n small e);
        }

    -- a depth from the top of the stack is one from the top of the slots
    very :
        (absent : Val) (depth : ℕ) → depth_of lookup f.code f.fault ≡ at depth → depth < f.height →
        target pool f.code (states f.count)
        ≡ get_or (states f.count).stack (length entering + (f.height - 1 - depth)) absent ∷ []
    very absent depth e enough =
        let st : State Val = states f.count in
        let size : length st.stack ≡ length entering + f.height = omega (arith, one-each, fits.tall) in
        let there : length st.stack - 1 - depth ≡ length entering + (f.height - 1 - depth) = omega (arith, size) in
        let told : Described lookup pool f.code st.pc =
        rw translated.reached (p.described f.fault translated.in_block (omega arith)) in
        very-slot lookup pool f.code p.bytes st told depth absent (rw translated.reached e) (omega (arith, size))
        ∙ ap (λ (k : ℕ). get_or st.stack k absent ∷ []) there

pub condition_over : ConditionOver
condition_over rule handlers f pool p =
    record {
      translated = λ Val opaque entering locals. rw (slots_are f pool p) (translates f pool p Val opaque entering locals);
      very_slot = very f pool p;
      nothing_lands = λ pc x reached lands above below.
          nothing_lands_between rule handlers f.code p.bytes f.fault f.leader p.scan p.inside p.measured
          pc x reached lands (omega arith) below;
      no_handler = λ x listed above below.
          nothing_added_between rule handlers f.code p.bytes f.fault f.leader p.scan p.measured x listed
          (omega arith) below;
    }

pub condition_3 : Condition3
condition_3 = condition_over length_rule []

pub document_condition_3 : DocumentCondition3
document_condition_3 = condition_over document_rule []
