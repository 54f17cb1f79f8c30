-- One instruction of the walk and of the machine: where it goes, and that the slots still say the truth.
-- Assumes nothing.
use Rattle.std.specs.Prelude.{Ok}
use Prim.Native.Nat.{ℕ, ◌+◌, ◌-◌, ◌≤◌, ◌<◌}
use native.Mathlib.Omega.{arith}
use mathlib.Core.Path.{◌≡◌, refl, ◌∙◌, sym, ap}
use mathlib.Core.List.{List, [], ◌∷◌, ◌++◌, append-nil}
use lib.Dec.{T}
use lib.ListN.{length, take, length-append}
use lib.Seq.{take_all}
use Rattle.basics.proofs.Each.{each_length}
use Rattle.jvms.specs.Extent.{Extent, takes, extent_at}
use Rattle.jvms.specs.Machine.{State, cited_at, size_of, below, topmost, replaced, results, next}
use Rattle.jvms.specs.Stack.{objectref, reference, ◌⇒◌, does, Cited, Form, Entry, entry_of, key_at, key_count}
use Rattle.jvms.proofs.Keys.{key_below}
use Rattle.fixed.specs.Fixed.{size_at}
use Rattle.bytecode.specs.Length.{length_of}
use Rattle.bytecode.proofs.Measuring.{fits}
use Rattle.lengths.proofs.Agree.{jvms_length}
use Rattle.effects.specs.Agreement.{is_modelled, has_effect, taken_by, Pushed, FormAgrees, forms_of, has_form, EffectAgrees}
use Rattle.effects.specs.Rows.{Row, unmodelled, opaque, aload, aload_far, aload_of, carries, keeps, gets, calls, puts, makes}
use Rattle.walk.specs.Walk.{blanks, effect_by, made, applied}
use Rattle.truth.specs.Condition.{InBlock, after, Described}
use Rattle.truth.specs.Relation.{Setting, own, Speaks, Given}
use Rattle.truth.proofs.Above.{Above, moved, held_pushed}
use Rattle.truth.proofs.Machine.{topmost_length, checkcast_keeps, performed, acted}
use Rattle.truth.proofs.Reading.{push_for, effect_read}
use Rattle.walk.proofs.Step.{refused_not_made, applied_is, Stepped}

-- a row has an effect, or is that of `checkcast`, or is not modelled
pub data Sort : Row → Type 0 where
  effective : {row : Row} → T (has_effect row) → T (is_modelled row) → Sort row
  keeping : Sort keeps
  missing : Sort unmodelled

sort_of : (row : Row) → Sort row
sort_of unmodelled = missing
sort_of (opaque taken given) = effective tt tt
sort_of aload = effective tt tt
sort_of aload_far = effective tt tt
sort_of (aload_of local) = effective tt tt
sort_of (carries taken places) = effective tt tt
sort_of keeps = keeping
sort_of (gets taken) = effective tt tt
sort_of (calls taken) = effective tt tt
sort_of (puts taken) = effective tt tt
sort_of makes = effective tt tt

module _
    {A Val : Type 0} (s : Setting A Val) (given : Given s) (st : State Val) (list : List A) (a : Above s list st.stack) where
  abbrev op : ℕ
  op = key_at s.code st.pc

  abbrev size : ℕ
  size = size_at s.code st.pc

  known : op < key_count
  known = key_below s.code given.bytes st.pc

  abbrev cited : Cited
  cited = cited_at s.pool s.code st.pc

  abbrev Makes : Row → List A → Type 0
  Makes row slots = applied s.marks st.pc (effect_by s.lookup s.code st.pc row) list ≡ made slots

  abbrev kept : Form
  kept = reference objectref ∷ [] ⇒ reference objectref ∷ []

  abbrev after_it : State Val
  after_it = performed s st (entry_of op)

  -- ---- where it goes

  module _ (modelled : T (is_modelled (s.rows op))) where
    extent : extent_at s.code st.pc ≡ takes size
    extent = given.agrees.sized s.code given.bytes st.pc modelled

    on_by_size : after_it.pc ≡ st.pc + size_of (extent_at s.code st.pc) → after_it.pc ≡ st.pc + size
    on_by_size e = e ∙ ap (λ (x : Extent). st.pc + size_of x) extent

    measured : st.pc + size ≤ s.fault → length_of s.code st.pc ≡ Ok size
    measured not_past =
        jvms_length size s.code given.bytes st.pc extent
        ∙ sym (fits s.code st.pc size (omega (arith, given.inside)))

  -- ---- what it leaves

  -- the slots are no more than the stack
  reach : (n : ℕ) → n ≤ length list → n ≤ length st.stack
  reach n h =
      omega (arith, ap length a.untouched, length-append s.entering a.above, each_length a.held)

  -- what a row says of the stack
  record Put (row : Row) : Type 0 where
    put : List Val
    stack : after_it.stack ≡ below (taken_by row cited) st.stack ++ put
    says : Pushed row cited (topmost (taken_by row cited) st.stack) (own s st) put

  put_by :
      (row : Row) (form : Form) → FormAgrees row form → after_it.stack ≡ replaced cited form (own s st) st.stack →
      taken_by row cited ≤ length st.stack → Put row
  put_by row form agrees e enough =
      let t : ℕ = taken_by row cited in
      let put : ℕ → List Val = λ n. results cited form.before (topmost n st.stack) (own s st) 0 form.after in
      record {
        put = put t;
        stack = e ∙ ap (λ (n : ℕ). below n st.stack ++ put n) (agrees.taken cited);
        says = agrees.pushed Val cited (topmost t st.stack) (own s st) (topmost_length t st.stack enough);
      }

  pub record Turned (next : ℕ) (slots : List A) : Type 0 where
    pub there : after_it.pc ≡ next
    pub in_block : InBlock s.code s.leader next
    pub leaves : Above s slots after_it.stack

  module _ (told : Described s.lookup s.pool s.code st.pc) (speaks : Speaks s st) where
    -- a row with an effect
    effect_moves : (row : Row) → EffectAgrees op row → (slots : List A) → Makes row slots → Above s slots after_it.stack
    effect_moves row agrees slots e =
        let push = push_for s.pool s.code st.pc row in
        let act = acted s st (entry_of op) agrees.some in
        let went = applied_is s.marks st.pc list (taken_by row cited) push slots
        (effect_read s.lookup s.pool s.code st.pc told s.marks list slots row agrees.details e) in
        let p =
        put_by row act.form (agrees.each act.form act.its) act.stack (reach (taken_by row cited) went.enough) in
        moved s st.pc list (taken_by row cited) push slots st.stack after_it.stack p.put a went p.stack
        (held_pushed s given st speaks list row p.put a agrees.details went.enough p.says)

    -- `checkcast`
    keeps_all : (slots : List A) → entry_of op ≡ does kept → Makes keeps slots → Above s slots after_it.stack
    keeps_all slots entry e =
        let same : slots ≡ list =
        (applied_is s.marks st.pc list 0 (blanks 0) slots e).left
        ∙ append-nil (take (length list - 0) list) ∙ take_all (length list - 0) list (omega arith) in
        let stays : after_it.stack ≡ st.stack =
        ap (λ (x : Entry). (performed s st x).stack) entry ∙ checkcast_keeps cited (s.opaque st.pc) st.stack in
        rw (same, stays) a

    -- ---- both

    module _ (here : InBlock s.code s.leader st.pc) (next : ℕ) (slots : List A)
        (step : Stepped s.marks s.rows s.lookup s.code s.fault st.pc list next slots) where
      turns :
          T (is_modelled (s.rows op)) → T (has_form (forms_of (entry_of op))) → Above s slots after_it.stack → Turned next slots
      turns modelled some leaves =
          let not_past : st.pc + size ≤ s.fault = omega (arith, step.lands, step.not_past) in
          record {
            there = on_by_size modelled (acted s st (entry_of op) some).pc ∙ sym step.lands;
            in_block = rw step.lands (after here (measured modelled not_past));
            leaves = leaves;
          }

      by_sort : (row : Row) → s.rows op ≡ row → Sort row → Turned next slots
      by_sort row e (effective some modelled) =
          let agrees : EffectAgrees op (s.rows op) = given.agrees.effect op known (rw e some) in
          turns (rw e modelled) agrees.some (effect_moves (s.rows op) agrees slots step.makes)
      by_sort row e keeping =
          let entry = given.agrees.kept op known e in
          turns (rw e tt) (rw entry tt) (keeps_all slots entry (rw e at step.makes))
      by_sort row e missing = refused_not_made (rw e at step.makes)

      pub turned : Turned next slots
      turned = by_sort (s.rows op) refl (sort_of (s.rows op))
