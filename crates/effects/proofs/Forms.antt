-- A row and one form of JVMS: a test that antt computes, and that the row agrees with the form where it passes.
-- Assumes nothing.
use Prim.Native.Nat.{ℕ}
use mathlib.Core.Path.{◌≡◌, ◌∙◌, sym, ap, subst}
use mathlib.Core.Bool.{Bool}
use mathlib.Core.List.{List}
use lib.Dec.{T}
use lib.ListN.{length}
use Rattle.basics.specs.Choice.{both}
use Rattle.basics.proofs.Every.{both_first, both_second}
use Rattle.jvms.specs.Machine.{run, results}
use Rattle.jvms.specs.Stack.{Form, Cited, slots_in}
use Rattle.effects.specs.Agreement.{taken_by, given_by, Pushed, FormAgrees}
use Rattle.effects.specs.Rows.{Row, unmodelled, opaque, aload, aload_far, aload_of, carries, keeps, gets, calls, puts, makes}
use Rattle.effects.proofs.Results.{none_borne, own_results, places_are, carried_results}
use Rattle.effects.proofs.Weights.{operands_linear, taken_linear, given_linear, alike_for_five, alike_for_all}

abbrev pushes_fit : Row → Form → Bool
pushes_fit unmodelled form = none_borne form.before form.after
pushes_fit (opaque taken given) form = none_borne form.before form.after
pushes_fit aload form = none_borne form.before form.after
pushes_fit aload_far form = none_borne form.before form.after
pushes_fit (aload_of local) form = none_borne form.before form.after
pushes_fit (carries taken places) form = places_are form.before form.after taken places
pushes_fit keeps form = none_borne form.before form.after
pushes_fit (gets taken) form = none_borne form.before form.after
pushes_fit (calls taken) form = none_borne form.before form.after
pushes_fit (puts taken) form = none_borne form.before form.after
pushes_fit makes form = none_borne form.before form.after

abbrev taken_fits : Row → Form → Bool
taken_fits row form = alike_for_five (λ c. slots_in c form.before) (taken_by row)

abbrev given_fits : Row → Form → Bool
given_fits row form = alike_for_five (λ c. slots_in c form.after) (given_by row)

abbrev pub form_fits : Row → Form → Bool
form_fits row form = both (taken_fits row form) (both (given_fits row form) (pushes_fit row form))

module _ (form : Form) {Val : Type 0} (cited : Cited) (operands : List Val) (own : ℕ → Val) where
  abbrev pushed : List Val
  pushed = results cited form.before operands own 0 form.after

  own_pushed : (n : ℕ) → T (none_borne form.before form.after) → slots_in cited form.after ≡ n → pushed ≡ run n 0 own
  own_pushed n t e = own_results cited form.before operands own 0 form.after t ∙ ap (λ (k : ℕ). run k 0 own) e

  pushes_agree :
      (row : Row) → T (pushes_fit row form) → slots_in cited form.after ≡ given_by row cited →
      length operands ≡ taken_by row cited → Pushed row cited operands own pushed
  pushes_agree unmodelled t e size = own_pushed 0 t e
  pushes_agree (opaque taken given) t e size = own_pushed given t e
  pushes_agree aload t e size = own_pushed 1 t e
  pushes_agree aload_far t e size = own_pushed 1 t e
  pushes_agree (aload_of local) t e size = own_pushed 1 t e
  pushes_agree (carries taken places) t e size =
      carried_results cited form.before form.after operands own places
      (subst (λ (n : ℕ). T (places_are form.before form.after n places)) (sym size) t)
  pushes_agree keeps t e size = own_pushed 0 t e
  pushes_agree (gets taken) t e size = own_pushed cited.field t e
  pushes_agree (calls taken) t e size = own_pushed cited.gives t e
  pushes_agree (puts taken) t e size = own_pushed 0 t e
  pushes_agree makes t e size = own_pushed 1 t e

pub form_agrees : (row : Row) (form : Form) → T (form_fits row form) → FormAgrees row form
form_agrees row form t =
    let t1 = both_second (taken_fits row form) _ t in
    let given = alike_for_all _ _ (operands_linear form.after) (given_linear row) (both_first (given_fits row form) _ t1) in
    record {
      taken = alike_for_all _ _ (operands_linear form.before) (taken_linear row) (both_first (taken_fits row form) _ t);
      given = given;
      pushed = λ Val cited operands own size.
          pushes_agree form cited operands own row (both_second (given_fits row form) _ t1) (given cited) size;
    }
