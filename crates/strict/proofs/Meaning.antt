-- What the readers answer means what it says, and nothing else does: every text has one of the declared forms, and a text of
-- such a form is read so.
-- Assumes nothing.
use Rattle.std.specs.Prelude.{Ok, Err}
use Prim.Native.Nat.{ℕ, zero, suc, ◌*◌, ◌<◌}
use native.Mathlib.Omega.{arith}
use mathlib.Core.Path.{◌≡◌, refl, ◌∙◌, sym, ap, subst}
use mathlib.Core.Bool.{Bool, true, false}
use mathlib.Core.List.{List, [], ◌∷◌, ◌++◌, append_assoc, append-nil}
use mathlib.Core.Logic.{◌⊎◌, inl, inr}
use lib.Dec.{eqb, ltb}
use lib.ListN.{length, length-append}
use borrow.Author.Tests.{lt-ltb, le-ltb, ltb-true, ltb-false, eqb-true, eqb-false}
use Rattle.basics.specs.Parts.{overlaid}
use Rattle.basics.specs.Choice.{pick}
use Rattle.jvms.specs.Descriptor.{FieldType, ReturnType, void, typed, MethodType}
use Rattle.jvms.specs.Descriptor.{render, render_return, render_all, render_method}
use Rattle.jvms.specs.Descriptor.{WellFormed, AllWellFormed, WellFormedReturn, WellFormedMethod}
use Rattle.jvms.proofs.Rendering.{render_method_injective}
use Rattle.refusal.specs.Refusal.{number_of}
use Rattle.refusal.specs.declared.Refusal.{Refusal}
use Rattle.refusal.specs.declared.Refusal.TheVariants.{LoneClose, TrailingAfterType, MissingOpening, VoidParameter}
use Rattle.refusal.specs.declared.Refusal.TheVariants.{MissingReturn, TrailingAfterMethod, NoRoom}
use Rattle.judging.specs.Judged.{Answer}
use Rattle.judging.specs.Reading.{Reading, types, refused, type_reading, method_reading}
use Rattle.jdescriptor.specs.Answer.{numbers_of, answer, written, IsTypes}
use Rattle.strict.specs.Declared.{wrong_type, lone, type_trails, unopened, wrong_parameter}
use Rattle.strict.specs.Declared.{void_parameter, wrong_return, second_close, method_trails, TypeMeans, MethodMeans}
use Rattle.strict.specs.Declared.{Outcome, fits, too_small, refuses, Declared, MethodDeclared, TypeDeclared}
use Rattle.strict.specs.Declared.{ExactlyTheGrammar, ExactlyAType, OneTree, OneNumber}
use Rattle.strict.specs.Records.{return_record, method_records}
use Rattle.strict.proofs.Standing.{Standing, read, close, wrong, standing}
use Rattle.strict.proofs.Whole.{some_bytes, type_only, method_only}

-- ---- every text has a declared form

type_form : (text : List ℕ) → Standing text → (R : Reading) × TypeMeans text R
type_form text (read t [] w e) = (
  types (return_record 0 t ∷ []),
  record { tree = t; well_formed = w; is_written = e ∙ append-nil (render_return t); records = refl },
)
type_form text (read t (x ∷ more) w e) = (refused TrailingAfterType, type_trails t x more w e)
type_form text (close more e) = (refused LoneClose, lone more e)
type_form text (wrong r w) = (refused r, wrong_type w)

all_and_one : (ts : List FieldType) (t : FieldType) → AllWellFormed ts → WellFormed t → AllWellFormed (ts ++ (t ∷ []))
all_and_one [] t all w = (w, tt)
all_and_one (u ∷ ts) t all w = (all.0, all_and_one ts t all.1 w)

written_and_one : (ts : List FieldType) (t : FieldType) → render_all (ts ++ (t ∷ [])) ≡ render_all ts ++ render t
unfolding render_all
written_and_one [] t = append-nil (render t)
written_and_one (u ∷ ts) t =
    ap (λ (l : List ℕ). render u ++ l) (written_and_one ts t) ∙ sym (append_assoc (render u) (render_all ts) (render t))

-- behind `(` and the parameters so far
module _ (text : List ℕ) (ts : List FieldType) (all : AllWellFormed ts) where
  return_form :
      (rest : List ℕ) → text ≡ 40 ∷ (render_all ts ++ (41 ∷ rest)) → Standing rest → (R : Reading) × MethodMeans text R
  unfolding render_method
  return_form rest e (read r [] w t) =
      let m : MethodType = record { parameters = ts; result = r } in (
        types (method_records m),
        record {
          tree = m;
          well_formed = record { parameters = all; result = w };
          is_written = e ∙ ap (λ (l : List ℕ). 40 ∷ (render_all ts ++ (41 ∷ l))) (t ∙ append-nil (render_return r));
          records = refl;
        },
      )
  return_form rest e (read r (x ∷ more) w t) =
      let m : MethodType = record { parameters = ts; result = r } in (
        refused TrailingAfterMethod,
        method_trails m x more (record { parameters = all; result = w })
            (e ∙ ap (λ (l : List ℕ). 40 ∷ (render_all ts ++ (41 ∷ l))) t
            ∙ ap (λ (l : List ℕ). 40 ∷ l) (sym (append_assoc (render_all ts) (41 ∷ render_return r) (x ∷ more)))),
      )
  return_form rest e (close more t) =
      (refused MissingReturn, second_close ts more all (e ∙ ap (λ (l : List ℕ). 40 ∷ (render_all ts ++ (41 ∷ l))) t))
  return_form rest e (wrong r w) = (refused r, wrong_return ts rest all e w)

  parameter_form :
      (rest : List ℕ) → text ≡ 40 ∷ (render_all ts ++ rest) →
      ((t : FieldType) (more : List ℕ) → WellFormed t → rest ≡ render t ++ more → (R : Reading) × MethodMeans text R) →
      Standing rest → (R : Reading) × MethodMeans text R
  unfolding render_return
  parameter_form rest e next (read void more w t) =
      (refused VoidParameter, void_parameter ts more all (e ∙ ap (λ (l : List ℕ). 40 ∷ (render_all ts ++ l)) t))
  parameter_form rest e next (read (typed t) more w q) = next t more w q
  parameter_form rest e next (close more t) =
      return_form more (e ∙ ap (λ (l : List ℕ). 40 ∷ (render_all ts ++ l)) t) (standing more)
  parameter_form rest e next (wrong r w) = (refused r, wrong_parameter ts rest all e w)

-- each type takes a byte of the rest
parameters_form :
    (turns : ℕ) (text : List ℕ) (ts : List FieldType) (rest : List ℕ) → AllWellFormed ts → length rest < turns →
    text ≡ 40 ∷ (render_all ts ++ rest) → (R : Reading) × MethodMeans text R
parameters_form zero text ts rest all short e = absurd (omega arith)
parameters_form (suc turns) text ts rest all short e =
    parameter_form text ts all rest e
    (λ t more w q.
    let size = ap length q in
    parameters_form turns text (ts ++ (t ∷ [])) more (all_and_one ts t all w)
    (omega (arith, length-append (render t) more, some_bytes t))
    (e ∙ ap (λ (l : List ℕ). 40 ∷ (render_all ts ++ l)) q
    ∙ ap (λ (l : List ℕ). 40 ∷ l) (sym (append_assoc (render_all ts) (render t) more))
    ∙ ap (λ (l : List ℕ). 40 ∷ (l ++ more)) (sym (written_and_one ts t))))
    (standing rest)

method_form : (text : List ℕ) → (R : Reading) × MethodMeans text R
unfolding render_all
method_form [] = (refused MissingOpening, unopened tt)
method_form (x ∷ text) = by (eqb x 40) refl
  where
    begun : eqb x 40 ≡ true → x ∷ text ≡ 40 ∷ (render_all [] ++ text)
    begun e = ap (λ (y : ℕ). y ∷ text) (eqb-true x 40 e)

    by : (b : Bool) → eqb x 40 ≡ b → (R : Reading) × MethodMeans (x ∷ text) R
    by true e = parameters_form (suc (length text)) (x ∷ text) [] text tt (omega arith) (begun e)
    by false e = (refused MissingOpening, unopened (eqb-false x 40 e))

-- ---- answers and buffers

module _ (Means : List ℕ → Reading → Type 0) (reading : List ℕ → Reading) where
  outcome :
      (M : Reading → Type 0) (buffer : List ℕ) (R : Reading) → M R →
      Outcome M buffer (answer R (length buffer)) (written R buffer)
  unfolding answer written
  outcome M buffer (types ts) m = by (ltb (length buffer) (4 * length ts)) refl
    where
      by :
          (b : Bool) → ltb (length buffer) (4 * length ts) ≡ b →
          Outcome M buffer (pick b (Err NoRoom) (Ok (length ts))) (pick b buffer (overlaid 0 (numbers_of ts) buffer))
      by true e = too_small ts m (ltb-true (length buffer) (4 * length ts) e)
      by false e = fits ts m (ltb-false (length buffer) (4 * length ts) e)
  outcome M buffer (refused r) m = refuses r m

  only_outcome :
      ((text : List ℕ) (R : Reading) → Means text R → reading text ≡ R) →
      (text buffer : List ℕ) (a : Answer) (end : List ℕ) → Outcome (Means text) buffer a end →
      (a ≡ answer (reading text) (length buffer)) × (end ≡ written (reading text) buffer)
  unfolding answer written
  only_outcome only text buffer a end (fits ts m room) =
      let e = only text (types ts) m in
      let large = le-ltb (length buffer) (4 * length ts) room in
      (rw (e, large), rw (e, large))
  only_outcome only text buffer a end (too_small ts m lack) =
      let e = only text (types ts) m in
      let small = lt-ltb (length buffer) (4 * length ts) lack in
      (rw (e, small), rw (e, small))
  only_outcome only text buffer a end (refuses r m) = let e = only text (refused r) m in (rw e, rw e)

  declared :
      ((text : List ℕ) → (R : Reading) × Means text R) →
      ((text : List ℕ) (R : Reading) → Means text R → reading text ≡ R) → Declared Means reading
  declared form only =
      record {
        means =
            λ text buffer.
            let f = form text in
            rw (only text f.0 f.1) (outcome (Means text) buffer f.0 f.1);
        only = only_outcome only;
      }

-- ---- the statements

pub method_declared : MethodDeclared
method_declared = declared MethodMeans method_reading method_form method_only

pub type_declared : TypeDeclared
type_declared = declared TypeMeans type_reading (λ text. type_form text (standing text)) type_only

-- what was read means what it says
pub method_means : (text : List ℕ) (R : Reading) → method_reading text ≡ R → MethodMeans text R
method_means text R e =
    let f = method_form text in
    subst (MethodMeans text) (sym (method_only text f.0 f.1) ∙ e) f.1

pub type_means : (text : List ℕ) (R : Reading) → type_reading text ≡ R → TypeMeans text R
type_means text R e =
    let f = type_form text (standing text) in
    subst (TypeMeans text) (sym (type_only text f.0 f.1) ∙ e) f.1

method_accepted :
    (text :
    List ℕ) (R : Reading) → IsTypes R → MethodMeans text R → (m : MethodType) × WellFormedMethod m × (text ≡ render_method m)
method_accepted text (types ts) are m = (m.tree, m.well_formed, m.is_written)
method_accepted text (refused r) are m = absurd are

pub exactly_the_grammar : ExactlyTheGrammar
exactly_the_grammar =
    record {
      accepted = λ text are. method_accepted text (method_reading text) are (method_means text (method_reading text) refl);
      taken =
          λ m w.
          method_only (render_method m) (types (method_records m))
          (record { tree = m; well_formed = w; is_written = refl; records = refl });
    }

type_accepted :
    (text : List ℕ) (t : ReturnType) → WellFormedReturn t → text ≡ render_return t →
    (text ≡ 86 ∷ []) ⊎ ((t : FieldType) × WellFormed t × (text ≡ render t))
unfolding render_return
type_accepted text void w e = inl e
type_accepted text (typed t) w e = inr (t, w, e)

type_accepted_as :
    (text : List ℕ) (R : Reading) → IsTypes R → TypeMeans text R →
    (text ≡ 86 ∷ []) ⊎ ((t : FieldType) × WellFormed t × (text ≡ render t))
type_accepted_as text (types ts) are m = type_accepted text m.tree m.well_formed m.is_written
type_accepted_as text (refused r) are m = absurd are

type_taken : (t : ReturnType) → WellFormedReturn t → IsTypes (type_reading (render_return t))
type_taken t w =
    rw (type_only (render_return t) (types (return_record 0 t ∷ []))
    (record { tree = t; well_formed = w; is_written = refl; records = refl }))
    tt

pub exactly_a_type : ExactlyAType
unfolding render_return
exactly_a_type =
    record {
      accepted = λ text are. type_accepted_as text (type_reading text) are (type_means text (type_reading text) refl);
      taken = λ t w. type_taken (typed t) w;
      taken_void = type_taken void tt;
    }

-- a return descriptor behind `()` is a method descriptor
return_tree : (t u : ReturnType) → WellFormedReturn t → WellFormedReturn u → render_return t ≡ render_return u → t ≡ u
unfolding render_method render_all
return_tree t u w v e =
    let behind : ReturnType → MethodType = λ r. record { parameters = []; result = r } in
    let same = render_method_injective (behind t) (behind u)
    (record { parameters = tt; result = w }) (record { parameters = tt; result = v }) (ap (λ (l : List ℕ). 40 ∷ (41 ∷ l)) e) in
    ap (λ (m : MethodType). m.result) same

pub one_tree : OneTree
one_tree =
    record {
      of_method =
          λ text ts us a b.
          render_method_injective a.tree b.tree a.well_formed b.well_formed (sym a.is_written ∙ b.is_written);
      of_type =
          λ text ts us a b.
          return_tree a.tree b.tree a.well_formed b.well_formed (sym a.is_written ∙ b.is_written);
    }

same_refusal : (R : Reading) (r q : Refusal) → R ≡ refused r → R ≡ refused q → number_of r ≡ number_of q
same_refusal R r q e f = let same : r ≡ q = cc in ap number_of same

pub one_number : OneNumber
one_number =
    record {
      of_method =
          λ text r q w v. same_refusal (method_reading text) r q (method_only text (refused r) w) (method_only text (refused q) v);
      of_type = λ text r q w v. same_refusal (type_reading text) r q (type_only text (refused r) w) (type_only text (refused q) v);
    }
