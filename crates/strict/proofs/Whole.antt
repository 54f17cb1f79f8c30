-- What the definitions read of a whole text that is written out: parameters that are well formed are gone over, and what
-- stands behind them decides.
-- Assumes nothing.
use Rattle.std.specs.Prelude.{Some, None, Ok, Err}
use Prim.Native.Nat.{ℕ, suc, ◌+◌, ◌-◌, ◌≤◌, ◌<◌}
use native.Mathlib.Nat.{add-zero, zero-add}
use native.Mathlib.Omega.{arith}
use mathlib.Core.Path.{◌≡◌, refl, ◌∙◌, sym, ap}
use mathlib.Core.Bool.{true, false}
use mathlib.Core.List.{List, [], ◌∷◌, ◌++◌, append_assoc, append-nil}
use lib.Dec.{eqb, ltb}
use lib.ListN.{length, drop, length-append, length-drop}
use borrow.Author.Tests.{lt-ltb, le-ltb, ne_eqb}
use Rattle.basics.proofs.Parts.{rest_of}
use Rattle.jvms.specs.Descriptor.{BaseType, byte, char, double, float, int, long, short, boolean, letter}
use Rattle.jvms.specs.Descriptor.{FieldType, base, class, array, ReturnType, void, typed, MethodType}
use Rattle.jvms.specs.Descriptor.{render, render_return, render_all, render_method}
use Rattle.jvms.specs.Descriptor.{AllWellFormed, WellFormedReturn, WellFormedMethod}
use Rattle.jtype.specs.OneType.{Next, type_in, type_at}
use Rattle.refusal.specs.declared.Refusal.{Refusal}
use Rattle.refusal.specs.declared.Refusal.TheVariants.{LoneClose, TrailingAfterType, MissingOpening, VoidParameter}
use Rattle.refusal.specs.declared.Refusal.TheVariants.{MissingReturn, TrailingAfterMethod}
use Rattle.jtype.specs.declared.TypeRecord.{TypeRecord}
use Rattle.judging.specs.Reading.{Reading, types, refused, after, last_type, type_reading, return_at, parameter}
use Rattle.judging.specs.Reading.{parameters_at, method_reading}
use Rattle.strict.specs.Declared.{WrongType, wrong_type, lone, type_trails, Unopened, unopened, wrong_parameter}
use Rattle.strict.specs.Declared.{void_parameter, wrong_return, second_close, method_trails, TypeMeans, MethodMeans}
use Rattle.strict.specs.Records.{letter_of, record_of, return_record, records_at, method_records}
use Rattle.strict.proofs.Computes.{reads_field, reads_return, reads_close, reads_wrong}

-- ---- one type and then the end

-- the place behind u lies before the end of the text, or at it
more_behind :
    (text u : List ℕ) (x : ℕ) (v : List ℕ) (at : ℕ) → drop at text ≡ u ++ (x ∷ v) → ltb (at + length u) (length text) ≡ true
more_behind text u x v at e =
    let size = ap length e in
    lt-ltb (at + length u) (length text) (omega (arith, length-drop at text, length-append u (x ∷ v)))

none_behind : (text u : List ℕ) (at : ℕ) → drop at text ≡ u → 0 < length u → ltb (at + length u) (length text) ≡ false
none_behind text u at e some =
    let size = ap length e in
    le-ltb (at + length u) (length text) (omega (arith, length-drop at text))

pub some_bytes : (t : FieldType) → 0 < length (render t)
unfolding render
some_bytes (base b) = omega arith
some_bytes (class name) = omega arith
some_bytes (array t) = omega arith

some_return : (t : ReturnType) → 0 < length (render_return t)
unfolding render_return
some_return void = omega arith
some_return (typed t) = some_bytes t

module _ (close trailing : Refusal) (text : List ℕ) (at : ℕ) where
  pub last_is :
      (t : ReturnType) → WellFormedReturn t → drop at text ≡ render_return t →
      last_type close trailing (length text) (type_at text at) ≡ types (return_record at t ∷ [])
  unfolding type_at
  last_is t w e =
      let q = ap (λ (l : List ℕ). type_in l at) (e ∙ sym (append-nil (render_return t))) ∙ reads_return t [] at w in
      rw (q, none_behind text (render_return t) at e (some_return t))

  pub last_trails :
      (t : ReturnType) (x : ℕ) (more : List ℕ) → WellFormedReturn t → drop at text ≡ render_return t ++ (x ∷ more) →
      last_type close trailing (length text) (type_at text at) ≡ refused trailing
  unfolding type_at
  last_trails t x more w e =
      let q = ap (λ (l : List ℕ). type_in l at) e ∙ reads_return t (x ∷ more) at w in
      rw (q, more_behind text (render_return t) x more at e)

  pub last_closes :
      (more : List ℕ) → drop at text ≡ 41 ∷ more → last_type close trailing (length text) (type_at text at) ≡ refused close
  unfolding type_at
  last_closes more e = let q = ap (λ (l : List ℕ). type_in l at) e ∙ reads_close more at in rw q

  pub last_wrong :
      (rest : List ℕ) (r : Refusal) → WrongType rest r → drop at text ≡ rest →
      last_type close trailing (length text) (type_at text at) ≡ refused r
  unfolding type_at
  last_wrong rest r w e = let q = ap (λ (l : List ℕ). type_in l at) e ∙ reads_wrong rest at r w in rw q

-- ---- parameters

-- with types in front
abbrev after_all : List TypeRecord → Reading → Reading
after_all w (types ts) = types (w ++ ts)
after_all w (refused r) = refused r

after_none : (R : Reading) → R ≡ after_all [] R
after_none (types ts) = refl
after_none (refused r) = refl

after_more : (t : TypeRecord) (w : List TypeRecord) (R : Reading) → after t (after_all w R) ≡ after_all (t ∷ w) R
after_more t w (types ts) = refl
after_more t w (refused r) = refl

letter_not_void : (b : BaseType) → eqb (letter b) 86 ≡ false
letter_not_void byte = refl
letter_not_void char = refl
letter_not_void double = refl
letter_not_void float = refl
letter_not_void int = refl
letter_not_void long = refl
letter_not_void short = refl
letter_not_void boolean = refl

not_void : (t : FieldType) → eqb (letter_of t) 86 ≡ false
not_void (base b) = letter_not_void b
not_void (class name) = refl
not_void (array t) = not_void t

over :
    (ts : List FieldType) (rest text : List ℕ) (at turns : ℕ) → AllWellFormed ts → drop at text ≡ render_all ts ++ rest →
    parameters_at (length ts + turns) text at ≡ after_all (records_at at ts) (parameters_at turns text (at + length (render_all ts)))
unfolding parameters_at type_at records_at render_all
over [] rest text at turns all e = rw (zero-add, add-zero) (after_none (parameters_at turns text at))
over (t ∷ ts) rest text at turns all e =
    let e₁ = e ∙ append_assoc (render t) (render_all ts) rest in
    let q = ap (λ (l : List ℕ). type_in l at) e₁ ∙ reads_field t (render_all ts ++ rest) at all.0 in
    let next = at + length (render t) in
    let count : suc (length ts) + turns ≡ suc (length ts + turns) = omega arith in
    let place : next + length (render_all ts) ≡ at + length (render t ++ render_all ts) =
    omega (arith, length-append (render t) (render_all ts)) in
    let rest_read = over ts rest text next turns all.1 (rest_of text (render t) (render_all ts ++ rest) at e₁) in
    rw (count, q, not_void t)
    (ap (after (record_of at t)) rest_read
    ∙ after_more (record_of at t) (records_at next ts) (parameters_at turns text (next + length (render_all ts)))
    ∙ ap (λ (p : ℕ). after_all (record_of at t ∷ records_at next ts) (parameters_at turns text p)) place)

few_types : (ts : List FieldType) → length ts ≤ length (render_all ts)
unfolding render_all
few_types [] = omega arith
few_types (t ∷ ts) = omega (arith, length-append (render t) (render_all ts), some_bytes t, few_types ts)

-- behind the opening and well-formed parameters
module _ (ts : List FieldType) (all : AllWellFormed ts) (rest : List ℕ) where
  abbrev behind_all : ℕ
  behind_all = 1 + length (render_all ts)

  abbrev opened : List ℕ
  opened = 40 ∷ (render_all ts ++ rest)

  rest_behind : drop behind_all opened ≡ rest
  rest_behind = rest_of opened (render_all ts) rest 1 refl

  turns_left : ℕ
  turns_left = length (render_all ts ++ rest) - length ts

  reading :
      (n : Next) → type_in rest behind_all ≡ n →
      method_reading opened ≡
      after_all (records_at 1 ts) (parameter n (parameters_at turns_left opened) (return_at opened (behind_all + 1)))
  unfolding method_reading parameters_at type_at turns_left
  reading n e =
      let left = length (render_all ts ++ rest) - length ts in
      let count : length opened ≡ length ts + suc left =
      omega (arith, few_types ts, length-append (render_all ts) rest) in
      ap (λ (k : ℕ). parameters_at k opened 1) count ∙ over ts rest opened 1 (suc left) all refl
      ∙ ap (λ (m : Next). after_all (records_at 1 ts) (parameter m (parameters_at left opened) (return_at opened (behind_all + 1))))
      (ap (λ (l : List ℕ). type_in l behind_all) rest_behind ∙ e)

  pub wrong-parameter : (r : Refusal) → WrongType rest r → method_reading opened ≡ refused r
  wrong-parameter r w = reading (Err r) (reads_wrong rest behind_all r w)

module _ (ts : List FieldType) (all : AllWellFormed ts) (more : List ℕ) where
  pub void-parameter : method_reading (40 ∷ (render_all ts ++ (86 ∷ more))) ≡ refused VoidParameter
  unfolding render_return
  void-parameter =
      let place = 1 + length (render_all ts) in
      reading ts all (86 ∷ more) (Ok (Some (return_record place void, place + 1))) (reads_return void more place tt)

  abbrev closed_text : List ℕ
  closed_text = 40 ∷ (render_all ts ++ (41 ∷ more))

  abbrev return_place : ℕ
  return_place = 1 + length (render_all ts) + 1

  pub behind_close : drop return_place closed_text ≡ more
  behind_close = rest_of closed_text (41 ∷ []) more (1 + length (render_all ts)) (rest_behind ts all (41 ∷ more))

  pub at_return :
      (R : Reading) → last_type MissingReturn TrailingAfterMethod (length closed_text) (type_at closed_text return_place) ≡ R →
      method_reading closed_text ≡ after_all (records_at 1 ts) R
  unfolding return_at
  at_return R e =
      reading ts all (41 ∷ more) (Ok None) (reads_close more (1 + length (render_all ts))) ∙ ap (after_all (records_at 1 ts)) e

-- ---- whole texts

pub type_only : (text : List ℕ) (R : Reading) → TypeMeans text R → type_reading text ≡ R
unfolding type_reading
type_only text (types ts) m =
    last_is LoneClose TrailingAfterType text 0 m.tree m.well_formed m.is_written ∙ ap types (sym m.records)
type_only text (refused r) (wrong_type w) = last_wrong LoneClose TrailingAfterType text 0 text r w refl
type_only text (refused LoneClose) (lone more e) = last_closes LoneClose TrailingAfterType text 0 more e
type_only text (refused TrailingAfterType) (type_trails t x more w e) =
    last_trails LoneClose TrailingAfterType text 0 t x more w e

not_opened : (text : List ℕ) → Unopened text → method_reading text ≡ refused MissingOpening
unfolding method_reading
not_opened [] h = refl
not_opened (x ∷ text) h = rw (ne_eqb x 40 h)

method_text : (m : MethodType) → WellFormedMethod m → method_reading (render_method m) ≡ types (method_records m)
unfolding render_method method_records
method_text m w =
    let ts = m.parameters in
    let more = render_return m.result in
    at_return ts w.parameters more (types (return_record (1 + length (render_all ts) + 1) m.result ∷ []))
    (last_is MissingReturn TrailingAfterMethod (40 ∷ (render_all ts ++ (41 ∷ more))) (1 + length (render_all ts) + 1)
    m.result w.result (behind_close ts w.parameters more))

method-trails :
    (m : MethodType) (x : ℕ) (more : List ℕ) → WellFormedMethod m →
    method_reading (render_method m ++ (x ∷ more)) ≡ refused TrailingAfterMethod
unfolding render_method
method-trails m x more w =
    let ts = m.parameters in
    let rest = render_return m.result ++ (x ∷ more) in
    ap (λ (l : List ℕ). method_reading (40 ∷ l)) (append_assoc (render_all ts) (41 ∷ render_return m.result) (x ∷ more))
    ∙ at_return ts w.parameters rest (refused TrailingAfterMethod)
    (last_trails MissingReturn TrailingAfterMethod (40 ∷ (render_all ts ++ (41 ∷ rest))) (1 + length (render_all ts) + 1)
    m.result x more w.result (behind_close ts w.parameters rest))

pub method_only : (text : List ℕ) (R : Reading) → MethodMeans text R → method_reading text ≡ R
method_only text (types ts) m =
    ap method_reading m.is_written ∙ method_text m.tree m.well_formed ∙ ap types (sym m.records)
method_only text (refused MissingOpening) (unopened h) = not_opened text h
method_only text (refused r) (wrong_parameter ts rest all e w) = ap method_reading e ∙ wrong-parameter ts all rest r w
method_only text (refused VoidParameter) (void_parameter ts more all e) = ap method_reading e ∙ void-parameter ts all more
method_only text (refused r) (wrong_return ts rest all e w) =
    ap method_reading e
    ∙ at_return ts all rest (refused r)
    (last_wrong MissingReturn TrailingAfterMethod (40 ∷ (render_all ts ++ (41 ∷ rest))) (1 + length (render_all ts) + 1) rest r w
    (behind_close ts all rest))
method_only text (refused MissingReturn) (second_close ts more all e) =
    ap method_reading e
    ∙ at_return ts all (41 ∷ more) (refused MissingReturn)
    (last_closes MissingReturn TrailingAfterMethod (40 ∷ (render_all ts ++ (41 ∷ (41 ∷ more)))) (1 + length (render_all ts) + 1)
    more (behind_close ts all (41 ∷ more)))
method_only text (refused TrailingAfterMethod) (method_trails m x more w e) = ap method_reading e ∙ method-trails m x more w
