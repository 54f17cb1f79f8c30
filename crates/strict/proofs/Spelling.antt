-- The records of an accepted text, with the names that they place in it, give the text back.
-- Assumes nothing.
use Prim.Native.Nat.{ℕ, ◌+◌}
use native.Mathlib.Omega.{arith}
use mathlib.Core.Path.{◌≡◌, refl, ◌∙◌, sym, ap}
use mathlib.Core.Bool.{false}
use mathlib.Core.List.{List, [], ◌∷◌, ◌++◌, append_assoc, append-nil}
use lib.Dec.{eqb}
use lib.ListN.{length, take, drop, length-append}
use lib.Seq.{take_at}
use Rattle.basics.proofs.Parts.{rest_of}
use Rattle.jvms.specs.Descriptor.{BaseType, byte, char, double, float, int, long, short, boolean, letter}
use Rattle.jvms.specs.Descriptor.{FieldType, base, class, array, ReturnType, void, typed, MethodType}
use Rattle.jvms.specs.Descriptor.{render, render_return, render_all, render_method}
use Rattle.jtype.specs.declared.TypeRecord.{TypeRecord}
use Rattle.judging.specs.Reading.{types}
use Rattle.strict.specs.Declared.{SpelledBack}
use Rattle.strict.specs.Records.{record_of, return_record, records_at, method_records, name_in, spelled, spelled_from}
use Rattle.strict.specs.Records.{spelled_method}
use Rattle.strict.proofs.Meaning.{method_means, type_means}

letter_not_class : (b : BaseType) → eqb (letter b) 76 ≡ false
letter_not_class byte = refl
letter_not_class char = refl
letter_not_class double = refl
letter_not_class float = refl
letter_not_class int = refl
letter_not_class long = refl
letter_not_class short = refl
letter_not_class boolean = refl

spelled_type :
    (t : FieldType) (text : List ℕ) (at : ℕ) (rest : List ℕ) → drop at text ≡ render t ++ rest →
    spelled text (record_of at t) ≡ render t
unfolding spelled name_in render
spelled_type (base b) text at rest e = rw (letter_not_class b)
spelled_type (class name) text at rest e =
    let behind = rest_of text (76 ∷ []) (name ++ (59 ∷ []) ++ rest) at e in
    let name-there : take (length name) (drop (at + 1) text) ≡ name =
    ap (take (length name)) (behind ∙ append_assoc name (59 ∷ []) rest) ∙ take_at name (59 ∷ rest) (length name) refl in
    rw name-there
spelled_type (array t) text at rest e =
    ap (λ (l : List ℕ). 91 ∷ l) (spelled_type t text (at + 1) rest (rest_of text (91 ∷ []) (render t ++ rest) at e))

spelled_return :
    (t : ReturnType) (text : List ℕ) (at : ℕ) → drop at text ≡ render_return t → spelled text (return_record at t) ≡ render_return t
unfolding spelled render_return
spelled_return void text at e = refl
spelled_return (typed t) text at e = spelled_type t text at [] (e ∙ sym (append-nil (render t)))

-- a run of records, the return last
abbrev spelled_run : List ℕ → List TypeRecord → List ℕ
spelled_run text [] = []
spelled_run text (t ∷ ts) = spelled_from text t ts

first_and_rest :
    (text : List ℕ) (t : TypeRecord) (ts : List TypeRecord) (r : TypeRecord) →
    spelled_run text (t ∷ (ts ++ (r ∷ []))) ≡ spelled text t ++ spelled_run text (ts ++ (r ∷ []))
unfolding spelled_from
first_and_rest text t [] r = refl
first_and_rest text t (u ∷ ts) r = refl

spelled-run :
    (ts : List FieldType) (r : ReturnType) (text : List ℕ) (at : ℕ) → drop at text ≡ render_all ts ++ (41 ∷ render_return r) →
    spelled_run text (records_at at ts ++ (return_record (at + length (render_all ts) + 1) r ∷ [])) ≡
    render_all ts ++ (41 ∷ render_return r)
unfolding records_at render_all spelled_from
spelled-run [] r text at e =
    let place : at + 0 + 1 ≡ at + 1 = omega arith in
    rw place (ap (λ (l : List ℕ). 41 ∷ l) (spelled_return r text (at + 1) (rest_of text (41 ∷ []) (render_return r) at e)))
spelled-run (t ∷ ts) r text at e =
    let next = at + length (render t) in
    let rest = render_all ts ++ (41 ∷ render_return r) in
    let e₁ = e ∙ append_assoc (render t) (render_all ts) (41 ∷ render_return r) in
    let place : at + length (render t ++ render_all ts) + 1 ≡ next + length (render_all ts) + 1 =
    omega (arith, length-append (render t) (render_all ts)) in
    let last = return_record (next + length (render_all ts) + 1) r in
    rw place
    (first_and_rest text (record_of at t) (records_at next ts) last
    ∙ ap (λ (l : List ℕ). l ++ spelled_run text (records_at next ts ++ (last ∷ []))) (spelled_type t text at rest e₁)
    ∙ ap (λ (l : List ℕ). render t ++ l) (spelled-run ts r text next (rest_of text (render t) rest at e₁))
    ∙ sym (append_assoc (render t) (render_all ts) (41 ∷ render_return r)))

opened_run :
    (text : List ℕ) (ts : List TypeRecord) (r : TypeRecord) →
    spelled_method text (ts ++ (r ∷ [])) ≡ 40 ∷ spelled_run text (ts ++ (r ∷ []))
unfolding spelled_method
opened_run text [] r = refl
opened_run text (t ∷ ts) r = refl

spelled-method : (m : MethodType) → spelled_method (render_method m) (method_records m) ≡ render_method m
unfolding render_method method_records
spelled-method m =
    let ts = m.parameters in
    let r = m.result in
    let text : List ℕ = 40 ∷ (render_all ts ++ (41 ∷ render_return r)) in
    opened_run text (records_at 1 ts) (return_record (1 + length (render_all ts) + 1) r)
    ∙ ap (λ (l : List ℕ). 40 ∷ l) (spelled-run ts r text 1 refl)

pub spelled_back : SpelledBack
spelled_back =
    record {
      method =
          λ text ts e.
          let m = method_means text (types ts) e in
          ap (spelled_method text) m.records ∙ ap (λ (l : List ℕ). spelled_method l (method_records m.tree)) m.is_written
          ∙ spelled-method m.tree ∙ sym m.is_written;
      alone =
          λ text t e.
          let m = type_means text (types (t ∷ [])) e in
          let one : t ≡ return_record 0 m.tree = cc m.records in
          rw one (spelled_return m.tree text 0 m.is_written ∙ sym m.is_written);
    }
