-- The methods of a class file stand one behind the other, from the place that came of it.
-- Rests on: what was right, of a file that is read (crates/format); the tables of a Code (Codes.antt).
-- Assumes nothing.
use Prim.Native.Nat.{ℕ, zero, suc, ◌+◌}
use mathlib.Core.Path.{◌≡◌, ◌∙◌, sym, ap, subst}
use mathlib.Core.List.{List, [], ◌∷◌}
use lib.ListN.{length}
use Rattle.format.specs.Format.{Format, here, done, and_then, times, number_at, Reading, right, read_by}
use Rattle.format.proofs.Items.{Tells, then-read, all_done}
use Rattle.format.proofs.Was.{number_was, then_was, first_of, all_stood}
use Rattle.classformat.specs.Contents.{entry_in, Name, name_of, Body, Method, Methods, ClassFile}
use Rattle.classformat.specs.ClassFile.{any, method_format, head_format, fields_format, end_format, methods_format, rest_format, Start, start_format, class_of, class_format}
use Rattle.methods.specs.Method.{method_behind}
use Rattle.classparts.specs.Right.{IsClass}
use Rattle.standing.specs.Standing.{names_in, Placed, MethodsStand}
use Rattle.standing.proofs.Codes.{BodyAt, method_stands}

-- ---- one behind so many others

module _ (one : Format Method) (file : List ℕ) where
  abbrev Behind : ℕ → Type 0
  Behind place =
      (n at : ℕ) (methods : List Method) (end : ℕ) → read_by (times n one) file at ≡ right methods end → (m : Method) → Placed methods place m →
      (next : ℕ) × (read_by (method_behind place one) file at ≡ right m next)

  none_behind : (place at : ℕ) (methods : List Method) (end : ℕ) → read_by (times zero one) file at ≡ right methods end → (m : Method) → Placed methods place m → ⊥
  unfolding times read_by
  none_behind place at methods end is m there =
      let none : methods ≡ [] = cc in subst (λ (l : List Method). Placed l place m) none there

  first_behind : Behind zero
  unfolding times and_then
  first_behind zero at methods end is m there = absurd (none_behind zero at methods end is m there)
  first_behind (suc n) at methods end is m there =
      let f = first_of one n file at is in
      let first : m ≡ f.first = subst (λ (l : List Method). Placed l zero m) f.whole there in
      (f.next, f.read ∙ ap (λ (k : Method). right k f.next) (sym first))

  next_behind : (place : ℕ) → Behind place → Behind (suc place)
  unfolding times
  next_behind place earlier zero at methods end is m there = absurd (none_behind (suc place) at methods end is m there)
  next_behind place earlier (suc n) at methods end is m there =
      let f = first_of one n file at is in
      let later = earlier n f.next f.rest end f.onward m (subst (λ (l : List Method). Placed l (suc place) m) f.whole there) in
      let read = then_was file f.next (times place one) (λ before. one) later.1 in
      let before : Tells (λ (r : Reading (List Method)). r) (times (suc place) one) file at (right (f.first ∷ read.0) read.1) =
      then-read one (λ a. and_then (times place one) (λ more. done (a ∷ more))) f.read
      (then-read (times place one) (λ more. done (f.first ∷ more)) read.2 all_done) in
      let whole : Tells (λ (r : Reading Method). r) (method_behind (suc place) one) file at (right m later.0) =
      then-read (times (suc place) one) (λ before. one) before.is (record { is = read.3 }) in
      (later.0, whole.is)

  behind : (place : ℕ) → Behind place
  behind zero = first_behind
  behind (suc place) = next_behind place (behind place)

-- ---- the methods of a class file

module _ (file : List ℕ) (names : ℕ → Name) where
  abbrev methods_of : ℕ → List Method → Methods
  methods_of from methods = record { from = from; methods = methods }

  -- as many methods as a number of two bytes says were read from the place on
  abbrev pub MethodsAt : Methods → Type 0
  MethodsAt m =
      (at : ℕ) × (end : ℕ) × (read_by (times (number_at 2 file at) (method_format names (length file))) file m.from ≡ right m.methods end)

  methods_at : (at : ℕ) (m : Methods) (end : ℕ) → read_by (methods_format names (length file)) file at ≡ right m end → MethodsAt m
  unfolding methods_format read_by
  methods_at at m end is =
      let limit = length file in
      let ends : ℕ → List Method → Format Methods = λ from methods. and_then (end_format names limit) (λ end. done (methods_of from methods)) in
      let told : ℕ → Format Methods = λ count. here (λ from. and_then (times count (method_format names limit)) (λ methods. ends from methods)) in
      let counted = number_was file at 2 limit any told is in
      let count = number_at 2 file at in
      let read = then_was file (at + 2) (times count (method_format names limit)) (λ methods. ends (at + 2) methods) counted.2 in
      let last = then_was file read.1 (end_format names limit) (λ end. done (methods_of (at + 2) read.0)) read.3 in
      let whole : right (methods_of (at + 2) read.0) last.1 ≡ right m end = last.3 in
      let same : methods_of (at + 2) read.0 ≡ m = cc in
      subst (λ (k : Methods). MethodsAt k) same (at, read.1, read.2)

  rest_at : (at : ℕ) (m : Methods) (end : ℕ) → read_by (rest_format names (length file)) file at ≡ right m end → MethodsAt m
  unfolding rest_format
  rest_at at m end is =
      let head = then_was file at (head_format (length file)) (λ head. and_then (fields_format names (length file)) (λ fields. methods_format names (length file))) is in
      let fields = then_was file head.1 (fields_format names (length file)) (λ fields. methods_format names (length file)) head.3 in
      methods_at fields.1 m end fields.3

-- what stands before the flags of a class file, and what stands from them on
pub record Halves (file : List ℕ) (c : ClassFile) : Type 0 where
  pub start : Start
  pub rest : Methods
  pub next : ℕ
  pub end : ℕ
  pub began : read_by (start_format (length file)) file 0 ≡ right start next
  pub onward : read_by (rest_format (λ index. name_of file (entry_in start.pool index)) (length file)) file next ≡ right rest end
  pub whole : class_of start rest ≡ c

pub class_halves : (file : List ℕ) (c : ClassFile) → IsClass file c → Halves file c
unfolding class_format read_by
class_halves file c is =
    let rest : Start → Format ClassFile = λ s.
    and_then (rest_format (λ index. name_of file (entry_in s.pool index)) (length file)) (λ rest. done (class_of s rest)) in
    let begun = then_was file 0 (start_format (length file)) rest is.reads in
    let s = begun.0 in
    let read = then_was file begun.1 (rest_format (λ index. name_of file (entry_in s.pool index)) (length file)) (λ rest. done (class_of s rest)) begun.3 in
    let all : right (class_of s read.0) read.1 ≡ right c is.end = read.3 in
    let same : class_of s read.0 ≡ c = cc in
    record { start = s; rest = read.0; next = begun.1; end = read.1; began = begun.2; onward = read.2; whole = same }

abbrev pub ClassAt : List ℕ → ClassFile → Type 0
ClassAt file c = MethodsAt file (names_in file c) (record { from = c.from; methods = c.methods })

pub class_at : (file : List ℕ) (c : ClassFile) → IsClass file c → ClassAt file c
class_at file c is =
    let h = class_halves file c is in
    subst (ClassAt file) h.whole (rest_at file (λ index. name_of file (entry_in h.start.pool index)) h.next h.rest h.end h.onward)

pub methods_stand : MethodsStand
methods_stand =
    record {
      methods = λ file c is place m there.
          let at = class_at file c is in
          behind (method_format (names_in file c) (length file)) file place (number_at 2 file at.0) c.from c.methods at.1 at.2 m there;
      tables = λ file c is m code has.
          let at = class_at file c is in
          let stood = all_stood (method_format (names_in file c) (length file)) (number_at 2 file at.0) file c.from at.2 m has.method in
          subst (λ (b : Body). BodyAt file (names_in file c) b) has.body (method_stands file (names_in file c) (length file) stood.0 m stood.1 stood.2);
    }
