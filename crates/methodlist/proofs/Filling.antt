-- Writing the numbers of methods that were judged: the stores of one method, what they say of it, and a turn of the loop over all of them.
-- Rests on: the tables of a Code stand behind its instructions (crates/standing).
-- Assumes nothing.
use Rattle.std.specs.Prelude.{Result, Ok, Err}
use Prim.Native.Nat.{ℕ, suc, ◌+◌, ◌≤◌}
use native.Mathlib.Nat.{add-zero}
use native.Mathlib.Omega.{arith}
use mathlib.Core.Path.{◌≡◌, refl, ◌∙◌, sym, ap, subst}
use mathlib.Core.List.{List, [], ◌∷◌, append_assoc}
use lib.ListN.{length, set, take, drop, take-append-drop}
use lib.Seq.{sets-eq}
use Rattle.basics.specs.Parts.{overlaid}
use Rattle.basics.proofs.Parts.{overlaid_more}
use Rattle.format.specs.Format.{and_then, times, done, Reading, right, wrong, read_by, Format}
use Rattle.format.proofs.Was.{FirstOf, number_was}
use Rattle.classformat.specs.Contents.{Name, Body, bodiless, coded, Tables, Method}
use Rattle.classformat.specs.ClassFile.{any, handler_format, code_end_format, code_tables_format, method_format}
use Rattle.entries.specs.Entries.{entry_by, names_by}
use Rattle.localtables.specs.Locals.{count_told}
use Rattle.methods.specs.Method.{body_place, method_place, method_told}
use Rattle.methods.specs.declared.MethodPlace.{MethodPlace}
use Rattle.standing.proofs.Codes.{BodyAt, method_stands}
use Rattle.methodlist.specs.List.{code_start, code_size, record_count, method_numbers, listed, CodeInside, code_numbers, numbers_by}
use Rattle.methodlist.specs.declared.CodeNumbers.{CodeNumbers}

-- ---- one method

-- eight stores one behind the other
pub set_eight :
    (x₀ x₁ x₂ x₃ x₄ x₅ x₆ x₇ : ℕ) (l : List ℕ) (k : ℕ) → k + 8 ≤ length l →
    set (set (set (set (set (set (set (set l k x₀) (k + 1) x₁) (k + 2) x₂) (k + 3) x₃) (k + 4) x₄) (k + 5) x₅) (k + 6) x₆) (k + 7) x₇
    ≡ overlaid k (x₀ ∷ x₁ ∷ x₂ ∷ x₃ ∷ x₄ ∷ x₅ ∷ x₆ ∷ x₇ ∷ []) l
unfolding overlaid
set_eight x₀ x₁ x₂ x₃ x₄ x₅ x₆ x₇ l k h =
    let e₁ : k + 1 ≡ suc k = omega arith in
    let e₂ : k + 2 ≡ suc (suc k) = omega arith in
    let e₃ : k + 3 ≡ suc (suc (suc k)) = omega arith in
    let e₄ : k + 4 ≡ suc (suc (suc (suc k))) = omega arith in
    let e₅ : k + 5 ≡ suc (suc (suc (suc (suc k)))) = omega arith in
    let e₆ : k + 6 ≡ suc (suc (suc (suc (suc (suc k))))) = omega arith in
    let e₇ : k + 7 ≡ suc (suc (suc (suc (suc (suc (suc k)))))) = omega arith in
    let all : List ℕ = x₀ ∷ x₁ ∷ x₂ ∷ x₃ ∷ x₄ ∷ x₅ ∷ x₆ ∷ x₇ ∷ [] in
    rw (e₁, e₂, e₃, e₄, e₅, e₆, e₇) (sets-eq all l k h ∙ append_assoc (take k l) all (drop (k + 8) l))

module _ (file table : List ℕ) where
  abbrev names : ℕ → Name
  names = names_by file table

  abbrev one : Format Method
  one = method_format names (length file)

  -- the instructions end before the tables do
  body_inside : (body : Body) → BodyAt file names body → CodeInside (body_place body)
  unfolding code_tables_format
  body_inside bodiless stands = tt
  body_inside (coded code) stands =
      let tabled : ℕ → Format Tables = λ count. and_then (times count (handler_format code.stop)) (λ handlers.
      and_then (code_end_format names code.stop) (λ locals. done (record { handlers = handlers; locals = locals }))) in
      let counted = number_was file (code.start + code.size) 2 code.stop any tabled stands.1 in
      omega (arith, counted.0)

  -- the records that are counted are those of the code
  body_numbers :
      (body : Body) → BodyAt file names body →
      code_numbers file table (body_place body) ≡ record { start = code_start body; size = code_size body; records = record_count body }
  body_numbers bodiless stands = refl
  body_numbers (coded code) stands =
      let counted : ℕ → CodeNumbers = λ n. record { start = code.start; size = code.size; records = n } in
      ap (λ (r : Reading Tables). counted (count_told r)) stands.1

  method-numbers :
      (at : ℕ) (m : Method) (end : ℕ) → read_by one file at ≡ right m end →
      numbers_by file table (method_place m end) ≡ method_numbers (entry_by file table) m
  method-numbers at m end is =
      let body = body_numbers m.body (method_stands file names (length file) at m end is) in
      rw body

  -- by what the reader told
  pub told_inside : (at : ℕ) {method : MethodPlace} → method_told (read_by one file at) ≡ Ok method → CodeInside method.body
  told_inside at {method} e = by (read_by one file at) refl e
    where
      by : (r : Reading Method) → read_by one file at ≡ r → method_told r ≡ Ok method → CodeInside method.body
      by (right m end) is told =
          let same : method_place m end ≡ method = cc in
          subst (λ (p : MethodPlace). CodeInside p.body) same (body_inside m.body (method_stands file names (length file) at m end is))
      by (wrong place) is told = let z : ◌≡◌ {A = ℕ} 0 1 = cc in absurd (omega arith)

  -- ---- a turn of the loop

  pub never_wrong :
      {A : Type 0} {n at end : ℕ} {methods : List Method} (f : FirstOf one n file at methods end) {place : ℕ} →
      method_told (read_by one file at) ≡ Err place → A
  never_wrong f {place} told =
      let both : ◌≡◌ {A = Result MethodPlace ℕ} (Ok (method_place f.first f.next)) (Err place) = sym (ap method_told f.read) ∙ told in
      let z : ◌≡◌ {A = ℕ} 0 1 = cc in
      absurd (omega arith)

  module _
      {n at end : ℕ} {methods : List Method} (f : FirstOf one n file at methods end) {method : MethodPlace}
      (told : method_told (read_by one file at) ≡ Ok method) where
    first_is : method_place f.first f.next ≡ method
    first_is = let both : ◌≡◌ {A = Result MethodPlace ℕ} (Ok (method_place f.first f.next)) (Ok method) = sym (ap method_told f.read) ∙ told in cc

    pub next_is : f.next ≡ method.next
    next_is = ap (λ (p : MethodPlace). p.next) first_is

    pub first_filled :
        (k : ℕ) (cells after : List ℕ) → k + 8 ≤ length cells → after ≡ overlaid k (numbers_by file table method) cells →
        overlaid k (listed (entry_by file table) methods) cells ≡ overlaid (k + 8) (listed (entry_by file table) f.rest) after
    unfolding listed
    first_filled k cells after fits is =
        let entry = entry_by file table in
        let numbers : numbers_by file table method ≡ method_numbers entry f.first =
        ap (numbers_by file table) (sym first_is) ∙ method-numbers at f.first f.next f.read in
        ap (λ (ms : List Method). overlaid k (listed entry ms) cells) f.whole
        ∙ sym (overlaid_more (method_numbers entry f.first) (listed entry f.rest) cells k fits)
        ∙ ap (overlaid (k + 8) (listed entry f.rest)) (sym (is ∙ ap (λ (w : List ℕ). overlaid k w cells) numbers))

  -- where no method is left, nothing is written
  pub nothing_more :
      (k : ℕ) (cells : List ℕ) {methods : List Method} → methods ≡ [] → overlaid k (listed (entry_by file table) methods) cells ≡ cells
  unfolding overlaid listed
  nothing_more k cells none = rw (none, add-zero, take-append-drop)
