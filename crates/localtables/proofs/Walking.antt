-- What stands behind an attribute's name; the records of a local table fill its attribute, and the attributes of a Code hold its records.
-- Assumes nothing.
use Rattle.std.specs.Prelude.{Ok, Some}
use Prim.Native.Nat.{ℕ, zero, suc, ◌+◌, ◌≤◌}
use native.Mathlib.Omega.{arith}
use mathlib.Core.Path.{◌≡◌, ◌∙◌, sym, ap, subst}
use mathlib.Core.Bool.{Bool, true, false}
use mathlib.Core.List.{List, []}
use Rattle.basics.specs.Ascii.{ascii}
use Rattle.basics.specs.Choice.{pick}
use Rattle.format.specs.Format.{window, full, done, and_then, times, right, read_by}
use Rattle.format.specs.Items.{item_at, run_of}
use Rattle.format.proofs.Items.{item_is}
use Rattle.format.proofs.Was.{first_of}
use Rattle.classformat.specs.Contents.{Name, is_named, Local, Tables}
use Rattle.classformat.specs.ClassFile.{passed_over, handler_format, joined, local_format, local_table_format, code_attribute_format, code_end_format, code_tables_format}
use Rattle.localtables.proofs.Behind.{Right, judged, number_fits, number_behind, full_fits, done_is, then_both, then_behind}

module _ (names : ℕ → Name) (limit : ℕ) (file : List ℕ) where
  -- behind an attribute's name
  module _
      (at : ℕ) {locals : List Local} {end name next : ℕ} (due : Right (code_attribute_format names limit) file at locals end)
      (is : item_at 2 limit file at ≡ Some (name, next)) where
    attribute_behind :
        (t : Bool) → is_named (ascii "LocalVariableTable") (names name) ≡ t →
        Right (pick t (window 4 limit (λ stop. local_table_format names stop)) (passed_over limit [])) file next locals end
    unfolding code_attribute_format
    attribute_behind t named =
        subst (λ (t : Bool). Right (pick t (window 4 limit (λ stop. local_table_format names stop)) (passed_over limit [])) file next locals end) named
        (number_behind due is)

    pub table_behind :
        is_named (ascii "LocalVariableTable") (names name) ≡ true →
        Right (window 4 limit (λ stop. local_table_format names stop)) file next locals end
    table_behind = attribute_behind true

    pub other_behind : is_named (ascii "LocalVariableTable") (names name) ≡ false → Right (passed_over limit []) file next locals end
    other_behind = attribute_behind false

  -- records end before their limit
  record_inside : (at : ℕ) {l : Local} {end : ℕ} → Right (local_format names limit) file at l end → end ≤ limit
  unfolding local_format
  record_inside at {l} {end} due =
      let slot = number_fits (number_fits (number_fits (number_fits (number_fits due).1).1).1).1 in
      let fits : at + 2 + 2 + 2 + 2 + 2 ≤ limit = slot.0 in
      let place : at + 2 + 2 + 2 + 2 + 2 ≡ end = (done_is slot.1).1 in
      omega (arith, fits, place)

  records_inside :
      (n at : ℕ) {ls : List Local} {end : ℕ} → at ≤ limit → Right (times n (local_format names limit)) file at ls end → end ≤ limit
  unfolding times
  records_inside zero at {ls} {end} inside due = let place : at ≡ end = (done_is due).1 in omega (arith, inside, place)
  records_inside (suc n) at inside due =
      let f = first_of (local_format names limit) n file at due.was in
      records_inside n f.next (record_inside at (judged (local_format names limit) file at f.read))
      (judged (times n (local_format names limit)) file f.next f.onward)

  -- behind its count a local table has its records, and they fill it
  pub table_filled :
      (at : ℕ) {locals : List Local} {end count from : ℕ} → Right (local_table_format names limit) file at locals end →
      item_at 2 limit file at ≡ Some (count, from) →
      (limit ≡ end) × (read_by (times count (local_format names limit)) file from ≡ right locals end)
  unfolding local_table_format
  table_filled at {locals} {end} {count} {from} due is =
      let all = then_both (times count (local_format names limit)) (λ locals. full limit (done locals)) (number_behind due is) in
      let filled = full_fits all.3 in
      let made = done_is filled.1 in
      let counted = item_is 2 limit file at is in
      let before : from ≤ limit = omega (arith, counted.0, counted.2) in
      let inside : all.1 ≤ limit = records_inside count from before all.2 in
      let reached : limit ≤ all.1 = filled.0 in
      let place : all.1 ≡ end = made.1 in
      (omega (arith, inside, reached, place), all.2.was ∙ ap (λ (ls : List Local). right ls all.1) made.0 ∙ ap (right locals) place)

  -- behind their count stand the attributes of a Code, whose records join in file order
  pub tables_joined :
      (at : ℕ) {locals : List Local} {end count from : ℕ} → Right (code_end_format names limit) file at locals end →
      item_at 2 limit file at ≡ Some (count, from) →
      (tables : List (List Local)) × (stop : ℕ) × (read_by (times count (code_attribute_format names limit)) file from ≡ right tables stop)
      × (locals ≡ joined tables)
  unfolding code_end_format
  tables_joined at {locals} {end} {count} {from} due is =
      let all = then_both (times count (code_attribute_format names limit)) (λ tables. full limit (done (joined tables))) (number_behind due is) in
      let made = done_is (full_fits all.3).1 in
      (all.0, all.1, all.2.was, sym made.0)

  -- behind the handlers stand the attributes
  pub tables_behind :
      (at : ℕ) {tables : Tables} {end count from next : ℕ} → Right (code_tables_format names limit) file at tables end →
      item_at 2 limit file at ≡ Some (count, from) → run_of (read_by (times count (handler_format limit)) file from) ≡ Ok next →
      (stop : ℕ) × Right (code_end_format names limit) file next tables.locals stop
  unfolding code_tables_format
  tables_behind at {tables} {end} {count} {from} {next} due counted is =
      let behind =
      then_behind (times count (handler_format limit))
      (λ handlers. and_then (code_end_format names limit) (λ locals. done (record { handlers = handlers; locals = locals })))
      (number_behind due counted) is in
      let all = then_both (code_end_format names limit) (λ locals. done (record { handlers = behind.0; locals = locals })) behind.1 in
      let made : record { handlers = behind.0; locals = all.0 } ≡ tables = (done_is all.3).0 in
      (all.1, subst (λ (ls : List Local). Right (code_end_format names limit) file next ls all.1) (ap (λ (t : Tables). t.locals) made) all.2)
