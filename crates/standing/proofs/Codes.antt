-- The tables of a Code that was read stand behind its instructions.
-- Assumes nothing.
use Prim.Native.Nat.{ℕ, zero, suc, ◌+◌}
use mathlib.Core.Path.{◌≡◌, subst}
use mathlib.Core.Bool.{Bool, true, false}
use mathlib.Core.List.{List}
use Rattle.basics.specs.Ascii.{ascii}
use Rattle.basics.specs.Choice.{pick, between}
use Rattle.format.specs.Format.{Format, text, done, and_then, each, number_at, right, read_by}
use Rattle.format.proofs.Was.{number_was, text_was, window_was, then_was}
use Rattle.classformat.specs.Contents.{Name, is_named, Tables, Code, Body, bodiless, coded, Method}
use Rattle.classformat.specs.ClassFile.{any, u2, passed_over, is_name, code_tables_format, code_format, attribute_name, coded_format, method_attribute_format, method_format}

module _ (file : List ℕ) (names : ℕ → Name) where
  -- the tables of a code are read behind its instructions
  abbrev pub TablesAt : Code → Type 0
  TablesAt code = (end : ℕ) × (read_by (code_tables_format names code.stop) file (code.start + code.size) ≡ right code.tables end)

  abbrev pub BodyAt : Body → Type 0
  BodyAt bodiless = Unit {0}
  BodyAt (coded code) = TablesAt code

  abbrev code_of : ℕ → ℕ → ℕ → Tables → Code
  code_of start size stop tables = record { start = start; size = size; stop = stop; tables = tables }

  code_stands : (limit at : ℕ) (code : Code) (end : ℕ) → read_by (code_format names limit) file at ≡ right code end → TablesAt code
  unfolding code_format read_by
  code_stands limit at code end is =
      let tabled : ℕ → ℕ → Format Code = λ start size. and_then (code_tables_format names limit) (λ tables. done (code_of start size limit tables)) in
      let sized : Format Code = text 4 limit (λ size bytes. between 1 65535 size) tabled in
      let stack = number_was file at 2 limit any (λ max_stack. u2 limit any (λ max_locals. sized)) is in
      let slots = number_was file (at + 2) 2 limit any (λ max_locals. sized) stack.2 in
      let bytes = text_was file (at + 2 + 2) 4 limit (λ size bytes. between 1 65535 size) tabled slots.2 in
      let start = at + 2 + 2 + 4 in
      let size = number_at 4 file (at + 2 + 2) in
      let read = then_was file (start + size) (code_tables_format names limit) (λ tables. done (code_of start size limit tables)) bytes in
      let whole : right (code_of start size limit read.0) read.1 ≡ right code end = read.3 in
      let same : code_of start size limit read.0 ≡ code = cc in
      subst (λ (k : Code). TablesAt k) same (read.1, read.2)

  coded_stands : (limit at : ℕ) (body : Body) (end : ℕ) → read_by (coded_format names limit) file at ≡ right body end → BodyAt body
  unfolding coded_format read_by
  coded_stands limit at body end is =
      let inner = window_was file at 4 limit (λ stop. and_then (code_format names stop) (λ code. done (coded code))) is in
      let stop = at + 4 + number_at 4 file at in
      let read = then_was file (at + 4) (code_format names stop) (λ code. done (coded code)) inner in
      let whole : right (coded read.0) read.1 ≡ right body end = read.3 in
      let same : coded read.0 ≡ body = cc in
      subst (λ (b : Body). BodyAt b) same (code_stands stop (at + 4) read.0 read.1 read.2)

  -- one attribute: its Code, or what was found before it
  attribute_stands :
      (limit at : ℕ) (before after : Body) (end : ℕ) → BodyAt before → read_by (method_attribute_format names limit before) file at ≡ right after end →
      BodyAt after
  unfolding method_attribute_format read_by
  attribute_stands limit at before after end so is =
      let name = number_was file at 2 limit (attribute_name names before)
      (λ name. pick (is_named (ascii "Code") (names name)) (coded_format names limit) (passed_over limit before)) is in
      by (is_named (ascii "Code") (names (number_at 2 file at))) name.2
    where
      by : (t : Bool) → read_by (pick t (coded_format names limit) (passed_over limit before)) file (at + 2) ≡ right after end → BodyAt after
      by true e = coded_stands limit (at + 2) after end e
      by false e =
          let over = text_was file (at + 2) 4 limit (λ size bytes. true) (λ start size. done before) e in
          let same : before ≡ after = cc in
          subst (λ (b : Body). BodyAt b) same so

  attributes_stand :
      (limit n at : ℕ) (before after : Body) (end : ℕ) → BodyAt before →
      read_by (each n (method_attribute_format names limit) before) file at ≡ right after end → BodyAt after
  unfolding each read_by
  attributes_stand limit zero at before after end so is = let same : before ≡ after = cc in subst (λ (b : Body). BodyAt b) same so
  attributes_stand limit (suc n) at before after end so is =
      let one = then_was file at (method_attribute_format names limit before) (λ b. each n (method_attribute_format names limit) b) is in
      attributes_stand limit n one.1 one.0 after end (attribute_stands limit at before one.0 one.1 so one.2) one.3

  abbrev method_of : ℕ → ℕ → ℕ → Body → Method
  method_of flags name descriptor body = record { flags = flags; name = name; descriptor = descriptor; body = body }

  pub method_stands : (limit at : ℕ) (m : Method) (end : ℕ) → read_by (method_format names limit) file at ≡ right m end → BodyAt m.body
  unfolding method_format read_by
  method_stands limit at m end is =
      let bodied : ℕ → ℕ → ℕ → ℕ → Format Method = λ flags name descriptor count.
      and_then (each count (method_attribute_format names limit) bodiless) (λ body. done (method_of flags name descriptor body)) in
      let first = number_was file at 2 limit any
      (λ flags. u2 limit (is_name names) (λ name. u2 limit (is_name names) (λ descriptor. u2 limit any (λ count. bodied flags name descriptor count)))) is in
      let flags = number_at 2 file at in
      let second = number_was file (at + 2) 2 limit (is_name names)
      (λ name. u2 limit (is_name names) (λ descriptor. u2 limit any (λ count. bodied flags name descriptor count))) first.2 in
      let name = number_at 2 file (at + 2) in
      let third = number_was file (at + 2 + 2) 2 limit (is_name names) (λ descriptor. u2 limit any (λ count. bodied flags name descriptor count)) second.2 in
      let descriptor = number_at 2 file (at + 2 + 2) in
      let fourth = number_was file (at + 2 + 2 + 2) 2 limit any (λ count. bodied flags name descriptor count) third.2 in
      let count = number_at 2 file (at + 2 + 2 + 2) in
      let from = at + 2 + 2 + 2 + 2 in
      let read = then_was file from (each count (method_attribute_format names limit) bodiless) (λ body. done (method_of flags name descriptor body)) fourth.2 in
      let whole : right (method_of flags name descriptor read.0) read.1 ≡ right m end = read.3 in
      let same : method_of flags name descriptor read.0 ≡ m = cc in
      subst (λ (k : Method). BodyAt k.body) same (attributes_stand limit count from bodiless read.0 read.1 tt read.2)
