-- Of a file that is read, the table of its pool's places serves its pool, so that the names by the table are the names by the pool.
-- Assumes nothing.
use Rattle.std.specs.Prelude.{Ok}
use Prim.Native.Nat.{ℕ, ◌-◌, ◌≤◌, ◌<◌}
use mathlib.Core.Path.{◌≡◌, refl, ◌∙◌, sym, ap, subst, fun_ext}
use mathlib.Core.Bool.{false}
use mathlib.Core.List.{List, ◌∷◌}
use lib.Dec.{eqb, ltb}
use lib.ListN.{length}
use borrow.Author.Tests.{eqb-true, ltb-true}
use Rattle.basics.specs.Bytes.{u16_at, u32_at}
use Rattle.format.specs.Format.{Format, done, and_then, number_at, Reading, right, wrong, then_read, read_by}
use Rattle.format.proofs.Items.{two_bytes, four_bytes, was_read}
use Rattle.format.proofs.Was.{number_was, then_was}
use Rattle.format.proofs.Reading.{read_then}
use Rattle.classformat.specs.Contents.{Pool, entry_in, Name, name_of, ClassFile}
use Rattle.classformat.specs.ClassFile.{any, u2, pool_format, Start, start_format, rest_format, class_of, class_format}
use Rattle.classformat.specs.declared.Entry.{Entry}
use Rattle.classformat.specs.declared.Entry.TheVariants.{Nothing}
use Rattle.entries.specs.Entries.{names_by, Serves}
use Rattle.pool.specs.Pool.{places_in, placed}
use Rattle.pool.proofs.Serving.{table_serves}
use Rattle.classfile.specs.Class.{start_place, start_told, start_table, class_by}
use Rattle.classfile.specs.declared.StartPlace.{StartPlace}
use Rattle.classfile.proofs.Starting.{filled}

-- by what its reader tells, a start is read
pub start_read :
    (r : Reading Start) {place : StartPlace} → start_told r ≡ Ok place →
    (s : Start) × (r ≡ right s place.next) × (start_place s place.next ≡ place)
start_read r {place} e =
    let w = was_read start_place r e in
    let next = ap (λ (p : StartPlace). p.next) w.3 in
    (w.0, w.2 ∙ ap (right w.0) next, sym (ap (start_place w.0) next) ∙ w.3)

-- ---- the start of a file that is read

record Begun (file : List ℕ) (s : Start) (end : ℕ) : Type 0 where
  long : 10 ≤ length file
  magic : u32_at file 0 ≡ 0xcafebabe
  some : 0 < u16_at file 8
  entries : Pool
  read : read_by (pool_format (length file) (u16_at file 8 - 1) false) file 10 ≡ right entries end
  pooled : s.pool ≡ Nothing ∷ entries

abbrev start_of : ℕ → Pool → Start
start_of major entries = record { major = major; pool = Nothing ∷ entries }

module _ (file : List ℕ) where
  -- what is due behind each item of the start
  pooled_by : ℕ → ℕ → Format Start
  pooled_by major count =
      and_then (pool_format (length file) (count - 1) false) (λ entries. done (start_of major entries))

  counted_by : ℕ → Format Start
  counted_by major = u2 (length file) (λ count. ltb 0 count) (λ count. pooled_by major count)

  begun : (s : Start) (end : ℕ) → read_by (start_format (length file)) file 0 ≡ right s end → Begun file s end
  unfolding start_format read_by pooled_by counted_by
  begun s end is =
      let n = length file in
      let first =
      number_was file 0 4 n (λ magic. eqb magic 0xcafebabe) (λ magic. u2 n any (λ minor. u2 n any (λ major. counted_by major))) is in
      let second = number_was file 4 2 n any (λ minor. u2 n any (λ major. counted_by major)) first.2 in
      let third = number_was file 6 2 n any (λ major. counted_by major) second.2 in
      let major = number_at 2 file 6 in
      let fourth = number_was file 8 2 n (λ count. ltb 0 count) (λ count. pooled_by major count) third.2 in
      let count : number_at 2 file 8 ≡ u16_at file 8 = two_bytes file 8 in
      let pool =
      then_was file 10 (pool_format n (number_at 2 file 8 - 1) false) (λ entries. done (start_of major entries)) fourth.2 in
      let whole : right (start_of major pool.0) pool.1 ≡ right s end = pool.3 in
      let same : start_of major pool.0 ≡ s = cc in
      let place : pool.1 ≡ end = cc in
      record {
        long = fourth.0;
        magic = sym (four_bytes file 0) ∙ eqb-true (number_at 4 file 0) 0xcafebabe first.1;
        some = subst (λ (k : ℕ). 0 < k) count (ltb-true 0 (number_at 2 file 8) fourth.1);
        entries = pool.0;
        read = subst (λ (k : ℕ). read_by (pool_format n (k - 1) false) file 10 ≡ right pool.0 end) count (pool.2 ∙ ap (right pool.0) place);
        pooled = ap (λ (t : Start). t.pool) (sym same);
      }

-- ---- the table serves

pub start_serves :
    (file before : List ℕ) (s : Start) (end : ℕ) → u16_at file 8 ≤ length before → read_by (start_format (length file)) file 0 ≡ right s end →
    Serves file (start_table file before) s.pool
start_serves file before s end room is =
    let b = begun file s end is in
    let table = filled file before b.long b.magic b.some in
    subst (λ (t : List ℕ). Serves file t s.pool) table
    (subst (λ (pool : Pool). Serves file (placed (length before) (places_in file (u16_at file 8))) pool) (sym b.pooled)
    (table_serves file (u16_at file 8) (length before) b.entries end room b.read))

-- by the table and by the pool a file is read alike
pub read_alike :
    (file before : List ℕ) → u16_at file 8 ≤ length before →
    read_by (class_by file (start_table file before)) file 0 ≡ read_by (class_format file) file 0
unfolding class_by class_format
read_alike file before room =
    read_then by_table file (start_format (length file)) 0 ∙ by (read_by (start_format (length file)) file 0) refl
    ∙ sym (read_then by_pool file (start_format (length file)) 0)
  where
    by_table : Start → Format ClassFile
    by_table s = and_then (rest_format (names_by file (start_table file before)) (length file)) (λ rest. done (class_of s rest))

    by_pool : Start → Format ClassFile
    by_pool s = and_then (rest_format (λ index. name_of file (entry_in s.pool index)) (length file)) (λ rest. done (class_of s rest))

    by :
        (r : Reading Start) → read_by (start_format (length file)) file 0 ≡ r →
        then_read r (λ s next. read_by (by_table s) file next) ≡ then_read r (λ s next. read_by (by_pool s) file next)
    by (right s end) is =
        let names = fun_ext (λ (index : ℕ). ap (λ (e : Entry). name_of file e) (start_serves file before s end room is index)) in
        ap (λ (ns : ℕ → Name). read_by (and_then (rest_format ns (length file)) (λ rest. done (class_of s rest))) file end) names
    by (wrong place) is = refl
