-- What a table of a run holds, while it is filled and after; and that a lookup by it finds what it finds in the whole run.
-- Assumes nothing.
use Prim.Native.Nat.{ℕ, zero, suc, ◌+◌, ◌-◌, ◌*◌, ◌/◌, ◌≤◌, ◌<◌}
use native.Mathlib.Omega.{arith}
use mathlib.Core.Path.{◌≡◌, refl, ◌∙◌, sym, ap}
use mathlib.Core.Bool.{Bool, true, false}
use mathlib.Core.List.{List}
use lib.Dec.{ltb}
use lib.ListN.{length, get_or, set, length-set}
use lib.Seq.{get_or-set_same, get_or-set_other, ext_get_or}
use borrow.Author.Tests.{lt-ltb, le-ltb, ltb-true, ltb-false}
use Rattle.basics.specs.Choice.{pick}
use Rattle.lookup.specs.Lookup.{member_found}
use Rattle.index.specs.Index.{bucket_of, skipped, entry, found_in, Tabled, TabledOnce, Indexed, found_by}
use Rattle.index.specs.declared.Rest.{Rest}
use Rattle.index.proofs.Skipping.{skipped_in, skipped_on, skipped_finds}

-- ---- three cells stored one behind the other

module _ (t : List ℕ) (i x y z : ℕ) where
  abbrev pub thrice : List ℕ
  thrice = set (set (set t i x) (i + 1) y) (i + 2) z

  pub thrice_length : length thrice ≡ length t
  thrice_length = simp length-set

  thrice_other : (cell : ℕ) → (cell ≡ i → ⊥) → (cell ≡ i + 1 → ⊥) → (cell ≡ i + 2 → ⊥) → get_or thrice cell 0 ≡ get_or t cell 0
  thrice_other cell a b c =
      get_or-set_other (set (set t i x) (i + 1) y) (i + 2) cell z 0 c ∙ get_or-set_other (set t i x) (i + 1) cell y 0 b
      ∙ get_or-set_other t i cell x 0 a

  thrice_before : (cell : ℕ) → cell < i → get_or thrice cell 0 ≡ get_or t cell 0
  thrice_before cell l = thrice_other cell (λ e. omega (arith, e, l)) (λ e. omega (arith, e, l)) (λ e. omega (arith, e, l))

  thrice_behind : (cell : ℕ) → i + 2 < cell → get_or thrice cell 0 ≡ get_or t cell 0
  thrice_behind cell l = thrice_other cell (λ e. omega (arith, e, l)) (λ e. omega (arith, e, l)) (λ e. omega (arith, e, l))

  module _ (fits : i + 2 < length t) where
    thrice_first : get_or thrice i 0 ≡ x
    thrice_first =
        get_or-set_other (set (set t i x) (i + 1) y) (i + 2) i z 0 (λ e. omega (arith, e))
        ∙ get_or-set_other (set t i x) (i + 1) i y 0 (λ e. omega (arith, e)) ∙ get_or-set_same t i x 0 (omega arith)

    thrice_second : get_or thrice (i + 1) 0 ≡ y
    thrice_second =
        get_or-set_other (set (set t i x) (i + 1) y) (i + 2) (i + 1) z 0 (λ e. omega (arith, e))
        ∙ get_or-set_same (set t i x) (i + 1) y 0 (simp length-set (omega arith))

    thrice_third : get_or thrice (i + 2) 0 ≡ z
    thrice_third = get_or-set_same (set (set t i x) (i + 1) y) (i + 2) z 0 (simp length-set (omega arith))

-- a table that was filled serves
tabled_indexed :
    (members : List ℕ) (count : ℕ) (before after : List ℕ) → Tabled members count before after → Indexed members count after
tabled_indexed members count before after so index kind whole =
    ap (λ (r : Rest). found_in members r index kind) (so.filled (bucket_of index) (omega (arith, whole, so.long)))
    ∙ skipped_finds members (bucket_of index) index kind (omega arith) count 0 0

-- ---- filling a table

-- the buckets before one are filled, the cells behind them are as they were, and the place serves the other buckets
pub record Filling (members : List ℕ) (count : ℕ) (before table : List ℕ) (at last left bucket : ℕ) : Type 0 where
  pub inside : bucket ≤ length before / 3
  pub long : length table ≡ length before
  pub filled : (b : ℕ) → b < bucket → entry table b ≡ skipped members b count 0 0
  pub kept : (cell : ℕ) → 3 * bucket ≤ cell → get_or table cell 0 ≡ get_or before cell 0
  pub ahead : (b : ℕ) → bucket ≤ b → skipped members b left last at ≡ skipped members b count 0 0

module _ (members : List ℕ) (count : ℕ) (before : List ℕ) where
  pub filling_starts : Filling members count before before 0 0 count 0
  filling_starts =
      record {
        inside = omega arith;
        long = refl;
        filled = λ b l. absurd (omega (arith, l));
        kept = λ cell l. refl;
        ahead = λ b l. refl;
      }

  module _ (table : List ℕ) (at last left bucket : ℕ) (so : Filling members count before table at last left bucket)
      (more : bucket < length before / 3) (r : Rest) (found : r ≡ skipped members bucket left last at) where
    fits : 3 * bucket + 2 < length table
    fits = omega (arith, so.long, more)

    abbrev stored : List ℕ
    stored = thrice table (3 * bucket) r.at r.last r.left

    now_filled : entry stored bucket ≡ r
    now_filled =
        rw (
          thrice_first table (3 * bucket) r.at r.last r.left fits,
          thrice_second table (3 * bucket) r.at r.last r.left fits,
          thrice_third table (3 * bucket) r.at r.last r.left fits,
        )

    still : (cell : ℕ) → cell < 3 * bucket → get_or stored cell 0 ≡ get_or table cell 0
    still = thrice_before table (3 * bucket) r.at r.last r.left

    still_filled : (b : ℕ) → b < bucket → entry stored b ≡ entry table b
    still_filled b l =
        rw (still (3 * b) (omega (arith, l)), still (3 * b + 1) (omega (arith, l)), still (3 * b + 2) (omega (arith, l)))

    filled_more : (b : ℕ) → b < bucket + 1 → (t : Bool) → ltb b bucket ≡ t → entry stored b ≡ skipped members b count 0 0
    filled_more b l true e =
        let earlier : b < bucket = ltb-true b bucket e in still_filled b earlier ∙ so.filled b earlier
    filled_more b l false e =
        let same : b ≡ bucket = omega (arith, l, ltb-false b bucket e) in
        ap (entry stored) same ∙ now_filled ∙ found ∙ so.ahead bucket (omega arith)
        ∙ ap (λ (k : ℕ). skipped members k count 0 0) (sym same)

    ahead_at : (b : ℕ) → bucket ≤ b → skipped_in members b r ≡ skipped members b count 0 0
    ahead_at b l =
        ap (skipped_in members b) found ∙ skipped_on members bucket b l left last at ∙ so.ahead b l

    pub filling_on : Filling members count before stored r.at r.last r.left (bucket + 1)
    filling_on =
        record {
          inside = omega (arith, more);
          long = thrice_length table (3 * bucket) r.at r.last r.left ∙ so.long;
          filled = λ b l. filled_more b l (ltb b bucket) refl;
          kept = λ cell l.
              thrice_behind table (3 * bucket) r.at r.last r.left cell (omega (arith, l))
              ∙ so.kept cell (omega (arith, l));
          ahead = λ b l. ahead_at b (omega (arith, l));
        }

  filling_ends :
      (table : List ℕ) (at last left bucket : ℕ) → Filling members count before table at last left bucket →
      length before / 3 ≤ bucket → Tabled members count before table
  filling_ends table at last left bucket so all =
      record {
        long = so.long;
        filled = λ b l. so.filled b (omega (arith, all, l));
        kept = λ cell l. so.kept cell (omega (arith, so.inside, l));
      }

  pub tabled :
      (table : List ℕ) (at last left bucket : ℕ) → Filling members count before table at last left bucket →
      length before / 3 ≤ bucket → Tabled members count before table × Indexed members count table
  tabled table at last left bucket so all =
      let ends = filling_ends table at last left bucket so all in (ends, tabled_indexed members count before table ends)

-- a run and a table at entry allow one table at exit
pub tabled_once : TabledOnce
tabled_once members count before one other a b =
    ext_get_or 0 one other (a.long ∙ sym b.long) (λ cell inside. by_test cell (ltb (3 * (cell / 3) + 2) (length before)) refl)
  where
    -- the three cells of a bucket
    same : (bucket : ℕ) → 3 * bucket + 2 < length before → entry one bucket ≡ entry other bucket
    same bucket whole = a.filled bucket whole ∙ sym (b.filled bucket whole)

    by_cell :
        (bucket cell part : ℕ) → entry one bucket ≡ entry other bucket → cell ≡ 3 * bucket + part → part < 3 →
        get_or one cell 0 ≡ get_or other cell 0
    by_cell bucket cell zero e is small =
        let at : cell ≡ 3 * bucket = omega (arith, is) in rw at (ap (λ (r : Rest). r.at) e)
    by_cell bucket cell (suc zero) e is small = rw is (ap (λ (r : Rest). r.last) e)
    by_cell bucket cell (suc (suc zero)) e is small = rw is (ap (λ (r : Rest). r.left) e)
    by_cell bucket cell (suc (suc (suc part))) e is small = absurd (omega (arith, small))

    by_test :
        (cell : ℕ) (t : Bool) → ltb (3 * (cell / 3) + 2) (length before) ≡ t →
        get_or one cell 0 ≡ get_or other cell 0
    by_test cell true e =
        by_cell (cell / 3) cell (cell - 3 * (cell / 3)) (same (cell / 3) (ltb-true (3 * (cell / 3) + 2) (length before) e))
        (omega arith) (omega arith)
    by_test cell false e =
        let behind : length before / 3 * 3 ≤ cell = omega (arith, ltb-false (3 * (cell / 3) + 2) (length before) e) in
        a.kept cell behind ∙ sym (b.kept cell behind)

-- ---- lookups by a table

module _ (members : List ℕ) (count : ℕ) (table : List ℕ) (index kind : ℕ) where
  -- by a table that serves, a lookup finds what it finds in the whole run
  pub found-by : Indexed members count table → found_by members count table index kind ≡ member_found members index kind count 0 0
  unfolding found_by
  found-by serves = by_test (ltb (bucket_of index) (length table / 3)) refl
    where
      by_test :
          (t : Bool) → ltb (bucket_of index) (length table / 3) ≡ t →
          pick t (found_in members (entry table (bucket_of index)) index kind) (member_found members index kind count 0 0)
          ≡ member_found members index kind count 0 0
      by_test true e = serves index kind (omega (arith, ltb-true (bucket_of index) (length table / 3) e))
      by_test false e = refl

  -- the texts that the code hands back
  module _ (texts : List ℕ) where
    abbrev Found : Type 0
    Found =
        (texts ≡ found_by members count table index kind)
        × (Indexed members count table → texts ≡ member_found members index kind count 0 0)

    found : texts ≡ found_by members count table index kind → Found
    found e = (e, λ serves. e ∙ found-by serves)

    pub found_in_entry :
        bucket_of index < length table / 3 → texts ≡ found_in members (entry table (bucket_of index)) index kind → Found
    unfolding found_by
    found_in_entry l e = found (e ∙ sym (rw (lt-ltb (bucket_of index) (length table / 3) l)))

    pub found_in_whole : length table / 3 ≤ bucket_of index → texts ≡ member_found members index kind count 0 0 → Found
    unfolding found_by
    found_in_whole l e = found (e ∙ sym (rw (le-ltb (bucket_of index) (length table / 3) l)))
