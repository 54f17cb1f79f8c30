-- The reader answers the offset of the first wrong item as it is declared, and no other.
-- Rests on: what stands is read and what is read stands (Reading, Items).
-- Assumes nothing.
use Rattle.std.specs.Prelude.{Option, Some, None, Result, Ok, Err}
use Rattle.std.proofs.lemmas.Option.{some_pair_parts}
use Prim.Native.Nat.{ℕ, zero, suc, ◌+◌, ◌≤◌, ◌<◌}
use native.Mathlib.Omega.{arith}
use mathlib.Core.Path.{◌≡◌, refl, ◌∙◌, sym, ap, subst, subst₂}
use mathlib.Core.Bool.{Bool, true, false}
use mathlib.Core.List.{List}
use lib.Dec.{T, ltb}
use lib.ListN.{length}
use borrow.Author.Tests.{lt-ltb, le-ltb, ltb-true, ltb-false}
use Rattle.basics.specs.Bytes.{AreBytes}
use Rattle.basics.specs.Choice.{pick}
use Rattle.number.specs.Number.{greatest, number_at, then_number}
use Rattle.items.specs.Text.{text_at, then_text}
use Rattle.tables.specs.Layout.{Layout, number, sized, may_end, ended, any, members_then, records_then, tables_then, case_layout, run_by, then_run}
use Rattle.tables.specs.Member.{member_at, then_member}
use Rattle.tables.specs.LocalRecord.{record_at, then_record}
use Rattle.tables.specs.declared.RecordPlace.{RecordPlace}
use Rattle.tables.specs.declared.MemberPlace.{MemberPlace}
use Rattle.tables.proofs.Runs.{member-then, record-then}
use Rattle.casefile.specs.Whole.{tables_at, then_tables, places_in, longest, case_of}
use Rattle.casefile.specs.declared.Places.{Places}
use Rattle.casefile.specs.declared.CaseError.{CaseError}
use Rattle.casefile.specs.declared.TablePlaces.{TablePlaces}
use Rattle.casefile.specs.declared.CaseError.TheVariants as answer
use Rattle.cases.specs.FirstWrong.{Reached, start, after_number, after_text, goes_on, ends_here, NothingRight, FirstWrong, FirstWrongDeclared}
use Rattle.cases.proofs.Items.{number_on, sized_on, may_end_on, may_end_here}
use Rattle.cases.proofs.Reading.{number_reads, number_stands, text_reads, text_stands}

true_test : (t : Bool) → T t → t ≡ true
true_test true tt = refl
true_test false t = absurd t

-- ---- a run of the layout answers what is declared

module _ (bytes : List ℕ) (are : AreBytes bytes) where
  -- what a run answers, seen from a place that is reached
  abbrev Declares : (Result ℕ ℕ) → Type 0
  Declares (Ok end) = Reached bytes ended end
  Declares (Err offset) = FirstWrong bytes offset

  declares : (layout : Layout) (at : ℕ) → Reached bytes layout at → Declares (run_by layout bytes at)
  unfolding run_by
  declares ended at reached = reached
  declares (number right following) at reached =
      by_number (number_at greatest bytes at) refl (λ v next there. declares (following v) next there)
    where
      by_rule :
          (v next : ℕ) → number_at greatest bytes at ≡ Some (v, next) → (t : Bool) → right v ≡ t →
          ((w after : ℕ) → Reached bytes (following w) after → Declares (run_by (following w) bytes after)) →
          Declares (pick t (run_by (following v) bytes next) (Err at))
      by_rule v next e true f onward =
          let read = number_stands greatest bytes at v next are e in
          onward v next
          (subst (λ (n : ℕ). Reached bytes (following v) n) (sym read.1)
          (after_number v reached read.2 (subst T (sym f) tt) read.0))
      by_rule v next e false f onward =
          record {
            due = number right following;
            reached = reached;
            wrong =
                λ w fits passes stands.
                let other = number_reads greatest bytes at w fits stands in
                let same : w ≡ v = (some_pair_parts w v _ next (sym other ∙ e)).0 in
                let fails : right w ≡ false = rw same f in
                let passed = true_test (right w) passes in
                let z : ◌≡◌ {A = Bool} true false = cc in
                let y : ◌≡◌ {A = ℕ} 0 1 = cc in
                omega arith;
          }

      by_number :
          (n : Option (ℕ × ℕ)) → number_at greatest bytes at ≡ n →
          ((w after : ℕ) → Reached bytes (following w) after → Declares (run_by (following w) bytes after)) →
          Declares (then_number n (Err at) (λ v next. pick (right v) (run_by (following v) bytes next) (Err at)))
      by_number (Some (v, next)) e onward = by_rule v next e (right v) refl onward
      by_number None e onward =
          record {
            due = number right following;
            reached = reached;
            wrong =
                λ w fits passes stands.
                let other = number_reads greatest bytes at w fits stands in
                let y : ◌≡◌ {A = ℕ} 0 1 = cc in
                omega arith;
          }
  declares (sized following) at reached =
      by_text (text_at bytes at) refl (λ size next there. declares (following size) next there)
    where
      by_text :
          (t : Option (ℕ × ℕ)) → text_at bytes at ≡ t →
          ((size after : ℕ) → Reached bytes (following size) after → Declares (run_by (following size) bytes after)) →
          Declares (then_text t (Err at) (λ begin size. run_by (following size) bytes (begin + size)))
      by_text (Some (begin, size)) e onward =
          let read = text_stands bytes at begin size are e in
          onward size (begin + size)
          (subst₂ (λ (k n : ℕ). Reached bytes (following k) n) read.sized (sym read.ends)
          (after_text _ reached read.fits read.stands))
      by_text None e onward =
          record {
            due = sized following;
            reached = reached;
            wrong =
                λ t fits stands.
                let other = text_reads bytes at t fits stands in
                let y : ◌≡◌ {A = ℕ} 0 1 = cc in
                omega arith;
          }
  declares (may_end following) at reached =
      by_test (ltb at (length bytes)) refl (λ there. declares following at there)
    where
      by_test :
          (t : Bool) → ltb at (length bytes) ≡ t → (Reached bytes following at → Declares (run_by following bytes at)) →
          Declares (pick t (run_by following bytes at) (Ok at))
      by_test true e onward = onward (goes_on reached (ltb-true at (length bytes) e))
      by_test false e onward = ends_here reached (ltb-false at (length bytes) e)

  -- from each place that is reached the layout answers what it answers from the start
  along : {layout : Layout} {at : ℕ} → Reached bytes layout at → run_by case_layout bytes 0 ≡ run_by layout bytes at
  along start = refl
  along (after_number {right = right} {following = following} {at = at} v earlier fits passes stands) =
      along earlier ∙ number_on bytes at right following v fits (true_test (right v) passes) stands
  along (after_text {following = following} {at = at} t earlier fits stands) =
      along earlier ∙ sized_on bytes at following t fits stands
  along (goes_on {following = following} {at = at} earlier inside) = along earlier ∙ may_end_on bytes at following inside
  along (ends_here {following = following} {at = at} earlier past) = along earlier ∙ may_end_here bytes at following past

-- ---- the reader of the whole case is a run of the layout

-- members and what follows them
pub members-then :
    (count last : ℕ) (following : Layout) (bytes : List ℕ) (at : ℕ) →
    run_by (members_then count last following) bytes at
    ≡ then_run (run_by (members_then count last ended) bytes at) (λ wrong. Err wrong) (λ end. run_by following bytes end)
unfolding members_then run_by
members-then zero last following bytes at = refl
members-then (suc count) last following bytes at =
    member-then bytes last at (λ index. members_then count index following)
    ∙ of (member_at bytes last at) (λ index next. members-then count index following bytes next)
    ∙ ap (λ (r : Result ℕ ℕ). then_run r (λ wrong. Err wrong) (λ end. run_by following bytes end))
    (sym (member-then bytes last at (λ index. members_then count index ended)))
  where
    onward : ℕ → Result ℕ ℕ
    onward end = run_by following bytes end

    of :
        (m : Result MemberPlace ℕ) →
        ((index next : ℕ) →
        run_by (members_then count index following) bytes next
        ≡ then_run (run_by (members_then count index ended) bytes next) (λ wrong. Err wrong) onward) →
        then_member m (λ wrong. Err wrong) (λ place. run_by (members_then count place.index following) bytes place.next)
        ≡ then_run
        (then_member m (λ wrong. Err wrong) (λ place. run_by (members_then count place.index ended) bytes place.next))
        (λ wrong. Err wrong) onward
    of (Ok place) rest = rest place.index place.next
    of (Err place) rest = refl

-- records and what follows them
pub records-then :
    (count : ℕ) (following : Layout) (bytes : List ℕ) (at : ℕ) →
    run_by (records_then count following) bytes at
    ≡ then_run (run_by (records_then count ended) bytes at) (λ wrong. Err wrong) (λ end. run_by following bytes end)
unfolding records_then run_by
records-then zero following bytes at = refl
records-then (suc count) following bytes at =
    record-then bytes at (records_then count following)
    ∙ of (record_at bytes at) (λ next. records-then count following bytes next)
    ∙ ap (λ (r : Result ℕ ℕ). then_run r (λ wrong. Err wrong) (λ end. run_by following bytes end))
    (sym (record-then bytes at (records_then count ended)))
  where
    onward : ℕ → Result ℕ ℕ
    onward end = run_by following bytes end

    of :
        (r : Result RecordPlace ℕ) →
        ((next : ℕ) →
        run_by (records_then count following) bytes next
        ≡ then_run (run_by (records_then count ended) bytes next) (λ wrong. Err wrong) onward) →
        then_record r (λ wrong. Err wrong) (λ place. run_by (records_then count following) bytes place.next)
        ≡ then_run (then_record r (λ wrong. Err wrong) (λ place. run_by (records_then count ended) bytes place.next))
        (λ wrong. Err wrong) onward
    of (Ok place) rest = rest place.next
    of (Err place) rest = refl

-- whether there is a wrong item, and where; a run is never too long
pub data Verdict : Type 0 where
  all_right : Verdict
  not_read : Verdict
  wrong_at : ℕ → Verdict

-- the verdict on a run that ends, where bytes may be in excess
abbrev pub on_run : List ℕ → Result ℕ ℕ → Verdict
on_run bytes (Ok end) = pick (ltb end (length bytes)) (wrong_at end) all_right
on_run bytes (Err offset) = wrong_at offset

abbrev pub on_case : Result Places CaseError → Verdict
on_case (Ok places) = all_right
on_case (Err (answer.Wrong offset)) = wrong_at offset
on_case (Err answer.TooLong) = not_read

-- the two runs with their counts, and what follows them
module _ (following : Layout) (bytes : List ℕ) (at : ℕ) where
  abbrev TablesThen : Type 0
  TablesThen =
      run_by (tables_then following) bytes at
      ≡ then_tables (tables_at bytes at) (λ wrong. Err wrong) (λ places. run_by following bytes places.end)

  abbrev after_members : Layout
  after_members = number any (λ records. records_then records following)

  pub tables-then : TablesThen
  unfolding tables_at tables_then run_by
  tables-then = by_count (number_at greatest bytes at) refl
    where
      by_records :
          (count members end record_count records : ℕ) → number_at greatest bytes at ≡ Some (count, members) →
          run_by (members_then count 0 ended) bytes members ≡ Ok end → number_at greatest bytes end ≡ Some (record_count, records) →
          (r : Result ℕ ℕ) → run_by (records_then record_count ended) bytes records ≡ r → TablesThen
      by_records count members end record_count records e f g (Ok last) h =
          rw (e, members-then count 0 after_members bytes members, f, g, records-then record_count following bytes records, h)
      by_records count members end record_count records e f g (Err offset) h =
          rw (e, members-then count 0 after_members bytes members, f, g, records-then record_count following bytes records, h)

      by_record_count :
          (count members end : ℕ) → number_at greatest bytes at ≡ Some (count, members) →
          run_by (members_then count 0 ended) bytes members ≡ Ok end →
          (n : Option (ℕ × ℕ)) → number_at greatest bytes end ≡ n → TablesThen
      by_record_count count members end e f (Some (record_count, records)) g =
          by_records count members end record_count records e f g (run_by (records_then record_count ended) bytes records) refl
      by_record_count count members end e f None g = rw (e, members-then count 0 after_members bytes members, f, g)

      by_members :
          (count members : ℕ) → number_at greatest bytes at ≡ Some (count, members) →
          (r : Result ℕ ℕ) → run_by (members_then count 0 ended) bytes members ≡ r → TablesThen
      by_members count members e (Ok end) f = by_record_count count members end e f (number_at greatest bytes end) refl
      by_members count members e (Err offset) f = rw (e, members-then count 0 after_members bytes members, f)

      by_count : (n : Option (ℕ × ℕ)) → number_at greatest bytes at ≡ n → TablesThen
      by_count (Some (count, members)) e = by_members count members e (run_by (members_then count 0 ended) bytes members) refl
      by_count None e = rw e

module _ (bytes : List ℕ) where
  abbrev CaseRun : Type 0
  CaseRun = on_case (places_in bytes) ≡ on_run bytes (run_by case_layout bytes 0)

  pub case_run : CaseRun
  unfolding places_in case_layout run_by
  case_run = by_flags (number_at greatest bytes 0) refl
    where
      by_end :
          (t : Bool) (end : ℕ) (right : Result Places CaseError) → on_case right ≡ all_right →
          on_case (pick t (Err (answer.Wrong end)) right) ≡ pick t (wrong_at end) all_right
      by_end true end right e = refl
      by_end false end right e = e

      by_tables :
          (flags fault_at fault code_at code code_length signature signature_length : ℕ) →
          number_at greatest bytes 0 ≡ Some (flags, fault_at) → number_at greatest bytes fault_at ≡ Some (fault, code_at) →
          text_at bytes code_at ≡ Some (code, code_length) → text_at bytes (code + code_length) ≡ Some (signature, signature_length) →
          (t : Result TablePlaces ℕ) → tables_at bytes (signature + signature_length) ≡ t → CaseRun
      by_tables flags fault_at fault code_at code code_length signature signature_length e f g h (Ok places) i =
          rw (e, f, g, h, tables-then ended bytes (signature + signature_length), i)
          (by_end (ltb places.end (length bytes)) places.end _ refl)
      by_tables flags fault_at fault code_at code code_length signature signature_length e f g h (Err offset) i =
          rw (e, f, g, h, tables-then ended bytes (signature + signature_length), i)

      by_signature :
          (flags fault_at fault code_at code code_length : ℕ) →
          number_at greatest bytes 0 ≡ Some (flags, fault_at) → number_at greatest bytes fault_at ≡ Some (fault, code_at) →
          text_at bytes code_at ≡ Some (code, code_length) → (t : Option (ℕ × ℕ)) → text_at bytes (code + code_length) ≡ t → CaseRun
      by_signature flags fault_at fault code_at code code_length e f g (Some (signature, n)) h =
          by_tables flags fault_at fault code_at code code_length signature n e f g h (tables_at bytes (signature + n)) refl
      by_signature flags fault_at fault code_at code code_length e f g None h = rw (e, f, g, h)

      by_code :
          (flags fault_at fault code_at : ℕ) → number_at greatest bytes 0 ≡ Some (flags, fault_at) →
          number_at greatest bytes fault_at ≡ Some (fault, code_at) → (t : Option (ℕ × ℕ)) → text_at bytes code_at ≡ t → CaseRun
      by_code flags fault_at fault code_at e f (Some (code, code_length)) g =
          by_signature flags fault_at fault code_at code code_length e f g (text_at bytes (code + code_length)) refl
      by_code flags fault_at fault code_at e f None g = rw (e, f, g)

      by_fault :
          (flags fault_at : ℕ) → number_at greatest bytes 0 ≡ Some (flags, fault_at) →
          (n : Option (ℕ × ℕ)) → number_at greatest bytes fault_at ≡ n → CaseRun
      by_fault flags fault_at e (Some (fault, code_at)) f = by_code flags fault_at fault code_at e f (text_at bytes code_at) refl
      by_fault flags fault_at e None f = rw (e, f)

      by_flags : (n : Option (ℕ × ℕ)) → number_at greatest bytes 0 ≡ n → CaseRun
      by_flags (Some (flags, fault_at)) e = by_fault flags fault_at e (number_at greatest bytes fault_at) refl
      by_flags None e = rw e

-- ---- the statement

module _ (bytes : List ℕ) where
  pub fits_of : (c : Result Places CaseError) → (c ≡ Err answer.TooLong → ⊥) → case_of bytes ≡ c → (length bytes ≤ longest) × (places_in bytes ≡ c)
  unfolding case_of
  fits_of c not e = by_test (ltb longest (length bytes)) refl e
    where
      by_test :
          (t : Bool) → ltb longest (length bytes) ≡ t → pick t (Err answer.TooLong) (places_in bytes) ≡ c →
          (length bytes ≤ longest) × (places_in bytes ≡ c)
      by_test true f q = absurd (not (sym q))
      by_test false f q = (ltb-false longest (length bytes) f, q)

  pub of_short : length bytes ≤ longest → case_of bytes ≡ places_in bytes
  unfolding case_of
  of_short short = rw (le-ltb longest (length bytes) short)

  -- a verdict is the case's
  wrong_case : (c : Result Places CaseError) (offset : ℕ) → on_case c ≡ wrong_at offset → c ≡ Err (answer.Wrong offset)
  wrong_case (Ok places) offset e = let y : ◌≡◌ {A = ℕ} 0 1 = cc in absurd (omega arith)
  wrong_case (Err (answer.Wrong place)) offset e = let same : place ≡ offset = cc in ap (λ (place : ℕ). Err (answer.Wrong place)) same
  wrong_case (Err answer.TooLong) offset e = let y : ◌≡◌ {A = ℕ} 0 1 = cc in absurd (omega arith)

  first_wrong_verdict :
      (are : AreBytes bytes) → (r : Result ℕ ℕ) → run_by case_layout bytes 0 ≡ r → Declares bytes are r → (offset : ℕ) → on_run bytes r ≡ wrong_at offset →
      FirstWrong bytes offset
  first_wrong_verdict are (Ok end) e reached offset q = by_test (ltb end (length bytes)) refl q
    where
      by_test :
          (t : Bool) → ltb end (length bytes) ≡ t → pick t (wrong_at end) all_right ≡ wrong_at offset → FirstWrong bytes offset
      by_test true f g =
          let same : end ≡ offset = cc in
          subst (λ (o : ℕ). FirstWrong bytes o) same
          (record { due = ended; reached = reached; wrong = ltb-true end (length bytes) f })
      by_test false f g = let y : ◌≡◌ {A = ℕ} 0 1 = cc in absurd (omega arith)
  first_wrong_verdict are (Err place) e first offset q =
      let same : place ≡ offset = cc in
      subst (λ (o : ℕ). FirstWrong bytes o) same first

  means : AreBytes bytes → (offset : ℕ) → case_of bytes ≡ Err (answer.Wrong offset) → FirstWrong bytes offset
  means are offset e =
      let case = fits_of (Err (answer.Wrong offset)) (λ q. let y : ◌≡◌ {A = ℕ} 0 1 = cc in omega arith) e in
      first_wrong_verdict are (run_by case_layout bytes 0) refl (declares bytes are case_layout 0 start) offset
      (sym (case_run bytes) ∙ ap on_case case.1)

  -- where nothing right stands the run stops
  stops : AreBytes bytes → (layout : Layout) (at : ℕ) → NothingRight bytes layout at → on_run bytes (run_by layout bytes at) ≡ wrong_at at
  unfolding run_by
  stops are ended at excess = rw (lt-ltb at (length bytes) excess)
  stops are (number right following) at nothing = by_number (number_at greatest bytes at) refl
    where
      by_rule :
          (v next : ℕ) → number_at greatest bytes at ≡ Some (v, next) → (t : Bool) → right v ≡ t →
          on_run bytes (pick t (run_by (following v) bytes next) (Err at)) ≡ wrong_at at
      by_rule v next e true f =
          let read = number_stands greatest bytes at v next are e in
          absurd (nothing v read.2 (subst T (sym f) tt) read.0)
      by_rule v next e false f = refl

      by_number :
          (n : Option (ℕ × ℕ)) → number_at greatest bytes at ≡ n →
          on_run bytes (then_number n (Err at) (λ v next. pick (right v) (run_by (following v) bytes next) (Err at))) ≡ wrong_at at
      by_number (Some (v, next)) e = by_rule v next e (right v) refl
      by_number None e = refl
  stops are (may_end following) at nothing = absurd nothing
  stops are (sized following) at nothing = by_text (text_at bytes at) refl
    where
      by_text :
          (t : Option (ℕ × ℕ)) → text_at bytes at ≡ t →
          on_run bytes (then_text t (Err at) (λ begin size. run_by (following size) bytes (begin + size))) ≡ wrong_at at
      by_text (Some (begin, size)) e =
          let read = text_stands bytes at begin size are e in
          absurd (nothing _ read.fits read.stands)
      by_text None e = refl

  verdict : AreBytes bytes → (offset : ℕ) → FirstWrong bytes offset → on_case (places_in bytes) ≡ wrong_at offset
  verdict are offset first =
      case_run bytes ∙ ap (on_run bytes) (along bytes are first.reached) ∙ stops are first.due offset first.wrong

  only : AreBytes bytes → (offset : ℕ) → length bytes ≤ longest → FirstWrong bytes offset → case_of bytes ≡ Err (answer.Wrong offset)
  only are offset short first = of_short short ∙ wrong_case (places_in bytes) offset (verdict are offset first)

  one : AreBytes bytes → (offset another : ℕ) → FirstWrong bytes offset → FirstWrong bytes another → offset ≡ another
  one are offset another first second =
      let e = verdict are offset first in
      let f = verdict are another second in
      cc

  too-long : longest < length bytes → case_of bytes ≡ Err answer.TooLong
  unfolding case_of
  too-long long = rw (lt-ltb longest (length bytes) long)

  -- a run of the layout always has a verdict
  is_read : (r : Result ℕ ℕ) → on_run bytes r ≡ not_read → ⊥
  is_read (Ok end) e = by_test (ltb end (length bytes)) e
    where
      by_test : (t : Bool) → pick t (wrong_at end) all_right ≡ not_read → ⊥
      by_test true f = let y : ◌≡◌ {A = ℕ} 0 1 = cc in omega arith
      by_test false f = let y : ◌≡◌ {A = ℕ} 0 1 = cc in omega arith
  is_read (Err offset) e = let y : ◌≡◌ {A = ℕ} 0 1 = cc in omega arith

  not-too-long : case_of bytes ≡ Err answer.TooLong → longest < length bytes
  unfolding case_of
  not-too-long e = by_test (ltb longest (length bytes)) refl e
    where
      by_test :
          (t : Bool) → ltb longest (length bytes) ≡ t → pick t (Err answer.TooLong) (places_in bytes) ≡ Err answer.TooLong →
          longest < length bytes
      by_test true f q = ltb-true longest (length bytes) f
      by_test false f q = absurd (is_read (run_by case_layout bytes 0) (sym (case_run bytes) ∙ ap on_case q))

pub first_wrong_declared : FirstWrongDeclared
first_wrong_declared = record { means = means; only = only; one = one; too_long = too-long; not_too_long = not-too-long }
