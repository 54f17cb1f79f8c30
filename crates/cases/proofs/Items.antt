-- A run by a layout, one item at a time: forward where the item stands, and back where the run came to its end.
-- Rests on: what stands is read and what is read stands (Reading).
-- Assumes nothing.
use Rattle.std.specs.Prelude.{Option, Some, None, Ok, Err}
use Prim.Native.Nat.{ℕ, zero, suc, ◌+◌, ◌≤◌, ◌<◌}
use native.Mathlib.Omega.{arith}
use mathlib.Core.Path.{◌≡◌, refl, ◌∙◌, sym, ap}
use mathlib.Core.Bool.{Bool, true, false}
use mathlib.Core.List.{List, [], ◌∷◌, ◌++◌}
use lib.Dec.{ltb, leb}
use lib.ListN.{length, take, drop, length-append}
use borrow.Author.Tests.{lt-ltb, le-ltb, le-leb, ltb-true, leb-true}
use Rattle.basics.specs.Bytes.{AreBytes}
use Rattle.basics.specs.Choice.{pick}
use Rattle.number.specs.Number.{greatest, number_bytes, number_at, then_number}
use Rattle.items.specs.Text.{text_bytes, text_at, then_text}
use Rattle.tables.specs.Layout.{Layout, number, sized, may_end, text, ended, any, three_texts, member_then, members_then, record_then, records_then, run_by}
use Rattle.cases.specs.LaidOut.{Member, texts_bytes, member_bytes, members_bytes, RightMember, RightMembers, none, more, Local, record_bytes, records_bytes, RightLocal, RightLocals}
use Rattle.cases.specs.LaidOut as laid
use Rattle.cases.specs.Standing.{Stands}
use Rattle.cases.proofs.Reading.{first_stands, second_stands, both_stand, nothing_stands, number_reads, number_stands, text_reads, text_stands}

-- ---- forward

pub number_on :
    (bytes : List ℕ) (at : ℕ) (right : ℕ → Bool) (following : ℕ → Layout) (v : ℕ) → v ≤ greatest → right v ≡ true →
    Stands bytes at (number_bytes v) →
    run_by (number right following) bytes at ≡ run_by (following v) bytes (at + length (number_bytes v))
unfolding run_by
number_on bytes at right following v fits passes stands = rw (number_reads greatest bytes at v fits stands, passes)

pub sized_on :
    (bytes : List ℕ) (at : ℕ) (following : ℕ → Layout) (t : List ℕ) → length t ≤ greatest → Stands bytes at (text_bytes t) →
    run_by (sized following) bytes at ≡ run_by (following (length t)) bytes (at + length (text_bytes t))
unfolding run_by text_bytes
sized_on bytes at following t fits stands =
    let ends : at + length (number_bytes (length t)) + length t ≡ at + length (text_bytes t) =
    omega (arith, length-append (number_bytes (length t)) t) in
    rw (text_reads bytes at t fits stands) (ap (run_by (following (length t)) bytes) ends)

pub text_on :
    (bytes : List ℕ) (at : ℕ) (following : Layout) (t : List ℕ) → length t ≤ greatest → Stands bytes at (text_bytes t) →
    run_by (text following) bytes at ≡ run_by following bytes (at + length (text_bytes t))
text_on bytes at following t fits stands = sized_on bytes at (λ size. following) t fits stands

pub may_end_on :
    (bytes : List ℕ) (at : ℕ) (following : Layout) → at < length bytes → run_by (may_end following) bytes at ≡ run_by following bytes at
unfolding run_by
may_end_on bytes at following inside = rw (lt-ltb at (length bytes) inside)

pub may_end_here :
    (bytes : List ℕ) (at : ℕ) (following : Layout) → length bytes ≤ at → run_by (may_end following) bytes at ≡ run_by ended bytes at
unfolding run_by
may_end_here bytes at following past = rw (le-ltb at (length bytes) past)

pub texts_on :
    (bytes : List ℕ) (at : ℕ) (following : Layout) (m : Member) → RightMember m → Stands bytes at (texts_bytes m) →
    run_by (three_texts following) bytes at ≡ run_by following bytes (at + length (texts_bytes m))
unfolding texts_bytes
texts_on bytes at following m right stands =
    let class = text_bytes m.class in
    let name = text_bytes m.name in
    let descriptor = text_bytes m.descriptor in
    let behind = second_stands bytes at class (name ++ descriptor) stands in
    let ends : at + length class + length name + length descriptor ≡ at + length (class ++ (name ++ descriptor)) =
    omega (arith, length-append class (name ++ descriptor), length-append name descriptor) in
    text_on bytes at (text (text following)) m.class right.class (first_stands bytes at class (name ++ descriptor) stands)
    ∙ text_on bytes (at + length class) (text following) m.name right.name
    (first_stands bytes (at + length class) name descriptor behind)
    ∙ text_on bytes (at + length class + length name) following m.descriptor right.descriptor
    (second_stands bytes (at + length class) name descriptor behind)
    ∙ ap (run_by following bytes) ends

pub members_on :
    (bytes : List ℕ) (at last : ℕ) (following : Layout) (ms : List Member) → RightMembers last ms → Stands bytes at (members_bytes ms) →
    run_by (members_then (length ms) last following) bytes at ≡ run_by following bytes (at + length (members_bytes ms))
unfolding members_then members_bytes member_bytes
members_on bytes at last following [] right stands = ap (run_by following bytes) (omega arith)
members_on bytes at last following (m ∷ ms) (more above right rest) stands =
    let index = number_bytes m.index in
    let kind = number_bytes m.kind in
    let texts = texts_bytes m in
    let own = first_stands bytes at (index ++ (kind ++ texts)) (members_bytes ms) stands in
    let others = second_stands bytes at (index ++ (kind ++ texts)) (members_bytes ms) stands in
    let behind = second_stands bytes at index (kind ++ texts) own in
    let ends : at + length index + length kind + length texts ≡ at + length (index ++ (kind ++ texts)) =
    omega (arith, length-append index (kind ++ texts), length-append kind texts) in
    let all :
    at + length (index ++ (kind ++ texts)) + length (members_bytes ms)
    ≡ at + length ((index ++ (kind ++ texts)) ++ members_bytes ms) =
    omega (arith, length-append (index ++ (kind ++ texts)) (members_bytes ms)) in
    number_on bytes at (λ i. ltb last i) (λ i. number (λ k. leb k 1) (λ k. three_texts (members_then (length ms) i following)))
    m.index right.index (lt-ltb last m.index above) (first_stands bytes at index (kind ++ texts) own)
    ∙ number_on bytes (at + length index) (λ k. leb k 1) (λ k. three_texts (members_then (length ms) m.index following))
    m.kind (omega (arith, right.kind)) (le-leb m.kind 1 right.kind) (first_stands bytes (at + length index) kind texts behind)
    ∙ texts_on bytes (at + length index + length kind) (members_then (length ms) m.index following) m right
    (second_stands bytes (at + length index) kind texts behind)
    ∙ ap (run_by (members_then (length ms) m.index following) bytes) ends
    ∙ members_on bytes (at + length (index ++ (kind ++ texts))) m.index following ms rest others
    ∙ ap (run_by following bytes) all

pub records_on :
    (bytes : List ℕ) (at : ℕ) (following : Layout) (rs : List Local) → RightLocals rs → Stands bytes at (records_bytes rs) →
    run_by (records_then (length rs) following) bytes at ≡ run_by following bytes (at + length (records_bytes rs))
unfolding records_then records_bytes record_bytes
records_on bytes at following [] right stands = ap (run_by following bytes) (omega arith)
records_on bytes at following (r ∷ rs) (laid.RightLocals.more right rest) stands =
    let begin = number_bytes r.start in
    let size = number_bytes r.size in
    let slot = number_bytes r.slot in
    let name = text_bytes r.name in
    let whole = begin ++ (size ++ (slot ++ name)) in
    let own = first_stands bytes at whole (records_bytes rs) stands in
    let others = second_stands bytes at whole (records_bytes rs) stands in
    let behind = second_stands bytes at begin (size ++ (slot ++ name)) own in
    let further = second_stands bytes (at + length begin) size (slot ++ name) behind in
    let ends : at + length begin + length size + length slot + length name ≡ at + length whole =
    omega (arith, length-append begin (size ++ (slot ++ name)), length-append size (slot ++ name), length-append slot name) in
    let all : at + length whole + length (records_bytes rs) ≡ at + length (whole ++ records_bytes rs) =
    omega (arith, length-append whole (records_bytes rs)) in
    let onward = records_then (length rs) following in
    number_on bytes at any (λ a. number any (λ b. number any (λ c. text onward))) r.start right.start refl
    (first_stands bytes at begin (size ++ (slot ++ name)) own)
    ∙ number_on bytes (at + length begin) any (λ b. number any (λ c. text onward)) r.size right.size refl
    (first_stands bytes (at + length begin) size (slot ++ name) behind)
    ∙ number_on bytes (at + length begin + length size) any (λ c. text onward) r.slot right.slot refl
    (first_stands bytes (at + length begin + length size) slot name further)
    ∙ text_on bytes (at + length begin + length size + length slot) onward r.name right.name
    (second_stands bytes (at + length begin + length size) slot name further)
    ∙ ap (run_by onward bytes) ends
    ∙ records_on bytes (at + length whole) following rs rest others
    ∙ ap (run_by following bytes) all

-- ---- back

module _ (bytes : List ℕ) (are : AreBytes bytes) where
  -- a number that a run passed
  pub record NumberBefore (right : ℕ → Bool) (following : ℕ → Layout) (at end : ℕ) : Type 0 where
    pub v : ℕ
    pub fits : v ≤ greatest
    pub passes : right v ≡ true
    pub stands : Stands bytes at (number_bytes v)
    pub onward : run_by (following v) bytes (at + length (number_bytes v)) ≡ Ok end

  pub number_back :
      (right : ℕ → Bool) (following : ℕ → Layout) (at end : ℕ) → run_by (number right following) bytes at ≡ Ok end →
      NumberBefore right following at end
  unfolding run_by
  number_back right following at end e = by_number (number_at greatest bytes at) refl e
    where
      by_rule :
          (v next : ℕ) → number_at greatest bytes at ≡ Some (v, next) → (t : Bool) → right v ≡ t →
          pick t (run_by (following v) bytes next) (Err at) ≡ Ok end → NumberBefore right following at end
      by_rule v next f true g q =
          let read = number_stands greatest bytes at v next are f in
          record {
            v = v;
            fits = read.2;
            passes = g;
            stands = read.0;
            onward = ap (run_by (following v) bytes) (sym read.1) ∙ q;
          }
      by_rule v next f false g q = let y : ◌≡◌ {A = ℕ} 0 1 = cc in absurd (omega arith)

      by_number :
          (n : Option (ℕ × ℕ)) → number_at greatest bytes at ≡ n →
          then_number n (Err at) (λ v next. pick (right v) (run_by (following v) bytes next) (Err at)) ≡ Ok end →
          NumberBefore right following at end
      by_number (Some (v, next)) f q = by_rule v next f (right v) refl q
      by_number None f q = let y : ◌≡◌ {A = ℕ} 0 1 = cc in absurd (omega arith)

  -- a text that a run passed
  pub record TextBefore (following : Layout) (at end : ℕ) : Type 0 where
    pub t : List ℕ
    pub fits : length t ≤ greatest
    pub stands : Stands bytes at (text_bytes t)
    pub onward : run_by following bytes (at + length (text_bytes t)) ≡ Ok end

  pub text_back : (following : Layout) (at end : ℕ) → run_by (text following) bytes at ≡ Ok end → TextBefore following at end
  unfolding run_by
  text_back following at end e = by_text (text_at bytes at) refl e
    where
      by_text :
          (t : Option (ℕ × ℕ)) → text_at bytes at ≡ t →
          then_text t (Err at) (λ begin size. run_by following bytes (begin + size)) ≡ Ok end → TextBefore following at end
      by_text (Some (begin, size)) f q =
          let read = text_stands bytes at begin size are f in
          record {
            t = take size (drop begin bytes);
            fits = read.fits;
            stands = read.stands;
            onward = ap (run_by following bytes) (sym read.ends) ∙ q;
          }
      by_text None f q = let y : ◌≡◌ {A = ℕ} 0 1 = cc in absurd (omega arith)

  -- a member that a run passed
  record MemberBefore (last : ℕ) (following : ℕ → Layout) (at end : ℕ) : Type 0 where
    member : Member
    above : last < member.index
    right : RightMember member
    stands : Stands bytes at (member_bytes member)
    onward : run_by (following member.index) bytes (at + length (member_bytes member)) ≡ Ok end

  -- three texts that a run passed
  record TextsBefore (following : Layout) (at end : ℕ) : Type 0 where
    class : TextBefore (text (text following)) at end
    name : TextBefore (text following) (at + length (text_bytes class.t)) end
    descriptor : TextBefore following (at + length (text_bytes class.t) + length (text_bytes name.t)) end

  texts_back : (following : Layout) (at end : ℕ) → run_by (three_texts following) bytes at ≡ Ok end → TextsBefore following at end
  texts_back following at end e = of_class (text_back (text (text following)) at end e)
    where
      of_name :
          (class : TextBefore (text (text following)) at end) →
          TextBefore (text following) (at + length (text_bytes class.t)) end → TextsBefore following at end
      of_name class name =
          record {
            class = class;
            name = name;
            descriptor = text_back following (at + length (text_bytes class.t) + length (text_bytes name.t)) end name.onward;
          }

      of_class : TextBefore (text (text following)) at end → TextsBefore following at end
      of_class class = of_name class (text_back (text following) (at + length (text_bytes class.t)) end class.onward)

  member_back :
      (last : ℕ) (following : ℕ → Layout) (at end : ℕ) → run_by (member_then last following) bytes at ≡ Ok end →
      MemberBefore last following at end
  unfolding member_bytes texts_bytes
  member_back last following at end e =
      of_index (number_back (λ i. ltb last i) (λ i. number (λ k. leb k 1) (λ k. three_texts (following i))) at end e)
    where
      of_texts :
          (index : NumberBefore (λ i. ltb last i) (λ i. number (λ k. leb k 1) (λ k. three_texts (following i))) at end)
          (kind : NumberBefore (λ k. leb k 1) (λ k. three_texts (following index.v)) (at + length (number_bytes index.v)) end) →
          TextsBefore (following index.v) (at + length (number_bytes index.v) + length (number_bytes kind.v)) end →
          MemberBefore last following at end
      of_texts index kind texts =
          let kind_at = at + length (number_bytes index.v) in
          let class_at = kind_at + length (number_bytes kind.v) in
          let class = text_bytes texts.class.t in
          let name = text_bytes texts.name.t in
          let descriptor = text_bytes texts.descriptor.t in
          let from_kind = number_bytes kind.v ++ (class ++ (name ++ descriptor)) in
          let ends : class_at + length class + length name + length descriptor ≡ at + length (number_bytes index.v ++ from_kind) =
          omega (
            arith,
            length-append (number_bytes index.v) from_kind,
            length-append (number_bytes kind.v) (class ++ (name ++ descriptor)),
            length-append class (name ++ descriptor),
            length-append name descriptor,
          ) in
          record {
            member =
                record {
                  index = index.v;
                  kind = kind.v;
                  class = texts.class.t;
                  name = texts.name.t;
                  descriptor = texts.descriptor.t;
                };
            above = ltb-true last index.v index.passes;
            right =
                record {
                  index = index.fits;
                  kind = leb-true kind.v 1 kind.passes;
                  class = texts.class.fits;
                  name = texts.name.fits;
                  descriptor = texts.descriptor.fits;
                };
            stands =
                both_stand bytes at (number_bytes index.v) from_kind index.stands
                (both_stand bytes kind_at (number_bytes kind.v) (class ++ (name ++ descriptor)) kind.stands
                (both_stand bytes class_at class (name ++ descriptor) texts.class.stands
                (both_stand bytes (class_at + length class) name descriptor texts.name.stands texts.descriptor.stands)));
            onward = ap (run_by (following index.v) bytes) (sym ends) ∙ texts.descriptor.onward;
          }

      of_kind :
          (index : NumberBefore (λ i. ltb last i) (λ i. number (λ k. leb k 1) (λ k. three_texts (following i))) at end) →
          NumberBefore (λ k. leb k 1) (λ k. three_texts (following index.v)) (at + length (number_bytes index.v)) end →
          MemberBefore last following at end
      of_kind index kind =
          of_texts index kind
          (texts_back (following index.v) (at + length (number_bytes index.v) + length (number_bytes kind.v)) end kind.onward)

      of_index :
          NumberBefore (λ i. ltb last i) (λ i. number (λ k. leb k 1) (λ k. three_texts (following i))) at end →
          MemberBefore last following at end
      of_index index =
          of_kind index
          (number_back (λ k. leb k 1) (λ k. three_texts (following index.v)) (at + length (number_bytes index.v)) end index.onward)

  -- members that a run passed
  pub record MembersBefore (count last : ℕ) (following : Layout) (at end : ℕ) : Type 0 where
    pub members : List Member
    pub right : RightMembers last members
    pub counted : length members ≡ count
    pub stands : Stands bytes at (members_bytes members)
    pub onward : run_by following bytes (at + length (members_bytes members)) ≡ Ok end

  -- one more
  one_more_member :
      (count last : ℕ) (following : Layout) (at end : ℕ)
      (m : MemberBefore last (λ index. members_then count index following) at end) →
      MembersBefore count m.member.index following (at + length (member_bytes m.member)) end →
      MembersBefore (suc count) last following at end
  unfolding members_bytes
  one_more_member count last following at end m rest =
      let own = member_bytes m.member in
      let others = members_bytes rest.members in
      let all : at + length own + length others ≡ at + length (own ++ others) = omega (arith, length-append own others) in
      record {
        members = m.member ∷ rest.members;
        right = more m.above m.right rest.right;
        counted = ap suc rest.counted;
        stands = both_stand bytes at own others m.stands rest.stands;
        onward = ap (run_by following bytes) (sym all) ∙ rest.onward;
      }

  pub members_back :
      (count last : ℕ) (following : Layout) (at end : ℕ) → run_by (members_then count last following) bytes at ≡ Ok end →
      MembersBefore count last following at end
  unfolding members_then members_bytes
  members_back zero last following at end e =
      record {
        members = [];
        right = none;
        counted = refl;
        stands = nothing_stands bytes at;
        onward = ap (run_by following bytes) (omega arith) ∙ e;
      }
  members_back (suc count) last following at end e =
      let m = member_back last (λ index. members_then count index following) at end e in
      one_more_member count last following at end m
      (members_back count m.member.index following (at + length (member_bytes m.member)) end m.onward)

  -- a local record that a run passed
  record RecordBefore (following : Layout) (at end : ℕ) : Type 0 where
    local : Local
    right : RightLocal local
    stands : Stands bytes at (record_bytes local)
    onward : run_by following bytes (at + length (record_bytes local)) ≡ Ok end

  record_back :
      (following : Layout) (at end : ℕ) → run_by (record_then following) bytes at ≡ Ok end → RecordBefore following at end
  unfolding record_bytes
  record_back following at end e =
      of_start (number_back any (λ a. number any (λ b. number any (λ c. text following))) at end e)
    where
      of_name :
          (begin : NumberBefore any (λ a. number any (λ b. number any (λ c. text following))) at end)
          (size : NumberBefore any (λ b. number any (λ c. text following)) (at + length (number_bytes begin.v)) end)
          (slot : NumberBefore any (λ c. text following) (at + length (number_bytes begin.v) + length (number_bytes size.v)) end) →
          TextBefore following
          (at + length (number_bytes begin.v) + length (number_bytes size.v) + length (number_bytes slot.v)) end →
          RecordBefore following at end
      of_name begin size slot name =
          let size_at = at + length (number_bytes begin.v) in
          let slot_at = size_at + length (number_bytes size.v) in
          let name_at = slot_at + length (number_bytes slot.v) in
          let from_slot = number_bytes slot.v ++ text_bytes name.t in
          let from_size = number_bytes size.v ++ from_slot in
          let ends : name_at + length (text_bytes name.t) ≡ at + length (number_bytes begin.v ++ from_size) =
          omega (
            arith,
            length-append (number_bytes begin.v) from_size,
            length-append (number_bytes size.v) from_slot,
            length-append (number_bytes slot.v) (text_bytes name.t),
          ) in
          record {
            local = record { start = begin.v; size = size.v; slot = slot.v; name = name.t };
            right = record { start = begin.fits; size = size.fits; slot = slot.fits; name = name.fits };
            stands =
                both_stand bytes at (number_bytes begin.v) from_size begin.stands
                (both_stand bytes size_at (number_bytes size.v) from_slot size.stands
                (both_stand bytes slot_at (number_bytes slot.v) (text_bytes name.t) slot.stands name.stands));
            onward = ap (run_by following bytes) (sym ends) ∙ name.onward;
          }

      of_slot :
          (begin : NumberBefore any (λ a. number any (λ b. number any (λ c. text following))) at end)
          (size : NumberBefore any (λ b. number any (λ c. text following)) (at + length (number_bytes begin.v)) end) →
          NumberBefore any (λ c. text following) (at + length (number_bytes begin.v) + length (number_bytes size.v)) end →
          RecordBefore following at end
      of_slot begin size slot = of_name begin size slot (text_back following _ end slot.onward)

      of_size :
          (begin : NumberBefore any (λ a. number any (λ b. number any (λ c. text following))) at end) →
          NumberBefore any (λ b. number any (λ c. text following)) (at + length (number_bytes begin.v)) end →
          RecordBefore following at end
      of_size begin size = of_slot begin size (number_back any (λ c. text following) _ end size.onward)

      of_start : NumberBefore any (λ a. number any (λ b. number any (λ c. text following))) at end → RecordBefore following at end
      of_start begin = of_size begin (number_back any (λ b. number any (λ c. text following)) _ end begin.onward)

  -- local records that a run passed
  pub record RecordsBefore (count : ℕ) (following : Layout) (at end : ℕ) : Type 0 where
    pub locals : List Local
    pub right : RightLocals locals
    pub counted : length locals ≡ count
    pub stands : Stands bytes at (records_bytes locals)
    pub onward : run_by following bytes (at + length (records_bytes locals)) ≡ Ok end

  -- one more
  one_more_record :
      (count : ℕ) (following : Layout) (at end : ℕ) (r : RecordBefore (records_then count following) at end) →
      RecordsBefore count following (at + length (record_bytes r.local)) end → RecordsBefore (suc count) following at end
  unfolding records_bytes
  one_more_record count following at end r rest =
      let own = record_bytes r.local in
      let others = records_bytes rest.locals in
      let all : at + length own + length others ≡ at + length (own ++ others) = omega (arith, length-append own others) in
      record {
        locals = r.local ∷ rest.locals;
        right = laid.RightLocals.more r.right rest.right;
        counted = ap suc rest.counted;
        stands = both_stand bytes at own others r.stands rest.stands;
        onward = ap (run_by following bytes) (sym all) ∙ rest.onward;
      }

  pub records_back :
      (count : ℕ) (following : Layout) (at end : ℕ) → run_by (records_then count following) bytes at ≡ Ok end →
      RecordsBefore count following at end
  unfolding records_then records_bytes
  records_back zero following at end e =
      record {
        locals = [];
        right = laid.RightLocals.none;
        counted = refl;
        stands = nothing_stands bytes at;
        onward = ap (run_by following bytes) (omega arith) ∙ e;
      }
  records_back (suc count) following at end e =
      let r = record_back (records_then count following) at end e in
      one_more_record count following at end r
      (records_back count following (at + length (record_bytes r.local)) end r.onward)
