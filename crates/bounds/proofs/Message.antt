-- The message of a case is counted in 64 bits, so the length needed is its length.
-- Assumes nothing.
use Rattle.std.specs.Prelude.{Ok, Err}
use Prim.Native.Nat.{ℕ, ◌+◌, ◌*◌, ◌≤◌}
use native.Mathlib.Nat.{min-eq_left}
use native.Mathlib.Omega.{arith}
use mathlib.Core.Path.{◌≡◌, refl}
use mathlib.Core.Bool.{Bool, true, false}
use mathlib.Core.List.{List}
use lib.Dec.{ltb, lit≤}
use lib.ListN.{length, length-append}
use borrow.Author.Tests.{ltb-false}
use Rattle.basics.specs.Choice.{pick}
use Rattle.casefile.specs.Parts.{parts_of}
use Rattle.casefile.specs.Whole.{places_in, longest, case_of}
use Rattle.casefile.specs.declared.CaseError.TheVariants as cases
use Rattle.casefile.specs.declared.Places.{Places}
use Rattle.text.specs.Writing.{most}
use Rattle.action.specs.Action.{action_text}
use Rattle.message.specs.Message.{cause_text, message_text}
use Rattle.locals.specs.Name.{is_instance}
use Rattle.report.specs.Report.{message_of}
use Rattle.bounds.specs.Needed.{MessageShort, NeededIsLength}
use Rattle.bounds.proofs.Action.{much, action_within, cause_within}
use Rattle.bounds.proofs.Texts.{Within, part_within}

pub message_short : MessageShort
unfolding message_of message_text
message_short p members records wording action cause =
    let doing = action_text wording p.members p.member_count action in
    let reason = cause_text cause p.records p.record_count p.signature (is_instance p.flags) in
    let room : much + 3 * longest + 100 ≤ most = lit≤ tt in
    omega (
      arith,
      room,
      records,
      length-append doing reason,
      action_within wording p.members p.member_count action members,
      cause_within cause p.records p.record_count p.signature (is_instance p.flags),
    )

-- a case that is read is no longer than a case can be
case_within : (bytes : List ℕ) (places : Places) → case_of bytes ≡ Ok places → Within longest bytes
unfolding case_of
case_within bytes places read = by_test (ltb longest (length bytes)) refl read
  where
    by_test :
        (t : Bool) → ltb longest (length bytes) ≡ t → pick t (Err cases.TooLong) (places_in bytes) ≡ Ok places →
        Within longest bytes
    by_test true e told = let z : ◌≡◌ {A = ℕ} 0 1 = cc in absurd (omega arith)
    by_test false e told = omega (arith, ltb-false longest (length bytes) e)

pub needed_is_length : NeededIsLength
unfolding parts_of
needed_is_length bytes places read wording action cause =
    let p = parts_of bytes places in
    let short : length bytes ≤ longest = case_within bytes places read in
    min-eq_left (message_short p
    (omega (arith, short, part_within places.members_length places.members bytes))
    (omega (arith, short, part_within places.records_length places.records bytes)) wording action cause)
