-- The texts of a message, laid out one behind the other: how long they are at most, and that each part stands in a room that holds them.
-- Assumes nothing.
use Rattle.std.specs.Prelude.{Option, Some, None}
use Prim.Native.Nat.{ℕ, ◌+◌, ◌-◌, ◌^◌, ◌≤◌, ◌<◌}
use native.Mathlib.Omega.{arith}
use mathlib.Core.Path.{◌≡◌, refl, ◌∙◌, sym, ap, ap₂, subst}
use mathlib.Core.List.{List, [], ◌∷◌, ◌++◌, append_assoc, append-nil}
use lib.Dec.{ltb}
use lib.ListN.{length, drop, length-append}
use Rattle.basics.specs.Bytes.{AreBytes}
use Rattle.basics.specs.Choice.{pick}
use Rattle.number.specs.Number.{number_bytes}
use Rattle.items.specs.Text.{part_at, text_bytes}
use Rattle.text.specs.Writing.{most, following}
use Rattle.cases.specs.LaidOut.{members_bytes, record_bytes, records_bytes}
use Rattle.utf8.specs.Turning.{turned}
use Rattle.entries.specs.Entries.{entry_by}
use Rattle.answer.specs.Answer.{kind_of, Said, said, Delivered}
use Rattle.answer.specs.declared.Report.{Report}
use Rattle.message.specs.Message.{message_text}
use Rattle.words.specs.declared.Wording.{Wording}
use Rattle.classtexts.specs.Texts.{turned_local}
use Rattle.classparts.specs.Parts.{text_by}
use Rattle.localtables.specs.declared.LocalFound.{LocalFound}
use Rattle.citing.specs.Longest.{longest_run}
use Rattle.citing.proofs.Room.{stands, first_part, next_part}
use Rattle.citing.proofs.Runs.{counted}
use Rattle.citing.proofs.Sizes.{number-within, text-within, laid_within}
use Rattle.classmessage.specs.Message.{longest_record, longest_texts, found_count, record_by, member_in, record_in, signature_in, texts_bytes, LaidIn, said_from}
use Rattle.classmessage.specs.declared.Texts.{Texts}
use Rattle.classmessage.specs.declared.Failure.{Failure}
use Rattle.classmessage.specs.declared.Laid.{Laid}

-- ---- the record that was found

module _ (file table : List ℕ) (slot : ℕ) {found : Option LocalFound} where
  pub no_record : found ≡ None → records_bytes (record_by file table slot found) ≡ []
  unfolding records_bytes
  no_record is = ap (λ (f : Option LocalFound). records_bytes (record_by file table slot f)) is

  pub one_record :
      {one : LocalFound} → found ≡ Some one →
      records_bytes (record_by file table slot found)
      ≡ record_bytes (turned_local one.start one.size slot (text_by file (entry_by file table) one.name))
  unfolding records_bytes
  one_record is = ap (λ (f : Option LocalFound). records_bytes (record_by file table slot f)) is ∙ append-nil _

-- ---- lengths

module _ (file table : List ℕ) (are : AreBytes file) where
  pub record-within :
      (slot start size name : ℕ) → slot < 2 ^ 64 → start < 2 ^ 64 → size < 2 ^ 64 →
      length (record_bytes (turned_local start size slot (text_by file (entry_by file table) name))) ≤ longest_record
  unfolding record_bytes
  record-within slot start size name slot-fits start_fits size-fits =
      let text = text_bytes (turned (text_by file (entry_by file table) name)) in
      omega (
        arith,
        length-append (number_bytes start) (number_bytes size ++ (number_bytes slot ++ text)),
        length-append (number_bytes size) (number_bytes slot ++ text),
        length-append (number_bytes slot) text,
        number-within slot slot-fits,
        number-within start start_fits,
        number-within size size-fits,
        laid_within file table are name,
      )

  signature_within : (t : Texts) → length (signature_in file table t) ≤ 131071
  signature_within t =
      let name = turned (text_by file (entry_by file table) t.name) in
      let descriptor = turned (text_by file (entry_by file table) t.descriptor) in
      omega (arith, length-append name (58 ∷ descriptor), text-within file table are t.name, text-within file table are t.descriptor)

  pub texts_within :
      (t : Texts) → length (members_bytes (member_in file table t)) ≤ longest_run → length (records_bytes (record_in file table t)) ≤ longest_record →
      length (texts_bytes file table t) ≤ longest_texts
  unfolding texts_bytes
  texts_within t run one =
      let members = members_bytes (member_in file table t) in
      let records = records_bytes (record_in file table t) in
      omega (
        arith,
        length-append (members ++ records) (signature_in file table t),
        length-append members records,
        run,
        one,
        signature_within t,
      )

-- ---- in a room that holds them

module _ (file table : List ℕ) (t : Texts) (room after : List ℕ) (places : Laid) (is : LaidIn file table t room places after) where
  abbrev members : List ℕ
  members = members_bytes (member_in file table t)

  abbrev records : List ℕ
  records = records_bytes (record_in file table t)

  abbrev signature : List ℕ
  signature = signature_in file table t

  -- one part behind the other
  pub in_order : (places.members ≤ places.records) × (places.records ≤ places.signature)
  unfolding following texts_bytes
  in_order =
      let joined = length-append members records in
      let all = length-append (members ++ records) signature in
      (omega (arith, is.members, is.records, joined), omega (arith, is.records, is.whole.place, all))

  found_so : (found : Option LocalFound) → found_count found ≡ length (record_by file table t.slot found)
  found_so (Some one) = refl
  found_so None = refl

  module _ (short : length room ≤ most) (fits : length (texts_bytes file table t) ≤ length room) where
    lengths : (places.members ≡ length members) × (places.records ≡ length members + length records) × (places.signature ≡ length members + length records + length signature)
    unfolding following texts_bytes
    lengths =
        let joined = length-append members records in
        let all = length-append (members ++ records) signature in (
          omega (arith, is.members, joined, all, fits, short),
          omega (arith, is.records, joined, all, fits, short),
          omega (arith, is.whole.place, joined, all, fits, short),
        )

    abbrev rest : List ℕ
    rest = drop (length (texts_bytes file table t)) room

    whole : after ≡ members ++ (records ++ (signature ++ rest))
    unfolding texts_bytes
    whole = stands is.whole fits ∙ append_assoc (members ++ records) signature rest ∙ append_assoc members records (signature ++ rest)

    pub members_are : part_at after 0 places.members ≡ members
    members_are =
        ap₂ (λ (l : List ℕ) (n : ℕ). part_at l 0 n) whole lengths.0 ∙ first_part members (records ++ (signature ++ rest))

    pub records_are : part_at after places.members (places.records - places.members) ≡ records
    records_are =
        let size : places.records - places.members ≡ length records = omega (arith, lengths.0, lengths.1) in
        ap (λ (l : List ℕ). part_at l places.members (places.records - places.members)) whole
        ∙ ap₂ (λ (from n : ℕ). part_at (members ++ (records ++ (signature ++ rest))) from n) lengths.0 size
        ∙ next_part members records (signature ++ rest)

    pub signature_is : part_at after places.records (places.signature - places.records) ≡ signature
    signature_is =
        let from : places.records ≡ length (members ++ records) = omega (arith, lengths.1, length-append members records) in
        let size : places.signature - places.records ≡ length signature = omega (arith, lengths.1, lengths.2) in
        ap (λ (l : List ℕ). part_at l places.records (places.signature - places.records)) (whole ∙ sym (append_assoc members records (signature ++ rest)))
        ∙ ap₂ (λ (start n : ℕ). part_at ((members ++ records) ++ (signature ++ rest)) start n) from size
        ∙ next_part (members ++ records) signature rest

    counted_so : pick (ltb 0 places.members) 1 0 ≡ length (member_in file table t)
    counted_so = ap (λ (n : ℕ). pick (ltb 0 n) 1 0) lengths.0 ∙ sym (counted file table t.cited)

    -- the message from the three parts
    pub told :
        (wording : Wording) (f : Failure) (run laid text : List ℕ) (count found : ℕ) (out left : List ℕ) (answer : Report) →
        run ≡ part_at after 0 places.members → laid ≡ part_at after places.members (places.records - places.members) →
        text ≡ part_at after places.records (places.signature - places.records) → count ≡ pick (ltb 0 places.members) 1 0 →
        found ≡ found_count t.found →
        Delivered
        (said (message_text wording run count f.action f.cause laid found text f.instance) (kind_of f.cause) f.scan f.block)
        out answer left →
        Delivered (said_from file table wording t f) out answer left
    unfolding said_from
    told wording f run laid text count found out left answer run_is laid-is text_is count_is found-is done =
        let a : run ≡ members = run_is ∙ members_are in
        let b : laid ≡ records = laid-is ∙ records_are in
        let c : text ≡ signature = text_is ∙ signature_is in
        let d : count ≡ length (member_in file table t) = count_is ∙ counted_so in
        let e : found ≡ length (record_in file table t) = found-is ∙ found_so t.found in
        subst (λ (s : Said). Delivered s out answer left)
        (ap (λ (message : List ℕ). said message (kind_of f.cause) f.scan f.block) (rw (a, b, c, d, e))) done
