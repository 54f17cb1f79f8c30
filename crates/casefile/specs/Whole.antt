-- The whole case (document 01, "The case" and answers 2 and 5 of "Numbers returned").
-- Assumes nothing.
use Rattle.std.specs.Prelude.{ℕ, ◌+◌, ◌-◌, List, [], ◌∷◌, ltb, length, Result, Ok, Err}
use Rattle.basics.specs.Choice.{pick}
use Rattle.number.specs.Number.{greatest, number_at, then_number}
use Rattle.items.specs.Text.{text_at, then_text}
use Rattle.tables.specs.Layout.{members_then, records_then, ended, run_by, then_run}
use Rattle.casefile.specs.declared.Places.{Places}
use Rattle.casefile.specs.declared.CaseError.{CaseError}
use Rattle.casefile.specs.declared.CaseError.TheVariants.{Wrong, TooLong}
use Rattle.casefile.specs.declared.TablePlaces.{TablePlaces}

-- "member count, members, record count, local records"
unfoldable pub tables_at : List ℕ → ℕ → Result TablePlaces ℕ
tables_at bytes at =
    then_number (number_at greatest bytes at) (Err at) (λ member_count members.
    then_run (run_by (members_then member_count 0 ended) bytes members) (λ wrong. Err wrong) (λ members_end.
    then_number (number_at greatest bytes members_end) (Err members_end) (λ record_count records.
    then_run (run_by (records_then record_count ended) bytes records) (λ wrong. Err wrong) (λ records_end.
    Ok
    (record {
      members = members;
      members_length = members_end - members;
      member_count = member_count;
      records = records;
      records_length = records_end - records;
      record_count = record_count;
      end = records_end;
    })))))

abbrev pub then_tables : {A : Type 0} → Result TablePlaces ℕ → (ℕ → A) → (TablePlaces → A) → A
then_tables (Ok places) wrong following = following places
then_tables (Err place) wrong following = wrong place

-- "A case holds, in order: access flags, faulting index, code text, name signature text, .., and nothing after."; "excess bytes
-- at the first one"
unfoldable pub places_in : List ℕ → Result Places CaseError
places_in bytes =
    then_number (number_at greatest bytes 0) (Err (Wrong 0)) (λ flags fault_at.
    then_number (number_at greatest bytes fault_at) (Err (Wrong fault_at)) (λ fault code_at.
    then_text (text_at bytes code_at) (Err (Wrong code_at)) (λ code code_length.
    then_text (text_at bytes (code + code_length)) (Err (Wrong (code + code_length))) (λ signature signature_length.
    then_tables (tables_at bytes (signature + signature_length)) (λ wrong. Err (Wrong wrong)) (λ places.
    pick (ltb places.end (length bytes)) (Err (Wrong places.end))
    (Ok
    (record {
      flags = flags;
      fault = fault;
      code = code;
      code_length = code_length;
      signature = signature;
      signature_length = signature_length;
      members = places.members;
      members_length = places.members_length;
      member_count = places.member_count;
      records = places.records;
      records_length = places.records_length;
      record_count = places.record_count;
    })))))))

-- "5: the case exceeds 1,048,576 bytes", tested before 2
abbrev pub longest : ℕ
longest = 1048576

unfoldable pub case_of : List ℕ → Result Places CaseError
case_of bytes = pick (ltb longest (length bytes)) (Err TooLong) (places_in bytes)

-- document 01's numbers: "2: the case breaks its layout", with the offset of the first wrong item; "5: the case exceeds
-- 1,048,576 bytes", with nothing. A case that is read has no number yet; it gets 0 here, with its numbers.
unfoldable pub numbered : Result Places CaseError → List ℕ
numbered (Ok p) =
    0 ∷ p.flags ∷ p.fault ∷ p.code ∷ p.code_length ∷ p.signature ∷ p.signature_length
    ∷ p.members ∷ p.members_length ∷ p.member_count ∷ p.records ∷ p.records_length ∷ p.record_count ∷ []
numbered (Err (Wrong offset)) = 2 ∷ offset ∷ []
numbered (Err TooLong) = 5 ∷ []
