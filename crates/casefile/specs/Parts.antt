-- The parts of a case, and the bytes that they lay out to (document 01, "The case").
-- Assumes nothing.
use Rattle.std.specs.Prelude.{ℕ, List, ◌++◌}
use Rattle.number.specs.Number.{number_bytes}
use Rattle.items.specs.Text.{text_bytes, part_at}
use Rattle.casefile.specs.declared.Places.{Places}

-- four runs of bytes, two numbers and two counts
pub record Parts : Type 0 where
  pub flags : ℕ
  pub fault : ℕ
  pub code : List ℕ
  pub signature : List ℕ
  pub member_count : ℕ
  pub members : List ℕ
  pub record_count : ℕ
  pub records : List ℕ

-- "A case holds, in order: access flags, faulting index, code text, name signature text, member count, members, record
-- count, local records, and nothing after."
unfoldable pub case_bytes : Parts → List ℕ
case_bytes p =
    number_bytes p.flags ++ (number_bytes p.fault ++ (text_bytes p.code ++ (text_bytes p.signature ++
    (number_bytes p.member_count ++ (p.members ++ (number_bytes p.record_count ++ p.records))))))

-- the parts that lie at these places
unfoldable pub parts_of : List ℕ → Places → Parts
parts_of bytes places =
    record {
      flags = places.flags;
      fault = places.fault;
      code = part_at bytes places.code places.code_length;
      signature = part_at bytes places.signature places.signature_length;
      member_count = places.member_count;
      members = part_at bytes places.members places.members_length;
      record_count = places.record_count;
      records = part_at bytes places.records places.records_length;
    }
