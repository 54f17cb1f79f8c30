-- What is said of a fault in a method of a class file, by the texts that its message takes from the file (document 02, request 3).
-- Assumes nothing.
use Rattle.std.specs.Prelude.{ℕ, ◌≤◌, ◌≡◌, List, [], ◌∷◌, ◌++◌, length, Option, Some, None}
use Rattle.text.specs.Writing.{following, Written}
use Rattle.cases.specs.LaidOut as laid
use Rattle.cases.specs.LaidOut.{members_bytes, records_bytes}
use Rattle.entries.specs.Entries.{entry_by}
use Rattle.localtables.specs.declared.LocalFound.{LocalFound}
use Rattle.message.specs.Message.{message_text}
use Rattle.answer.specs.Answer.{kind_of, Said, said}
use Rattle.words.specs.declared.Wording.{Wording}
use Rattle.classtexts.specs.Texts.{turned_local, signature_of}
use Rattle.classparts.specs.Parts.{text_by, member_by}
use Rattle.classmessage.specs.declared.Texts.{Texts}
use Rattle.classmessage.specs.declared.Failure.{Failure}
use Rattle.classmessage.specs.declared.Laid.{Laid}

-- How long the texts of a message are at most. Of the one record: ten bytes for each of three numbers of 64 bits, and its name, of 65,535
-- bytes, with three for its length. The signature: two texts of 65,535 bytes, and a colon.
abbrev pub longest_record : ℕ
longest_record = 65568

abbrev pub longest_texts : ℕ
longest_texts = 393266

-- how many records were found
abbrev pub found_count : Option LocalFound → ℕ
found_count (Some found) = 1
found_count None = 0

module _ (file table : List ℕ) where
  -- the record that was found, alone, as that of a slot
  abbrev pub record_by : ℕ → Option LocalFound → List laid.Local
  record_by slot (Some found) = turned_local found.start found.size slot (text_by file (entry_by file table) found.name) ∷ []
  record_by slot None = []

  abbrev pub member_in : Texts → List laid.Member
  member_in t = member_by file (entry_by file table) t.cited

  abbrev pub record_in : Texts → List laid.Local
  record_in t = record_by t.slot t.found

  abbrev pub signature_in : Texts → List ℕ
  signature_in t = signature_of (text_by file (entry_by file table) t.name) (text_by file (entry_by file table) t.descriptor)

  -- the texts one behind the other, as they are laid out
  unfoldable pub texts_bytes : Texts → List ℕ
  texts_bytes t = members_bytes (member_in t) ++ records_bytes (record_in t) ++ signature_in t

  -- laid out in a room, as far as it reaches: where each part ends, and that they are not too long for any room
  pub record LaidIn (t : Texts) (room : List ℕ) (places : Laid) (after : List ℕ) : Type 0 where
    pub members : places.members ≡ following 0 (members_bytes (member_in t))
    pub records : places.records ≡ following 0 (members_bytes (member_in t) ++ records_bytes (record_in t))
    pub whole : Written 0 (texts_bytes t) room places.signature after
    pub few : length (texts_bytes t) ≤ longest_texts

  -- the message of the case that has these texts
  unfoldable pub said_from : Wording → Texts → Failure → Said
  said_from wording t f =
      said
      (message_text wording (members_bytes (member_in t)) (length (member_in t)) f.action f.cause (records_bytes (record_in t))
      (length (record_in t)) (signature_in t) f.instance)
      (kind_of f.cause) f.scan f.block
