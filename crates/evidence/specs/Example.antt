-- "A name must be evidence" at work on the smallest case that has a cause, so that its premises are seen to be met.
-- Assumes nothing.
use Rattle.jvms.specs.Machine.{Pool}
use Rattle.casefile.specs.declared.Places.{Places}
use Rattle.effects.specs.declared.Model.TheVariants.{Document}
use Rattle.report.specs.Report.{manner_of}
use Rattle.words.specs.declared.Wording.{Wording}
use Rattle.evidence.specs.Constant.{reading, blank}
use Rattle.evidence.specs.Evidence.{Reported}

-- where the parts of that case lie
abbrev pub places : Places
places =
    record {
      flags = 8;
      fault = 1;
      code = 3;
      code_length = 2;
      signature = 6;
      signature_length = 0;
      members = 7;
      members_length = 0;
      member_count = 0;
      records = 8;
      records_length = 0;
      record_count = 0;
    }

-- in each wording and whatever the pool: no instruction of the block cites it
abbrev pub NamedByEvidence : Type 1
NamedByEvidence = (w : Wording) (pool : Pool) → Reported (manner_of Document w) reading places pool 1 blank 55 2 1
