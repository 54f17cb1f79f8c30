-- The smallest case that has a cause meets the premises, so its name is evidence.
-- Assumes nothing.
use Rattle.std.specs.Prelude.{Ok}
use Prim.Native.Nat.{ℕ, zero, suc, ◌≤◌}
use native.Mathlib.Omega.{arith}
use mathlib.Core.Path.{◌≡◌, refl}
use Rattle.basics.proofs.Bytes.{all_below}
use Rattle.jvms.specs.Machine.{Pool}
use Rattle.number.specs.Number.{number_from, number_at}
use Rattle.items.specs.Text.{text_at}
use Rattle.tables.specs.Layout.{members_then, records_then, run_by}
use Rattle.casefile.specs.Parts.{parts_of}
use Rattle.casefile.specs.Whole.{tables_at, places_in, case_of}
use Rattle.effects.specs.Lookup.{lookup_in}
use Rattle.effects.specs.declared.Model.TheVariants.{Document}
use Rattle.report.specs.Report.{manner_of}
use Rattle.truth.specs.Condition.{Described}
use Rattle.evidence.specs.Constant.{reading, blank}
use Rattle.evidence.specs.Example.{places, NamedByEvidence}
use Rattle.evidence.proofs.Constant.{small_cases}
use Rattle.evidence.proofs.Evidence.{report_is_evidence}

lies : case_of reading ≡ Ok places
unfolding case_of places_in tables_at text_at number_at number_from run_by members_then records_then
lies = refl

-- neither instruction cites a member
cites_none :
    (pool : Pool) (pc : ℕ) → pc ≤ 1 →
    Described (lookup_in (parts_of reading places).members 0) pool (parts_of reading places).code pc
unfolding parts_of
cites_none pool zero below = record { field = λ t d e. absurd t; method = λ t d e. absurd t }
cites_none pool (suc zero) below = record { field = λ t d e. absurd t; method = λ t d e. absurd t }
cites_none pool (suc (suc pc)) below = absurd (omega (arith, below))

pub named_by_evidence : NamedByEvidence
unfolding parts_of
named_by_evidence w pool =
    report_is_evidence (manner_of Document w) reading places pool 1 blank 55 2 1 (all_below 256 reading tt tt) lies
    (λ leader scan pc leads here below. cites_none pool pc below) (small_cases w).reads
