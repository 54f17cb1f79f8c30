-- Document 01, "Contracts": "Each public function states a result, fixing it and the lent memory for all inputs, refusals too; that its
-- statement allows only one outcome is proved". Each form that a contract has, and that it allows one outcome. docs/ACCEPTANCE.md
-- names for each public function the form that it has. proofs/Once.antt has the proof.
-- Assumes nothing.
use Rattle.std.specs.Prelude.{ℕ, ◌≡◌, List}
use Rattle.fixed.specs.Fixed.{FixedLengths}
use Rattle.index.specs.Index.{Tabled}
use Rattle.answer.specs.Answer.{Said, Delivered}
use Rattle.answer.specs.declared.Report.{Report}
use Rattle.text.specs.Writing.{Written}

-- any two outcomes that meet the contract are equal
abbrev pub Once : {A : Type 0} → (A → Type 0) → Type 0
Once {A} Meets = (one another : A) → Meets one → Meets another → one ≡ another

-- a result, and what a lent slice holds at exit; or two
pub record Left (A : Type 0) : Type 0 where
  pub result : A
  pub slice : List ℕ

pub record LeftBoth (A : Type 0) : Type 0 where
  pub result : A
  pub first : List ℕ
  pub second : List ℕ

pub record OneOutcome : Type 1 where
  -- the result is what a definition says, or a lent slice is
  pub value : {A : Type 0} (wanted : A) → Once (λ (r : A). r ≡ wanted)
  -- the result and one lent slice are
  pub lent :
      {A : Type 0} (wanted : A) (left : List ℕ) → Once (λ (o : Left A). (o.result ≡ wanted) × (o.slice ≡ left))
  -- the result and two lent slices are
  pub lent_both :
      {A : Type 0} (wanted : A) (left other : List ℕ) →
      Once (λ (o : LeftBoth A). (o.result ≡ wanted) × (o.first ≡ left) × (o.second ≡ other))
  -- a text is written from a place on: every writer
  pub written : (at : ℕ) (text out : List ℕ) → Once (λ (o : Left ℕ). Written at text out o.result o.slice)
  -- what is said goes to the output: `report_parts` and `report_parts_in`, whose stack at exit is `value`
  pub delivered : (what : Said) (out : List ℕ) → Once (λ (o : Left Report). Delivered what out o.result o.slice)
  -- `fixed_lengths`
  pub fixed_lengths : Once FixedLengths
  -- `index_members`
  pub tabled : (members : List ℕ) (count : ℕ) (before : List ℕ) → Once (Tabled members count before)
