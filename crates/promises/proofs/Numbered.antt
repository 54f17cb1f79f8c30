-- A numbering that is injective makes the two promises one.
-- Assumes nothing.
use Prim.Native.Nat.{ℕ}
use mathlib.Core.Path.{◌≡◌, ap}
use mathlib.Core.List.{List}
use Rattle.walk.proofs.Answers as block
use Rattle.bytecode.proofs.Laws as bytecode
use Rattle.casefile.proofs.Answer as casefile
use Rattle.judging.proofs.Numbers as jdescriptor
use Rattle.leader.proofs.Answer as leader
use Rattle.answer.proofs.Answers as report
use Rattle.promises.specs.Numbered.{SamePromise, PromisesNumbered}

pub same_promise :
    {A : Type 0} {numbered : A → List ℕ} → ((one another : A) → numbered one ≡ numbered another → one ≡ another) →
    SamePromise numbered
same_promise {A} {numbered} injective =
    record { by_numbers = λ answer wanted e. ap numbered e; by_answer = λ answer wanted e. injective answer wanted e }

pub promises_numbered : PromisesNumbered
promises_numbered =
    record {
      length = same_promise bytecode.numbered_injective;
      leader = same_promise leader.numbered_injective;
      strict = same_promise jdescriptor.numbered_injective;
      case = same_promise casefile.numbered_injective;
      walk = same_promise block.numbered_injective;
      report = same_promise report.numbered_injective;
    }
