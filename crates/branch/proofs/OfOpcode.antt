-- How runs of opcodes bear on blocks, by one computed test a run.
-- Assumes nothing.
use Prim.Native.Nat.{ℕ, ◌+◌, ◌≤◌, ◌<◌}
use mathlib.Core.Path.{◌≡◌, refl, ◌∙◌, sym, ap}
use mathlib.Core.Bool.{Bool}
use mathlib.Core.List.{List}
use lib.Dec.{T, eqb, eqb→eq}
use Rattle.basics.specs.Choice.{pick}
use Rattle.basics.proofs.Every.{every, every_from}
use Rattle.basics.proofs.Keys.{Unkeyed, or_key, every_unkeyed}
use Rattle.branch.specs.Branch.{branch_of}
use Rattle.branch.specs.declared.Branch.{Branch}
use Rattle.branch.specs.declared.Branch.TheVariants.{Near, Far, Table, Lookup, Ends, Plain}

abbrev number : Branch → ℕ
number Near = 0
number Far = 1
number Table = 2
number Lookup = 3
number Ends = 4
number Plain = 5

abbrev numbered : ℕ → Branch
numbered n = pick (eqb n 0) Near (pick (eqb n 1) Far (pick (eqb n 2) Table (pick (eqb n 3) Lookup (pick (eqb n 4) Ends Plain))))

back : (k : Branch) → numbered (number k) ≡ k
back Near = refl
back Far = refl
back Table = refl
back Lookup = refl
back Ends = refl
back Plain = refl

abbrev pub is : Branch → ℕ → Bool
is kind op = eqb (number kind) (number (branch_of op))

known : (kind : Branch) (op : ℕ) → T (is kind op) → kind ≡ branch_of op
known kind op t = sym (back kind) ∙ ap numbered (eqb→eq (number kind) (number (branch_of op)) t) ∙ back (branch_of op)

-- n opcodes from a on are of one kind
pub all_of :
    (kind : Branch) (a n : ℕ) → T (every (λ k. is kind (a + k)) n) → (op : ℕ) → a ≤ op → op < a + n → kind ≡ branch_of op
all_of kind a n t op from below = known kind op (every_from (is kind) a n t op from below)

-- so are those of them that are no keys
pub all_unkeyed :
    (kind : Branch) (arms : List (List ℕ)) (a n : ℕ) → T (every (λ k. or_key arms (is kind) (a + k)) n) →
    (op : ℕ) → a ≤ op → op < a + n → Unkeyed arms op → kind ≡ branch_of op
all_unkeyed kind arms a n t op from below rest = known kind op (every_unkeyed (is kind) arms a n t op from below rest)
