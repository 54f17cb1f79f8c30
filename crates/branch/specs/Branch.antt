-- How an opcode bears on blocks (document 01, "Leaders").
-- Assumes nothing.
use Rattle.std.specs.Prelude.{ℕ, [], ◌∷◌, eqb}
use Rattle.basics.specs.Choice.{pick, one_of, between}
use Rattle.branch.specs.declared.Branch.{Branch}
use Rattle.branch.specs.declared.Branch.TheVariants.{Near, Far, Table, Lookup, Ends, Plain}

-- "each target of 153 to 168, 198, 199, 200, 201 and of each switch entry and default; the index after each of those, and
-- after 169, 172 to 177 and 191 .. `wide ret` ends no block here"
unfoldable pub branch_of : ℕ → Branch
branch_of op =
    pick (between 153 168 op) Near
    (pick (between 198 199 op) Near
    (pick (between 200 201 op) Far
    (pick (eqb op 170) Table
    (pick (eqb op 171) Lookup
    (pick (one_of (169 ∷ 172 ∷ 173 ∷ 174 ∷ 175 ∷ 176 ∷ 177 ∷ 191 ∷ []) op) Ends Plain)))))
