-- What operands weigh is a fixed number, so many times the slots of the cited member, and so many times the dimensions. So two
-- weights that are equal for five of these are equal for all.
-- Assumes nothing.
use Prim.Native.Nat.{ℕ, ◌+◌, ◌*◌}
use native.Mathlib.Nat.{add-mul}
use native.Mathlib.Omega.{arith}
use mathlib.Core.Path.{◌≡◌, ◌∙◌, sym}
use mathlib.Core.Bool.{Bool}
use mathlib.Core.List.{List, [], ◌∷◌}
use lib.Dec.{T, eqb, eqb→eq}
use lib.ListN.{length}
use Rattle.basics.specs.Choice.{both}
use Rattle.basics.proofs.Every.{both_first, both_second}
use Rattle.jvms.specs.Stack.{Operand, int, long, float, double, reference, category1, category2, field, parameters, returned, dimensions, Cited, slots_of, slots_in}
use Rattle.effects.specs.Agreement.{taken_by, given_by, above_by}
use Rattle.effects.specs.Depth.{Rule, none, fixed, reads, writes, invokes}
use Rattle.effects.specs.Rows.{Row, unmodelled, opaque, aload, aload_far, aload_of, carries, keeps, gets, calls, puts, makes}

abbrev pub cites : ℕ → ℕ → ℕ → ℕ → Cited
cites f a g d = record { field = f; args = a; gives = g; dims = d }

-- ---- weights

abbrev pub Weight : Type 0
Weight = Cited → ℕ

pub record Linear (weight : Weight) : Type 0 where
  pub base : ℕ
  pub fields : ℕ
  pub args : ℕ
  pub gives : ℕ
  pub dims : ℕ
  pub is : (c : Cited) → weight c ≡ base + fields * c.field + args * c.args + gives * c.gives + dims * c.dims

pub constant : (n : ℕ) → Linear (λ c. n)
constant n = record { base = n; fields = 0; args = 0; gives = 0; dims = 0; is = λ c. omega arith }

of_field : Linear (λ c. c.field)
of_field = record { base = 0; fields = 1; args = 0; gives = 0; dims = 0; is = λ c. omega arith }

of_args : Linear (λ c. c.args)
of_args = record { base = 0; fields = 0; args = 1; gives = 0; dims = 0; is = λ c. omega arith }

of_gives : Linear (λ c. c.gives)
of_gives = record { base = 0; fields = 0; args = 0; gives = 1; dims = 0; is = λ c. omega arith }

of_dims : Linear (λ c. c.dims)
of_dims = record { base = 0; fields = 0; args = 0; gives = 0; dims = 1; is = λ c. omega arith }

sum : {v w : Weight} → Linear v → Linear w → Linear (λ c. v c + w c)
sum v w =
    record {
      base = v.base + w.base;
      fields = v.fields + w.fields;
      args = v.args + w.args;
      gives = v.gives + w.gives;
      dims = v.dims + w.dims;
      is = λ c.
          omega (
            arith,
            v.is c,
            w.is c,
            add-mul v.fields w.fields c.field,
            add-mul v.args w.args c.args,
            add-mul v.gives w.gives c.gives,
            add-mul v.dims w.dims c.dims,
          );
    }

-- ---- the weights that are compared

pub operand_linear : (o : Operand) → Linear (λ c. slots_of c o)
operand_linear (int n) = constant 1
operand_linear (long n) = constant 2
operand_linear (float n) = constant 1
operand_linear (double n) = constant 2
operand_linear (reference n) = constant 1
operand_linear (category1 n) = constant 1
operand_linear (category2 n) = constant 2
operand_linear (field n) = of_field
operand_linear (parameters n) = of_args
operand_linear (returned n) = of_gives
operand_linear (dimensions n) = of_dims

pub operands_linear : (os : List Operand) → Linear (λ c. slots_in c os)
operands_linear [] = constant 0
operands_linear (o ∷ os) = sum (operand_linear o) (operands_linear os)

pub taken_linear : (row : Row) → Linear (taken_by row)
taken_linear unmodelled = constant 0
taken_linear (opaque taken given) = constant taken
taken_linear aload = constant 0
taken_linear aload_far = constant 0
taken_linear (aload_of local) = constant 0
taken_linear (carries taken places) = constant taken
taken_linear keeps = constant 0
taken_linear (gets taken) = constant taken
taken_linear (calls taken) = sum (constant taken) of_args
taken_linear (puts taken) = sum (constant taken) of_field
taken_linear makes = of_dims

pub given_linear : (row : Row) → Linear (given_by row)
given_linear unmodelled = constant 0
given_linear (opaque taken given) = constant given
given_linear aload = constant 1
given_linear aload_far = constant 1
given_linear (aload_of local) = constant 1
given_linear (carries taken places) = constant (length places)
given_linear keeps = constant 0
given_linear (gets taken) = of_field
given_linear (calls taken) = of_gives
given_linear (puts taken) = constant 0
given_linear makes = constant 1

pub above_linear : (rule : Rule) → Linear (above_by rule)
above_linear none = constant 0
above_linear (fixed depth) = constant depth
above_linear reads = constant 0
above_linear writes = of_field
above_linear invokes = of_args

-- ---- equal for five

abbrev alike_for : Weight → Weight → Cited → Bool
alike_for v w c = eqb (v c) (w c)

abbrev pub alike_for_five : Weight → Weight → Bool
alike_for_five v w =
    both (alike_for v w (cites 0 0 0 0))
    (both (alike_for v w (cites 1 0 0 0)) (both (alike_for v w (cites 0 1 0 0))
    (both (alike_for v w (cites 0 0 1 0)) (alike_for v w (cites 0 0 0 1)))))

same_sum :
    {a b c d k a' b' c' d' k' : ℕ} (x y z u : ℕ) → a ≡ a' → b ≡ b' → c ≡ c' → d ≡ d' → k ≡ k' →
    a + b * x + c * y + d * z + k * u ≡ a' + b' * x + c' * y + d' * z + k' * u
same_sum x y z u e f g h i = rw (e, f, g, h, i)

pub alike_for_all : (v w : Weight) → Linear v → Linear w → T (alike_for_five v w) → (c : Cited) → v c ≡ w c
alike_for_all v w p q t c =
    let t1 = both_second (alike_for v w (cites 0 0 0 0)) _ t in
    let t2 = both_second (alike_for v w (cites 1 0 0 0)) _ t1 in
    let t3 = both_second (alike_for v w (cites 0 1 0 0)) _ t2 in
    let e0 : v (cites 0 0 0 0) ≡ w (cites 0 0 0 0) = eqb→eq _ _ (both_first (alike_for v w (cites 0 0 0 0)) _ t) in
    let e1 : v (cites 1 0 0 0) ≡ w (cites 1 0 0 0) = eqb→eq _ _ (both_first (alike_for v w (cites 1 0 0 0)) _ t1) in
    let e2 : v (cites 0 1 0 0) ≡ w (cites 0 1 0 0) = eqb→eq _ _ (both_first (alike_for v w (cites 0 1 0 0)) _ t2) in
    let e3 : v (cites 0 0 1 0) ≡ w (cites 0 0 1 0) = eqb→eq _ _ (both_first (alike_for v w (cites 0 0 1 0)) _ t3) in
    let e4 : v (cites 0 0 0 1) ≡ w (cites 0 0 0 1) = eqb→eq _ _ (both_second (alike_for v w (cites 0 0 1 0)) _ t3) in
    let base : p.base ≡ q.base = omega (arith, p.is (cites 0 0 0 0), q.is (cites 0 0 0 0)) in
    p.is c
    ∙ same_sum c.field c.args c.gives c.dims base
    (omega (arith, p.is (cites 1 0 0 0), q.is (cites 1 0 0 0)))
    (omega (arith, p.is (cites 0 1 0 0), q.is (cites 0 1 0 0)))
    (omega (arith, p.is (cites 0 0 1 0), q.is (cites 0 0 1 0)))
    (omega (arith, p.is (cites 0 0 0 1), q.is (cites 0 0 0 1)))
    ∙ sym (q.is c)
