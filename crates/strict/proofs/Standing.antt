-- Every text begins with a type, with a `)`, or with what is declared wrong where a type is due.
-- Assumes nothing.
use Prim.Native.Nat.{ℕ, zero, suc, ◌+◌, ◌-◌, ◌≤◌, ◌<◌}
use native.Mathlib.Omega.{arith}
use mathlib.Core.Path.{◌≡◌, refl, ◌∙◌, sym, ap}
use mathlib.Core.Bool.{Bool, true, false}
use mathlib.Core.List.{List, [], ◌∷◌, ◌++◌, append_assoc}
use lib.Dec.{eqb, ltb}
use lib.ListN.{replicate, replicate-append-replicate}
use borrow.Author.Tests.{ltb-true, ltb-false, eqb-true, eqb-false}
use Rattle.basics.specs.Choice.{pick}
use Rattle.jvms.specs.Descriptor.{BaseType, byte, char, double, float, int, long, short, boolean, letter}
use Rattle.jvms.specs.Descriptor.{FieldType, base, class, array, ReturnType, void, typed, render, render_return, dimensions}
use Rattle.jvms.specs.Descriptor.{NoSemicolon, Named, WellFormedReturn}
use Rattle.jletter.specs.Letter.{is_base}
use Rattle.refusal.specs.declared.Refusal.{Refusal}
use Rattle.refusal.specs.declared.Refusal.TheVariants.{UnexpectedEnd, TooManyDimensions, EmptyClassName, MissingSemicolon}
use Rattle.refusal.specs.declared.Refusal.TheVariants.{CloseAfterBracket, ArrayOfVoid, Unrecognised}
use Rattle.strict.specs.Declared.{bracketed, WrongType, ended, deep, nameless, unended, closed, voids, strange}
use Rattle.strict.proofs.Computes.{Stops, base_is}

pub data Standing (rest : List ℕ) : Type 0 where
  read : (t : ReturnType) (more : List ℕ) → WellFormedReturn t → rest ≡ render_return t ++ more → Standing rest
  close : (more : List ℕ) → rest ≡ 41 ∷ more → Standing rest
  wrong : (r : Refusal) → WrongType rest r → Standing rest

-- ---- the brackets in front

record Fronted (rest : List ℕ) : Type 0 where
  depth : ℕ
  behind : List ℕ
  text : rest ≡ bracketed depth behind
  stops : Stops behind

fronted_by : (x : ℕ) (rest : List ℕ) → Fronted rest → (b : Bool) → eqb x 91 ≡ b → Fronted (x ∷ rest)
fronted_by x rest f true e =
    record {
      depth = suc f.depth;
      behind = f.behind;
      text = ap (λ (y : ℕ). y ∷ rest) (eqb-true x 91 e) ∙ ap (λ (l : List ℕ). 91 ∷ l) f.text;
      stops = f.stops;
    }
fronted_by x rest f false e = record { depth = 0; behind = x ∷ rest; text = refl; stops = eqb-false x 91 e }

fronted : (rest : List ℕ) → Fronted rest
fronted [] = record { depth = 0; behind = []; text = refl; stops = tt }
fronted (x ∷ rest) = fronted_by x rest (fronted rest) (eqb x 91) refl

-- an array of so many dimensions
abbrev arrays : ℕ → FieldType → FieldType
arrays zero t = t
arrays (suc depth) t = array (arrays depth t)

arrays_written :
    (depth : ℕ) (t : FieldType) (more : List ℕ) → bracketed depth (render t ++ more) ≡ render (arrays depth t) ++ more
unfolding render
arrays_written zero t more = refl
arrays_written (suc depth) t more = ap (λ (l : List ℕ). 91 ∷ l) (arrays_written depth t more)

arrays_named : (depth : ℕ) (t : FieldType) → Named t → Named (arrays depth t)
arrays_named zero t named = named
arrays_named (suc depth) t named = arrays_named depth t named

arrays_deep : (depth : ℕ) (t : FieldType) → dimensions (arrays depth t) ≡ depth + dimensions t
arrays_deep zero t = omega arith
arrays_deep (suc depth) t = let more = arrays_deep depth t in omega arith

-- a type without dimensions of its own, behind brackets
behind_brackets :
    (rest : List ℕ) (depth : ℕ) (t : FieldType) (more : List ℕ) → depth ≤ 255 → Named t → dimensions t ≡ 0 →
    rest ≡ bracketed depth (render t ++ more) → Standing rest
unfolding render_return
behind_brackets rest depth t more few named flat e =
    read (typed (arrays depth t)) more
    (record { named = arrays_named depth t named; shallow = omega (arith, arrays_deep depth t) })
    (e ∙ arrays_written depth t more)

-- ---- names and letters

data Name (rest : List ℕ) : Type 0 where
  ends : (name more : List ℕ) → NoSemicolon name → rest ≡ name ++ (59 ∷ more) → Name rest
  goes_on : NoSemicolon rest → Name rest

name_by : (x : ℕ) (rest : List ℕ) → Name rest → (b : Bool) → eqb x 59 ≡ b → Name (x ∷ rest)
name_by x rest n true e = ends [] rest tt (ap (λ (y : ℕ). y ∷ rest) (eqb-true x 59 e))
name_by x rest (ends name more free t) false e =
    ends (x ∷ name) more (eqb-false x 59 e, free) (ap (λ (l : List ℕ). x ∷ l) t)
name_by x rest (goes_on free) false e = goes_on (eqb-false x 59 e, free)

name_of : (rest : List ℕ) → Name rest
name_of [] = goes_on tt
name_of (x ∷ rest) = name_by x rest (name_of rest) (eqb x 59) refl

no_true : ◌≡◌ {A = Bool} false true → ⊥
no_true e = let z : ◌≡◌ {A = ℕ} 0 1 = cc in omega arith

either : {P : Type 0} (x k : ℕ) (others : Bool) → (x ≡ k → P) → (others ≡ true → P) → pick (eqb x k) true others ≡ true → P
either {P} x k others here further h = by (eqb x k) refl h
  where
    by : (b : Bool) → eqb x k ≡ b → pick b true others ≡ true → P
    by true e g = here (eqb-true x k e)
    by false e g = further g

base_letter : (x : ℕ) → is_base x ≡ true → (b : BaseType) × (x ≡ letter b)
unfolding is_base
base_letter x h =
    either x 66 _ (λ e. (byte, e))
    (either x 67 _ (λ e. (char, e))
    (either x 68 _ (λ e. (double, e))
    (either x 70 _ (λ e. (float, e))
    (either x 73 _ (λ e. (int, e))
    (either x 74 _ (λ e. (long, e))
    (either x 83 _ (λ e. (short, e)) (either x 90 _ (λ e. (boolean, e)) (λ z. absurd (no_true z)))))))))
    h

no_letter : (x : ℕ) → is_base x ≡ false → (b : BaseType) → x ≡ letter b → ⊥
no_letter x h b e = no_true (sym h ∙ ap is_base e ∙ base_is b)

-- ---- what stands behind the brackets

module _ (rest : List ℕ) (depth : ℕ) (few : depth ≤ 255) where
  class_standing : (l : List ℕ) → rest ≡ bracketed depth (76 ∷ l) → Name l → Standing rest
  unfolding render
  class_standing l e (ends [] more free t) =
      wrong EmptyClassName (nameless depth more few (e ∙ ap (λ (m : List ℕ). bracketed depth (76 ∷ m)) t))
  class_standing l e (ends (x ∷ name) more free t) =
      behind_brackets rest depth (class (x ∷ name)) more few free refl
      (e ∙ ap (λ (m : List ℕ). bracketed depth (76 ∷ m)) (t ∙ sym (append_assoc (x ∷ name) (59 ∷ []) more)))
  class_standing l e (goes_on free) = wrong MissingSemicolon (unended depth l few free e)

  close_standing : (l : List ℕ) → rest ≡ bracketed depth (41 ∷ l) → (b : Bool) → ltb 0 depth ≡ b → Standing rest
  close_standing l e true g = wrong CloseAfterBracket (closed depth l (ltb-true 0 depth g) few e)
  close_standing l e false g =
      let none = ltb-false 0 depth g in
      let flat : depth ≡ 0 = omega arith in
      close l (e ∙ ap (λ (n : ℕ). bracketed n (41 ∷ l)) flat)

  void_standing : (l : List ℕ) → rest ≡ bracketed depth (86 ∷ l) → (b : Bool) → ltb 0 depth ≡ b → Standing rest
  unfolding render_return
  void_standing l e true g = wrong ArrayOfVoid (voids depth l (ltb-true 0 depth g) few e)
  void_standing l e false g =
      let none = ltb-false 0 depth g in
      let flat : depth ≡ 0 = omega arith in
      read void l tt (e ∙ ap (λ (n : ℕ). bracketed n (86 ∷ l)) flat)

  byte_standing :
      (x : ℕ) (l : List ℕ) → rest ≡ bracketed depth (x ∷ l) → (x ≡ 91 → ⊥) →
      (a b c d : Bool) → eqb x 76 ≡ a → eqb x 41 ≡ b → eqb x 86 ≡ c → is_base x ≡ d → Standing rest
  unfolding render
  byte_standing x l e stop true b c d ea eb ec ed =
      class_standing l (e ∙ ap (λ (y : ℕ). bracketed depth (y ∷ l)) (eqb-true x 76 ea)) (name_of l)
  byte_standing x l e stop false true c d ea eb ec ed =
      close_standing l (e ∙ ap (λ (y : ℕ). bracketed depth (y ∷ l)) (eqb-true x 41 eb)) (ltb 0 depth) refl
  byte_standing x l e stop false false true d ea eb ec ed =
      void_standing l (e ∙ ap (λ (y : ℕ). bracketed depth (y ∷ l)) (eqb-true x 86 ec)) (ltb 0 depth) refl
  byte_standing x l e stop false false false true ea eb ec ed =
      let b = base_letter x ed in
      behind_brackets rest depth (base b.0) l few tt refl (e ∙ ap (λ (y : ℕ). bracketed depth (y ∷ l)) b.1)
  byte_standing x l e stop false false false false ea eb ec ed =
      wrong Unrecognised
      (strange depth x l few
      (record {
        bracket = stop;
        class = eqb-false x 76 ea;
        close = eqb-false x 41 eb;
        void = eqb-false x 86 ec;
        base = no_letter x ed;
      })
      e)

  text_standing : (l : List ℕ) → rest ≡ bracketed depth l → Stops l → Standing rest
  text_standing [] e stop = wrong UnexpectedEnd (ended depth few e)
  text_standing (x ∷ l) e stop = byte_standing x l e stop (eqb x 76) (eqb x 41) (eqb x 86) (is_base x) refl refl refl refl

-- more than 255 brackets are 256 and others
many : (depth : ℕ) (l : List ℕ) → 255 < depth → bracketed depth l ≡ bracketed 256 (bracketed (depth - 256) l)
many depth l h =
    let whole : 256 + (depth - 256) ≡ depth = omega arith in
    ap (λ (n : ℕ). bracketed n l) (sym whole)
    ∙ ap (λ (m : List ℕ). m ++ l) (sym (replicate-append-replicate 256 (depth - 256) 91))
    ∙ append_assoc (replicate 256 91) (replicate (depth - 256) 91) l

pub standing : (rest : List ℕ) → Standing rest
standing rest = by (fronted rest)
  where
    by_depth : (f : Fronted rest) (b : Bool) → ltb 255 f.depth ≡ b → Standing rest
    by_depth f true e =
        wrong TooManyDimensions
        (deep (bracketed (f.depth - 256) f.behind) (f.text ∙ many f.depth f.behind (ltb-true 255 f.depth e)))
    by_depth f false e = text_standing rest f.depth (ltb-false 255 f.depth e) f.behind f.text f.stops

    by : Fronted rest → Standing rest
    by f = by_depth f (ltb 255 f.depth) refl
