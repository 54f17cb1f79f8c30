-- What a list of methods tells.
-- Rests on: the number of a method's name leads to a text, and so does that of its descriptor; texts lie in the file (crates/classparts).
-- Assumes nothing.
use Rattle.std.specs.Prelude.{Result, Ok, Err}
use Prim.Native.Nat.{ℕ, ◌+◌, ◌≤◌}
use native.Mathlib.Omega.{arith}
use mathlib.Core.Path.{◌≡◌, refl, ◌∙◌, sym, ap}
use mathlib.Core.Bool.{true}
use mathlib.Core.List.{List, [], ◌∷◌}
use lib.Dec.{eqb}
use lib.ListN.{get_or, length}
use Rattle.basics.specs.Choice.{pick}
use Rattle.format.proofs.Making.{every_at}
use Rattle.classformat.specs.Contents.{entry_in, named, name_of, leads}
use Rattle.classformat.specs.declared.Entry.{Entry}
use Rattle.classformat.specs.declared.Entry.TheVariants.{Text, Class, Member, Named, Other, Nothing}
use Rattle.classparts.proofs.Methods.{methods_declared}
use Rattle.classparts.proofs.Reading.{EntryRight, class_right}
use Rattle.methodlist.specs.List.{text_start, text_size, listed, numbered}
use Rattle.methodlist.specs.Listing.{NumberedInjective, EightEach, text_of, NamesSpelled}
use Rattle.methodlist.specs.declared.ListError.{ListError}
use Rattle.methodlist.specs.declared.ListError.TheVariants.{TooLong, Wrong, NoRoom}

-- ---- the numbers of an answer

-- the answer with these numbers
answered : List ℕ → Result ℕ ListError
answered numbers =
    pick (eqb (get_or numbers 0 0) 0) (Ok (get_or numbers 1 0))
    (pick (eqb (get_or numbers 0 0) 5) (Err TooLong)
    (pick (eqb (get_or numbers 0 0) 6) (Err (Wrong (get_or numbers 1 0))) (Err (NoRoom (get_or numbers 1 0)))))

read_back : (answer : Result ℕ ListError) → answered (numbered answer) ≡ answer
unfolding numbered answered
read_back (Ok count) = refl
read_back (Err TooLong) = refl
read_back (Err (Wrong offset)) = refl
read_back (Err (NoRoom size)) = refl

pub numbered_injective : NumberedInjective
numbered_injective one another e = sym (read_back one) ∙ ap answered e ∙ read_back another

-- ---- the numbers of the methods

pub eight_each : EightEach
unfolding listed
eight_each entry [] = refl
eight_each entry (m ∷ methods) = omega (arith, eight_each entry methods)

-- an entry that leads to a name is a text, and those are its bytes
spells : (file : List ℕ) (entry : Entry) → leads (name_of file entry) ≡ true → name_of file entry ≡ named (text_of file entry)
spells file (Text start size) e = refl
spells file (Class name) e = let z : ◌≡◌ {A = ℕ} 0 1 = cc in absurd (omega arith)
spells file (Member kind class pair) e = let z : ◌≡◌ {A = ℕ} 0 1 = cc in absurd (omega arith)
spells file (Named name descriptor) e = let z : ◌≡◌ {A = ℕ} 0 1 = cc in absurd (omega arith)
spells file Other e = let z : ◌≡◌ {A = ℕ} 0 1 = cc in absurd (omega arith)
spells file Nothing e = let z : ◌≡◌ {A = ℕ} 0 1 = cc in absurd (omega arith)

-- a text of the pool lies in the file
lies : (file : List ℕ) (entry : Entry) → EntryRight file entry → text_start entry + text_size entry ≤ length file
lies file (Text start size) so = so.0
lies file (Class name) so = omega arith
lies file (Member kind class pair) so = omega arith
lies file (Named name descriptor) so = omega arith
lies file Other so = omega arith
lies file Nothing so = omega arith

pub names_spelled : NamesSpelled
names_spelled =
    record {
      name = λ file c is m there. spells file (entry_in c.pool m.name) (methods_declared.name file c is m there);
      descriptor = λ file c is m there. spells file (entry_in c.pool m.descriptor) (methods_declared.descriptor file c is m there);
      inside =
          λ file c is number.
          lies file (entry_in c.pool number) (every_at (EntryRight file) c.pool Nothing (class_right file c is).pool.entries tt number);
    }
