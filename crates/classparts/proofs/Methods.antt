-- The methods of a class file: their names lead to texts, their code lies in the file, their local records are right in a case, and a
-- case can hold their parts.
-- Rests on: what comes of a class file (Reading); its members (Members).
-- Assumes nothing.
use Prim.Native.Nat.{ℕ}
use native.Mathlib.Omega.{arith}
use mathlib.Core.Path.{refl, subst}
use mathlib.Core.List.{List, [], ◌∷◌, Memᴰ}
use lib.ListN.{drop, length-take}
use Rattle.cases.specs.LaidOut.{RightLocal, RightLocals, none, more}
use Rattle.format.proofs.Making.{Every, every_among}
use Rattle.classformat.specs.Contents.{entry_in, Name, name_of, Local, Code, Method, ClassFile}
use Rattle.classparts.specs.Parts.{members_of, local_by, locals_of, parts_of}
use Rattle.classparts.specs.Right.{IsClass, HasCode, MethodsDeclared, FitsACase}
use Rattle.classparts.proofs.Reading.{LocalRight, CodeRight, BodyRight, MethodRight, class_right}
use Rattle.classparts.proofs.Members.{text_short, few_members, entry_right, members_declared}

module _ (file : List ℕ) (c : ClassFile) (is : IsClass file c) where
  abbrev names : ℕ → Name
  names index = name_of file (entry_in c.pool index)

  method_right : (m : Method) → Memᴰ m c.methods → MethodRight file names m
  method_right m there = every_among (MethodRight file names) c.methods (class_right file c is).methods there

  code_right : (m : Method) (code : Code) → HasCode c m code → CodeRight file names code
  code_right m code has = subst (BodyRight file names) has.body (method_right m has.method).body

  local_right : (l : Local) → LocalRight file names l → RightLocal (local_by file (entry_in c.pool) l)
  local_right l so =
      record {
        start = so.start;
        size = so.size;
        slot = so.slot;
        name = text_short file (entry_in c.pool) (entry_right file c is) l.name;
      }

  locals_right : (locals : List Local) → Every (LocalRight file names) locals → RightLocals (locals_of file (entry_in c.pool) locals)
  unfolding locals_of
  locals_right [] all = none
  locals_right (l ∷ locals) (one, rest) = more (local_right l one) (locals_right locals rest)

pub methods_declared : MethodsDeclared
methods_declared =
    record {
      name = λ file c is m there. (method_right file c is m there).name;
      descriptor = λ file c is m there. (method_right file c is m there).descriptor;
      local_name =
          λ file c is m code has l there.
          (every_among (LocalRight file (names file c is)) code.tables.locals (code_right file c is m code has).locals there).name;
      locals = λ file c is m code has. locals_right file c is code.tables.locals (code_right file c is m code has).locals;
      code =
          λ file c is m code has.
          let so = code_right file c is m code has in
          (so.some, so.few, so.inside);
    }

pub fits_a_case : FitsACase
unfolding parts_of
fits_a_case file c is m code has fault small =
    let so = code_right file c is m code has in
    let pool = (class_right file c is).pool in
    record {
      flags = (method_right file c is m has.method).flags;
      fault = small.fault;
      code = omega (arith, length-take code.size (drop code.start file), so.few);
      signature = small.signature;
      member_count = omega (arith, few_members file c.pool, pool.few);
      members =
          record {
            members = members_of file c.pool;
            right = members_declared.right file c is;
            counted = refl;
            bytes = refl;
          };
      record_count = small.record_count;
      records =
          record {
            locals = locals_of file (entry_in c.pool) code.tables.locals;
            right = methods_declared.locals file c is m code has;
            counted = refl;
            bytes = refl;
          };
      short = small.short;
    }
