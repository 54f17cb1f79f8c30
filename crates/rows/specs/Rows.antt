-- The rows of document 01's "Bench rows" that are marked P, the example of its program, and rows of document 02's requests, as one
-- table.
-- Assumes nothing.
use Rattle.std.specs.Prelude.{ℕ, ◌≡◌, List, [], ◌∷◌, ◌++◌, length, replicate, Result, Ok, Err, Option, Some, None}
use Rattle.bytecode.specs.Length.{length_of}
use Rattle.bytecode.specs.declared.Unmeasured.{Unmeasured}
use Rattle.bytecode.specs.declared.Unmeasured.TheVariants.{NoLength, Reserved}
use Rattle.basics.specs.Ascii.{ascii}
use Rattle.descriptor.specs.Readers.{parameters, return_slots}
use Rattle.descriptor.specs.declared.Params.{Params}
use Rattle.leader.specs.Scan.{block_leader, led_to, stopped_at}
use Rattle.leader.specs.declared.Scanned.{Scanned}
use Rattle.names.specs.Names.{parameter_names}
use Rattle.jdescriptor.specs.Answer.{answer}
use Rattle.judging.specs.Judged.{numbered}
use Rattle.judging.specs.Reading.{type_reading, method_reading}
use Rattle.answer.specs.Answer.{numbered as reported}
use Rattle.report.specs.Report.{document_manner, default_manner, full_manner, report_in, reported_by, report_worded, reported_worded}
use Rattle.report.specs.declared.Manner.{Manner}
use Rattle.effects.specs.declared.Model.{Model}
use Rattle.effects.specs.declared.Model.TheVariants.{Document, Full}

-- the bytes of a static method's case with a fault and a code, both short; no signature, no members, no records
abbrev pub static : ℕ → List ℕ → List ℕ
static fault code = 8 ∷ fault ∷ length code ∷ (code ++ (0 ∷ 0 ∷ 0 ∷ []))

-- aload_0, aload_1, the static method 1 with a descriptor, arraylength, which faults; the class and the method are named a and m
abbrev pub measured : List ℕ → List ℕ
measured descriptor =
    8 ∷ 5 ∷ 6 ∷ 0x2a ∷ 0x2b ∷ 0xb8 ∷ 0x00 ∷ 0x01 ∷ 0xbe
    ∷ 0 ∷ 1 ∷ 1 ∷ 1 ∷ 1 ∷ 97 ∷ 1 ∷ 109 ∷ length descriptor ∷ (descriptor ++ (0 ∷ []))

-- ---- the cases of document 02, request 1: each faults at an arraylength

-- aload_0, lconst_1, iconst_1, lshl, pop2
abbrev pub shifting : List ℕ
shifting = static 5 (0x2a ∷ 0x0a ∷ 0x04 ∷ 0x79 ∷ 0x58 ∷ 0xbe ∷ [])

-- loads, then dup_x1, dup_x2, dup2_x1 or dup2_x2, and as many pops as leave the lowest slot alone, a copy
abbrev pub copying_x1 : List ℕ
copying_x1 = static 5 (0x2a ∷ 0x2b ∷ 0x5a ∷ 0x57 ∷ 0x57 ∷ 0xbe ∷ [])

abbrev pub copying_x2 : List ℕ
copying_x2 = static 7 (0x2a ∷ 0x2b ∷ 0x2c ∷ 0x5b ∷ 0x57 ∷ 0x57 ∷ 0x57 ∷ 0xbe ∷ [])

abbrev pub copying2_x1 : List ℕ
copying2_x1 = static 8 (0x2a ∷ 0x2b ∷ 0x2c ∷ 0x5d ∷ 0x57 ∷ 0x57 ∷ 0x57 ∷ 0x57 ∷ 0xbe ∷ [])

abbrev pub copying2_x2 : List ℕ
copying2_x2 = static 10 (0x2a ∷ 0x2b ∷ 0x2c ∷ 0x2d ∷ 0x5e ∷ 0x57 ∷ 0x57 ∷ 0x57 ∷ 0x57 ∷ 0x57 ∷ 0xbe ∷ [])

-- a fault and a code with a field 1 J; the class and the field are named a and f
abbrev pub with_long : ℕ → List ℕ → List ℕ
with_long fault code =
    8 ∷ fault ∷ length code ∷ (code ++ (0 ∷ 1 ∷ 1 ∷ 0 ∷ 1 ∷ 97 ∷ 1 ∷ 102 ∷ 1 ∷ 74 ∷ 0 ∷ []))

-- aload_0, aload_1, lconst_1, putfield 1; aload_0, lconst_1, putstatic 1
abbrev pub storing : List ℕ
storing = with_long 6 (0x2a ∷ 0x2b ∷ 0x0a ∷ 0xb5 ∷ 0x00 ∷ 0x01 ∷ 0xbe ∷ [])

abbrev pub storing_static : List ℕ
storing_static = with_long 5 (0x2a ∷ 0x0a ∷ 0xb3 ∷ 0x00 ∷ 0x01 ∷ 0xbe ∷ [])

-- aload_0, iconst_1, iconst_1, multianewarray of so many dimensions, pop
abbrev pub making : ℕ → List ℕ
making dimensions = static 8 (0x2a ∷ 0x04 ∷ 0x04 ∷ 0xc5 ∷ 0x00 ∷ 0x01 ∷ dimensions ∷ 0x57 ∷ 0xbe ∷ [])

-- iconst_0, iconst_1, iadd, aload_0, aload_1, aload_2
abbrev pub adding : List ℕ
adding = static 6 (0x03 ∷ 0x04 ∷ 0x60 ∷ 0x2a ∷ 0x2b ∷ 0x2c ∷ 0xbe ∷ [])

-- ---- the cases of document 02, request 7: each faults at an arraylength

-- wide aload of the local that two bytes name, and arraylength
abbrev pub far_load : ℕ → ℕ → List ℕ
far_load high low = 0xc4 ∷ 0x19 ∷ high ∷ low ∷ 0xbe ∷ []

-- wide aload 300, with two records of local 300: `late` from 1 on, for 9 bytes, and `axis` from 0, for one
abbrev pub named_far : List ℕ
named_far =
    8 ∷ 4 ∷ 5 ∷ (far_load 1 44
    ++ (0 ∷ 0 ∷ 2 ∷ 1 ∷ 9 ∷ 172 ∷ 2 ∷ 4 ∷ (ascii "late" ++ (0 ∷ 1 ∷ 172 ∷ 2 ∷ 4 ∷ ascii "axis"))))

-- wide ret 1, aload_0
abbrev pub returning_far : List ℕ
returning_far = static 5 (0xc4 ∷ 0xa9 ∷ 0x00 ∷ 0x01 ∷ 0x2a ∷ 0xbe ∷ [])

-- wide iinc 300 by 5, aload_0
abbrev pub counting_far : List ℕ
counting_far = static 7 (0xc4 ∷ 0x84 ∷ 0x01 ∷ 0x2c ∷ 0x00 ∷ 0x05 ∷ 0x2a ∷ 0xbe ∷ [])

-- aload_0, lconst_1, wide lstore 300
abbrev pub storing_far : List ℕ
storing_far = static 6 (0x2a ∷ 0x0a ∷ 0xc4 ∷ 0x37 ∷ 0x01 ∷ 0x2c ∷ 0xbe ∷ [])

-- goto 4, which lies inside the bipush behind it: from there on a `wide` and an opcode, whose operands are cut
abbrev pub cut_far : ℕ → List ℕ
cut_far op = static 6 (0xa7 ∷ 0x00 ∷ 0x04 ∷ 0x10 ∷ 0xc4 ∷ op ∷ 0xbe ∷ [])

-- ---- the cases of document 02, request 11

-- aload_0, iconst_0 and an array load; aload_0, iconst_0, iconst_1 and an array store of one slot
abbrev pub loading_by : ℕ → List ℕ
loading_by op = static 2 (0x2a ∷ 0x03 ∷ op ∷ [])

abbrev pub storing_by : ℕ → List ℕ
storing_by op = static 3 (0x2a ∷ 0x03 ∷ 0x04 ∷ op ∷ [])

-- aload_0, iconst_1, and an invocation of m in C, which takes a byte
abbrev pub passing_byte : List ℕ
passing_byte =
    8 ∷ 2 ∷ 5 ∷ 0x2a ∷ 0x04 ∷ 0xb6 ∷ 0x00 ∷ 0x01 ∷ 0 ∷ 1 ∷ 1 ∷ 1 ∷ 1 ∷ 67 ∷ 1 ∷ 109 ∷ 4 ∷ (ascii "(B)V" ++ (0 ∷ []))

-- a load by `baload` from a local that a record names `byte`
abbrev pub loading_from_byte : List ℕ
loading_from_byte = 8 ∷ 2 ∷ 3 ∷ 0x2a ∷ 0x03 ∷ 0x33 ∷ 0 ∷ 0 ∷ 1 ∷ 0 ∷ 9 ∷ 0 ∷ 4 ∷ ascii "byte"

-- "Static method, flags 8, fault 1, code 2a b6 00 01 57 b1, signature `m:(Ljava/lang/String;)V`, member 1 method
-- `java/lang/String` `length` `()I`, no records: 65 bytes"
abbrev pub example : List ℕ
example =
    0x08 ∷ 0x01 ∷ 0x06 ∷ 0x2a ∷ 0xb6 ∷ 0x00 ∷ 0x01 ∷ 0x57 ∷ 0xb1
    ∷ 23 ∷ (ascii "m:(Ljava/lang/String;)V"
    ++ (1 ∷ 1 ∷ 1 ∷ 16 ∷ (ascii "java/lang/String" ++ (6 ∷ (ascii "length" ++ (3 ∷ (ascii "()I" ++ (0 ∷ []))))))))

pub data Row : Type 0 where
  -- a code, an index of it, and what measuring there answers
  measures : List ℕ → ℕ → Result ℕ Unmeasured → Row
  -- a code, a fault, and what scanning answers
  leads : List ℕ → ℕ → Result Scanned Scanned → Row
  -- a descriptor, and what its parameters are: read, and by name
  takes : List ℕ → Option Params → Row
  names : List ℕ → List ℕ → Row
  -- a descriptor, and the slots of its return
  returns : List ℕ → Option ℕ → Row
  -- a text, the room for numbers, and what the strict reader of a method, or of a type, answers in document 01's numbers
  method_reads : List ℕ → ℕ → List ℕ → Row
  type_reads : List ℕ → ℕ → List ℕ → Row
  -- a manner, the bytes of a case, the room of the stack and of the output, and the report's answer in the documents' numbers
  reports_in : Manner → List ℕ → ℕ → ℕ → List ℕ → Row
  -- a manner, the bytes of a case, the room of the stack, and the message, in an output of its length
  writes_in : Manner → List ℕ → ℕ → List ℕ → Row
  -- the same in a model, with the number of a wording
  reports_worded : Model → ℕ → List ℕ → ℕ → ℕ → List ℕ → Row
  writes_worded : Model → ℕ → List ℕ → ℕ → List ℕ → Row

-- in document 01's manner
abbrev pub reports : List ℕ → ℕ → ℕ → List ℕ → Row
reports bytes room out_room told = reports_in document_manner bytes room out_room told

abbrev pub writes : List ℕ → ℕ → List ℕ → Row
writes bytes room message = writes_in document_manner bytes room message

abbrev pub Holds : Row → Type 0
Holds (measures code pc answer) = length_of code pc ≡ answer
Holds (leads code fault answer) = block_leader length_of [] code fault ≡ answer
Holds (takes text read) = parameters text ≡ read
Holds (names text named) = parameter_names text ≡ named
Holds (returns text slots) = return_slots text ≡ slots
Holds (method_reads text room told) = numbered (answer (method_reading text) room) ≡ told
Holds (type_reads text room told) = numbered (answer (type_reading text) room) ≡ told
Holds (reports_in manner bytes room out_room told) = reported (report_in manner bytes room out_room) ≡ told
Holds (writes_in manner bytes room message) = reported_by manner bytes room (replicate (length message) 0) ≡ message
Holds (reports_worded model number bytes room out_room told) = reported (report_worded model number bytes room out_room) ≡ told
Holds (writes_worded model number bytes room message) = reported_worded model number bytes room (replicate (length message) 0) ≡ message

infixr 5 ◌&◌
pub data AllHold : List Row → Type 0 where
  none : AllHold []
  ◌&◌ : {row : Row} {rows : List Row} → Holds row → AllHold rows → AllHold (row ∷ rows)

unfoldable pub rows : List Row
rows =
    -- "c4 84 00 01 00 01 is 6; c4 15 00 01 is 4; c4 alone has no length."
    measures (0xc4 ∷ 0x84 ∷ 0x00 ∷ 0x01 ∷ 0x00 ∷ 0x01 ∷ []) 0 (Ok 6) ∷
    measures (0xc4 ∷ 0x15 ∷ 0x00 ∷ 0x01 ∷ []) 0 (Ok 4) ∷
    measures (0xc4 ∷ []) 0 (Err NoLength) ∷
    -- document 02, request 6: "The bench row for ca changes from 1 to none". 202 to 255 are reserved; 201 is an instruction, here a
    -- cut one. There is nothing past the end, and an operand of `wide` is no opcode.
    measures (0xca ∷ []) 0 (Err Reserved) ∷
    measures (0xff ∷ []) 0 (Err Reserved) ∷
    measures (0xc9 ∷ []) 0 (Err NoLength) ∷
    measures (0xca ∷ []) 1 (Err NoLength) ∷
    measures (0xc4 ∷ 0xca ∷ 0x00 ∷ 0x01 ∷ []) 0 (Ok 4) ∷
    -- "tableswitch, low 0, high 1: 24 at index 0, 21 at index 3. Low 1, high 0 at index 0: 16."
    measures (0xaa ∷ 0 ∷ 0 ∷ 0 ∷ 0 ∷ 0 ∷ 0 ∷ 0 ∷ 0 ∷ 0 ∷ 0 ∷ 0 ∷ 0 ∷ 0 ∷ 0 ∷ 1 ∷ 0 ∷ 0 ∷ 0 ∷ 0 ∷ 0 ∷ 0 ∷ 0 ∷ 0 ∷ []) 0 (Ok 24) ∷
    measures (0 ∷ 0 ∷ 0 ∷ 0xaa ∷ 0 ∷ 0 ∷ 0 ∷ 0 ∷ 0 ∷ 0 ∷ 0 ∷ 0 ∷ 0 ∷ 0 ∷ 0 ∷ 1 ∷ 0 ∷ 0 ∷ 0 ∷ 0 ∷ 0 ∷ 0 ∷ 0 ∷ 0 ∷ []) 3 (Ok 21) ∷
    measures (0xaa ∷ 0 ∷ 0 ∷ 0 ∷ 0 ∷ 0 ∷ 0 ∷ 0 ∷ 0 ∷ 0 ∷ 0 ∷ 1 ∷ 0 ∷ 0 ∷ 0 ∷ 0 ∷ []) 0 (Ok 16) ∷
    -- "code 00 00 2a be 57 a7 ff fd, fault 3: leader 2, scan 6, kind 2. With ff fe: leader 3, kind 1."
    leads (0x00 ∷ 0x00 ∷ 0x2a ∷ 0xbe ∷ 0x57 ∷ 0xa7 ∷ 0xff ∷ 0xfd ∷ []) 3 (led_to 2 6) ∷
    leads (0x00 ∷ 0x00 ∷ 0x2a ∷ 0xbe ∷ 0x57 ∷ 0xa7 ∷ 0xff ∷ 0xfe ∷ []) 3 (led_to 3 6) ∷
    reports (static 3 (0x00 ∷ 0x00 ∷ 0x2a ∷ 0xbe ∷ 0x57 ∷ 0xa7 ∷ 0xff ∷ 0xfd ∷ [])) 1 60 (0 ∷ 55 ∷ 2 ∷ 6 ∷ 1 ∷ []) ∷
    reports (static 3 (0x00 ∷ 0x00 ∷ 0x2a ∷ 0xbe ∷ 0x57 ∷ 0xa7 ∷ 0xff ∷ 0xfe ∷ [])) 1 60 (0 ∷ 28 ∷ 1 ∷ 6 ∷ 0 ∷ []) ∷
    -- "code a7 ff ff b1, fault 3: leader 3."
    leads (0xa7 ∷ 0xff ∷ 0xff ∷ 0xb1 ∷ []) 3 (led_to 3 2) ∷
    -- document 02, request 6: behind the fault; before it, at the leader; an operand, which moves nothing; at the fault
    leads (0x2a ∷ 0xbe ∷ 0xca ∷ []) 1 (stopped_at 2 2) ∷
    reports (static 1 (0x2a ∷ 0xbe ∷ 0xca ∷ [])) 8 60 (0 ∷ 28 ∷ 1 ∷ 2 ∷ 0 ∷ []) ∷
    reports (static 2 (0xca ∷ 0x2a ∷ 0xbe ∷ [])) 8 60 (0 ∷ 28 ∷ 1 ∷ 0 ∷ 0 ∷ []) ∷
    reports (static 4 (0x2a ∷ 0x10 ∷ 0xca ∷ 0x57 ∷ 0xbe ∷ [])) 8 60 (0 ∷ 55 ∷ 2 ∷ 4 ∷ 3 ∷ []) ∷
    reports (static 1 (0x2a ∷ 0xca ∷ [])) 8 60 (1 ∷ []) ∷
    -- "`(IJ[D)V`: int, long, double[], 4 slots, return 0."
    takes (ascii "(IJ[D)V") (Some (record { slots = 4; end = 5 })) ∷
    names (ascii "(IJ[D)V") (ascii "int, long, double[]") ∷
    returns (ascii "(IJ[D)V") (Some 0) ∷
    -- document 02, request 2: "`(La)J;)V` then returns 0 slots." In `(I)La)V;` the name of the return has a parenthesis. Parameters that
    -- can't be read, and those without an end, have no return.
    returns (ascii "(La)J;)V") (Some 0) ∷
    returns (ascii "(I)La)V;") (Some 1) ∷
    returns (ascii "(La)J;") None ∷
    returns (ascii "(V)I") None ∷
    returns (ascii ")V") None ∷
    -- two slots above local 0, and none
    reports (measured (ascii "(La)V;)J")) 8 60 (0 ∷ 28 ∷ 1 ∷ 4 ∷ 3 ∷ []) ∷
    reports (measured (ascii "(La)J;)V")) 8 60 (0 ∷ 55 ∷ 2 ∷ 4 ∷ 3 ∷ []) ∷
    writes (measured (ascii "(La)J;)V")) 8 (ascii "Cannot read the array length because \"<local0>\" is null") ∷
    -- document 02, request 1: document 01's model stops, and the full one goes on. lshl takes three slots
    reports shifting 8 60 (0 ∷ 28 ∷ 1 ∷ 6 ∷ 3 ∷ []) ∷
    reports_in full_manner shifting 8 60 (0 ∷ 55 ∷ 2 ∷ 6 ∷ 5 ∷ []) ∷
    writes_in full_manner shifting 8 (ascii "Cannot read the array length because \"<local0>\" is null") ∷
    -- the four forms
    reports copying_x1 8 60 (0 ∷ 28 ∷ 1 ∷ 6 ∷ 2 ∷ []) ∷
    reports_in full_manner copying_x1 8 60 (0 ∷ 55 ∷ 2 ∷ 6 ∷ 5 ∷ []) ∷
    writes_in full_manner copying_x1 8 (ascii "Cannot read the array length because \"<local1>\" is null") ∷
    reports copying_x2 8 60 (0 ∷ 28 ∷ 1 ∷ 8 ∷ 3 ∷ []) ∷
    reports_in full_manner copying_x2 8 60 (0 ∷ 55 ∷ 2 ∷ 8 ∷ 7 ∷ []) ∷
    writes_in full_manner copying_x2 8 (ascii "Cannot read the array length because \"<local2>\" is null") ∷
    reports copying2_x1 8 60 (0 ∷ 28 ∷ 1 ∷ 9 ∷ 3 ∷ []) ∷
    reports_in full_manner copying2_x1 8 60 (0 ∷ 55 ∷ 2 ∷ 9 ∷ 8 ∷ []) ∷
    writes_in full_manner copying2_x1 8 (ascii "Cannot read the array length because \"<local1>\" is null") ∷
    reports copying2_x2 8 60 (0 ∷ 28 ∷ 1 ∷ 11 ∷ 4 ∷ []) ∷
    reports_in full_manner copying2_x2 8 60 (0 ∷ 55 ∷ 2 ∷ 11 ∷ 10 ∷ []) ∷
    writes_in full_manner copying2_x2 8 (ascii "Cannot read the array length because \"<local2>\" is null") ∷
    -- putfield J takes three slots
    reports storing 8 60 (0 ∷ 28 ∷ 1 ∷ 5 ∷ 3 ∷ []) ∷
    reports_in full_manner storing 8 60 (0 ∷ 55 ∷ 2 ∷ 5 ∷ 4 ∷ []) ∷
    writes_in full_manner storing 8 (ascii "Cannot read the array length because \"<local0>\" is null") ∷
    -- putstatic J takes two, and no receiver
    reports storing_static 8 60 (0 ∷ 28 ∷ 1 ∷ 4 ∷ 2 ∷ []) ∷
    reports_in full_manner storing_static 8 60 (0 ∷ 55 ∷ 2 ∷ 4 ∷ 3 ∷ []) ∷
    writes_in full_manner storing_static 8 (ascii "Cannot read the array length because \"<local0>\" is null") ∷
    -- multianewarray takes as many as it has dimensions; "dimension 0 fails"
    reports (making 2) 8 60 (0 ∷ 28 ∷ 1 ∷ 6 ∷ 3 ∷ []) ∷
    reports_in full_manner (making 2) 8 60 (0 ∷ 55 ∷ 2 ∷ 6 ∷ 5 ∷ []) ∷
    writes_in full_manner (making 2) 8 (ascii "Cannot read the array length because \"<local0>\" is null") ∷
    reports (making 0) 8 60 (0 ∷ 28 ∷ 1 ∷ 6 ∷ 3 ∷ []) ∷
    reports_in full_manner (making 0) 8 60 (0 ∷ 28 ∷ 1 ∷ 6 ∷ 3 ∷ []) ∷
    -- "3 may now come where the old model gave up earlier", here of two cells
    reports adding 2 60 (0 ∷ 28 ∷ 1 ∷ 7 ∷ 2 ∷ []) ∷
    reports_in full_manner adding 2 60 (3 ∷ 4 ∷ []) ∷
    -- document 02, request 7: document 01's model has no `wide`, and the full one has its loads, to local 65,535
    reports (static 4 (far_load 1 44)) 8 60 (0 ∷ 28 ∷ 1 ∷ 2 ∷ 0 ∷ []) ∷
    reports_in full_manner (static 4 (far_load 1 44)) 8 60 (0 ∷ 57 ∷ 2 ∷ 2 ∷ 1 ∷ []) ∷
    writes_in full_manner (static 4 (far_load 1 44)) 8 (ascii "Cannot read the array length because \"<local300>\" is null") ∷
    writes_in full_manner (static 4 (far_load 255 255)) 8 (ascii "Cannot read the array length because \"<local65535>\" is null") ∷
    -- "a `wide` load's index is that of `wide`": the record that covers it names the local
    reports_in full_manner named_far 8 60 (0 ∷ 51 ∷ 2 ∷ 2 ∷ 1 ∷ []) ∷
    writes_in full_manner named_far 8 (ascii "Cannot read the array length because \"axis\" is null") ∷
    -- "any other opcode after it fails", also `ret`
    reports_in full_manner returning_far 8 60 (0 ∷ 28 ∷ 1 ∷ 3 ∷ 0 ∷ []) ∷
    -- wide iinc has six bytes, wide lstore takes two slots
    reports_in full_manner counting_far 8 60 (0 ∷ 55 ∷ 2 ∷ 3 ∷ 2 ∷ []) ∷
    reports_in full_manner storing_far 8 60 (0 ∷ 55 ∷ 2 ∷ 4 ∷ 3 ∷ []) ∷
    -- of those behind `wide`, only `aload`'s local is read: `wide iload` is completed and passes the fault
    reports_in full_manner (cut_far 0x15) 8 60 (0 ∷ 28 ∷ 1 ∷ 3 ∷ 1 ∷ []) ∷
    reports_in full_manner (cut_far 0x19) 8 60 (0 ∷ 28 ∷ 1 ∷ 3 ∷ 0 ∷ []) ∷
    reports (cut_far 0x15) 8 60 (0 ∷ 28 ∷ 1 ∷ 3 ∷ 0 ∷ []) ∷
    -- document 02, request 11: `baload` and `bastore` in both wordings. Wording 1 has 54 bytes; wording 2 has 62, and its room is judged
    -- by them
    reports_worded Document 1 (loading_by 0x33) 8 54 (0 ∷ 54 ∷ 2 ∷ 3 ∷ 2 ∷ []) ∷
    reports_worded Document 1 (loading_by 0x33) 8 53 (4 ∷ 54 ∷ []) ∷
    reports_worded Document 2 (loading_by 0x33) 8 54 (4 ∷ 62 ∷ []) ∷
    reports_worded Document 2 (loading_by 0x33) 8 61 (4 ∷ 62 ∷ []) ∷
    reports_worded Document 2 (loading_by 0x33) 8 62 (0 ∷ 62 ∷ 2 ∷ 3 ∷ 2 ∷ []) ∷
    writes_worded Document 1 (loading_by 0x33) 8 (ascii "Cannot load from byte array because \"<local0>\" is null") ∷
    writes_worded Document 2 (loading_by 0x33) 8 (ascii "Cannot load from byte/boolean array because \"<local0>\" is null") ∷
    writes_worded Full 1 (storing_by 0x54) 8 (ascii "Cannot store to byte array because \"<local0>\" is null") ∷
    writes_worded Full 2 (storing_by 0x54) 8 (ascii "Cannot store to byte/boolean array because \"<local0>\" is null") ∷
    -- a call that names nothing, and one that names the full model alone
    writes_in default_manner (loading_by 0x33) 8 (ascii "Cannot load from byte/boolean array because \"<local0>\" is null") ∷
    writes_in full_manner (loading_by 0x33) 8 (ascii "Cannot load from byte/boolean array because \"<local0>\" is null") ∷
    -- nothing else is worded otherwise: the arrays beside, a parameter, a local
    writes_worded Document 2 (loading_by 0x32) 8 (ascii "Cannot load from object array because \"<local0>\" is null") ∷
    writes_worded Document 2 (loading_by 0x34) 8 (ascii "Cannot load from char array because \"<local0>\" is null") ∷
    writes_worded Document 2 (storing_by 0x55) 8 (ascii "Cannot store to char array because \"<local0>\" is null") ∷
    writes_worded Document 2 passing_byte 8 (ascii "Cannot invoke \"C.m(byte)\" because \"<local0>\" is null") ∷
    writes_worded Document 2 loading_from_byte 8 (ascii "Cannot load from byte/boolean array because \"byte\" is null") ∷
    -- "11 for a wording other than 1 or 2, tested first": before 2, 1, 3 and 4
    reports_worded Document 0 (loading_by 0x33) 8 62 (11 ∷ []) ∷
    reports_worded Full 3 (loading_by 0x33) 8 62 (11 ∷ []) ∷
    reports_worded Document 9 [] 8 62 (11 ∷ []) ∷
    reports_worded Document 2 [] 8 62 (2 ∷ 0 ∷ []) ∷
    reports_worded Document 3 (static 0 (0xb1 ∷ [])) 8 62 (11 ∷ []) ∷
    reports_worded Document 3 (loading_by 0x33) 0 62 (11 ∷ []) ∷
    reports_worded Document 3 (loading_by 0x33) 8 0 (11 ∷ []) ∷
    -- "strict `()` is 1, `())` is 12, 255 `[` then I passes, 256 is 2."
    method_reads (40 ∷ 41 ∷ []) 4 (1 ∷ []) ∷
    method_reads (40 ∷ 41 ∷ 41 ∷ []) 4 (12 ∷ []) ∷
    type_reads (replicate 255 91 ++ (73 ∷ [])) 4 (0 ∷ 1 ∷ []) ∷
    type_reads (replicate 256 91 ++ (73 ∷ [])) 4 (2 ∷ []) ∷
    -- the program's example: "0 2 4 1 Cannot invoke "String.length()" because "<parameter1>" is null"
    reports example 4096 16384 (0 ∷ 62 ∷ 2 ∷ 4 ∷ 1 ∷ []) ∷
    writes example 4096 (ascii "Cannot invoke \"String.length()\" because \"<parameter1>\" is null") ∷
    []
