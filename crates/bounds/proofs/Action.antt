-- How long the action and the cause of a message are, where the members and the records are no longer than a case can be.
-- Assumes nothing.
use Rattle.std.specs.Prelude.{Option, None, Some}
use Prim.Native.Nat.{ℕ, ◌+◌, ◌*◌, ◌≤◌}
use native.Mathlib.Nat.{mul-le-mul}
use native.Mathlib.Omega.{arith}
use mathlib.Core.Bool.{Bool}
use mathlib.Core.List.{List, ◌++◌}
use lib.Dec.{lit≤}
use lib.ListN.{length, length-append}
use Rattle.cell.specs.declared.Load.{Load}
use Rattle.basics.specs.Ascii.{ascii}
use Rattle.items.specs.Text.{after_text, class_of, name_of, descriptor_of}
use Rattle.lookup.specs.Lookup.{member_found}
use Rattle.casefile.specs.Whole.{longest}
use Rattle.classname.specs.ClassName.{class_name}
use Rattle.names.specs.Names.{parameter_names}
use Rattle.locals.specs.Name.{local_name}
use Rattle.fault.specs.declared.Action.{Action}
use Rattle.fault.specs.declared.Action.TheVariants.{ReadField, AssignField, Invoke, LoadArray, StoreArray, ReadLength, ThrowException, EnterBlock, ExitBlock}
use Rattle.action.specs.Action.{action_text}
use Rattle.message.specs.Message.{cause_text}
use Rattle.words.specs.Words.{element_texts, element_text, quoted, method_text, invoke_text, array_text}
use Rattle.words.specs.declared.Wording.{Wording}
use Rattle.words.specs.declared.Wording.TheVariants.{Byte, ByteBoolean}
use Rattle.bounds.proofs.Names.{widest, class_within, parameters_within}
use Rattle.bounds.proofs.Texts.{Within, none_within, entry_within, text-within, found_within, local_within}

-- ---- the action

-- the names of all parameters take no more
abbrev pub much : ℕ
much = longest * (3 * longest + 20)

quoted_within : (words name : List ℕ) → Within 20 words → Within (length name + 22) (quoted words name)
unfolding quoted
quoted_within words name short =
    let mark = ascii "\"" in
    let opened = words ++ mark in
    omega (arith, short, length-append (opened ++ name) mark, length-append opened name, length-append words mark)

element_within : (wording : Wording) (element : ℕ) → Within 12 (element_text wording element)
unfolding element_text
element_within wording element = by_wording wording
  where
    by_wording : (w : Wording) → Within 12 (element_text w element)
    by_wording Byte = entry_within 12 (element_texts Byte) (ascii "short") tt (lit≤ tt) element
    by_wording ByteBoolean = entry_within 12 (element_texts ByteBoolean) (ascii "short") tt (lit≤ tt) element

array_within : (wording : Wording) (words : List ℕ) (element : ℕ) → Within 20 words → Within 38 (array_text wording words element)
unfolding array_text
array_within wording words element short =
    let name = element_text wording element in
    omega (arith, short, element_within wording element, length-append (words ++ name) (ascii " array"), length-append words name)

invoke_within : (texts : List ℕ) → Within longest texts → Within (much + 2 * longest + 30) (invoke_text texts)
unfolding invoke_text method_text class_of name_of descriptor_of
invoke_within texts short =
    let class = class_of texts in
    let name = name_of texts in
    let descriptor = descriptor_of texts in
    let start = ascii "Cannot invoke \"" in
    let method = method_text texts in
    let parameters = parameter_names descriptor in
    let described : length descriptor ≤ longest =
    omega (arith, short, text-within texts (after_text texts (after_text texts 0))) in
    let wide : widest descriptor ≤ 3 * longest + 20 = omega (arith, described) in
    let listed : length descriptor * widest descriptor ≤ much = mul-le-mul described wide in
    let all : length parameters ≤ much = omega (arith, listed, parameters_within descriptor) in
    let called : length method ≤ 2 * longest + 7 =
    omega (
      arith,
      short,
      length-append (class_name class ++ ascii ".") name,
      length-append (class_name class) (ascii "."),
      class_within class,
      text-within texts 0,
      text-within texts (after_text texts 0),
    ) in
    omega (
      arith,
      all,
      called,
      length-append (start ++ method ++ ascii "(" ++ parameters) (ascii ")\""),
      length-append (start ++ method ++ ascii "(") parameters,
      length-append (start ++ method) (ascii "("),
      length-append start method,
    )

field_within :
    (members : List ℕ) (count index : ℕ) (words : List ℕ) → Within 20 words → Within longest members →
    Within (much + 2 * longest + 30) (quoted words (name_of (member_found members index 0 count 0 0)))
unfolding name_of
field_within members count index words brief short =
    let texts = member_found members index 0 count 0 0 in
    omega (
      arith,
      short,
      quoted_within words (name_of texts) brief,
      text-within texts (after_text texts 0),
      found_within members index 0 count 0 0,
    )

pub action_within :
    (wording : Wording) (members : List ℕ) (count : ℕ) (action : Action) → Within longest members →
    Within (much + 2 * longest + 30) (action_text wording members count action)
unfolding action_text
action_within wording members count (ReadField index) short =
    field_within members count index (ascii "Cannot read field ") (lit≤ tt) short
action_within wording members count (AssignField index) short =
    field_within members count index (ascii "Cannot assign field ") (lit≤ tt) short
action_within wording members count (Invoke index) short =
    invoke_within (member_found members index 1 count 0 0) (omega (arith, short, found_within members index 1 count 0 0))
action_within wording members count (LoadArray element) short =
    omega (arith, array_within wording (ascii "Cannot load from ") element (lit≤ tt))
action_within wording members count (StoreArray element) short =
    omega (arith, array_within wording (ascii "Cannot store to ") element (lit≤ tt))
action_within wording members count ReadLength short = lit≤ tt
action_within wording members count ThrowException short = lit≤ tt
action_within wording members count EnterBlock short = lit≤ tt
action_within wording members count ExitBlock short = lit≤ tt

-- ---- the cause

pub cause_within :
    (cause : Option Load) (records : List ℕ) (count : ℕ) (signature : List ℕ) (instance : Bool) →
    Within (length records + 70) (cause_text cause records count signature instance)
unfolding cause_text
cause_within None records count signature instance = none_within (length records + 70)
cause_within (Some l) records count signature instance =
    let name = local_name records count signature instance l.local l.load in
    omega (
      arith,
      length-append (ascii " because \"" ++ name) (ascii "\" is null"),
      length-append (ascii " because \"") name,
      local_within records count signature instance l.local l.load,
    )
