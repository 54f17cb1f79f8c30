-- Every row holds: antt computes both sides of each.
-- Assumes nothing.
use mathlib.Core.Path.{refl}
use Rattle.basics.specs.Bytes.{u16_at, u32_at}
use Rattle.jvms.specs.Format.{format_of}
use Rattle.reads.specs.Signed.{lifted, i16_at, i32_at}
use Rattle.bytecode.specs.Length.{table_entries, lookup_pairs, table_bytes, lookup_bytes, wide_bytes, bytes_of, within, document_length, length_of}
use Rattle.fixed.specs.Fixed.{fixed_length}
use Rattle.greatest.specs.Greatest.{up_to, greatest}
use Rattle.leader.specs.Scan.{scan_from, instructions, scan_count, leaders_of, answered, block_leader}
use Rattle.branch.specs.Branch.{branch_of}
use Rattle.greatest.specs.Greatest.{target}
use Rattle.leader.specs.Targets.{entry_targets, switch_targets, leaders_at}
use Rattle.descriptor.specs.Readers.{slots_of, judged, parameters, starting_at, parameter_at, closing, slots_behind, return_slots, field_slots}
use Rattle.bytesearch.specs.Search.{first_in, first_from, run}
use Rattle.fieldtype.specs.Types.{type_behind, field_type_at, type_slots, types_from, types_at, types_of}
use Rattle.text.specs.Decimal.{digits, decimal}
use Rattle.text.specs.Writing.{over}
use Rattle.classname.specs.ClassName.{dot_of, dotted, class_name}
use Rattle.names.specs.Names.{base_names, base_name, element_name, bracket_pairs, type_name, type_names, commaed, joined, parameter_names}
use Rattle.jletter.specs.Letter.{is_base}
use Rattle.jtype.specs.OneType.{unnamed_type, element, type_in, type_at}
use Rattle.refusal.specs.Refusal.{number_of}
use Rattle.jdescriptor.specs.Answer.{answer}
use Rattle.judging.specs.Judged.{numbered}
use Rattle.judging.specs.Reading.{type_reading, return_at, parameters_at, method_reading}
use Rattle.number.specs.Number.{number_from, number_at}
use Rattle.items.specs.Text.{text_at, text_part, after_text, class_of, name_of, descriptor_of}
use Rattle.tables.specs.Layout.{members_then, records_then, run_by}
use Rattle.tables.specs.LocalRecord.{record_at, records_in}
use Rattle.tables.specs.Member.{member_at}
use Rattle.lookup.specs.Lookup.{member_found}
use Rattle.casefile.specs.Parts.{parts_of}
use Rattle.casefile.specs.Whole.{tables_at, places_in, case_of}
use Rattle.effects.specs.Depth.{rule_of, depth_of}
use Rattle.effects.specs.Lookup.{lookup_in}
use Rattle.effects.specs.Rows.{row_of, added_row, widened_row, full_row_of}
use Rattle.walk.specs.Room.{completed_from, completed, block_walk_in}
use Rattle.walk.specs.Walk.{step, walk_from, walk}
use Rattle.fault.specs.Decoding.{action_of, constructs, decoded}
use Rattle.search.specs.Search.{first_match}
use Rattle.locals.specs.Name.{signature_parameter, numbered_name, local_name}
use Rattle.action.specs.Action.{action_text}
use Rattle.message.specs.Message.{cause_text, message_text}
use Rattle.words.specs.Words.{element_text, method_text, invoke_text, array_text}
use Rattle.answer.specs.Answer.{numbered as reported}
use Rattle.locals.specs.Name.{is_instance}
use Rattle.report.specs.Report.{message_of, said_in, report_in, reported_by, report_worded, reported_worded}
use Rattle.trace.specs.Trace.{slot_from, traced}
use Rattle.rows.specs.Rows.{AllHold, none, ◌&◌, rows}

pub rows_hold : AllHold rows
unfolding rows
    length_of document_length within bytes_of format_of wide_bytes table_bytes table_entries lookup_bytes lookup_pairs i16_at i32_at lifted u32_at u16_at
    block_leader answered instructions scan_from scan_count leaders_of leaders_at branch_of target entry_targets switch_targets greatest up_to
    parameters judged slots_of types_of types_at types_from field_type_at type_behind run first_from first_in type_slots return_slots closing slots_behind
    parameter_names joined commaed type_names type_name element_name base_name base_names bracket_pairs class_name dotted dot_of
    numbered number_of answer type_reading method_reading parameters_at return_at type_at type_in element is_base unnamed_type
    reported report_in reported_by report_worded reported_worded case_of places_in tables_at text_at number_at number_from run_by members_then records_then parts_of
    said_in decoded depth_of rule_of action_of constructs lookup_in member_found member_at text_part after_text class_of name_of
    descriptor_of traced block_walk_in completed completed_from walk walk_from step row_of added_row widened_row full_row_of field_slots fixed_length slot_from
    message_of message_text action_text array_text element_text invoke_text method_text cause_text local_name record_at records_in first_match signature_parameter
    parameter_at starting_at numbered_name decimal digits is_instance over
rows_hold =
    refl & refl & refl & refl & refl & refl & refl & refl & refl & refl & refl & refl
    & refl & refl & refl & refl & refl & refl & refl & refl & refl & refl & refl & refl
    & refl & refl & refl & refl & refl & refl & refl & refl & refl & refl & refl & refl
    & refl & refl & refl & refl & refl & refl & refl & refl & refl & refl & refl & refl
    & refl & refl & refl & refl & refl & refl & refl & refl & refl & refl & refl & refl
    & refl & refl & refl & refl & refl & refl & refl & refl & refl & refl & refl & refl
    & refl & refl & refl & refl & refl & refl & refl & refl & refl & refl & refl & refl
    & refl & refl & refl & refl & refl & refl & refl & refl & refl & refl & refl & refl
    & refl & refl & refl & refl & refl & none
