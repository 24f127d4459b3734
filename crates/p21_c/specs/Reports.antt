-- The statuses and reports of the calls of C.
use Rattle.std.specs.Prelude.{ℕ, Option, None, Some, length, slice_get}
use Rattle.p21_c.specs.declared.answers.Answer.{Answer}
use Rattle.p21_express_outline.specs.Fault as schema_fault
use Rattle.p21_express_outline.specs.declared.fault.SchemaFault.{SchemaFault}
use Rattle.p21_express_outline.specs.declared.fault.SchemaFault.TheVariants as schema_faults
use Rattle.p21_grammar.specs.declared.fault.GrammarFault.{GrammarFault}
use Rattle.p21_grammar.specs.declared.fault.GrammarFault.TheVariants as form
use Rattle.p21_stream_survey.specs.declared.listed.Extent.{Extent}
use Rattle.p21_stream_survey.specs.declared.listed.Extent.TheVariants.{Most, ReadTo, Whole}
use Rattle.p21_stream.specs.declared.listing.Surveyed.{Surveyed}
use Rattle.p21_stream.specs.declared.listing.Surveyed.TheVariants as surveyed
use Rattle.p21_stream_output.specs.Output.{Output, output_text}
use Rattle.p21_stream_statements.specs.Fault.{fault_number}
use Rattle.p21_stream_statements.specs.declared.fault.Fault.{Fault}
use Rattle.p21_stream_statements.specs.declared.fault.Fault.TheVariants.{Grammar, NoMemory, Token}
use Rattle.p21_stream_statements.specs.declared.refusal.At.{At}
use Rattle.p21_stream_statements.specs.declared.refusal.At.TheVariants.{Statement, Instance}
use Rattle.p21_stream_statements.specs.declared.refusal.Refusal.{Refusal}
use Rattle.p21_tokens_automaton.specs.declared.mode.Absent.{Absent}
use Rattle.p21_tokens_automaton.specs.declared.mode.Absent.TheVariants.{UserKeyword, Scope, ConstantName, ValueName, Anchor, Reference, Signature, SecondSection, NoDataSection}
use Rattle.p21_tokens.specs.declared.fault.TokenFault.{TokenFault}
use Rattle.p21_tokens.specs.declared.fault.TokenFault.TheVariants as token

-- ---- statuses

abbrev pub done : ℕ
done = 0

abbrev pub refused : ℕ
refused = 1

abbrev pub misused : ℕ
misused = 2

abbrev pub failed : ℕ
failed = 3

-- want of memory fails, all else is refused
abbrev pub status_of : Fault → ℕ
status_of NoMemory = failed
status_of fault = refused

abbrev pub schema_status_of : SchemaFault → ℕ
schema_status_of schema_faults.NoMemory = failed
schema_status_of fault = refused

-- ---- reports

-- what is refused: nothing, the schema, the file or the first of two, the second
abbrev pub nothing : ℕ
nothing = 0

abbrev pub schema_subject : ℕ
schema_subject = 1

abbrev pub file_subject : ℕ
file_subject = 2

abbrev pub second_subject : ℕ
second_subject = 3

-- where: at a statement, or in an instance
abbrev pub location_of : At → ℕ
location_of (Statement number) = 1
location_of (Instance name) = 2

abbrev pub location_number_of : At → ℕ
location_number_of (Statement number) = number
location_number_of (Instance name) = name

-- what is left out
abbrev pub absent_number_of : Absent → ℕ
absent_number_of UserKeyword = 1
absent_number_of Scope = 2
absent_number_of ConstantName = 3
absent_number_of ValueName = 4
absent_number_of Anchor = 5
absent_number_of Reference = 6
absent_number_of Signature = 7
absent_number_of SecondSection = 8
absent_number_of NoDataSection = 9

abbrev pub absent_token_of : TokenFault → ℕ
absent_token_of (token.LeftOut absent) = absent_number_of absent
absent_token_of fault = 0

abbrev pub absent_form_of : GrammarFault → ℕ
absent_form_of (form.LeftOut absent) = absent_number_of absent
absent_form_of fault = 0

abbrev pub absent_of : Fault → ℕ
absent_of (Token fault) = absent_token_of fault
absent_of (Grammar fault) = absent_form_of fault
absent_of fault = 0

abbrev pub quiet_answer : ℕ → Answer
quiet_answer status = record {
  status = status;
  report =
      record { subject = nothing; number = 0; absent = 0; place = 0; at = 0; instances = 0; bytes = 0 };
}

abbrev pub done_answer : Answer
done_answer = quiet_answer done

abbrev pub misused_answer : Answer
misused_answer = quiet_answer misused

abbrev pub no_memory_answer : Answer
no_memory_answer = record {
  status = failed;
  report =
      record { subject = nothing; number = 90; absent = 0; place = 0; at = 0; instances = 0; bytes = 0 };
}

abbrev pub accepted_answer : Output → Answer
accepted_answer output = record {
  status = done;
  report =
      record {
        subject = nothing;
        number = 0;
        absent = 0;
        place = 0;
        at = 0;
        instances = length output.kept;
        bytes =
            length (output_text output);
      };
}

abbrev pub counted_answer : ℕ → Answer
counted_answer instances = record {
  status = done;
  report =
      record { subject = nothing; number = 0; absent = 0; place = 0; at = 0; instances = instances; bytes = 0 };
}

abbrev pub refused_answer : ℕ → Refusal → Answer
refused_answer subject refusal = record {
  status = status_of refusal.fault;
  report =
      record {
        subject = subject;
        number = fault_number refusal.fault;
        absent = absent_of refusal.fault;
        place = location_of refusal.at;
        at =
            location_number_of refusal.at;
        instances = 0;
        bytes = 0;
      };
}

-- one of two instances that the model doesn't tell apart is named
abbrev pub alike_answer : ℕ → Answer
alike_answer name = record {
  status = refused;
  report =
      record { subject = file_subject; number = 59; absent = 0; place = 2; at = name; instances = 0; bytes = 0 };
}

abbrev pub schema_refused_answer : SchemaFault → Answer
schema_refused_answer fault = record {
  status = schema_status_of fault;
  report =
      record { subject = schema_subject; number = schema_fault.fault_number fault; absent = 0; place = 0; at = 0; instances = 0; bytes = 0 };
}

-- ---- lists

-- the counts of a file that is accepted
abbrev pub counts_of : Surveyed → Answer
counts_of (surveyed.Accepted output) = accepted_answer output
counts_of (surveyed.Refused refusals) = done_answer

abbrev pub listed_count : Surveyed → ℕ
listed_count (surveyed.Accepted output) = 0
listed_count (surveyed.Refused refusals) = length refusals.list.items

-- how much of the file the refusals are about: all of it, as far as to one that ended the reading, or as many as were asked for
abbrev pub extent_number_of : Extent → ℕ
extent_number_of Whole = 1
extent_number_of (ReadTo bytes) = 2
extent_number_of Most = 3

abbrev pub extent_of : Surveyed → ℕ
extent_of (surveyed.Accepted output) = 1
extent_of (surveyed.Refused refusals) = extent_number_of refusals.extent

-- how many bytes stand in front of the statement whose refusal ended the reading, where one did
abbrev pub bytes_read : Extent → Option ℕ
bytes_read Whole = None
bytes_read (ReadTo bytes) = Some bytes
bytes_read Most = None

abbrev pub read_of : Surveyed → Option ℕ
read_of (surveyed.Accepted output) = None
read_of (surveyed.Refused refusals) = bytes_read refusals.extent

-- how many bytes stand in front of the statement of the refusal at a number, where it is one of a statement
abbrev pub begins_at : Surveyed → ℕ → Option ℕ
begins_at (surveyed.Accepted output) number = None
begins_at (surveyed.Refused refusals) number = slice_get refusals.begins.items number
