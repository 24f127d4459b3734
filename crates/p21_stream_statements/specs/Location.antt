-- Where a refusal of a file is named.
use Rattle.std.specs.Prelude.{ℕ}
use Rattle.p21_stream_statements.specs.declared.fault.Fault.{Fault}
use Rattle.p21_stream_statements.specs.declared.fault.Fault.TheVariants.{Token, Grammar, Check, SchemaName, SectionTwice, DuplicateName, CanonicalTooLong, Dangling, WrongTarget, NoMemory, Read, Write}
use Rattle.p21_stream_statements.specs.declared.refusal.At.{At}
use Rattle.p21_stream_statements.specs.declared.refusal.At.TheVariants.{Statement, Instance}

-- a fault is named with the instance where it is one of a record, of its name or of a reference
abbrev pub location_of : Fault → ℕ → ℕ → At
location_of (Check fault) name statement = Instance name
location_of DuplicateName name statement = Instance name
location_of Dangling name statement = Instance name
location_of WrongTarget name statement = Instance name
location_of (Token fault) name statement = Statement statement
location_of (Grammar fault) name statement = Statement statement
location_of SchemaName name statement = Statement statement
location_of SectionTwice name statement = Statement statement
location_of CanonicalTooLong name statement = Statement statement
location_of NoMemory name statement = Statement statement
location_of Read name statement = Statement statement
location_of Write name statement = Statement statement
