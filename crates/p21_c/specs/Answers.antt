-- What the calls of C answer.
use Rattle.std.specs.Prelude.{◌≡◌, ◌≢◌, ◌↔◌, ◌⊎◌, ◌++◌, ◌∷◌, ℕ, Bool, true, false, IsTrue, List, length, Option, None, Some, Result, Ok, Err, IfErr, Contains}
use Rattle.std.specs.Global.{Vec}
use Rattle.std.specs.Vec.{vec_ptr}
use denote.RawPtr.{Ptr}
use Rattle.p21_spec_basics.specs.Limits.{usual}
use Rattle.p21_c.specs.Contents.{HoldsText, handed_content, kept_in, list_in, output_in, schema_in, session_in}
use Rattle.p21_c.specs.declared.contents.Content.{Content}
use Rattle.p21_spec_laws.specs.CanonicalLaws.{MeanTheSame}
use Rattle.p21_express.specs.ReadSchema.{SchemaRead}
use Rattle.p21_express_outline.specs.declared.fault.SchemaFault.{SchemaFault}
use Rattle.p21_spec_file.specs.Accepted.{IsAccepted}
use Rattle.p21_spec_schema.specs.Schema.{EntityNamed, Place as AttributePlace, PlaceNamed, Schema, attribute_at}
use Rattle.p21_stream.specs.Answers.{IsOnlyCanonicalFile}
use Rattle.p21_stream_output.specs.Output.{Output, output_text}
use Rattle.p21_stream_output.specs.Reading.{Takes, rest_at, start}
use Rattle.p21_stream_output.specs.declared.cursor.Cursor.{Cursor}
use Rattle.p21_stream_statements.specs.Source.{IsOfBytes}
use Rattle.p21_stream_statements.specs.declared.fault.Fault.TheVariants.{NoMemory}
use Rattle.p21_stream_statements.specs.declared.refusal.Refusal.{Refusal}
use Rattle.p21_stream.specs.Canonical.{IsCanonicalOutput}
use Rattle.p21_stream.specs.Held.{SessionHeld, limits_of, refusal_of, schema_of}
use Rattle.p21_stream.specs.Histories.{FeedChecks, FeedGives, FeedNeedsNoMemory, FinishGives, KeepsSchema, RefusesAgain, RefusesAtEnd, Stands, nothing_taken}
use Rattle.p21_stream_store.specs.StoredInstance.{instance_names}
use Rattle.p21_c.specs.Reports.{begins_at, counted_answer, counts_of, extent_of, listed_count, read_of, done, refused, misused, failed, file_subject, second_subject, done_answer, misused_answer, no_memory_answer, accepted_answer, refused_answer, schema_refused_answer}
use Rattle.p21_c.specs.Places.{IsPlaceIn}
use Rattle.p21_c.specs.declared.answers.Answer.{Answer}
use Rattle.p21_c.specs.declared.answers.Report.{Report}
use Rattle.p21_grammar_tree.specs.View.{part_views}
use Rattle.p21_spec_syntax.specs.WellFormedFile.{IsIllFormed}
use Rattle.p21_stream.specs.Listed.{refusal_at}
use Rattle.p21_stream.specs.Survey.{ListsAtMost, SurveysInput, asked_for}
use Rattle.p21_stream.specs.declared.listing.LocatedSurvey.{LocatedSurvey}
use Rattle.p21_stream_syntax.specs.Walk.{IsFoundOf}
use Rattle.p21_stream_syntax.specs.declared.well_formed.WellFormed.{WellFormed}
use Rattle.p21_syntax_words.specs.HeaderText.{header_text}
use Rattle.p21_syntax_words.specs.KeywordCounts.{counts_text}
use Rattle.p21_c.specs.declared.places.Place.{Place}

-- ---- what is handed out

-- what was made is held from now on; where nothing was, what was held before
abbrev pub HoldsMade : (Option Content → Type 0) → Option Content → Option Content → Type 0
HoldsMade IsMade old new = (made : Option Content) × IsMade made × (new ≡ handed_content made old)

-- ---- schemas

-- the schema that the text declares; or nothing, since it declares none or there is no memory
abbrev pub MakesSchema : List ℕ → Answer → Option Content → Type 0
MakesSchema text answer made =
    ((s : Schema) × SchemaRead text (Ok s) × (schema_in made ≡ Some s) × (answer ≡ done_answer))
    ⊎ ((fault : SchemaFault) × SchemaRead text (Err fault) × (made ≡ None) × (answer ≡ schema_refused_answer fault))
    ⊎ ((made ≡ None) × (answer ≡ no_memory_answer))

-- a schema is kept; or nothing, since there is no memory
abbrev pub StoresSchema : Schema → Answer → Option Content → Type 0
StoresSchema s answer made = ((schema_in made ≡ Some s) × (answer ≡ done_answer)) ⊎ ((made ≡ None) × (answer ≡ no_memory_answer))

-- another handle of the schema that is held; or nothing
abbrev pub SharesSchema : Option Schema → ℕ → Option Content → Type 0
SharesSchema None status made = (made ≡ None) × (status ≡ misused)
SharesSchema (Some s) status made = ((schema_in made ≡ Some s) × (status ≡ done)) ⊎ ((made ≡ None) × (status ≡ failed))

-- the name of an attribute behind that of the entity that declares it, with a point between
abbrev pub IsNameOf : Schema → AttributePlace → List ℕ → Type 0
IsNameOf s place text = (entity : List ℕ) × (attribute : List ℕ) × EntityNamed s place.entity entity × PlaceNamed s place attribute
    × (text ≡ entity ++ 46 ∷ attribute)

-- it is handed out; or nothing
abbrev pub MakesName : Option Schema → AttributePlace → ℕ → Option Content → Type 0
MakesName None place status made = (made ≡ None) × (status ≡ misused)
MakesName (Some s) place status made =
    ((text : List ℕ) × IsNameOf s place text × HoldsText made text × (status ≡ done))
    ⊎ ((attribute_at s place ≡ None) × (made ≡ None) × (status ≡ refused))
    ⊎ ((made ≡ None) × (status ≡ failed))

-- ---- files in memory

-- a text is accepted as this; what is written of it is its only canonical file
abbrev pub IsAcceptedText : Schema → List ℕ → Output → Type 0
IsAcceptedText s text output = IsCanonicalOutput s usual text output × IsOnlyCanonicalFile s usual text (output_text output)

-- a text is refused only where it isn't accepted, or there was no memory
abbrev pub RefusesText : Schema → List ℕ → Refusal → Type 0
RefusesText s text refusal = (refusal.fault ≢ NoMemory → ¬ IsAccepted s usual text) × IsOfBytes refusal.fault

abbrev pub IsAcceptedBy : Schema → List ℕ → Answer → Type 0
IsAcceptedBy s text answer = (output : Output) × IsAcceptedText s text output × (answer ≡ accepted_answer output)

abbrev pub IsRefusedBy : ℕ → Schema → List ℕ → Answer → Type 0
IsRefusedBy subject s text answer = (refusal : Refusal) × RefusesText s text refusal × (answer ≡ refused_answer subject refusal)

abbrev pub ChecksFile : Option Schema → List ℕ → Answer → Type 0
ChecksFile None file answer = answer ≡ misused_answer
ChecksFile (Some s) file answer = IsAcceptedBy s file answer ⊎ IsRefusedBy file_subject s file answer

-- the canonical file; or nothing
abbrev pub MakesCanonical : Option Schema → List ℕ → Answer → Option Content → Type 0
MakesCanonical None file answer made = (made ≡ None) × (answer ≡ misused_answer)
MakesCanonical (Some s) file answer made =
    ((output : Output) × IsAcceptedText s file output × HoldsText made (output_text output) × (answer ≡ accepted_answer output))
    ⊎ (IsRefusedBy file_subject s file answer × (made ≡ None))
    ⊎ ((made ≡ None) × (answer ≡ no_memory_answer))

-- whether two files mean the same; or nothing, since one of them is refused or there is no memory
abbrev pub Compares : Option Schema → List ℕ → List ℕ → Answer → Option Bool → Type 0
Compares None first second answer same = (same ≡ None) × (answer ≡ misused_answer)
Compares (Some s) first second answer same =
    ((yes : Bool) × (same ≡ Some yes) × IsAccepted s usual first × IsAccepted s usual second
    × (IsTrue yes ↔ MeanTheSame s usual first second) × (answer ≡ done_answer))
    ⊎ (IsRefusedBy file_subject s first answer × (same ≡ None))
    ⊎ (IsAccepted s usual first × IsRefusedBy second_subject s second answer × (same ≡ None))
    ⊎ ((same ≡ None) × (answer ≡ no_memory_answer))

-- an answer told by 1 and 0; where there is none, what stood there before
abbrev pub told_answer : Option Bool → ℕ → ℕ
told_answer None old = old
told_answer (Some true) old = 1
told_answer (Some false) old = 0

abbrev pub TellsAnswer : (Option Bool → Type 0) → ℕ → ℕ → Type 0
TellsAnswer IsAnswer old new = (same : Option Bool) × IsAnswer same × (new ≡ told_answer same old)

-- ---- sessions

-- a session that has taken nothing, with its schema; or nothing
abbrev pub MakesSession : Option Schema → ℕ → Option Content → Type 0
MakesSession None status made = (made ≡ None) × (status ≡ misused)
MakesSession (Some s) status made =
    ((held : SessionHeld) × (session_in made ≡ Some held) × Stands held nothing_taken × (schema_of held ≡ s) × (limits_of held ≡ usual)
    × (kept_in made ≡ Some s) × (status ≡ done))
    ⊎ ((made ≡ None) × (status ≡ failed))

-- what a piece gives: all that a session's own contract says of it
pub record IsFed (old : SessionHeld) (piece : List ℕ) (result : Result (Unit {0}) Refusal) (new : SessionHeld) : Type 0 where
  pub gives : FeedGives old piece result new
  pub checks : FeedChecks old piece result
  pub no_memory : FeedNeedsNoMemory old piece result
  pub again : RefusesAgain old result new
  pub refused : IfErr result (λ refusal. refusal_of new ≡ Some refusal)
  pub kind : IfErr result (λ refusal. IsOfBytes refusal.fault)
  pub schema : KeepsSchema old new

abbrev pub feed_answer : Result (Unit {0}) Refusal → Answer
feed_answer (Ok taken) = done_answer
feed_answer (Err refusal) = refused_answer file_subject refusal

abbrev pub Feeds : Option SessionHeld → List ℕ → Answer → Option Content → Option Content → Type 0
Feeds None piece answer old new = (new ≡ old) × (answer ≡ misused_answer)
Feeds (Some held) piece answer old new =
    (result : Result (Unit {0}) Refusal) × (after : SessionHeld) × IsFed held piece result after × (session_in new ≡ Some after)
    × (kept_in new ≡ kept_in old) × (answer ≡ feed_answer result)

-- what the end gives: all that a session's own contract says of it
pub record IsFinished (old : SessionHeld) (result : Result Output Refusal) : Type 0 where
  pub gives : FinishGives old result
  pub again : RefusesAtEnd old result
  pub kind : IfErr result (λ refusal. IsOfBytes refusal.fault)

-- the end: what is held is the accepted file with the schema of its session, or nothing any more
abbrev pub Finishes : Option SessionHeld → Answer → Option Content → Option Content → Type 0
Finishes None answer old new = (new ≡ old) × (answer ≡ misused_answer)
Finishes (Some held) answer old new =
    ((output : Output) × IsFinished held (Ok output) × (output_in new ≡ Some output) × (kept_in new ≡ kept_in old)
    × (answer ≡ accepted_answer output))
    ⊎ ((refusal : Refusal) × IsFinished held (Err refusal) × (new ≡ None) × (answer ≡ refused_answer file_subject refusal))

-- where the refusal stands that the session answered
abbrev pub ShowsPlace : Option SessionHeld → ℕ → Place → Place → Type 0
ShowsPlace None status old new = (status ≡ misused) × (new ≡ old)
ShowsPlace (Some held) status old new = (status ≡ done) × IsPlaceIn held new

-- ---- accepted files

-- the statement of the instance of this name, if there is one; or nothing
abbrev pub MakesLine : Option Output → ℕ → ℕ → Option Content → Type 0
MakesLine None name status made = (made ≡ None) × (status ≡ misused)
MakesLine (Some output) name status made =
    ((membership : ℕ) × (text : List ℕ) × Contains output.kept (record { name = name; membership = membership; text = text })
    × HoldsText made text × (status ≡ done))
    ⊎ ((Contains (instance_names output.kept) name → ⊥) × (made ≡ None) × (status ≡ refused))
    ⊎ ((made ≡ None) × (status ≡ failed))

-- the canonical file; or nothing
abbrev pub MakesFile : Option Output → ℕ → Option Content → Type 0
MakesFile None status made = (made ≡ None) × (status ≡ misused)
MakesFile (Some output) status made = (HoldsText made (output_text output) × (status ≡ done)) ⊎ ((made ≡ None) × (status ≡ failed))

-- a buffer takes as many bytes as it has room for of what stands behind a cursor in the canonical file; behind a cursor that
-- begins stands the whole of it
abbrev pub ReadsFile : Option Output → ℕ → Cursor → Cursor → List ℕ → List ℕ → ℕ → ℕ → Type 0
ReadsFile None status cursor_old cursor_new old new count_old count_new = (status ≡ misused) × (cursor_new ≡ cursor_old) × (new ≡ old)
    × (count_new ≡ count_old)
ReadsFile (Some output) status cursor_old cursor_new old new count_old count_new =
    (status ≡ done) × Takes (rest_at output cursor_old) (rest_at output cursor_new) old new count_new
    × (rest_at output start ≡ output_text output)

-- ---- lists

-- what is refused of a file; or nothing, since there is no memory
abbrev pub MakesList : Option Schema → List ℕ → ℕ → Answer → Option Content → Type 0
MakesList None file most answer made = (made ≡ None) × (answer ≡ misused_answer)
MakesList (Some s) file most answer made =
    ((list : LocatedSurvey) × (rest : Option (List ℕ)) × SurveysInput s usual (Some file) rest list.found
    × ListsAtMost (asked_for most) list.found × (list_in made ≡ Some list) × (answer ≡ counts_of list.found))
    ⊎ ((made ≡ None) × (answer ≡ no_memory_answer))

-- how many refusals are listed, and how much of the file they are about
abbrev pub CountsList : Option LocatedSurvey → ℕ → ℕ → ℕ → ℕ → ℕ → Type 0
CountsList None status count_old count_new extent_old extent_new = (status ≡ misused) × (count_new ≡ count_old) × (extent_new ≡ extent_old)
CountsList (Some list) status count_old count_new extent_old extent_new = (status ≡ done) × (count_new ≡ listed_count list.found)
    × (extent_new ≡ extent_of list.found)

-- so many bytes are told, or none are
abbrev pub TellsBytes : Option ℕ → ℕ → ℕ → ℕ → Type 0
TellsBytes None status old new = (status ≡ refused) × (new ≡ old)
TellsBytes (Some bytes) status old new = (status ≡ done) × (new ≡ bytes)

-- how many bytes stand in front of the statement whose refusal ended the reading
abbrev pub TellsRead : Option LocatedSurvey → ℕ → ℕ → ℕ → Type 0
TellsRead None status old new = (status ≡ misused) × (new ≡ old)
TellsRead (Some list) status old new = TellsBytes (read_of list.found) status old new

-- how many bytes stand in front of the statement of the refusal at a number
abbrev pub TellsBegins : Option LocatedSurvey → ℕ → ℕ → ℕ → ℕ → Type 0
TellsBegins None number status old new = (status ≡ misused) × (new ≡ old)
TellsBegins (Some list) number status old new = TellsBytes (begins_at list.found number) status old new

-- the refusal that stands at a number
abbrev pub ShowsListed : Option Refusal → ℕ → Report → Report → Type 0
ShowsListed None status old new = (status ≡ refused) × (new ≡ old)
ShowsListed (Some refusal) status old new = (status ≡ done) × (new ≡ (refused_answer file_subject refusal).report)

abbrev pub ShowsRefusal : Option LocatedSurvey → ℕ → ℕ → Report → Report → Type 0
ShowsRefusal None number status old new = (status ≡ misused) × (new ≡ old)
ShowsRefusal (Some list) number status old new = ShowsListed (refusal_at list.found number) status old new

-- ---- files by themselves

-- the name of the schema, the header in words, and the keywords with their counts
abbrev pub TellsFile : WellFormed → Option Content → Option Content → Option Content → Type 0
TellsFile found schema header keywords = HoldsText schema found.schema.items
    × HoldsText header (header_text (part_views found.header.items)) × HoldsText keywords (counts_text found.keywords)

-- what a well-formed file says of itself; or nothing, since it isn't well formed or there is no memory
abbrev pub TellsSyntax : List ℕ → Answer → Option Content → Option Content → Option Content → Type 0
TellsSyntax file answer schema header keywords =
    ((found : WellFormed) × IsFoundOf usual file found × TellsFile found schema header keywords × (answer ≡ counted_answer found.instances))
    ⊎ ((refusal : Refusal) × (refusal.fault ≢ NoMemory → IsIllFormed usual file) × IsOfBytes refusal.fault × (schema ≡ None)
    × (header ≡ None) × (keywords ≡ None) × (answer ≡ refused_answer file_subject refusal))
    ⊎ ((schema ≡ None) × (header ≡ None) × (keywords ≡ None) × (answer ≡ no_memory_answer))

-- three texts are held from now on; where one wasn't made, what was held before
abbrev pub HoldsTold : (Option Content → Option Content → Option Content → Type 0) → Option Content → Option Content → Option Content
    → Option Content → Option Content → Option Content → Type 0
HoldsTold AreMade schema_old schema_new header_old header_new keywords_old keywords_new =
    (schema : Option Content) × (header : Option Content) × (keywords : Option Content) × AreMade schema header keywords
    × (schema_new ≡ handed_content schema schema_old) × (header_new ≡ handed_content header header_old)
    × (keywords_new ≡ handed_content keywords keywords_old)

-- ---- texts

-- where the bytes lie that a handle holds, and how many they are
abbrev pub ShowsText : Option (Vec ℕ) → ℕ → Ptr → Ptr → ℕ → ℕ → Type 0
ShowsText None status at_old at_new length_old length_new = (status ≡ misused) × (at_new ≡ at_old) × (length_new ≡ length_old)
ShowsText (Some text) status at_old at_new length_old length_new = (status ≡ done) × (at_new ≡ vec_ptr text)
    × (length_new ≡ length text.items)
