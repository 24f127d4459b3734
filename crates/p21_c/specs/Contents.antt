-- What a handle holds.
use Rattle.std.specs.Prelude.{◌≡◌, List, ℕ, Option, None, Some}
use Rattle.std.specs.Global.{Box, Vec}
use Rattle.p21_c.specs.declared.contents.Content.{Content}
use Rattle.p21_c.specs.declared.contents.Content.TheVariants as content
use Rattle.p21_c.specs.declared.contents.Taken.{Taken}
use Rattle.p21_c.specs.declared.contents.Taken.TheVariants as taken
use Rattle.p21_model_uses.specs.UseRows.{UseRow}
use Rattle.p21_spec_schema.specs.Schema.{Schema}
use Rattle.p21_stream_output.specs.Output.{Output}
use Rattle.p21_stream.specs.Held.{SessionHeld}
use Rattle.p21_stream.specs.declared.listing.LocatedSurvey.{LocatedSurvey}

-- the content of a box, if there is one
abbrev pub boxed_content : Option (Box Content) → Option Content
boxed_content None = None
boxed_content (Some b) = Some b.value

-- what is held, where it is of one sort
abbrev pub schema_in : Option Content → Option Schema
schema_in (Some (content.Schema shared)) = Some shared.value
schema_in other = None

abbrev pub session_in : Option Content → Option SessionHeld
session_in (Some (content.Session session schema)) = Some session
session_in other = None

abbrev pub output_in : Option Content → Option Output
output_in (Some (content.Accepted output schema)) = Some output
output_in other = None

abbrev pub text_in : Option Content → Option (Vec ℕ)
text_in (Some (content.Text text)) = Some text
text_in other = None

abbrev pub list_in : Option Content → Option LocatedSurvey
list_in (Some (content.List list)) = Some list
list_in other = None

-- an accepted file, and the schema under which it was accepted
abbrev pub model_in : Option Content → Option (Output × Schema)
model_in (Some (content.Accepted output schema)) = Some (output, schema.value)
model_in other = None

-- the schema that a session or an accepted file keeps
abbrev pub kept_in : Option Content → Option Schema
kept_in (Some (content.Session session schema)) = Some schema.value
kept_in (Some (content.Accepted output schema)) = Some schema.value
kept_in other = None

abbrev pub users_in : Option Content → Option (List UseRow)
users_in (Some (content.Users users)) = Some users
users_in other = None

-- a session that was held is taken, and what is no session stays
abbrev pub TakesSession : Option Content → Taken → Type 0
TakesSession held (taken.Session session schema place) = held ≡ Some (content.Session session schema)
TakesSession held (taken.Other rest) = (boxed_content rest ≡ held) × (session_in held ≡ None)

-- what a handle holds once it is handed something, or nothing
abbrev pub handed_content : Option Content → Option Content → Option Content
handed_content None old = old
handed_content (Some new) old = Some new

-- a text of these bytes is held
abbrev pub HoldsText : Option Content → List ℕ → Type 0
HoldsText (Some (content.Text text)) bytes = text.items ≡ bytes
HoldsText other bytes = ⊥
