-- What stands at a number in the list of a survey (this project's own).
use Rattle.std.specs.Prelude.{ℕ, Option, None, slice_get}
use Rattle.p21_stream.specs.declared.listing.Surveyed.{Surveyed}
use Rattle.p21_stream.specs.declared.listing.Surveyed.TheVariants.{Accepted, Refused}
use Rattle.p21_stream_statements.specs.declared.refusal.Refusal.{Refusal}

-- the refusal of this number in the list, counted from 0; none of a file that is accepted
abbrev pub refusal_at : Surveyed → ℕ → Option Refusal
refusal_at (Accepted accepted) number = None
refusal_at (Refused refusals) number = slice_get refusals.list.items number
