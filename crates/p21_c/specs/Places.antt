-- Where refusals stand, as C has it.
use Rattle.std.specs.Prelude.{◌≡◌, ℕ, Option, None, Some}
use Rattle.p21_c.specs.declared.places.Place.{Place}
use Rattle.p21_stream.specs.Held.{SessionHeld}
use Rattle.p21_stream.specs.Histories.{HasPlaceOf}
use Rattle.p21_stream_statements.specs.declared.place.Place.{Place as BytePlace}

-- the byte of a place, and whether one is known
abbrev pub IsAt : Option BytePlace → Place → Type 0
IsAt None place = (place.known ≡ 0) × (place.byte ≡ 0)
IsAt (Some found) place = (place.known ≡ 1) × (place.byte ≡ found.byte)

-- where the refusal stands that a session answered
abbrev pub IsPlaceIn : SessionHeld → Place → Type 0
IsPlaceIn held place = (found : Option BytePlace) × HasPlaceOf held found × IsAt found place
