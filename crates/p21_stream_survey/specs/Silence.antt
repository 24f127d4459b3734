-- What the fields of a silence hold.
use Rattle.p21_stream_survey.specs.Telling as telling
use Rattle.p21_stream_survey.specs.declared.references.Silence.{Silence}

abbrev pub silence_of : Silence → telling.Silence
silence_of silence = record { names = silence.names.now; passed = silence.passed.now; is_broken = silence.is_broken }
