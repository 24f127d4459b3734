-- What the limits bound of the bytes that are read of a file.
use Rattle.std.proofs.Common.{◌≡◌, ◌≤◌, ℕ, List, [], ◌++◌, Bool, true, false, append_assoc, length, refl, sym, ap, ◌∙◌, length-append, arith}
use Rattle.std.proofs.lemmas.List.{append-nil}
use Rattle.p21_spec_basics.specs.Limits.{Limits}
use Rattle.p21_spec_survey.specs.Rules.{Rules}
use Rattle.p21_stream_log.specs.Laws.{AheadFits}
use Rattle.p21_stream_log.specs.Log as log
use Rattle.p21_stream_log.specs.Log.{IsFileOf, Known, Logs, Point}
use Rattle.p21_stream_statements.proofs.Within.{source-within}
use Rattle.p21_stream_statements.specs.StatementReader.{limits_of}

-- what is read of a file, with the buffer, is no longer than a file may be
pub read-within : (s : Rules) (limits : Limits) (known : Known) (held : log.Held) (point : Point) → Logs s limits known held point
    → length (point.read.bytes ++ held.buffer) ≤ limits.file_source
read-within s limits known held point logs =
    let within = source-within held.reader logs.history logs.live in
    let most : (limits_of held.reader).1 ≡ limits.file_source = ap (λ (l : ℕ × ℕ). l.1) logs.limits_are in
    let taken = ap length logs.taken_are in
    let gapped = length-append logs.gapped held.buffer in
    let all = length-append point.read.bytes held.buffer in
    let size = logs.size in
    omega (arith, within, most, taken, gapped, all, size)

no-longer : (front all rest : List ℕ) → all ≡ front ++ rest → length front ≤ length all
no-longer front all rest is = let size = ap length is in let sum = length-append front rest in omega (arith, size, sum)

pub ahead-fits : AheadFits
ahead-fits s limits known point held logs are =
    let of : IsFileOf known known.bytes = by known.is_all in
    let (rest, is) = logs.file_is known.bytes of in
    no-longer (point.read.bytes ++ (held.buffer ++ point.ahead)) known.bytes rest
    (is ∙ (ap (λ (l : List ℕ). point.read.bytes ++ l) (sym (append_assoc held.buffer point.ahead rest))
    ∙ sym (append_assoc point.read.bytes (held.buffer ++ point.ahead) rest)))
  where
    by : (is_all : Bool) → IsFileOf (record { bytes = known.bytes; is_all = is_all }) known.bytes
    by true = (are, refl)
    by false = (are, ([], sym (append-nil known.bytes)))
