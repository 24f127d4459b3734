-- A statement of which a step refused some bytes is passed over.
use Rattle.std.proofs.Common.{◌-◌, take, length-append, arith, ◌≡◌, ℕ, suc, List, ◌++◌, length, drop, inl, refl, sym, ap, subst, ◌∙◌}
use Rattle.std.proofs.lemmas.List.{take_all}
use Rattle.std.proofs.Math.Seq.{drop-append_seam}
use Rattle.p21_spec_basics.specs.Limits.{Limits}
use Rattle.p21_spec_survey.specs.Rules.{Rules}
use Rattle.p21_spec_survey.specs.Survey.{at_statement}
use Rattle.p21_stream_log.specs.Broken.{IsFrontOf}
use Rattle.p21_stream_log.specs.Going.{StoodFor}
use Rattle.p21_stream_log.specs.Laws.{RefusedIsBroken}
use Rattle.p21_stream_log.specs.Log.{Held, Known, Point}
use Rattle.p21_stream_log.specs.Passage.{PassageGives}
use Rattle.p21_stream_log.specs.declared.passage.Passage.{Passage}
use Rattle.p21_stream_statements.specs.Fault.{fault_number}
use Rattle.p21_stream_statements.specs.declared.fault.Fault.{Fault}
use Rattle.p21_stream_survey.specs.Breaking.{IsRefusedAt, PassesBroken}

-- what is held stood for the point
stood : (s : Rules) (limits : Limits) (known : Known) (point : Point) (held : Held) (piece more : List ℕ) (fault : Fault) (begins : ℕ)
    → IsRefusedAt s limits known point held piece more fault begins → StoodFor s limits known point held
stood s limits known point held piece more fault begins at =
    record { before = at.refused.before; logs = at.refused.logs; stays = at.refused.stays; of_instance = inl at.between }

pub passes-broken : RefusedIsBroken → (old new : Held) (fault : Fault) (bytes front behind : List ℕ) (passage : Passage)
    → IsFrontOf bytes front → bytes ≡ front ++ behind → PassageGives old front behind passage new → PassesBroken old fault bytes passage new
passes-broken broken old new fault bytes front behind passage is_front apart gives s limits known point piece more begins are at =
    let in_data = (at.passed.in_data s limits known point (stood s limits known point old piece more fault begins at)).0 refl in
    let whole : old.buffer ++ piece ≡ front ++ behind = sym are ∙ apart in
    let by = broken s limits known point old piece front behind more fault begins at.refused at.between at.ahead at.passed.gone_on in_data
    whole (subst (λ (l : List ℕ). IsFrontOf l front) are is_front) at.passed.opens at.begins_in in
    record {
      front = front;
      behind = behind;
      apart = apart;
      broken = by;
      gives =
          gives.1 s limits known point more (fault_number fault) (at_statement (suc point.read.count)) begins by;
    }

-- the bytes behind a front
pub front-apart : (bytes front : List ℕ) → IsFrontOf bytes front → bytes ≡ front ++ drop (length front) bytes
front-apart bytes front is = is.bytes_are ∙ ap (λ (l : List ℕ). front ++ l)
    (sym (ap (drop (length front)) is.bytes_are ∙ drop-append_seam front is.rest))

-- as they are cut from the bytes
pub slice-apart : (bytes front : List ℕ) → IsFrontOf bytes front
    → bytes ≡ front ++ take (length bytes - length front) (drop (length front) bytes)
slice-apart bytes front is =
    let rest : List ℕ = drop (length front) bytes in
    let apart = front-apart bytes front is in
    let size = ap length apart in
    let sum = length-append front rest in
    apart ∙ ap (λ (l : List ℕ). front ++ l) (sym (take_all (length bytes - length front) rest (omega (arith, size, sum))))
