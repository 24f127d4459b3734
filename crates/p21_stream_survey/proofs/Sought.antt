-- Where the reading goes on behind a broken statement, looked for piece by piece.
use Rattle.std.proofs.Common.{◌<◌, ◌↔◌, ◌≡◌, ◌+◌, ℕ, suc, List, [], ◌∷◌, ◌++◌, length, take, drop, Some, None, refl, sym, ap, subst, ◌∙◌}
use Rattle.std.proofs.Common.{append_assoc, length-append, arith}
use Rattle.p21_spec_basics.specs.Limits.{Limits}
use Rattle.p21_spec_survey.specs.Rules.{Rules}
use Rattle.p21_spec_survey.specs.Survey.{Subject, at_statement}
use Rattle.p21_stream_log.specs.Going.{behind_stretch}
use Rattle.p21_stream_log.specs.Log.{Held, Known, Logs, Point}
use Rattle.p21_stream_log.specs.Passage.{FurtherGives, IsBrokenBy, IsNextIn, PassageFor}
use Rattle.p21_stream_log.specs.declared.passage.Passage.{Passage}
use Rattle.p21_stream_log.specs.declared.passage.Passage.TheVariants.{GoesOn}
use Rattle.p21_stream_resume.specs.Seeking as seeking
use Rattle.p21_stream_statements.specs.Fault.{fault_number}
use Rattle.p21_stream_statements.specs.declared.fault.Fault.{Fault}
use Rattle.p21_stream_survey.proofs.PassedOn.{passed-reads}
use Rattle.p21_stream_survey.specs.Passing.{ListsPassed}
use Rattle.p21_stream_survey.specs.Seeking.{IsSought, SeeksFurther}
use Rattle.p21_stream_survey.specs.declared.listing.Listing.{Listing}

-- ---- some of the bytes ahead are taken behind the statement

nothing-in_front : (front piece : List ℕ) → front ++ piece ≡ [] → front ≡ []
nothing-in_front [] piece is = refl
nothing-in_front (x ∷ xs) piece is = absurd cc

next-further : (s : Rules) (limits : Limits) (file : List ℕ) (point : Point) (statement front piece more : List ℕ) (number : ℕ)
    (subject : Subject) (begins : ℕ) → IsNextIn s limits file point.read statement front (piece ++ more) number subject begins
    → IsNextIn s limits file point.read statement (front ++ piece) more number subject begins
next-further s limits file point statement front piece more number subject begins next = record {
  to_pass = next.to_pass;
  statement_is = next.statement_is;
  rest = next.rest;
  behind_are = next.behind_are ∙ ap (λ (l : List ℕ). front ++ l) (append_assoc piece more next.rest)
      ∙ sym (append_assoc front piece (more ++ next.rest));
  begins_at = next.begins_at;
}

pub broken-further : (s : Rules) (limits : Limits) (known : Known) (point : Point) (held : Held) (statement front piece more : List ℕ)
    (number : ℕ) (subject : Subject) (begins : ℕ)
    → IsBrokenBy s limits known point held statement front (piece ++ more) number subject begins
    → IsBrokenBy s limits known point held statement (front ++ piece) more number subject begins
broken-further s limits known point held statement front piece more number subject begins broken = record {
  stood = broken.stood;
  state = broken.state;
  lexed = broken.lexed;
  to_end = λ none inside ends. broken.to_end (nothing-in_front front piece none) inside ends;
  next_in = λ file of. next-further s limits file point statement front piece more number subject begins (broken.next_in file of);
}

-- ---- what the next piece gives

longer : (taken : ℕ) (statement front piece : List ℕ) → taken ≡ length (statement ++ front)
    → taken + length piece ≡ length (statement ++ (front ++ piece))
longer taken statement front piece is =
    let one = length-append statement front in
    let two = length-append statement (front ++ piece) in
    let three = length-append front piece in
    omega (arith, is, one, two, three)

pub seeks-none : (old new : Held) (before : Listing) (seeker after : seeking.Held) (fault : Fault) (begins taken : ℕ) (piece : List ℕ)
    → FurtherGives old seeker taken piece None new after → SeeksFurther old before seeker fault begins taken piece None new before after
seeks-none old new before seeker after fault begins taken piece (same, takes) = (
  refl,
  λ s limits known point statement front more sought. record {
    broken = subst (λ (held : Held). IsBrokenBy s limits known point held statement (front ++ piece) more (fault_number fault)
        (at_statement (suc point.read.count)) begins) (sym same)
        (broken-further s limits known point old statement front piece more (fault_number fault) (at_statement (suc point.read.count))
        begins sought.broken);
    by = takes point statement front sought.by;
    taken_is = longer taken statement front piece sought.taken_is;
    of_file = sought.of_file;
  },
)

pub seeks-on : (old new : Held) (before behind : Listing) (seeker after : seeking.Held) (fault : Fault) (begins taken count passed size : ℕ)
    (piece : List ℕ) → FurtherGives old seeker taken piece (Some (count, GoesOn passed)) new after
    → (0 < size) ↔ (0 < taken + length piece) → ListsPassed before fault begins passed size (GoesOn passed) behind
    → SeeksFurther old before seeker fault begins taken piece (Some (count, GoesOn passed)) new behind after
seeks-on old new before behind seeker after fault begins taken count passed size piece (_, gives) sized lists s limits known point statement
    front more sieve sought has =
    let number : ℕ = fault_number fault in
    let subject = at_statement (suc point.read.count) in
    let all : List ℕ = statement ++ (front ++ piece) in
    let (logs, ahead) = gives s limits known point statement front more number subject begins sought.taken_is sought.by
    (broken-further s limits known point old statement front piece more number subject begins sought.broken) in
    let one = length-append statement (front ++ piece) in
    let two = length-append front piece in
    let three = length-append statement front in
    let taken_is = sought.taken_is in
    let same : taken + length piece ≡ length all = omega (arith, one, two, three, taken_is) in
    let ahead_is : drop passed all ++ more ≡ after.begun ++ (drop count piece ++ more) = ap (λ (l : List ℕ). l ++ more) ahead
    ∙ append_assoc after.begun (drop count piece) more in (
      record {
        logs = subst (λ (l : List ℕ). Logs s limits known new (behind_stretch point (take passed all) number subject begins l)) ahead_is
            logs;
        has = passed-reads s limits point.read all begins passed size fault sieve before behind has lists sought.of_file
            (subst (λ (n : ℕ). (0 < size) ↔ (0 < n)) same sized);
      },
      ahead,
    )

-- whatever the call that lists it answers, and however the passage is named
pub seeks-listed : (old new : Held) (before behind : Listing) (seeker after : seeking.Held) (fault : Fault)
    (begins taken count passed size : ℕ) (piece : List ℕ) (passage listed : Passage) → passage ≡ GoesOn passed
    → FurtherGives old seeker taken piece (Some (count, passage)) new after
    → (0 < size) ↔ (0 < taken + length piece) → ListsPassed before fault begins passed size listed behind
    → SeeksFurther old before seeker fault begins taken piece (Some (count, listed)) new behind after
seeks-listed old new before behind seeker after fault begins taken count passed size piece passage listed is gives sized lists =
    subst (λ (p : Passage). SeeksFurther old before seeker fault begins taken piece (Some (count, p)) new behind after)
    (sym lists.passage_is)
    (seeks-on old new before behind seeker after fault begins taken count passed size piece
    (subst (λ (p : Passage). FurtherGives old seeker taken piece (Some (count, p)) new after) is gives) sized
    (subst (λ (p : Passage). ListsPassed before fault begins passed size p behind) lists.passage_is lists))

-- what the log says where nothing is listed
pub seeks-past : (old new : Held) (seeker after : seeking.Held) (fault : Fault) (begins taken count : ℕ) (piece : List ℕ)
    (found passage : Passage) → found ≡ passage → FurtherGives old seeker taken piece (Some (count, found)) new after
    → (s : Rules) (limits : Limits) (known : Known) (point : Point) (statement front more : List ℕ)
    → IsSought s limits known point old statement front (piece ++ more) fault begins taken seeker
    → PassageFor s limits known point statement (front ++ piece) more (fault_number fault) (at_statement (suc point.read.count)) begins
    passage new
seeks-past old new seeker after fault begins taken count piece found passage is (_, gives) s limits known point statement front more
    sought =
    let number : ℕ = fault_number fault in
    let subject = at_statement (suc point.read.count) in
    subst (λ (p : Passage). PassageFor s limits known point statement (front ++ piece) more number subject begins p new) is
    (gives s limits known point statement front more number subject begins sought.taken_is sought.by
    (broken-further s limits known point old statement front piece more number subject begins sought.broken)).0
