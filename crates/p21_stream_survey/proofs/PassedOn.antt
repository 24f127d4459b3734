-- A broken statement is passed over and listed.
use Rattle.std.proofs.Common.{◌≡◌, ◌<◌, ◌↔◌, ◌⊎◌, ℕ, Bool, IsTrue, zero, suc, List, [], ◌∷◌, ◌++◌, length, take, drop, Result, Ok, Err}
use Rattle.std.proofs.Common.{IfOk, OnOk, inl, inr, sym, ap, subst, ◌∙◌, arith}
use Rattle.std.specs.BTreeSet.{BTreeSet}
use Rattle.p21_spec_basics.specs.Limits.{Limits}
use Rattle.p21_spec_survey.specs.Rules.{Rules}
use Rattle.p21_spec_survey.specs.Survey.{Reading, at_statement, in_instance, passing_over}
use Rattle.p21_stream_log.specs.Going.{behind_stretch}
use Rattle.p21_stream_log.specs.Log.{Held, Logs}
use Rattle.p21_stream_log.specs.declared.passage.Passage.{Passage}
use Rattle.p21_stream_log.specs.declared.passage.Passage.TheVariants.{GoesOn}
use Rattle.p21_stream_sieve.specs.Sifting.{HasName}
use Rattle.p21_stream_survey.specs.Sifted.{Sifted}
use Rattle.p21_stream_statements.specs.Fault.{fault_number}
use Rattle.p21_stream_statements.specs.declared.fault.Fault.{Fault}
use Rattle.p21_stream_survey.proofs.Numbers.{are-more, gone-on-number}
use Rattle.p21_stream_survey.proofs.Readings.{reads-passed}
use Rattle.p21_stream_survey.specs.Breaking.{PassesBroken}
use Rattle.p21_stream_survey.specs.Kinds.{AreOfFile, IsOfFile}
use Rattle.p21_stream_survey.specs.Passing.{GoesOnBroken, ListsPassed}
use Rattle.p21_stream_survey.specs.Reading.{HasRead, listed_as}
use Rattle.p21_stream_survey.specs.declared.listing.Listing.{Listing}

-- some of the bytes are taken where so many are some, and there are any
pub some-taken : (count size : ℕ) (bytes : List ℕ) → (0 < size) ↔ (0 < length bytes) → ((0 < count) × (0 < size))
    ↔ (0 < length (take count bytes))
some-taken zero size bytes sized = (λ some. (let low = some.0 in absurd (omega (arith, low))), λ low. absurd (omega (arith, low)))
some-taken (suc count) size [] sized = (λ some. sized.0 some.1, λ low. absurd (omega (arith, low)))
some-taken (suc count) size (byte ∷ bytes) sized = (λ some. omega arith, λ low. (omega arith, sized.1 (omega arith)))

-- so it is known whether bytes were passed over
pub broken-taken : (count size : ℕ) (bytes : List ℕ) (before behind : Bool) → (0 < size) ↔ (0 < length bytes) → IsTrue behind
    ↔ (IsTrue before ⊎ ((0 < count) × (0 < size))) → IsTrue behind ↔ (IsTrue before ⊎ (0 < length (take count bytes)))
broken-taken count size bytes before behind sized broken =
    let taken = some-taken count size bytes sized in (
      λ yes. elim (broken.0 yes) [ inl was ↦ inl was | inr some ↦ inr (taken.0 some) ],
      λ known. broken.1 (elim known [ inl was ↦ inl was | inr some ↦ inr (taken.1 some) ]),
    )

-- no instance is named
no-instance : (number m : ℕ) → at_statement number ≡ in_instance m → ⊥
no-instance number m is = cc

-- what is read with a statement that is passed over by the first of some bytes
pub passed-reads : (s : Rules) (limits : Limits) (read : Reading) (all : List ℕ) (begins count size : ℕ) (fault : Fault) (sieve : Sifted)
    (before behind : Listing) → HasRead s limits read sieve before → ListsPassed before fault begins count size (GoesOn count) behind
    → IsOfFile (fault_number fault) → (0 < size) ↔ (0 < length all)
    → HasRead s limits (passing_over read (take count all) (fault_number fault) (at_statement (suc read.count)) begins) sieve behind
passed-reads s limits read all begins count size fault sieve before behind has lists of sized =
    let number : ℕ = fault_number fault in
    let listed : listed_as lists.one ≡ record { number = number; subject = at_statement (suc read.count); begins = begins } = lists.is
    ∙ ap (λ (k : ℕ). record { number = number; subject = at_statement k; begins = begins }) has.counted in
    reads-passed s limits read (take count all) number begins (at_statement (suc read.count)) sieve before behind lists.one has of listed
    lists.list
    (λ m. (
      λ had. inl (subst (λ (ns : BTreeSet ℕ). HasName ns m) lists.passed had),
      λ which. elim which [
        | inl had ↦ subst (λ (ns : BTreeSet ℕ). HasName ns m) (sym lists.passed) had
        | inr clash ↦ absurd
            (no-instance (suc read.count) m clash)
      ],
    ))
    (broken-taken count size all before.is_broken behind.is_broken sized lists.broken) lists.statement

pub goes-on : (old new : Held) (before behind : Listing) (fault : Fault) (begins count : ℕ) (bytes : List ℕ)
    → PassesBroken old fault bytes (GoesOn count) new → ListsPassed before fault begins count (length bytes) (GoesOn count) behind
    → GoesOnBroken old before fault begins bytes (GoesOn count) new behind
goes-on old new before behind fault begins count bytes passes lists s limits known point piece more sieve are at has =
    let by = passes s limits known point piece more begins are at in
    let number : ℕ = fault_number fault in
    let subject = at_statement (suc point.read.count) in
    record {
      logs = subst (λ (l : List ℕ). Logs s limits known new
          (behind_stretch point (take count l) number subject begins (drop count l ++ more))) (sym by.apart) by.gives;
      has = passed-reads s limits point.read bytes begins count (length bytes) fault sieve before behind has lists
          (gone-on-number number at.passed.gone_on) (λ some. some, λ some. some);
    }

-- whatever the call that lists it answers
pub goes-on_where : {E : Type 0} (old new : Held) (before behind : Listing) (fault : Fault) (begins count : ℕ) (bytes : List ℕ)
    (result : Result Passage E) → PassesBroken old fault bytes (GoesOn count) new
    → IfOk result (λ passage. ListsPassed before fault begins count (length bytes) passage behind)
    → IfOk result (λ passage. GoesOnBroken old before fault begins bytes passage new behind)
goes-on_where old new before behind fault begins count bytes (Ok passage) passes lists =
    subst (λ (p : Passage). GoesOnBroken old before fault begins bytes p new behind) (sym lists.passage_is)
    (goes-on old new before behind fault begins count bytes passes
    (subst (λ (p : Passage). ListsPassed before fault begins count (length bytes) p behind) lists.passage_is lists))
goes-on_where old new before behind fault begins count bytes (Err none) passes lists = tt

-- where the refusal is one that a file has, all that are listed are
pub passed-of_file : {E : Type 0} (before behind : Listing) (fault : Fault) (begins count size : ℕ) (result : Result Passage E)
    → IfOk result (λ passage. ListsPassed before fault begins count size passage behind) → IsOfFile (fault_number fault)
    → AreOfFile before.list.items → OnOk result (AreOfFile behind.list.items)
passed-of_file before behind fault begins count size (Err none) lists of are = tt
passed-of_file before behind fault begins count size (Ok passage) lists of are =
    let number : fault_number lists.one.fault ≡ fault_number fault = ap (λ l. l.number) lists.is in
    are-more before.list.items behind.list.items lists.one lists.list are (subst IsOfFile (sym number) of)
