-- What a list says of a file that ends by a refusal, or since no more are asked for.
use Rattle.std.proofs.Common.{◌≡◌, ◌∷◌, ◌++◌, ℕ, suc, List, [], map, refl, sym, ap, subst, ◌∙◌}
use Rattle.std.specs.List.{AllByRecursion as Each}
use Rattle.p21_spec_basics.proofs.Members.{Each-weaker}
use Rattle.p21_spec_basics.specs.Limits.{Limits}
use Rattle.p21_spec_exchange.specs.Record.{Record}
use Rattle.p21_spec_file.specs.Reference.{Need, record_references}
use Rattle.p21_spec_laws.specs.CompleteFile.{Entry, IsMeant, entries_in, written_in}
use Rattle.p21_spec_laws.specs.Taken.{instances_among}
use Rattle.p21_spec_laws.specs.UnrefusedStatements.{IsFound}
use Rattle.p21_spec_schema.specs.Schema.{entity_member}
use Rattle.p21_spec_survey.specs.Rules.{IsMeantBy, Rules, by_itself, of_schema}
use Rattle.p21_spec_survey.specs.Survey as survey
use Rattle.p21_spec_survey.specs.Survey.{EndsList, IsRead, IsSurvey, Listed, Reading, at_most, at_statement, at_stretch, by_refusal}
use Rattle.p21_spec_survey.specs.Survey.{interrupted, with_refusal}
use Rattle.p21_stream_survey.specs.Sifted.{Sifted, alone, sieved}
use Rattle.p21_stream_statements.specs.Fault.{fault_number}
use Rattle.p21_stream_statements.specs.declared.fault.Fault.{Fault}
use Rattle.p21_stream_statements.specs.declared.fault.Fault.TheVariants.{Read}
use Rattle.p21_stream_statements.specs.declared.refusal.At.{At}
use Rattle.p21_stream_statements.specs.declared.refusal.At.TheVariants.{Statement}
use Rattle.p21_stream_survey.proofs.Readings.{listed-more}
use Rattle.p21_stream_survey.specs.Ending.{EndsAtStretch, EndsBy, EndsInterrupted, IsSurveyed}
use Rattle.p21_stream_survey.specs.Reading.{HasRead, listed_as, subject_of}
use Rattle.p21_stream_survey.specs.declared.listed.Extent.TheVariants.{Most, ReadTo}
use Rattle.p21_stream_survey.specs.declared.listed.Listed as code
use Rattle.p21_stream_survey.specs.declared.listing.Listing.{Listing}

-- what is found of the instances of a file by itself
abbrev pub need_of : ℕ → Need
need_of n = record { target = n; wanted = entity_member 0 }

abbrev pub entry_of : ℕ × Record → Entry
entry_of i = record {
  name = i.0;
  record_ = i.1;
  meaning = record { entities = []; values = [] };
  needs = map need_of (record_references i.1);
  text = [];
}

-- the instances that are taken
abbrev pub entries_of : (s : Rules) (limits : Limits) (read : Reading) (sieve : Sifted) (listing : Listing)
    → HasRead s limits read sieve listing → List Entry
entries_of (of_schema s) limits read (sieved sieve) listing has = entries_in has.sifts.keeps.groups
entries_of (of_schema s) limits read (alone kept names) listing has = []
entries_of by_itself limits read sieve listing has = map entry_of (instances_among read.taken)

written-own : (instances : List (ℕ × Record)) → instances ≡ written_in (map entry_of instances)
written-own [] = refl
written-own (i ∷ instances) = ap (λ (l : List (ℕ × Record)). i ∷ l) (written-own instances)

need-targets : (targets : List ℕ) → map (λ (need : Need). need.target) (map need_of targets) ≡ targets
need-targets [] = refl
need-targets (n ∷ targets) = ap (λ (l : List ℕ). n ∷ l) (need-targets targets)

meant-own : (instances : List (ℕ × Record)) → Each (IsMeantBy by_itself) (map entry_of instances)
meant-own [] = tt
meant-own (i ∷ instances) = (need-targets (record_references i.1), meant-own instances)

-- they are all, and what is found of them is right
entries-right : (s : Rules) (limits : Limits) (read : Reading) (sieve : Sifted) (listing : Listing)
    (has : HasRead s limits read sieve listing)
    → (instances_among read.taken ≡ written_in (entries_of s limits read sieve listing has))
    × Each (IsMeantBy s) (entries_of s limits read sieve listing has)
entries-right (of_schema s) limits read (sieved sieve) listing has =
    let unrefused = has.sifts.keeps.unrefused in (
      unrefused.instances_are,
      Each-weaker (IsFound s limits) (IsMeant s) (λ e is. is.meant) (entries_in has.sifts.keeps.groups) unrefused.found,
    )
entries-right (of_schema s) limits read (alone kept names) listing has = absurd has.sifts
entries-right by_itself limits read sieve listing has = (written-own (instances_among read.taken), meant-own (instances_among read.taken))

-- it is a survey, where its list ends so
pub surveyed : (s : Rules) (limits : Limits) (file : List ℕ) (read : Reading) (sieve : Sifted) (listing : Listing) (list : List Listed)
    (references : List (ℕ × ℕ)) (extent : survey.Extent) → IsRead s limits file read → (has : HasRead s limits read sieve listing)
    → EndsList s limits file read (entries_of s limits read sieve listing has) list references extent
    → IsSurvey s limits file list references extent
surveyed s limits file read sieve listing list references extent is_read has ends = record {
  reading = read;
  is_read = is_read;
  entries = entries_of s limits read sieve listing has;
  entries_are = (entries-right s limits read sieve listing has).0;
  meant = (entries-right s limits read sieve listing has).1;
  ends = ends;
}

-- one more in the list
list-is : (s : Rules) (limits : Limits) (read : Reading) (sieve : Sifted) (before behind : Listing) (fault : Fault) (at : At) (begins : ℕ)
    → HasRead s limits read sieve before → behind.list.items ≡ before.list.items ++ record { fault = fault; at = at; begins = begins } ∷ []
    → with_refusal read (fault_number fault) (subject_of at) begins ≡ map listed_as behind.list.items
list-is s limits read sieve before behind fault at begins has is =
    sym (ap (λ (l : List code.Listed). map listed_as l) is ∙ listed-more before.list.items _ read.listed has.listed)

pub ends-by : (before behind : Listing) (fault : Fault) (at : At) (begins : ℕ)
    → behind.list.items ≡ before.list.items ++ record { fault = fault; at = at; begins = begins } ∷ []
    → EndsBy before fault at begins (ReadTo begins) behind
ends-by before behind fault at begins is s limits file read sieve so ends =
    subst (λ (l : List Listed). IsSurvey s limits file l [] (survey.read_to begins))
    (list-is s limits read sieve before behind fault at begins so.has is)
    (surveyed s limits file read sieve before (with_refusal read (fault_number fault) (subject_of at) begins) [] (survey.read_to begins)
    so.is_read so.has (by_refusal (fault_number fault) (subject_of at) begins ends so.begins_at))

pub ends-at_stretch : (before behind : Listing) (fault : Fault) (at : At) (begins : ℕ)
    → behind.list.items ≡ before.list.items ++ record { fault = fault; at = at; begins = begins } ∷ []
    → EndsAtStretch before fault at begins Most behind
ends-at_stretch before behind fault at begins is s limits file read sieve so passes =
    subst (λ (l : List Listed). IsSurvey s limits file l [] survey.most)
    (list-is s limits read sieve before behind fault at begins so.has is)
    (surveyed s limits file read sieve before (with_refusal read (fault_number fault) (subject_of at) begins) [] survey.most so.is_read
    so.has (at_stretch (fault_number fault) (subject_of at) begins passes so.begins_at))

pub ends-interrupted : (before between behind : Listing) (fault : Fault) (at : At) (begins : ℕ)
    → between.list.items ≡ before.list.items ++ record { fault = fault; at = at; begins = begins } ∷ []
    → between.statement ≡ suc before.statement
    → behind.list.items ≡ between.list.items ++ record { fault = Read; at = Statement between.statement; begins = begins } ∷ []
    → EndsInterrupted before fault at begins (ReadTo begins) behind
ends-interrupted before between behind fault at begins is statement last s limits file read sieve so passes =
    let first : List Listed = with_refusal read (fault_number fault) (subject_of at) begins in
    let last_is : Listed → List Listed = λ l. first ++ l ∷ [] in
    let told : map listed_as behind.list.items ≡ first
    ++ record { number = 91; subject = at_statement between.statement; begins = begins } ∷ [] =
    ap (λ (l : List code.Listed). map listed_as l) last
    ∙ listed-more between.list.items _ first (sym (list-is s limits read sieve before between fault at begins so.has is)) in
    let counted : between.statement ≡ suc (suc read.count) = statement ∙ ap suc so.has.counted in
    let list : first ++ record { number = 91; subject = at_statement (suc (suc read.count)); begins = begins } ∷ [] ≡ map listed_as
    behind.list.items = sym (told ∙ ap (λ (k : ℕ). last_is (record { number = 91; subject = at_statement k; begins = begins }))
    counted) in
    subst (λ (l : List Listed). IsSurvey s limits file l [] (survey.read_to begins)) list
    (surveyed s limits file read sieve before (first ++ record {
      number = 91;
      subject = at_statement (suc (suc read.count));
      begins =
          begins;
    } ∷ []) [] (survey.read_to begins) so.is_read so.has
    (interrupted (fault_number fault) (subject_of at) begins passes so.begins_at))

-- where as many are listed as are asked for
pub surveyed-most : (s : Rules) (limits : Limits) (file : List ℕ) (read : Reading) (sieve : Sifted) (listing : Listing)
    → IsRead s limits file read → HasRead s limits read sieve listing → IsSurveyed s limits file listing Most
surveyed-most s limits file read sieve listing is_read has =
    subst (λ (l : List Listed). IsSurvey s limits file l [] survey.most) (sym has.listed)
    (surveyed s limits file read sieve listing read.listed [] survey.most is_read has (at_most [] tt))
