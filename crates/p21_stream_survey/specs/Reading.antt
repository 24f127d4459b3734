-- What a survey knows of the statements that it has read, by the reading that its log stands for (this project's own).
use Rattle.std.specs.Prelude.{◌≡◌, ◌≢◌, ◌⊎◌, ◌↔◌, ◌≤◌, ℕ, IsTrue, suc, map, length}
use Rattle.p21_spec_basics.specs.Limits.{Limits}
use Rattle.p21_spec_survey.specs.Rules.{Rules}
use Rattle.p21_spec_survey.specs.Survey as survey
use Rattle.p21_spec_survey.specs.Survey.{Reading, Subject, at_statement, in_instance}
use Rattle.p21_stream_sieve.specs.Sifting.{HasName}
use Rattle.p21_stream_survey.specs.Sifted.{Sifted, names_left}
use Rattle.p21_stream_statements.specs.Fault.{fault_number}
use Rattle.p21_stream_statements.specs.declared.refusal.At.{At}
use Rattle.p21_stream_statements.specs.declared.refusal.At.TheVariants.{Instance, Statement}
use Rattle.p21_stream_survey.specs.Judging.{SiftsTo}
use Rattle.p21_stream_survey.specs.Kinds.{ListsOfFile}
use Rattle.p21_stream_survey.specs.declared.listed.Listed.{Listed}
use Rattle.p21_stream_survey.specs.declared.listing.Listing.{Listing}

-- what a refusal names
abbrev pub subject_of : At → Subject
subject_of (Statement number) = at_statement number
subject_of (Instance n) = in_instance n

-- a refusal that is listed, as the definitions have it
abbrev pub listed_as : Listed → survey.Listed
listed_as listed = record { number = fault_number listed.fault; subject = subject_of listed.at; begins = listed.begins }

-- an instance of this name was left out, or passed over
abbrev pub WasRefused : Sifted → Listing → ℕ → Type 0
WasRefused sieve listing n = HasName (names_left sieve) n ⊎ HasName listing.passed n

-- Of the statements of a reading those that are taken are kept, and what is listed is listed; the instances that were left out or passed
-- over are known by name, the statements are counted, and it is known whether bytes were passed over; and each refusal is one that a file
-- has
pub record HasRead (s : Rules) (limits : Limits) (read : Reading) (sieve : Sifted) (listing : Listing) : Type 0 where
  pub sifts : SiftsTo s limits read.given read.taken sieve
  pub listed : map listed_as listing.list.items ≡ read.listed
  pub named : (n : ℕ) → survey.IsRefused read.listed n ↔ WasRefused sieve listing n
  pub counted : listing.statement ≡ suc read.count
  pub broken : IsTrue listing.is_broken ↔ (read.kept ≢ read.bytes)
  pub no_longer : length read.kept ≤ length read.bytes
  pub of_file : ListsOfFile read.listed
