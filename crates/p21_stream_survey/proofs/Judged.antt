-- What is said of a statement, by what keeps it.
use Rattle.std.proofs.Common.{◌≡◌, ◌≢◌, ◌+◌, ◌<◌, ◌⊎◌, ℕ, List, [], ◌∷◌, ◌++◌, Result, Ok, Err, inl, inr, refl, sym, ap, subst, ◌∙◌, arith}
use Rattle.p21_spec_basics.specs.Limits.{Limits}
use Rattle.p21_spec_exchange.specs.Parameter.{Param}
use Rattle.p21_spec_exchange.specs.Record.{Part, Record}
use Rattle.p21_spec_exchange.specs.Statement.{SectionLine, Statement, header, instance, section}
use Rattle.p21_spec_file.specs.BrokenRule.{Breaks, abstract_leaf, at_place, one_of, open_place, part_missing, part_twice, unknown_entity}
use Rattle.p21_spec_file.specs.BrokenRule.{wrong_count}
use Rattle.p21_spec_file.specs.BrokenValue.{BreaksAt, BreaksAtPlace, BreaksWithin, derived_not_star, in_chosen, in_element, in_underlying}
use Rattle.p21_spec_file.specs.BrokenValue.{itself, missing, not_distinct, number_range, out_of_bounds, select_type, star_not_derived}
use Rattle.p21_spec_file.specs.BrokenValue.{stored, unknown_item, wrong_kind, wrong_width}
use Rattle.p21_spec_file.specs.Reference.{Need}
use Rattle.p21_spec_laws.specs.Keeping.{Kept}
use Rattle.p21_spec_laws.specs.Offending.{Offends, broken as breaks_rule}
use Rattle.p21_spec_schema.specs.PlaceType.{PlaceType}
use Rattle.p21_spec_schema.specs.Schema.{Schema, TypeUse}
use Rattle.p21_spec_schema.specs.WellFormed.{IsWellFormed}
use Rattle.p21_spec_survey.specs.Rules.{of_schema}
use Rattle.p21_stream_kept.specs.Steps as kept_steps
use Rattle.p21_stream_kept.specs.Taking as kept_taking
use Rattle.p21_stream_sieve.proofs.SieveTaking.{Reason, by_name, by_rule, by_size, reason-is, refuses-behind}
use Rattle.p21_stream_sieve.proofs.Sifted.{passed-few, passed-first, passed-named, refused-named}
use Rattle.p21_stream_sieve.specs.SieveSteps.{IsRefusedAlone}
use Rattle.p21_stream_sieve.specs.Sifting.{HasName, IsOfInstance, name_again, passes}
use Rattle.p21_stream_sieve.specs.declared.sieve.Sieve.{Sieve}
use Rattle.p21_stream_statements.specs.Fault.{fault_number}
use Rattle.p21_stream_statements.specs.Source.{IsOfStatement}
use Rattle.p21_stream_statements.specs.declared.fault.Fault.{Fault}
use Rattle.p21_stream_statements.specs.declared.fault.Fault.TheVariants.{CanonicalTooLong, Check, Dangling, DuplicateName, Grammar}
use Rattle.p21_stream_statements.specs.declared.fault.Fault.TheVariants.{NoMemory, Read, SchemaName, SectionTwice, Token, Write}
use Rattle.p21_stream_statements.specs.declared.fault.Fault.TheVariants.{WrongTarget}
use Rattle.p21_stream_survey.proofs.Rightness.{right-behind}
use Rattle.p21_stream_survey.specs.Judging.{FollowsFound, FollowsSieved, IsWrong, JudgesSieved, SiftsOfSchema, said_of, wrong_or_end}
use Rattle.p21_stream_survey.specs.Sifted.{sieved}
use Rattle.p21_stream_survey.specs.declared.judging.Judgement.{Judgement}
use Rattle.p21_stream_survey.specs.declared.judging.Judgement.TheVariants.{Right, Wrong}

-- ---- what is asked of what is kept

pub follows-taken : (s : Schema) (limits : Limits) (sieve : Sieve) (statement : Statement) → FollowsSieved s limits sieve statement
    → kept_taking.Follows s limits sieve.kept statement
follows-taken s limits sieve statement follows =
    let sifts = follows.sifts in
    let rs = sieve.refusals.items in
    let (u, first) = passed-first s follows.given follows.taken rs sifts.sifted (statement ∷ []) follows.structure follows.are_first in
    let fewer = passed-few s (follows.given ++ statement ∷ []) (follows.taken ++ statement ∷ []) rs
    (passes follows.given follows.taken rs statement sifts.sifted) in
    let few = follows.few in
    record { given = follows.taken; keeps = sifts.keeps; structure = u; are_first = first; few = omega (arith, fewer, few) }

pub found-taken : (s : Schema) (limits : Limits) (sieve : Sieve) (n : ℕ) (entities : List ℕ) (needs : List Need) (text : List ℕ)
    → FollowsFound s limits sieve n entities needs text → kept_taking.FollowsFound s limits sieve.kept n entities needs text
found-taken s limits sieve n entities needs text is =
    record { record_ = is.record_; found = is.found; follows = follows-taken s limits sieve (instance n is.record_) is.follows }

-- ---- a statement that is kept, or ends the list

-- a statement that is no instance
pub kept-judges : (s : Schema) (limits : Limits) (old : Sieve) (kept : Kept) (statement : Statement) (result : Result (Unit {0}) Fault)
    → kept_steps.StepGives s limits old.kept statement result kept → kept.lines ≡ old.kept.lines
    → ((n : ℕ) (r : Record) → statement ≡ instance n r → ⊥)
    → JudgesSieved s limits old statement (said_of result) (record old { kept = kept })
kept-judges s limits old kept statement (Ok done) gives lines none = λ given taken sifts. record {
  sifts = record {
    sifted = passes given taken old.refusals.items statement sifts.sifted;
    keeps = gives taken sifts.keeps;
    lines = lines ∙ sifts.lines;
    names = sifts.names;
  };
  right = right-behind s limits given taken old statement kept sifts (gives taken sifts.keeps) (λ n r is. absurd (none n r is));
  names = refl;
}
kept-judges s limits old kept statement (Err fault) gives lines none = λ other given taken sifts. record {
  offends = gives other taken sifts.keeps;
  by_length = λ n r is. absurd (none n r is);
}

-- the same where nothing has changed before it
pub said-judges : (s : Schema) (limits : Limits) (old now : Sieve) (kept : Kept) (statement : Statement) (result : Result (Unit {0}) Fault)
    (said : Result Judgement Fault) → now ≡ old → kept_steps.StepGives s limits now.kept statement result kept
    → kept.lines ≡ now.kept.lines → ((n : ℕ) (r : Record) → statement ≡ instance n r → ⊥) → said ≡ said_of result
    → JudgesSieved s limits old statement said (record now { kept = kept })
said-judges s limits old now kept statement result said same gives lines none is =
    subst (λ (sieve : Sieve). JudgesSieved s limits sieve statement said (record now { kept = kept })) same
    (subst (λ (answer : Result Judgement Fault). JudgesSieved s limits now statement answer (record now { kept = kept })) (sym is)
    (kept-judges s limits now kept statement result gives lines none))

pub no-section : (line : SectionLine) (n : ℕ) (r : Record) → section line ≡ instance n r → ⊥
no-section line n r is = cc

pub no-header : (part : Part) (n : ℕ) (r : Record) → header part ≡ instance n r → ⊥
no-header part n r is = cc

pub taken-judges : (s : Schema) (limits : Limits) (old : Sieve) (kept : Kept) (n : ℕ) (record_ : Record)
    → kept_steps.StepGives s limits old.kept (instance n record_) (Ok tt) kept → kept.lines ≡ old.kept.lines → ¬ HasName old.names n
    → JudgesSieved s limits old (instance n record_) (Ok Right) (record old { kept = kept })
taken-judges s limits old kept n r gives lines fresh = λ given taken sifts. record {
  sifts = record {
    sifted = passes given taken old.refusals.items (instance n r) sifts.sifted;
    keeps = gives taken sifts.keeps;
    lines = lines ∙ sifts.lines;
    names = sifts.names;
  };
  right = right-behind s limits given taken old (instance n r) kept sifts (gives taken sifts.keeps)
      (λ m q is. (let same : n ≡ m = cc in subst (λ (k : ℕ). ¬ HasName old.names k) same fresh));
  names = refl;
}

-- ---- an instance that ends the list

-- the numbers of records
abbrev pub IsRule : ℕ → Type 0
IsRule number = (number ≡ 8) ⊎ ((40 < number) × (number < 56)) ⊎ (number ≡ 58)

rule-at : (s : Schema) (type : TypeUse) (p : Param) (number : ℕ) → BreaksAt s type p number → IsRule number
rule-at s type p number (number_range z _) = inl refl
rule-at s type p number (missing _) = inr (inl (omega arith, omega arith))
rule-at s type p number (star_not_derived _) = inr (inl (omega arith, omega arith))
rule-at s type p number (wrong_kind _ _ _ _) = inr (inl (omega arith, omega arith))
rule-at s type p number (select_type _ _ _ _) = inr (inl (omega arith, omega arith))
rule-at s type p number (wrong_width _ _ _) = inr (inl (omega arith, omega arith))
rule-at s type p number (out_of_bounds _ _ _) = inr (inl (omega arith, omega arith))
rule-at s type p number (not_distinct _ _ _) = inr (inl (omega arith, omega arith))
rule-at s type p number (unknown_item _ _ _ _ _) = inr (inl (omega arith, omega arith))

rule-within : (s : Schema) (number : ℕ) (type : TypeUse) (p : Param) → BreaksWithin s number type p → IsRule number
rule-within s number type p (itself _ _ breaks) = rule-at s type p number breaks
rule-within s number type p (in_underlying _ under _ _ breaks) = rule-within s number under p breaks
rule-within s number type p (in_chosen _ u _ q _ _ breaks) = rule-within s number _ q breaks
rule-within s number type p (in_element _ _ element _ q _ _ _ breaks) = rule-within s number element q breaks

rule-place : (s : Schema) (at : PlaceType) (p : Param) (number : ℕ) → BreaksAtPlace s at p number → IsRule number
rule-place s at p number (derived_not_star _ _) = inr (inl (omega arith, omega arith))
rule-place s at p number (stored _ type q _ _ within) = rule-within s number type q within

pub rule-of : (s : Schema) (record_ : Record) (number : ℕ) → Breaks s record_ number → IsRule number
rule-of s r number (unknown_entity _) = inr (inl (omega arith, omega arith))
rule-of s r number (part_twice _) = inr (inl (omega arith, omega arith))
rule-of s r number (part_missing _) = inr (inl (omega arith, omega arith))
rule-of s r number (abstract_leaf _) = inr (inl (omega arith, omega arith))
rule-of s r number (one_of _) = inr (inr refl)
rule-of s r number (open_place _) = inr (inl (omega arith, omega arith))
rule-of s r number (wrong_count _) = inr (inl (omega arith, omega arith))
rule-of s r number (at_place _ (_, _, _, p, _, _, _, breaks)) = rule-place s _ p number breaks

-- a number that no record has but for its length
no-rule : (s : Schema) (given : List Statement) (n : ℕ) (r : Record) (number : ℕ) → Reason s given n r number → ¬ IsRule number
    → number ≢ 40 → number ≡ 27
no-rule s given n r number (by_rule breaks) none other = absurd (none (rule-of s r number breaks))
no-rule s given n r number (by_name is among) none other = absurd (other is)
no-rule s given n r number (by_size is) none other = is

by-length : (s : Schema) (limits : Limits) (taken : List Statement) (size n : ℕ) (r : Record) (fault : Fault) → IsOfStatement fault
    → (IsOfInstance fault → ⊥) → fault ≢ NoMemory → Offends s limits taken size (instance n r) (fault_number fault)
    → fault_number fault ≡ 27
by-length s limits taken size n r (Check fault) kind other memory offends = absurd (other tt)
by-length s limits taken size n r DuplicateName kind other memory offends = absurd (other tt)
by-length s limits taken size n r (Token fault) kind other memory offends = absurd kind
by-length s limits taken size n r (Grammar fault) kind other memory offends = absurd kind
by-length s limits taken size n r Read kind other memory offends = absurd kind
by-length s limits taken size n r Write kind other memory offends = absurd kind
by-length s limits taken size n r CanonicalTooLong kind other memory offends = refl
by-length s limits taken size n r NoMemory kind other memory offends = absurd (memory refl)
by-length s limits taken size n r SchemaName kind other memory offends =
    no-rule s taken n r 31 (reason-is s limits taken size (instance n r) 31 n r offends refl) (λ is. omega (arith, is))
    (λ is. omega (arith, is))
by-length s limits taken size n r SectionTwice kind other memory offends =
    no-rule s taken n r 33 (reason-is s limits taken size (instance n r) 33 n r offends refl) (λ is. omega (arith, is))
    (λ is. omega (arith, is))
by-length s limits taken size n r Dangling kind other memory offends =
    no-rule s taken n r 56 (reason-is s limits taken size (instance n r) 56 n r offends refl) (λ is. omega (arith, is))
    (λ is. omega (arith, is))
by-length s limits taken size n r WrongTarget kind other memory offends =
    no-rule s taken n r 57 (reason-is s limits taken size (instance n r) 57 n r offends refl) (λ is. omega (arith, is))
    (λ is. omega (arith, is))

-- ---- an instance that isn't kept

module _ (s : Schema) (formed : IsWellFormed s) (limits : Limits) (old : Sieve) (kept : Kept) (n : ℕ) (record_ : Record) where
  -- for all that were taken it is refused by the fault, want of memory apart
  abbrev IsRefusedBy : Fault → Type 0
  IsRefusedBy fault = fault ≢ NoMemory → (given taken : List Statement) → SiftsOfSchema s limits given taken old
      → Offends s limits taken (old.kept.bytes + old.kept.framing) (instance n record_) (fault_number fault)

  wrong-is : (fault : Fault) → IsOfStatement fault → IsOfInstance fault → fault ≢ NoMemory → (fault ≢ NoMemory → kept ≡ old.kept)
      → IsRefusedBy fault → IsWrong (of_schema s) limits (sieved old) (instance n record_) n fault (sieved (record old { kept = kept }))
  wrong-is fault kind of other same refused = record {
    record_ = record_;
    statement_is = refl;
    same = ap (λ (k : Kept). sieved (record old { kept = k })) (same other);
    kind = kind;
    refused = λ given taken sifts. refuses-behind s formed limits given taken n (old.kept.bytes + old.kept.framing) record_
        (λ m among. passed-named s given taken old.refusals.items sifts.sifted m among) fault of (refused other given taken sifts);
  }

  end-is : (fault : Fault) → IsOfStatement fault → (IsOfInstance fault → ⊥) → IsRefusedBy fault
      → JudgesSieved s limits old (instance n record_) (Err fault) (record old { kept = kept })
  end-is fault kind none refused = λ other given taken sifts. record {
    offends = refused other given taken sifts;
    by_length = λ m q is. by-length s limits taken (old.kept.bytes + old.kept.framing) n record_ fault kind none other
        (refused other given taken sifts);
  }

  pub refused-judges : (fault : Fault) → IsOfStatement fault → (fault ≢ NoMemory → kept ≡ old.kept) → IsRefusedBy fault
      → JudgesSieved s limits old (instance n record_) (wrong_or_end n fault) (record old { kept = kept })
  refused-judges (Check fault) kind same refused = wrong-is (Check fault) kind tt (λ is. cc) same refused
  refused-judges DuplicateName kind same refused = wrong-is DuplicateName kind tt (λ is. cc) same refused
  refused-judges (Token fault) kind same refused = end-is (Token fault) kind (λ of. of) refused
  refused-judges (Grammar fault) kind same refused = end-is (Grammar fault) kind (λ of. of) refused
  refused-judges SchemaName kind same refused = end-is SchemaName kind (λ of. of) refused
  refused-judges SectionTwice kind same refused = end-is SectionTwice kind (λ of. of) refused
  refused-judges CanonicalTooLong kind same refused = end-is CanonicalTooLong kind (λ of. of) refused
  refused-judges Dangling kind same refused = end-is Dangling kind (λ of. of) refused
  refused-judges WrongTarget kind same refused = end-is WrongTarget kind (λ of. of) refused
  refused-judges NoMemory kind same refused = end-is NoMemory kind (λ of. of) refused
  refused-judges Read kind same refused = end-is Read kind (λ of. of) refused
  refused-judges Write kind same refused = end-is Write kind (λ of. of) refused

-- one whose record is refused before it is asked for
pub alone-judges : (s : Schema) → IsWellFormed s → (limits : Limits) (old : Sieve) (statement : Statement) (n : ℕ) (fault : Fault)
    → IsRefusedAlone s old statement n fault → IsOfStatement fault → JudgesSieved s limits old statement (wrong_or_end n fault) old
alone-judges s formed limits old statement n fault is kind =
    subst (λ (st : Statement). JudgesSieved s limits old st (wrong_or_end n fault) old) (sym is.statement_is)
    (refused-judges s formed limits old old.kept n is.record_ fault kind (λ other. refl)
    (λ other given taken sifts. breaks_rule n is.record_ (fault_number fault) (is.breaks other)))

-- the same, by what was told of it
pub alone-said : (s : Schema) → IsWellFormed s → (limits : Limits) (old now : Sieve) (statement : Statement) (n : ℕ) (fault : Fault)
    (known : Schema) (said : Result Judgement Fault) → known ≡ s → IsRefusedAlone known old statement n fault → IsOfStatement fault
    → said ≡ wrong_or_end n fault → now ≡ old → JudgesSieved s limits old statement said now
alone-said s formed limits old now statement n fault known said is alone kind answer same =
    subst (λ (sieve : Sieve). JudgesSieved s limits old statement said sieve) (sym same)
    (subst (λ (answered : Result Judgement Fault). JudgesSieved s limits old statement answered old) (sym answer)
    (alone-judges s formed limits old statement n fault (subst (λ (k : Schema). IsRefusedAlone k old statement n fault) is alone) kind))

-- one whose name one has that was refused
pub again-judges : (s : Schema) (limits : Limits) (old : Sieve) (n : ℕ) (record_ : Record) → HasName old.names n
    → JudgesSieved s limits old (instance n record_) (Ok (Wrong n DuplicateName)) old
again-judges s limits old n r has = record {
  record_ = r;
  statement_is = refl;
  same = refl;
  kind = tt;
  refused = λ given taken sifts. name_again (refused-named s given taken old.refusals.items sifts.sifted n ((sifts.names n).0 has));
}
