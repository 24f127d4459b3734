-- A statement that a sieve takes.
use Rattle.std.proofs.Common.{◌≡◌, ◌≢◌, ◌≤◌, ◌+◌, ◌⊎◌, ℕ, true, List, [], ◌∷◌, ◌++◌, length, length-append, Result, Ok, Err, IfErr, OnOk, inl, inr, refl, sym, ap, subst, ◌∙◌, arith}
use Rattle.std.specs.BTreeSet.{Updates}
use Rattle.std.specs.Ordering.{nat_cmp}
use Rattle.std.specs.Prelude.{Contains}
use Rattle.p21_spec_basics.specs.Limits.{Limits}
use Rattle.p21_spec_laws.specs.Taken.{names_among}
use Rattle.p21_spec_laws.specs.Keeping.{Keeps, Kept}
use Rattle.p21_spec_laws.specs.Offending.{Offends, broken as breaks_rule, long_file, long_line, name_again as has_name_again, other_schema, section_again, section_of_other_schema}
use Rattle.p21_spec_exchange.specs.Record.{Record}
use Rattle.p21_spec_exchange.specs.Statement.{Statement, header, instance}
use Rattle.p21_spec_file.proofs.BrokenRules.{broken-means_nothing}
use Rattle.p21_spec_file.specs.BrokenRule.{Breaks}
use Rattle.p21_spec_file.specs.Reference.{Need}
use Rattle.p21_grammar_tree.specs.Fault as check
use Rattle.p21_grammar_tree.specs.declared.fault.CheckFault.{CheckFault}
use Rattle.p21_grammar_tree.specs.declared.fault.CheckFault.TheVariants as check_fault
use Rattle.p21_spec_schema.specs.Schema.{Schema}
use Rattle.p21_spec_schema.specs.WellFormed.{IsWellFormed}
use Rattle.p21_stream_kept.specs.Steps as kept_steps
use Rattle.p21_stream_kept.specs.Taking as kept_taking
use Rattle.p21_stream_statements.specs.Fault.{fault_number}
use Rattle.p21_stream_statements.specs.declared.fault.Fault.{Fault}
use Rattle.p21_stream_statements.specs.declared.fault.Fault.TheVariants.{CanonicalTooLong, Check, Dangling, DuplicateName, Grammar, NoMemory, Read, SchemaName, SectionTwice, Token, Write, WrongTarget}
use Rattle.p21_stream_statements.specs.declared.refusal.Refusal.{Refusal}
use Rattle.p21_stream_sieve.proofs.RefusedNames.{has-listed}
use Rattle.p21_stream_sieve.proofs.Sifted.{passed-few, passed-first, passed-named, refused-named}
use Rattle.p21_stream_sieve.specs.Sifting.{AreSifted, HasName, HaveNames, IsOfInstance, RefusesInstance, Sifts, at_instance, broken, name_again, passes, refuses}
use Rattle.p21_stream_sieve.specs.SieveSteps.{Follows, FollowsFound, IsRefusedAlone, Lists, ListsOne, ListsOrEnds, StepGives}
use Rattle.p21_stream_sieve.specs.declared.sieve.Sieve.{Sieve}

-- ---- what is asked of what is kept

-- a statement that follows those of a sieve follows those that passed
pub follows-passed : (s : Schema) (limits : Limits) (sieve : Sieve) (statement : Statement) → Follows s limits sieve statement
    → kept_taking.Follows s limits sieve.kept statement
follows-passed s limits sieve statement follows =
    let sifts = follows.sifts in
    let rs = sieve.refusals.items in
    let (u, first) = passed-first s follows.given sifts.passed rs sifts.sifted (statement ∷ []) follows.structure follows.are_first in
    let fewer = passed-few s (follows.given ++ statement ∷ []) (sifts.passed ++ statement ∷ []) rs
    (passes follows.given sifts.passed rs statement sifts.sifted) in
    let few = follows.few in
    record { given = sifts.passed; keeps = sifts.keeps; structure = u; are_first = first; few = omega (arith, fewer, few) }

pub found-passed : (s : Schema) (limits : Limits) (sieve : Sieve) (n : ℕ) (entities : List ℕ) (needs : List Need) (text : List ℕ)
    → FollowsFound s limits sieve n entities needs text → kept_taking.FollowsFound s limits sieve.kept n entities needs text
found-passed s limits sieve n entities needs text is =
    record { record_ = is.record_; found = is.found; follows = follows-passed s limits sieve (instance n is.record_) is.follows }

-- ---- a statement that passes, or ends the reading

-- what is kept takes it, or refuses it
pub taken-gives : (s : Schema) (limits : Limits) (old : Sieve) (kept : Kept) (statement : Statement) (result : Result (Unit {0}) Fault)
    → kept_steps.StepGives s limits old.kept statement result kept → kept.lines ≡ old.kept.lines
    → StepGives s limits old statement result (record old { kept = kept })
taken-gives s limits old kept statement (Ok done) takes lines = λ given sifts. record {
  passed = sifts.passed ++ statement ∷ [];
  sifted = passes given sifts.passed old.refusals.items statement sifts.sifted;
  keeps = takes sifts.passed sifts.keeps;
  lines = lines ∙ sifts.lines;
  names = sifts.names;
}
taken-gives s limits old kept statement (Err fault) takes lines = λ other. (
  refl,
  λ given sifts. record {
    passed = sifts.passed;
    sifted = sifts.sifted;
    keeps = sifts.keeps;
    offends =
        takes other sifts.passed sifts.keeps;
  },
)

-- ---- an instance that is refused

-- why an instance is refused: its record, its name, or its size
pub data Reason (s : Schema) (given : List Statement) (n : ℕ) (record_ : Record) (number : ℕ) : Type 0 where
  by_rule : Breaks s record_ number → Reason s given n record_ number
  by_name : number ≡ 40 → Contains (names_among given) n → Reason s given n record_ number
  by_size : number ≡ 27 → Reason s given n record_ number

pub reason-is : (s : Schema) (limits : Limits) (given : List Statement) (size : ℕ) (statement : Statement) (number n : ℕ) (record_ : Record)
    → Offends s limits given size statement number → statement ≡ instance n record_ → Reason s given n record_ number
reason-is s limits given size statement number n r (other_schema part chars is other) same = let clash : header part ≡ instance n r =
    same in cc
reason-is s limits given size statement number n r (section_of_other_schema heading other) same = cc
reason-is s limits given size statement number n r (section_again name text among) same = cc
reason-is s limits given size statement number n r (has_name_again m q among) same = let is : m ≡ n = cc in
    by_name refl (subst (λ (k : ℕ). Contains (names_among given) k) is among)
reason-is s limits given size statement number n r (breaks_rule m q _ breaks) same = let is : q ≡ r = cc in
    by_rule (subst (λ (x : Record). Breaks s x number) is breaks)
reason-is s limits given size statement number n r (long_line _ text is long) same = by_size refl
reason-is s limits given size statement number n r (long_file _ text is long) same = by_size refl

-- no fault of a record has the number of another one
other-number : (fault : CheckFault) (number : ℕ) → number ≡ check.fault_number fault → (number ≡ 40) ⊎ (number ≡ 27) → ⊥
other-number check_fault.NumberRange number is which = elim which [ inl e ↦ omega (arith, is, e) | inr e ↦ omega (arith, is, e) ]
other-number check_fault.UnknownEntity number is which = elim which [ inl e ↦ omega (arith, is, e) | inr e ↦ omega (arith, is, e) ]
other-number check_fault.Abstract number is which = elim which [ inl e ↦ omega (arith, is, e) | inr e ↦ omega (arith, is, e) ]
other-number check_fault.PartMissing number is which = elim which [ inl e ↦ omega (arith, is, e) | inr e ↦ omega (arith, is, e) ]
other-number check_fault.PartTwice number is which = elim which [ inl e ↦ omega (arith, is, e) | inr e ↦ omega (arith, is, e) ]
other-number check_fault.Count number is which = elim which [ inl e ↦ omega (arith, is, e) | inr e ↦ omega (arith, is, e) ]
other-number check_fault.Missing number is which = elim which [ inl e ↦ omega (arith, is, e) | inr e ↦ omega (arith, is, e) ]
other-number check_fault.StarNotDerived number is which = elim which [ inl e ↦ omega (arith, is, e) | inr e ↦ omega (arith, is, e) ]
other-number check_fault.DerivedNotStar number is which = elim which [ inl e ↦ omega (arith, is, e) | inr e ↦ omega (arith, is, e) ]
other-number check_fault.WrongKind number is which = elim which [ inl e ↦ omega (arith, is, e) | inr e ↦ omega (arith, is, e) ]
other-number check_fault.Width number is which = elim which [ inl e ↦ omega (arith, is, e) | inr e ↦ omega (arith, is, e) ]
other-number check_fault.Bounds number is which = elim which [ inl e ↦ omega (arith, is, e) | inr e ↦ omega (arith, is, e) ]
other-number check_fault.NotDistinct number is which = elim which [ inl e ↦ omega (arith, is, e) | inr e ↦ omega (arith, is, e) ]
other-number check_fault.UnknownItem number is which = elim which [ inl e ↦ omega (arith, is, e) | inr e ↦ omega (arith, is, e) ]
other-number check_fault.SelectType number is which = elim which [ inl e ↦ omega (arith, is, e) | inr e ↦ omega (arith, is, e) ]
other-number check_fault.TwoRedeclarations number is which = elim which [ inl e ↦ omega (arith, is, e) | inr e ↦ omega (arith, is, e) ]
other-number check_fault.OneOf number is which = elim which [ inl e ↦ omega (arith, is, e) | inr e ↦ omega (arith, is, e) ]
other-number check_fault.NoMemory number is which = elim which [ inl e ↦ omega (arith, is, e) | inr e ↦ omega (arith, is, e) ]

-- behind statements that passed the instance is refused, so it is behind all that were given
pub refuses-behind : (s : Schema) → IsWellFormed s → (limits : Limits) (given passed : List Statement) (n size : ℕ) (record_ : Record)
    → ((m : ℕ) → Contains (names_among passed) m → Contains (names_among given) m) → (fault : Fault) → IsOfInstance fault
    → Offends s limits passed size (instance n record_) (fault_number fault) → RefusesInstance s given n record_ fault
refuses-behind s formed limits given passed n size r named (Check fault) of offends =
    by (reason-is s limits passed size (instance n r) (check.fault_number fault) n r offends refl) where
      by : Reason s passed n r (check.fault_number fault) → RefusesInstance s given n r (Check fault)
      by (by_rule breaks) = broken (Check fault) tt (λ kinds meaning means. broken-means_nothing s formed r (check.fault_number fault) breaks
          kinds meaning means) breaks
      by (by_name e among) = absurd (other-number fault (check.fault_number fault) refl (inl e))
      by (by_size e) = absurd (other-number fault (check.fault_number fault) refl (inr e))
refuses-behind s formed limits given passed n size r named DuplicateName of offends =
    by (reason-is s limits passed size (instance n r) 40 n r offends refl) where
      by : Reason s passed n r 40 → RefusesInstance s given n r DuplicateName
      by (by_rule breaks) = broken DuplicateName tt (λ kinds meaning means. broken-means_nothing s formed r 40 breaks kinds meaning means)
          breaks
      by (by_name e among) = name_again (named n among)
      by (by_size e) = absurd (omega (arith, e))
refuses-behind s formed limits given passed n size r named (Token fault) of offends = absurd of
refuses-behind s formed limits given passed n size r named (Grammar fault) of offends = absurd of
refuses-behind s formed limits given passed n size r named SchemaName of offends = absurd of
refuses-behind s formed limits given passed n size r named SectionTwice of offends = absurd of
refuses-behind s formed limits given passed n size r named CanonicalTooLong of offends = absurd of
refuses-behind s formed limits given passed n size r named Dangling of offends = absurd of
refuses-behind s formed limits given passed n size r named WrongTarget of offends = absurd of
refuses-behind s formed limits given passed n size r named NoMemory of offends = absurd of
refuses-behind s formed limits given passed n size r named Read of offends = absurd of
refuses-behind s formed limits given passed n size r named Write of offends = absurd of

of-instance-other : (fault : Fault) → IsOfInstance fault → fault ≢ NoMemory
of-instance-other (Check fault) of = λ e. cc
of-instance-other DuplicateName of = λ e. cc
of-instance-other (Token fault) of = absurd of
of-instance-other (Grammar fault) of = absurd of
of-instance-other SchemaName of = absurd of
of-instance-other SectionTwice of = absurd of
of-instance-other CanonicalTooLong of = absurd of
of-instance-other Dangling of = absurd of
of-instance-other WrongTarget of = absurd of
of-instance-other NoMemory of = absurd of
of-instance-other Read of = absurd of
of-instance-other Write of = absurd of

-- an instance that is refused is listed
listed-refused : (s : Schema) (limits : Limits) (old new : Sieve) (n : ℕ) (record_ : Record) (fault : Fault) → Lists old n fault new
    → ((given : List Statement) → Sifts s limits given old → RefusesInstance s given n record_ fault)
    → StepGives s limits old (instance n record_) (Ok tt) new
listed-refused s limits old new n r fault lists refused given sifts = record {
  passed = sifts.passed;
  sifted = subst (λ (rs : List Refusal). AreSifted s (given ++ instance n r ∷ []) sifts.passed rs) (sym lists.refusals_are)
      (refuses given sifts.passed old.refusals.items n r fault sifts.sifted (refused given sifts));
  keeps = subst (λ (k : Kept). Keeps s limits sifts.passed k) (sym lists.kept_is) sifts.keeps;
  lines = ap (λ (k : Kept). k.lines) lists.kept_is ∙ sifts.lines;
  names = lists.names sifts.names;
}

-- an instance whose name one has that was refused
pub again-gives : (s : Schema) (limits : Limits) (old new : Sieve) (n : ℕ) (record_ : Record) (result : Result (Unit {0}) Fault)
    → HasName old.names n → OnOk result (Lists old n DuplicateName new) → IfErr result (λ other. other ≡ NoMemory)
    → StepGives s limits old (instance n record_) result new
again-gives s limits old new n r (Ok done) has lists memory =
    listed-refused s limits old new n r DuplicateName lists
    (λ given sifts. name_again (refused-named s given sifts.passed old.refusals.items sifts.sifted n ((sifts.names n).0 has)))
again-gives s limits old new n r (Err other) has lists memory = λ not_memory. absurd (not_memory memory)

-- an instance that is not kept, by what became of its refusal
pub refused-gives : (s : Schema) → IsWellFormed s → (limits : Limits) (old : Sieve) (kept : Kept) (new : Sieve) (n : ℕ) (record_ : Record)
    (fault : Fault) (result : Result (Unit {0}) Fault) → (fault ≢ NoMemory → kept ≡ old.kept)
    → kept_steps.StepGives s limits old.kept (instance n record_) (Err fault) kept
    → ListsOrEnds (record old { kept = kept }) n fault result new → StepGives s limits old (instance n record_) result new
refused-gives s formed limits old kept new n r fault (Ok done) same takes (lists, of) =
    let other = of-instance-other fault of in
    listed-refused s limits old new n r fault (record {
      kept_is = lists.kept_is
          ∙ same other;
      refusals_are = lists.refusals_are;
      names = lists.names;
    })
    (λ given sifts. refuses-behind s formed limits given sifts.passed n (old.kept.bytes + old.kept.framing) r
    (λ m among. passed-named s given sifts.passed old.refusals.items sifts.sifted m among) fault of
    (takes other sifts.passed sifts.keeps))
refused-gives s formed limits old kept new n r fault (Err other) same takes (inl e) = λ not_memory. absurd (not_memory e)
refused-gives s formed limits old kept new n r fault (Err other) same takes (inr (is, unchanged)) = λ not_memory. (
  ap (λ (sieve : Sieve). sieve.refusals.items) unchanged,
  λ given sifts. record {
    passed = sifts.passed;
    sifted = sifts.sifted;
    keeps = sifts.keeps;
    offends = subst (λ (f : Fault). Offends s limits sifts.passed (old.kept.bytes + old.kept.framing) (instance n r) (fault_number f))
        (sym is) (takes (λ e. not_memory (is ∙ e)) sifts.passed sifts.keeps);
  },
)

-- the same of an instance whose record is refused before it is asked for
pub alone-gives : (s : Schema) → IsWellFormed s → (limits : Limits) (old new : Sieve) (statement : Statement) (n : ℕ) (fault : Fault)
    (result : Result (Unit {0}) Fault) → IsRefusedAlone s old statement n fault → ListsOrEnds old n fault result new
    → StepGives s limits old statement result new
alone-gives s formed limits old new statement n fault result is lists =
    subst (λ (st : Statement). StepGives s limits old st result new) (sym is.statement_is)
    (refused-gives s formed limits old old.kept new n is.record_ fault result (λ other. refl)
    (λ other given keeps. breaks_rule n is.record_ (fault_number fault) (is.breaks other)) lists)

-- ---- one more in the list

pub lists-one : (old : Sieve) (n : ℕ) (fault : Fault) (new : Sieve) → new.kept ≡ old.kept
    → new.refusals.items ≡ old.refusals.items ++ at_instance fault n ∷ [] → Updates nat_cmp old.names new.names n true
    → Lists old n fault new
lists-one old n fault new kept are updates = record {
  kept_is = kept;
  refusals_are = are;
  names = λ have. subst (λ (rs : List Refusal). HaveNames new.names rs) (sym are)
      (has-listed old.names new.names old.refusals.items fault n updates have);
}

-- ---- how many are listed

pub lists-none : (listed : List Refusal) (result : Result (Unit {0}) Fault) → ListsOne listed result listed
lists-none listed (Ok done) = omega arith
lists-none listed (Err fault) = λ other. refl

longer-by_one : (old new : Sieve) (n : ℕ) (fault : Fault) → Lists old n fault new
    → length new.refusals.items ≤ length old.refusals.items + 1
longer-by_one old new n fault lists =
    let are = ap length lists.refusals_are in
    let sum = length-append old.refusals.items (at_instance fault n ∷ []) in
    omega (arith, are, sum)

pub listed-one : (old new : Sieve) (n : ℕ) (fault : Fault) (result : Result (Unit {0}) Fault) → OnOk result (Lists old n fault new)
    → IfErr result (λ other. other ≡ NoMemory) → ListsOne old.refusals.items result new.refusals.items
listed-one old new n fault (Ok done) lists none = longer-by_one old new n fault lists
listed-one old new n fault (Err other) lists none = λ some. absurd (some none)

pub listed-or_ended : (old new : Sieve) (n : ℕ) (fault : Fault) (result : Result (Unit {0}) Fault) → ListsOrEnds old n fault result new
    → ListsOne old.refusals.items result new.refusals.items
listed-or_ended old new n fault (Ok done) (lists, of) = longer-by_one old new n fault lists
listed-or_ended old new n fault (Err other) (inl none) = λ some. absurd (some none)
listed-or_ended old new n fault (Err other) (inr (same, unchanged)) = λ some. ap (λ (sieve : Sieve). sieve.refusals.items) unchanged
