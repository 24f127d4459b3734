-- One more instance, by what is kept.
use Rattle.std.proofs.Common.{◌≡◌, ◌+◌, ◌⊎◌, ◌∙◌, ℕ, suc, List, [], ◌∷◌, ◌++◌, length, map, Option, Some, None, Ok, Err, refl, sym, ap, subst}
use Rattle.std.specs.List.{AllByRecursion as Each}
use Rattle.std.specs.List.Sorted.{IsPermutation}
use Rattle.std.specs.Prelude.{◌≢◌, ◌↔◌, Bool, Contains, IsTrue}
use Rattle.p21_spec_basics.proofs.Members.{Contains-unmapped}
use Rattle.p21_spec_basics.specs.Limits.{Limits}
use Rattle.p21_spec_laws.specs.CompleteFile.{Entry}
use Rattle.p21_spec_laws.specs.Taken.{names_among}
use Rattle.p21_spec_laws.proofs.Keeps.{keeps-by_instance, keeps-names}
use Rattle.p21_spec_laws.specs.UnrefusedStatements.{IsFound}
use Rattle.p21_spec_laws.specs.Keeping.{IsServedBy, Keeps, Kept, keep_instance}
use Rattle.p21_spec_laws.specs.Offending.{broken, name_again}
use Rattle.p21_spec_laws.specs.Stored as claim
use Rattle.p21_spec_laws.specs.Stored.{IsAmongEarlier, StoredEntry}
use Rattle.p21_spec_exchange.specs.Record.{Record}
use Rattle.p21_spec_exchange.specs.Statement.{instance}
use Rattle.p21_spec_file.specs.BrokenRule.{Breaks}
use Rattle.p21_spec_file.specs.CanonicalTexts.{IsInstanceText}
use Rattle.p21_spec_file.specs.Reference.{Need}
use Rattle.p21_spec_schema.specs.Schema.{Schema}
use Rattle.p21_stream_statements.specs.Fault.{fault_number}
use Rattle.p21_stream_statements.specs.declared.fault.Fault.{Fault}
use Rattle.p21_stream_statements.specs.declared.fault.Fault.TheVariants.{CanonicalTooLong, DuplicateName, NoMemory}
use Rattle.p21_stream_kept.proofs.Stepping.{long}
use Rattle.p21_stream_kept.specs.Inside.{stored_of, stored_with}
use Rattle.p21_stream_kept.specs.Steps.{FitsLimits, StepGives}
use Rattle.p21_stream_store.specs.Memberships.{Membership}
use Rattle.p21_stream_store.specs.StoredInstance as store
use Rattle.p21_stream_store.specs.StoredInstance.{instance_names}

-- ---- names

with-name : (membership : Option Membership) (x : store.StoredInstance) → (stored_with membership x).name ≡ x.name
with-name (Some membership) x = refl
with-name None x = refl

-- the names that are stored, whatever their memberships
pub stored-names : (memberships : List Membership) (instances : List store.StoredInstance)
    → map (λ (x : StoredEntry). x.name) (stored_of memberships instances) ≡ instance_names instances
stored-names memberships [] = refl
stored-names memberships (x ∷ xs) =
    ap (λ (n : ℕ). n ∷ map (λ (y : StoredEntry). y.name) (stored_of memberships xs)) (with-name _ x)
    ∙ ap (λ (ns : List ℕ). x.name ∷ ns) (stored-names memberships xs)

-- ---- steps

pub took-instance : (s : Schema) (limits : Limits) (old new : Kept) (entry : Entry) → IsFound s limits entry
    → (Contains (map (λ (x : StoredEntry). x.name) old.stored) entry.name → ⊥)
    → (added : List Need) → Each (Contains entry.needs) added
    → Each (λ (need : Need). Contains added need ⊎ IsServedBy s old.stored need) entry.needs
    → (number : ℕ) → suc number ≡ length old.headings → (stored : List StoredEntry)
    → IsPermutation (claim.stored_of old.lines (number, entry) ∷ old.stored) stored
    → (equal : Bool) → IsTrue equal ↔ (IsTrue old.equal × IsAmongEarlier old.lines (entry.name, entry.text))
    → FitsLimits limits (old.bytes + old.framing) (length entry.text) → new ≡ keep_instance old entry added stored equal
    → StepGives s limits old (instance entry.name entry.record_) (Ok tt) new
took-instance s limits old new entry found none added are_needs waits number last stored permuted equal is_equal room is given keeps =
    subst (λ (k : Kept). Keeps s limits (given ++ instance entry.name entry.record_ ∷ []) k) (sym is)
    (keeps-by_instance s limits given old keeps entry found none added are_needs waits number last stored permuted equal is_equal room.1)

-- the instance of the name that is stored was given
pub instance-again : (s : Schema) (limits : Limits) (old new : Kept) (n : ℕ) (record_ : Record)
    → Contains (map (λ (x : StoredEntry). x.name) old.stored) n → StepGives s limits old (instance n record_) (Err DuplicateName) new
instance-again s limits old new n record_ named other given keeps =
    let (x, among, is) = Contains-unmapped (λ (y : StoredEntry). y.name) old.stored n named in
    name_again n record_ (subst (λ (m : ℕ). Contains (names_among given) m) is (keeps-names s limits given old keeps x among))

-- the record breaks the rule of the number
pub instance-broken : (s : Schema) (limits : Limits) (old new : Kept) (n : ℕ) (record_ : Record) (fault : Fault)
    → (fault ≢ NoMemory → Breaks s record_ (fault_number fault)) → StepGives s limits old (instance n record_) (Err fault) new
instance-broken s limits old new n record_ fault breaks other given keeps = broken n record_ (fault_number fault) (breaks other)

pub refused-instance : (s : Schema) (limits : Limits) (old new : Kept) (n : ℕ) (record_ : Record) (text : List ℕ)
    → IsInstanceText s n record_ text → (FitsLimits limits (old.bytes + old.framing) (length text) → ⊥)
    → StepGives s limits old (instance n record_) (Err CanonicalTooLong) new
refused-instance s limits old new n record_ text is none other given keeps =
    long s limits given (old.bytes + old.framing) (instance n record_) text is none
