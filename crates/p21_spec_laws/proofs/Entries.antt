-- Instances with their meanings, as they are printed: each with its canonical record.
use Rattle.std.specs.Prelude.{◌≡◌, ℕ, List, [], ◌∷◌, map, codes, Contains, refl}
use Rattle.std.specs.List.{AllZip, AllByRecursion as Each}
use Rattle.std.proofs.Common.{ap, subst, inl, inr}
use Rattle.p21_spec_schema.specs.WellFormed.{IsWellFormed}
use Rattle.p21_spec_basics.proofs.Members.{Contains-none, Contains-first, Contains-later, Contains-cases, Each-append, Each-front}
use Rattle.p21_spec_file.specs.CanonicalRecord.{IsCanonicalRecord}
use Rattle.p21_spec_file.specs.File.{InstanceMeans, entity_sets_of}
use Rattle.p21_spec_exchange.specs.Grammar.{IsDataRecord}
use Rattle.p21_spec_file.specs.Meaning.{Typed, RecordMeans}
use Rattle.p21_spec_exchange.specs.Record.{record_tokens}
use Rattle.p21_spec_file.specs.Reference.{EntitySets}
use Rattle.p21_spec_schema.specs.Schema.{Schema}
use Rattle.p21_spec_exchange.specs.Statement.{instance}
use Rattle.p21_spec_exchange.specs.Token as token
use Rattle.p21_spec_laws.proofs.FileOnce.{Meant}
use Rattle.p21_spec_laws.proofs.SaidFiles.{Instance, instance_of}
use Rattle.p21_spec_laws.specs.Written.{IsWrittenStatement}
use Rattle.p21_spec_laws.proofs.SectionsOnce.{named}
use Rattle.p21_spec_laws.proofs.Printing.{canonical_typed}
use Rattle.p21_spec_laws.proofs.PrintingParts.{has-canonical_record}
use Rattle.p21_spec_laws.proofs.Wider.{IsWider, record-wider}
use Rattle.p21_spec_exchange.specs.Token.{IsSpelled}

-- an instance with its meaning
abbrev pub Entry : Type 0
Entry = Instance × Meant

pub record IsEntry (s : Schema) (kinds : EntitySets) (e : Entry) : Type 0 where
  pub name : e.1.0 ≡ e.0.0
  pub means : RecordMeans s kinds e.0.1 e.1.1
  pub canonical : IsCanonicalRecord s e.0.1 e.1.1
  pub said : IsWrittenStatement (instance e.0.0 e.0.1)
  pub data_record : IsDataRecord e.0.1

abbrev pub canonical_meant : Schema → Meant → Meant
canonical_meant s m = (m.0, canonical_typed s m.1)

abbrev pub written_in : List Entry → List Instance
written_in es = map (λ (e : Entry). e.0) es

abbrev pub meants_in : List Entry → List Meant
meants_in es = map (λ (e : Entry). e.1) es

abbrev pub names_in : List Entry → List ℕ
names_in es = map (λ (e : Entry). e.0.0) es

pub record AreEntries (s : Schema) (kinds : EntitySets) (is : List Instance) (ms : List Meant) : Type 0 where
  pub entries : List Entry
  pub each : Each (IsEntry s kinds) entries
  pub names : names_in entries ≡ named is
  pub meants : meants_in entries ≡ map (canonical_meant s) ms

pub enter : (s : Schema) → IsWellFormed s → (kinds : EntitySets) (is : List Instance) (ms : List Meant) → AllZip (InstanceMeans s kinds) is ms → Each (λ (i : Instance). IsWrittenStatement (instance i.0 i.1)) is → Each (λ (i : Instance). IsDataRecord i.1) is → AreEntries s kinds is ms
enter s formed kinds [] [] all said_ data_ = record { entries = []; each = tt; names = refl; meants = refl }
enter s formed kinds [] (m ∷ ms) all said_ data_ = absurd all
enter s formed kinds (i ∷ is) [] all said_ data_ = absurd all
enter s formed kinds (i ∷ is) (m ∷ ms) all said_ data_ =
    let rest = enter s formed kinds is ms all.1 said_.1 data_.1 in
    let has = has-canonical_record s formed kinds i.1 m.1 all.0.1 (Each-front IsSpelled (record_tokens i.1) (token.semicolon ∷ []) said_.0.1.1) data_.0 in
    record {
      entries = ((i.0, has.record_), canonical_meant s m) ∷ rest.entries;
      each = (
        record {
          name = all.0.0;
          means = has.means;
          canonical = has.canonical;
          said = (said_.0.0, (said_.0.1.0, Each-append IsSpelled (record_tokens has.record_) (token.semicolon ∷ []) has.written ((codes ";", refl), tt)));
          data_record = has.data_record;
        },
        rest.each,
      );
      names = ap (λ (ns : List ℕ). i.0 ∷ ns) rest.names;
      meants = ap (λ (xs : List Meant). canonical_meant s m ∷ xs) rest.meants;
    }

-- ---- what entries are

pub names-of : (es : List Entry) → names_in es ≡ named (written_in es)
names-of [] = refl
names-of (e ∷ es) = ap (λ (ns : List ℕ). e.0.0 ∷ ns) (names-of es)

pub entries-mean : (s : Schema) (kinds wide : EntitySets) → IsWider kinds wide → (es : List Entry) → Each (IsEntry s kinds) es → AllZip (InstanceMeans s wide) (written_in es) (meants_in es)
entries-mean s kinds wide wider [] each = tt
entries-mean s kinds wide wider (e ∷ es) each = ((each.0.name, record-wider s kinds wide wider e.0.1 e.1.1 each.0.means), entries-mean s kinds wide wider es each.1)

pub entries-canonical : (s : Schema) (kinds : EntitySets) (es : List Entry) → Each (IsEntry s kinds) es → AllZip (λ (written : Instance) (meant : Meant). IsCanonicalRecord s written.1 meant.1) (written_in es) (meants_in es)
entries-canonical s kinds [] each = tt
entries-canonical s kinds (e ∷ es) each = (each.0.canonical, entries-canonical s kinds es each.1)

pub entries-data : (s : Schema) (kinds : EntitySets) (es : List Entry) → Each (IsEntry s kinds) es → Each (λ (i : Instance). IsDataRecord i.1) (written_in es)
entries-data s kinds [] each = tt
entries-data s kinds (e ∷ es) each = (each.0.data_record, entries-data s kinds es each.1)

pub entries-said : (s : Schema) (kinds : EntitySets) (es : List Entry) → Each (IsEntry s kinds) es → Each IsWrittenStatement (map instance_of (written_in es))
entries-said s kinds [] each = tt
entries-said s kinds (e ∷ es) each = (each.0.said, entries-said s kinds es each.1)

pub entity_sets-same : (s : Schema) (ms : List Meant) → entity_sets_of (map (canonical_meant s) ms) ≡ entity_sets_of ms
entity_sets-same s [] = refl
entity_sets-same s (m ∷ ms) = ap (λ (ks : EntitySets). (m.0, m.1.entities) ∷ ks) (entity_sets-same s ms)

pub Contains-canonical : (s : Schema) (ms : List Meant) (n : ℕ) (y : Typed) → Contains (map (canonical_meant s) ms) (n, y) → (x : Typed) × Contains ms (n, x) × (canonical_typed s x ≡ y)
Contains-canonical s [] n y among = absurd (Contains-none (n, y) among)
Contains-canonical s (m ∷ ms) n y among = elim (Contains-cases (canonical_meant s m) (map (canonical_meant s) ms) (n, y) among) [
  | inl h ↦ (let P : ℕ → Type 0 = λ k. Contains (m ∷ ms) (k, m.1) in (m.1, subst P (ap (λ (z : Meant). z.0) h) (Contains-first m ms), ap (λ (z : Meant). z.1) h))
  | inr h ↦ let (x, found, is) = Contains-canonical s ms n y h in (x, Contains-later m ms (n, x) found, is)
]
