-- What a schema accepts is well formed by itself.
use Rattle.std.proofs.Common.{◌≡◌, ◌≤◌, ◌-◌, ℕ, List, [], ◌∷◌, ◌++◌, Contains, map, ap, arith, inl, inr, refl, subst, sym, ◌∙◌}
use Rattle.std.proofs.lemmas.Bool.Decides.{nat_tests}
use Rattle.std.specs.List.{AllZip, AllByRecursion as Each}
use Rattle.p21_spec_basics.proofs.Members.{AllZip-second_member, Contains-mapped, Contains-unmapped, Each-append, Each-mapped, Each-weaker}
use Rattle.p21_spec_exchange.specs.DataSection.{instances_in}
use Rattle.p21_spec_exchange.specs.Record.{Record}
use Rattle.p21_spec_file.specs.File.{InstanceMeans, entity_sets_of}
use Rattle.p21_spec_file.specs.Meaning.{RecordMeans, Typed}
use Rattle.p21_spec_file.specs.Reference.{EntitySets, IsServed, Need, record_references}
use Rattle.p21_spec_laws.proofs.Needs.{has-needs, means-served, needs-references}
use Rattle.p21_spec_schema.specs.Express.{IsIdentifierByte, IsLetter, upper}
use Rattle.p21_spec_schema.specs.Schema.{Schema}
use Rattle.p21_spec_schema.specs.SchemaName.{NamesSchema}
use Rattle.p21_spec_schema.specs.WellFormed.{IsWellFormed}
use Rattle.p21_spec_syntax.specs.Laws.{MeaningfulIsWellFormed}
use Rattle.p21_spec_syntax.specs.WellFormedFile.{BeginsWithName, names_of, references_of}

-- ---- names of schemas

-- what isn't a letter is its own upper case
same-digit : (p : ℕ) → p ≤ 96 → upper p ≡ p
same-digit p low = grind (arith, nat_tests)

upper-letter : (p : ℕ) → IsIdentifierByte p → IsLetter (upper p) → IsLetter p
upper-letter p (inl letter) up = letter
upper-letter p (inr (inl digit)) up = subst IsLetter (same-digit p (let high = digit.1 in omega (arith, high))) up
upper-letter p (inr (inr line)) up = subst IsLetter (same-digit p (omega (arith, line))) up

-- a text that names a schema whose name begins with a letter begins with one
text-begins : (chars name : List ℕ) → BeginsWithName name → NamesSchema chars name → BeginsWithName chars
text-begins chars name begins names = by names.prefix names.rest names.chars_are names.prefix_is (subst BeginsWithName (sym names.name_is) begins)
  where
    by : (prefix rest : List ℕ) → chars ≡ prefix ++ rest → Each IsIdentifierByte prefix → BeginsWithName (map upper prefix) → BeginsWithName chars
    by [] rest same each up = absurd up
    by (p ∷ prefix) rest same each up = subst BeginsWithName (sym same) (upper-letter p each.0 up)

-- ---- references

-- the references of a record that means something are names of the instances among which it does
record-given : (s : Schema) → IsWellFormed s → (kinds : EntitySets) (names : List ℕ) → ((n : ℕ) (entities : List ℕ) → Contains kinds (n, entities) → Contains names n) → (r : Record) (m : Typed) → RecordMeans s kinds r m → Each (Contains names) (record_references r)
record-given s formed kinds names within r m means =
    let (needs, own) = has-needs s kinds r m means in
    let served : Each (IsServed s kinds) needs = means-served s formed r m needs own kinds means in
    subst (Each (Contains names)) (needs-references s r m needs own.needs_are)
    (Each-mapped (Contains names) (λ (need : Need). need.target) needs (Each-weaker (IsServed s kinds) (λ (need : Need). Contains names need.target) (λ need at. within need.target at.0 at.1) needs served))

each-given : (s : Schema) → IsWellFormed s → (kinds : EntitySets) (names : List ℕ) → ((n : ℕ) (entities : List ℕ) → Contains kinds (n, entities) → Contains names n) → (is : List (ℕ × Record)) (ms : List (ℕ × Typed)) → AllZip (InstanceMeans s kinds) is ms → Each (Contains names) (references_of is)
each-given s formed kinds names within [] ms all = tt
each-given s formed kinds names within (i ∷ is) [] all = absurd all
each-given s formed kinds names within (i ∷ is) (m ∷ ms) all =
    Each-append (Contains names) (record_references i.1) (references_of is) (record-given s formed kinds names within i.1 m.1 all.0.1) (each-given s formed kinds names within is ms all.1)

-- a set is that of an instance
set-named : (s : Schema) (kinds : EntitySets) (is : List (ℕ × Record)) (ms : List (ℕ × Typed)) → AllZip (InstanceMeans s kinds) is ms → (n : ℕ) (entities : List ℕ) → Contains (entity_sets_of ms) (n, entities) → Contains (names_of is) n
set-named s kinds is ms all n entities among =
    let (m, at, same) = Contains-unmapped (λ (i : ℕ × Typed). (i.0, i.1.entities)) ms (n, entities) among in
    let (i, there, means) = AllZip-second_member (InstanceMeans s kinds) is ms m all at in
    let name : i.0 ≡ n = sym means.0 ∙ ap (λ (k : ℕ × List ℕ). k.0) same in
    subst (λ (k : ℕ). Contains (names_of is) k) name (Contains-mapped (λ (x : ℕ × Record). x.0) is i there)

pub meaningful-well_formed : MeaningfulIsWellFormed
meaningful-well_formed s formed begins limits bytes meaning means =
    let reads = means.reads in
    let is : List (ℕ × Record) = instances_in reads.structure.sections in
    let kinds : EntitySets = entity_sets_of meaning.instances in
    record {
      schema_text = reads.schema_text;
      file = record { in_grammar = reads.in_grammar; file_within = means.file_within; statements_within = means.statements_within };
      begins_with_name = text-begins reads.schema_text s.name begins reads.names_schema;
      names_schema = reads.names_schema;
      sections_name_schema = reads.sections_name_schema;
      section_names_differ = reads.section_names_differ;
      names_differ = reads.names_differ;
      references_given = each-given s formed kinds (names_of is) (set-named s kinds is meaning.instances reads.means) is meaning.instances reads.means;
    }
