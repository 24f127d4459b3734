-- ONEOF lists and other runs behind SUPERTYPE OF, and lists that declare nothing.
use Rattle.std.specs.Prelude.{◌≡◌, ℕ, zero, suc, ◌≤◌, ◌<◌, true, false, List, [], ◌∷◌, codes, Some, None, refl, take, slice_get, length, Contains}
use Rattle.std.specs.List.{AllZip, count_by, IsDistinct}
use Rattle.std.specs.Str.{bytes_eq}
use Rattle.std.proofs.Common.{arith, get_or, ap, sym, subst, ◌∙◌}
use Rattle.p21_spec_schema.specs.Declared.{HasSupertype, DeclaresSchema}
use Rattle.p21_spec_schema.specs.DeclaredEntity.{no_more}
use Rattle.p21_spec_schema.specs.DeclaredOneOf.{all_one_of_names, DeclaresOneOf}
use Rattle.p21_spec_schema.specs.EntityDeclaration.{EntityDeclaration}
use Rattle.p21_spec_schema.specs.Express.{Lexeme, identifier, symbol}
use Rattle.p21_spec_schema.specs.ReservedWord.{reserved_words, AreNames}
use Rattle.p21_spec_schema.specs.Run.{is_symbol}
use Rattle.p21_spec_schema.specs.Schema.{Schema, EntityNamed, TypeNamed}
use Rattle.p21_spec_schema.specs.SchemaDeclaration.{SchemaDeclaration, entities_of}
use Rattle.p21_spec_schema.specs.SupertypeConstraint.{one_of, other_run, abstract_supertype_of, supertype_of, one_of_lexemes, IsOneOf, IsExpression, IsConstraint}
use Rattle.p21_spec_schema.proofs.DeclaredExamples.{schema_of, entity_named}
use Rattle.p21_spec_schema.proofs.DeclaredSchemas.{declared-entity, names_of_all, distinct_names-apart}
use Rattle.p21_spec_basics.proofs.Members.{Contains-none, Contains-no_word, AllZip-second_member}
use Rattle.p21_spec_schema.proofs.OneOfReadings.{identifiers, listed-identifiers}
use Rattle.p21_spec_schema.proofs.TestSchemas.{entity_of}

-- what the names of a list are that has these lexemes
names-are : (run : List Lexeme) (names : List (List ℕ)) → run ≡ one_of_lexemes names → codes "ONEOF" ∷ names ≡ identifiers run
names-are run names is = sym (listed-identifiers names) ∙ ap identifiers (sym is)

-- `ONEOF (a, b)` is a list, and no other run
pub a_or_b-is_list : IsConstraint (supertype_of (one_of (codes "A" ∷ codes "B" ∷ [])))
a_or_b-is_list = (omega arith, (Contains-no_word (codes "A") reserved_words refl refl, (Contains-no_word (codes "B") reserved_words refl refl, tt)))

a_or_b-is_no_run : IsExpression (other_run (one_of_lexemes (codes "A" ∷ codes "B" ∷ []))) → ⊥
a_or_b-is_no_run is = is.1 (codes "A" ∷ codes "B" ∷ [], a_or_b-is_list, refl)

-- `ONEOF (a, b) ANDOR c` is another run
abbrev pub andor_run : List Lexeme
andor_run = identifier (codes "ONEOF") ∷ symbol 40 ∷ identifier (codes "A") ∷ symbol 44 ∷ identifier (codes "B") ∷ symbol 41 ∷ identifier (codes "ANDOR") ∷ identifier (codes "C") ∷ []

pub andor-is_run : IsExpression (other_run andor_run)
andor-is_run = ((each, refl), no_list)
  where
    each : (k : ℕ) → count_by (is_symbol 41) (take k andor_run) ≤ count_by (is_symbol 40) (take k andor_run)
    each zero = omega arith
    each (suc zero) = omega arith
    each (suc (suc zero)) = omega arith
    each (suc (suc (suc zero))) = omega arith
    each (suc (suc (suc (suc zero)))) = omega arith
    each (suc (suc (suc (suc (suc zero))))) = omega arith
    each (suc (suc (suc (suc (suc (suc zero)))))) = omega arith
    each (suc (suc (suc (suc (suc (suc (suc zero))))))) = omega arith
    each (suc (suc (suc (suc (suc (suc (suc (suc zero)))))))) = omega arith
    each (suc (suc (suc (suc (suc (suc (suc (suc (suc k))))))))) = omega arith

    no_list : IsOneOf andor_run → ⊥
    no_list (names, are, is) =
        let names_are : names ≡ codes "A" ∷ codes "B" ∷ codes "ANDOR" ∷ codes "C" ∷ [] = (let h : codes "ONEOF" ∷ names ≡ codes "ONEOF" ∷ codes "A" ∷ codes "B" ∷ codes "ANDOR" ∷ codes "C" ∷ [] = names-are andor_run names is in cc) in
        let long : 8 ≡ 10 = ap length is ∙ ap (λ ns. length (one_of_lexemes ns)) names_are in omega (arith, long)

-- `ONEOF (of)` is another run, since OF is no name
of_run-is_no_list : IsOneOf (identifier (codes "ONEOF") ∷ symbol 40 ∷ identifier (codes "OF") ∷ symbol 41 ∷ []) → ⊥
of_run-is_no_list (names, are, is) =
    let names_are : names ≡ codes "OF" ∷ [] = (let h : codes "ONEOF" ∷ names ≡ codes "ONEOF" ∷ codes "OF" ∷ [] = names-are _ names is in cc) in
    let h : AreNames (codes "OF" ∷ []) = subst AreNames names_are are in h.1.0 (7, omega arith, refl)

-- `ENTITY s SUPERTYPE OF (ONEOF (..)); END_ENTITY; ENTITY a; END_ENTITY;`
abbrev with_list : List (List ℕ) → SchemaDeclaration
with_list names = schema_of (record { name = codes "S"; constraint = supertype_of (one_of names); subtype_of = None; explicit = []; derive = None; rules = None } ∷ entity_named (codes "A") [] ∷ [])

-- the lists behind ABSTRACT SUPERTYPE OF and behind SUPERTYPE OF are kept, in the order of the entities
lists-kept : all_one_of_names (record { name = codes "S"; constraint = abstract_supertype_of (one_of (codes "A" ∷ codes "B" ∷ [])); subtype_of = None; explicit = []; derive = None; rules = None } ∷ entities_of (with_list (codes "C" ∷ [])).declarations) ≡ (codes "A" ∷ codes "B" ∷ []) ∷ (codes "C" ∷ []) ∷ []
lists-kept = refl

-- the only list of a schema so declared
only_list : (names : List (List ℕ)) (s : Schema) → DeclaresSchema (with_list names) s → (listed : List ℕ) × DeclaresOneOf s names listed
only_list names s declares = first s.one_of_lists declares.one_of_are
  where
    first : (lists : List (List ℕ)) → AllZip (DeclaresOneOf s) (names ∷ []) lists → (listed : List ℕ) × DeclaresOneOf s names listed
    first [] all = absurd all
    first (listed ∷ lists) all = (listed, all.0)

-- A may be listed, though it is no subtype of S
pub unrelated-is_listed : DeclaresSchema (with_list (codes "A" ∷ [])) (record { name = codes "S"; types = []; entities = entity_of (codes "S") [] [] ∷ entity_of (codes "A") [] [] ∷ []; one_of_lists = (1 ∷ []) ∷ [] })
unfolding IsDistinct
unrelated-is_listed = record {
  name_is = refl;
  entities_are = (
    record { name_is = refl; abstract_is = refl; supertypes_are = tt; attributes_are = tt; redeclared_are = tt; derived_are = no_more; nesting_small = tt; supertypes_distinct = tt; names_distinct = tt; places_distinct = tt },
    (record { name_is = refl; abstract_is = refl; supertypes_are = tt; attributes_are = tt; redeclared_are = tt; derived_are = no_more; nesting_small = tt; supertypes_distinct = tt; names_distinct = tt; places_distinct = tt }, tt),
  );
  types_are = tt;
  one_of_are = ((((entity_of (codes "A") [] [], refl, refl), tt), (tt, tt)), tt);
  few = omega arith;
  names_distinct = ((refl, tt), (tt, tt));
  supertypes_end = (λ e. 0, λ e f up. absurd (no_supertype e f up));
  renaming_ends = (λ t. 0, λ t u h. cc);
  selects_end = (λ t. 0, λ t u ((members, h, among), is). cc);
}
  where
    no_supertype : (e f : ℕ) → HasSupertype (record { name = codes "S"; types = []; entities = entity_of (codes "S") [] [] ∷ entity_of (codes "A") [] [] ∷ []; one_of_lists = (1 ∷ []) ∷ [] }) e f → ⊥
    no_supertype zero f among = Contains-none f among
    no_supertype (suc zero) f among = Contains-none f among
    no_supertype (suc (suc e)) f among = Contains-none f among

-- no list has the name of a type
pub type-is_not_listed : (s : Schema) → IsDistinct bytes_eq (names_of_all s) → (t : ℕ) (name : List ℕ) (names : List (List ℕ)) (listed : List ℕ) → TypeNamed s t name → Contains names name → DeclaresOneOf s names listed → ⊥
type-is_not_listed s distinct t name names listed named among is =
    let (e, in_list, e_named) = AllZip-second_member (EntityNamed s) listed names name is.0 among in distinct_names-apart s distinct e t name e_named named

-- `ONEOF (a, a)`: a name twice
pub listed_twice-declares_nothing : (s : Schema) → DeclaresSchema (with_list (codes "A" ∷ codes "A" ∷ [])) s → ⊥
unfolding IsDistinct
listed_twice-declares_nothing s declares = let h : true ≡ false = (only_list _ s declares).1.1.0.0 in cc

-- `ONEOF (a, z)`: a name that is no entity
pub unknown_name-declares_nothing : (s : Schema) → DeclaresSchema (with_list (codes "A" ∷ codes "Z" ∷ [])) s → ⊥
unknown_name-declares_nothing s declares = refuted (only_list _ s declares).0 (only_list _ s declares).1.0
  where
    apart : (letter : ℕ) → letter < 90 → codes "Z" ≡ letter ∷ [] → ⊥
    apart letter below same = let h : 90 ≡ letter = ap (λ cs. get_or cs 0 0) same in omega (arith, below, h)

    s_declared : EntityDeclaration
    s_declared = record { name = codes "S"; constraint = supertype_of (one_of (codes "A" ∷ codes "Z" ∷ [])); subtype_of = None; explicit = []; derive = None; rules = None }

    no_entity : (e : ℕ) (d : EntityDeclaration) → slice_get (entities_of (with_list (codes "A" ∷ codes "Z" ∷ [])).declarations) e ≡ Some d → d.name ≡ codes "Z" → ⊥
    no_entity zero d at is = let named : d.name ≡ codes "S" = (let k : d ≡ s_declared = cc in ap (λ x. x.name) k) in apart 83 (omega arith) (sym is ∙ named)
    no_entity (suc zero) d at is = let named : d.name ≡ codes "A" = (let k : d ≡ entity_named (codes "A") [] = cc in ap (λ x. x.name) k) in apart 65 (omega arith) (sym is ∙ named)
    no_entity (suc (suc e)) d at is = cc

    refuted : (listed : List ℕ) → AllZip (EntityNamed s) listed (codes "A" ∷ codes "Z" ∷ []) → ⊥
    refuted [] all = absurd all
    refuted (e ∷ []) all = absurd all.1
    refuted (e ∷ f ∷ more) ((named, ((x, at, is), none))) = let (d, at_d, x_is) = declared-entity _ s declares f x at in no_entity f d at_d (sym x_is.name_is ∙ is)
