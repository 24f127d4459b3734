-- Declarations that are read over, and whole schemas: what was read is written so.
use Rattle.std.proofs.Common.{◌≡◌, ℕ, ◌+◌, ◌<◌, ◌≤◌, Bool, true, false, ◌&&◌, List, [], ◌∷◌, map, length, codes, Option, Some, None, refl, ap, sym, ◌∙◌, lit<, arith}
use Rattle.std.specs.List.{Contains, flat_map, AllByRecursion as Each}
use Rattle.std.proofs.lemmas.List.{length-map}
use Rattle.p21_spec_schema.specs.Express.{Lexeme, identifier, symbol}
use Rattle.p21_spec_schema.specs.Run.{IsRun, is_word, none}
use Rattle.p21_spec_schema.specs.SchemaDeclaration as written
use Rattle.p21_spec_schema.specs.SchemaDeclaration.{Declaration, SchemaDeclaration, read_over, read_over_lexemes, declaration_lexemes, version_lexemes, schema_lexemes, read_over_words, IsDeclaration, IsSchemaDeclaration, entities_of, types_of}
use Rattle.p21_express_lexemes.specs.Runs.{AreApart, behind_run}
use Rattle.p21_express_lexemes.specs.Taking.{Items, put, take_symbol, take_word, take_simple_string, take_name}
use Rattle.p21_express_lexemes.proofs.Put.{put-append}
use Rattle.p21_express_lexemes.proofs.Running.{nothing_apart}
use Rattle.p21_express_syntax.specs.Declaring.{DeclarationDigest, entity, defined, passed, entity_at, defined_at, over_end, over_at, passed_word_of, passed_behind, over_by, over_of, declaration_of, entity_digests, defined_type_digests, behind_version, count, few, if_few, declarations_of, digest_of, digest_if_ended, schema_of}
use Rattle.p21_express_syntax.specs.Digest.{EntityDigest, DefinedTypeDigest, SchemaDigest}
use Rattle.p21_express_syntax.specs.Digesting.{entity_digest, defined_type_digest, schema_digest}
use Rattle.p21_express_syntax.specs.Many.{many_of}
use Rattle.p21_express_syntax.specs.Within.{IsEntityWithin, IsDefinedWithin, IsSchemaWithin}
use Rattle.p21_express_syntax.specs.declared.schema.PassedWord.{PassedWord}
use Rattle.p21_express_syntax.specs.declared.schema.PassedWord.TheVariants as pass
use Rattle.p21_express_syntax.proofs.Apart.{functions_apart, procedures_apart}
use Rattle.p21_express_syntax.proofs.Declared.{entity_is, defined_is}
use Rattle.p21_express_syntax.proofs.Lists.{run_written, word_only}
use Rattle.p21_express_syntax.proofs.Repeated.{Shortens, StepWritten, step_written, many_is, written_shortens}
use Rattle.p21_express_syntax.proofs.Sounding.{OfSome, of_some, of_bind, of_choose, some_of, symbol_taken, word_taken, string_taken, name_taken, le_of, Written}
use Rattle.p21_express_syntax.proofs.TypesSound.{over}
use Rattle.p21_spec_schema.specs.Declared.{most_declarations}

-- ---- declarations

abbrev pub declaration_digest : Declaration → DeclarationDigest
declaration_digest (written.entity x) = entity (entity_digest x)
declaration_digest (written.defined x) = defined (defined_type_digest x)
declaration_digest (read_over x) = passed

abbrev pub IsDeclarationWithin : Declaration → Type 0
IsDeclarationWithin (written.entity x) = IsEntityWithin x
IsDeclarationWithin (written.defined x) = IsDefinedWithin x
IsDeclarationWithin (read_over x) = Unit {0}

abbrev pub IsOne : Declaration → Type 0
IsOne x = IsDeclaration x × IsDeclarationWithin x

abbrev pub DeclarationWritten : DeclarationDigest → Items → Items → Type 0
DeclarationWritten value items rest = Written declaration_lexemes IsOne declaration_digest value items rest

pub put_over : (first last : List ℕ) (nests : Bool) (run : List Lexeme) (more : Items) → put (read_over_lexemes (record { first = first; last = last; nests = nests; run = run })) more ≡ over (identifier first) (put run (over (identifier last) (over (symbol 59) more)))
put_over first last nests run more = simp put-append

over_is : (first last : List ℕ) (nests : Bool) → Contains read_over_words (first, last, nests) → (opens : Lexeme → Bool) → AreApart opens (is_word last) → ((run : List Lexeme) → IsRun opens (is_word last) run → IsRun (λ lexeme. nests && is_word first lexeme) (is_word last) run)
    → (items a : Items) → items ≡ over (identifier first) a → OfSome (over_at (over_end opens last a)) (λ p. OfSome p (λ f. DeclarationWritten f.0 items f.1))
unfolding over_end
over_is first last nests known opens apart runs items a e = of_bind (over_end opens last a) _ _ (λ rest er. of_some (over_end opens last a) (λ r. DeclarationWritten passed items r)
    (of_bind (behind_run opens (is_word last) a) _ _ (λ b eb. some_of (take_symbol 59 b) _ (λ r es.
    let w = run_written opens (is_word last) (identifier last) apart (word_only last) a b eb in
    record {
      tree = read_over (record { first = first; last = last; nests = nests; run = w.0 });
      stands = e ∙ (ap (over (identifier first)) (w.2 ∙ ap (λ (x : Items). put w.0 (over (identifier last) x)) (symbol_taken 59 b r es)) ∙ sym (put_over first last nests w.0 r));
      is_one = ((known, runs w.0 w.1), tt);
      same = refl;
    }))) rest er)

abbrev first_word : PassedWord → List ℕ
first_word pass.Function = codes "FUNCTION"
first_word pass.Procedure = codes "PROCEDURE"
first_word pass.Rule = codes "RULE"
first_word pass.Constant = codes "CONSTANT"
first_word pass.SubtypeConstraint = codes "SUBTYPE_CONSTRAINT"

word_is : (items : Items) → OfSome (passed_word_of items) (λ f. items ≡ over (identifier (first_word f.0)) f.1)
unfolding passed_word_of
word_is items = of_choose (take_word (codes "FUNCTION") items) _ _ _ (λ r e. word_taken (codes "FUNCTION") items r e) (λ n1. of_choose (take_word (codes "PROCEDURE") items) _ _ _ (λ r e. word_taken (codes "PROCEDURE") items r e)
    (λ n2. of_choose (take_word (codes "RULE") items) _ _ _ (λ r e. word_taken (codes "RULE") items r e) (λ n3. of_choose (take_word (codes "CONSTANT") items) _ _ _ (λ r e. word_taken (codes "CONSTANT") items r e)
    (λ n4. of_choose (take_word (codes "SUBTYPE_CONSTRAINT") items) _ _ _ (λ r e. word_taken (codes "SUBTYPE_CONSTRAINT") items r e) (λ n5. tt)))))

behind_is : (w : PassedWord) (items a : Items) → items ≡ over (identifier (first_word w)) a → OfSome (over_at (passed_behind w a)) (λ p. OfSome p (λ f. DeclarationWritten f.0 items f.1))
unfolding passed_behind
behind_is pass.Function items a e = over_is (codes "FUNCTION") (codes "END_FUNCTION") true (0, lit< tt, refl) (is_word (codes "FUNCTION")) functions_apart (λ run h. h) items a e
behind_is pass.Procedure items a e = over_is (codes "PROCEDURE") (codes "END_PROCEDURE") true (1, lit< tt, refl) (is_word (codes "PROCEDURE")) procedures_apart (λ run h. h) items a e
behind_is pass.Rule items a e = over_is (codes "RULE") (codes "END_RULE") false (2, lit< tt, refl) none (nothing_apart (is_word (codes "END_RULE"))) (λ run h. h) items a e
behind_is pass.Constant items a e = over_is (codes "CONSTANT") (codes "END_CONSTANT") false (3, lit< tt, refl) none (nothing_apart (is_word (codes "END_CONSTANT"))) (λ run h. h) items a e
behind_is pass.SubtypeConstraint items a e = over_is (codes "SUBTYPE_CONSTRAINT") (codes "END_SUBTYPE_CONSTRAINT") false (4, lit< tt, refl) none (nothing_apart (is_word (codes "END_SUBTYPE_CONSTRAINT"))) (λ run h. h) items a e

by_word : (items : Items) (o : Option (PassedWord × Items)) → passed_word_of items ≡ o → OfSome (over_by o) (λ p. OfSome p (λ f. DeclarationWritten f.0 items f.1))
by_word items None e = tt
by_word items (Some (w, a)) e = behind_is w items a (of_some (passed_word_of items) _ (word_is items) (w, a) e)

passed_is : (items : Items) → OfSome (over_of items) (λ p. OfSome p (λ f. DeclarationWritten f.0 items f.1))
unfolding over_of
passed_is items = by_word items (passed_word_of items) refl

declaration_is : (items : Items) → OfSome (declaration_of items) (λ p. OfSome p (λ f. DeclarationWritten f.0 items f.1))
unfolding declaration_of
declaration_is items = of_choose (take_word (codes "ENTITY") items) _ _ _
    (λ a ea. of_bind (entity_at a) _ _ (λ e ee.
    let w = of_some (entity_at a) _ (entity_is a) e ee in
    record { tree = written.entity w.tree; stands = word_taken (codes "ENTITY") items a ea ∙ w.stands; is_one = (w.is_one.0, w.is_one.1); same = ap entity w.same }))
    (λ n. of_choose (take_word (codes "TYPE") items) _ _ _
    (λ a ea. of_bind (defined_at a) _ _ (λ e ee.
    let w = of_some (defined_at a) _ (defined_is a) e ee in
    record { tree = written.defined w.tree; stands = word_taken (codes "TYPE") items a ea ∙ w.stands; is_one = (w.is_one.0, w.is_one.1); same = ap defined w.same }))
    (λ m. passed_is items))

pub declaration_written : StepWritten declaration_of declaration_lexemes IsOne declaration_digest
declaration_written = step_written declaration_of declaration_lexemes IsOne declaration_digest declaration_is

declaration_some : (x : Declaration) → 0 < length (declaration_lexemes x)
declaration_some (written.entity x) = omega arith
declaration_some (written.defined x) = omega arith
declaration_some (read_over x) = omega arith

pub declaration_shortens : Shortens declaration_of
declaration_shortens = written_shortens declaration_of declaration_lexemes IsOne declaration_digest declaration_written declaration_some

-- ---- schemas

pub entities_are : (ds : List Declaration) → entity_digests (map declaration_digest ds) ≡ map entity_digest (entities_of ds)
entities_are [] = refl
entities_are (written.entity x ∷ ds) = ap (λ (y : List EntityDigest). entity_digest x ∷ y) (entities_are ds)
entities_are (written.defined x ∷ ds) = entities_are ds
entities_are (read_over x ∷ ds) = entities_are ds

pub types_are : (ds : List Declaration) → defined_type_digests (map declaration_digest ds) ≡ map defined_type_digest (types_of ds)
types_are [] = refl
types_are (written.entity x ∷ ds) = types_are ds
types_are (written.defined x ∷ ds) = ap (λ (y : List DefinedTypeDigest). defined_type_digest x ∷ y) (types_are ds)
types_are (read_over x ∷ ds) = types_are ds

pub count_is : (ds : List Declaration) → count (map declaration_digest ds) ≡ length (entities_of ds) + length (types_of ds)
count_is ds =
    let e = ap length (entities_are ds) ∙ length-map (entities_of ds) entity_digest in
    let t = ap length (types_are ds) ∙ length-map (types_of ds) defined_type_digest in
    omega arith

are_declarations : (ds : List Declaration) → Each IsOne ds → Each IsDeclaration ds
are_declarations [] h = tt
are_declarations (x ∷ ds) h = (h.0.0, are_declarations ds h.1)

entities_within : (ds : List Declaration) → Each IsOne ds → Each IsEntityWithin (entities_of ds)
entities_within [] h = tt
entities_within (written.entity x ∷ ds) h = (h.0.1, entities_within ds h.1)
entities_within (written.defined x ∷ ds) h = entities_within ds h.1
entities_within (read_over x ∷ ds) h = entities_within ds h.1

types_within : (ds : List Declaration) → Each IsOne ds → Each IsDefinedWithin (types_of ds)
types_within [] h = tt
types_within (written.entity x ∷ ds) h = types_within ds h.1
types_within (written.defined x ∷ ds) h = (h.0.1, types_within ds h.1)
types_within (read_over x ∷ ds) h = types_within ds h.1

abbrev pub IsSchema : SchemaDeclaration → Type 0
IsSchema x = IsSchemaDeclaration x × IsSchemaWithin x

-- ---- all declarations

pub record AllWritten (ds : List DeclarationDigest) (items rest : Items) : Type 0 where
  pub tree : List Declaration
  pub stands : items ≡ put (flat_map declaration_lexemes tree) rest
  pub are : Each IsOne tree
  pub same : map declaration_digest tree ≡ ds
  pub are_few : count ds ≤ most_declarations

if_few_is : (found : List DeclarationDigest × Items) (claim : List DeclarationDigest × Items → Type 0) (test : Bool) → few found.0 ≡ test → (few found.0 ≡ true → claim found) → OfSome (if_few found) claim
if_few_is found claim true e h = rw e (h e)
if_few_is found claim false e h = rw e tt

all_are : (items : Items) → OfSome (declarations_of items) (λ f. AllWritten f.0 items f.1)
unfolding declarations_of
all_are items = of_bind (many_of declaration_of items) _ _ (λ f ef. if_few_is f (λ g. AllWritten g.0 items g.1) (few f.0) refl (λ t.
    let w = of_some (many_of declaration_of items) _ (many_is declaration_of declaration_lexemes IsOne declaration_digest declaration_written items) f ef in
    record { tree = w.tree; stands = w.stands; are = w.is_one; same = w.same; are_few = le_of (count f.0) most_declarations t }))

version_is : (items : Items) → (version : Option (List ℕ)) × (items ≡ put (version_lexemes version) (behind_version items))
version_is items = by (take_simple_string items) refl
  where
    by : (o : Option Items) → take_simple_string items ≡ o → (version : Option (List ℕ)) × (items ≡ put (version_lexemes version) (behind_version items))
    by None e = (None, rw e refl)
    by (Some rest) e = let w = string_taken items rest e in (Some w.0, rw e w.1)

pub put_schema : (x : SchemaDeclaration) (more : Items)
    → put (schema_lexemes x) more ≡ over (identifier (codes "SCHEMA")) (over (identifier x.name) (put (version_lexemes x.version) (over (symbol 59) (put (flat_map declaration_lexemes x.declarations) (over (identifier (codes "END_SCHEMA")) (over (symbol 59) more))))))
put_schema x more = simp put-append

schema_stands : (x : SchemaDeclaration) (items a b c d e f rest : Items) → items ≡ over (identifier (codes "SCHEMA")) a → a ≡ over (identifier x.name) b → b ≡ put (version_lexemes x.version) c → c ≡ over (symbol 59) d → d ≡ put (flat_map declaration_lexemes x.declarations) e → e ≡ over (identifier (codes "END_SCHEMA")) f → f ≡ over (symbol 59) rest
    → items ≡ put (schema_lexemes x) rest
schema_stands x items a b c d e f rest p q r s t u v = rw (p, q, r, s, t, u, v) (sym (put_schema x rest))

schema_same : (name : List ℕ) (version : Option (List ℕ)) (tree : List Declaration) (ds : List DeclarationDigest) → map declaration_digest tree ≡ ds → ◌≡◌ {A = SchemaDigest} (schema_digest (record { name = name; version = version; declarations = tree })) (digest_of name ds)
schema_same name version tree ds e =
    let p = sym (entities_are tree) ∙ ap entity_digests e in
    let q = sym (types_are tree) ∙ ap defined_type_digests e in
    rw (p, q) refl

pub record SchemaWritten (value : SchemaDigest) (items : Items) : Type 0 where
  pub tree : SchemaDeclaration
  pub stands : items ≡ put (schema_lexemes tree) []
  pub is_one : IsSchema tree
  pub same : schema_digest tree ≡ value

only_is : (name : List ℕ) (ds : List DeclarationDigest) (rest : Items) (claim : SchemaDigest → Type 0) → (rest ≡ [] → claim (digest_of name ds)) → OfSome (digest_if_ended name ds rest) claim
only_is name ds [] claim h = h refl
only_is name ds (item ∷ rest) claim h = tt

pub schema_is : (items : Items) → OfSome (schema_of items) (λ x. SchemaWritten x items)
unfolding schema_of
schema_is items = of_bind (take_word (codes "SCHEMA") items) _ _ (λ a ea. of_bind (take_name a) _ _ (λ n en. of_bind (take_symbol 59 (behind_version n.1)) _ _ (λ b eb. of_bind (declarations_of b) _ _ (λ ds ed. of_bind (take_word (codes "END_SCHEMA") ds.1) _ _ (λ c ec. of_bind (take_symbol 59 c) _ _ (λ rest er. only_is n.0 ds.0 rest _ (λ none.
    let name = name_taken a n.0 n.1 en in
    let version = version_is n.1 in
    let all = of_some (declarations_of b) _ (all_are b) ds ed in
    let tree : SchemaDeclaration = record { name = n.0; version = version.0; declarations = all.tree } in
    let counted = sym (ap count all.same) ∙ refl in
    record {
      tree = tree;
      stands = schema_stands tree items a n.1 (behind_version n.1) b ds.1 c [] (word_taken (codes "SCHEMA") items a ea) name.0 version.1 (symbol_taken 59 (behind_version n.1) b eb) all.stands (word_taken (codes "END_SCHEMA") ds.1 c ec) (symbol_taken 59 c rest er ∙ ap (over (symbol 59)) none);
      is_one = (
        record { name_is = name.1; declarations_are = are_declarations all.tree all.are },
        record { entities_within = entities_within all.tree all.are; types_within = types_within all.tree all.are; count_within = let f = all.are_few in let k = count_is all.tree in let s = ap count all.same in omega arith },
      );
      same = schema_same n.0 version.0 all.tree ds.0 all.same;
    })))))))
