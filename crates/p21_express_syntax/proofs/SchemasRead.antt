-- Whole schemas are read where they are written; what the reader of a text owes.
use Rattle.std.proofs.Common.{◌≡◌, ℕ, zero, suc, ◌<◌, ◌≤◌, Bool, true, false, ◌&&◌, List, [], ◌∷◌, map, length, codes, Option, Some, None, Result, Ok, Err, refl, ap, sym, subst, ◌∙◌, arith}
use Rattle.std.specs.List.{Contains, flat_map, AllByRecursion as Each}
use Rattle.p21_spec_schema.specs.Express.{Lexeme, identifier, symbol}
use Rattle.p21_spec_schema.specs.Run.{IsRun, is_word, none}
use Rattle.p21_spec_schema.specs.SchemaDeclaration as written
use Rattle.p21_spec_schema.specs.SchemaDeclaration.{Declaration, SchemaDeclaration, read_over, declaration_lexemes, version_lexemes, schema_lexemes, read_over_words, IsDeclaration, entities_of, types_of}
use Rattle.p21_express_lexemes.specs.Lexemes.{lexemes_of}
use Rattle.p21_express_lexemes.specs.Runs.{AreApart}
use Rattle.p21_express_lexemes.specs.Taking.{Items, put, take_symbol, take_word, take_simple_string}
use Rattle.p21_express_lexemes.specs.declared.fault.SyntaxFault.{SyntaxFault}
use Rattle.p21_express_lexemes.proofs.Put.{put_laid, laid_put}
use Rattle.p21_express_lexemes.proofs.Running.{nothing_apart}
use Rattle.p21_express_syntax.specs.Declaring.{DeclarationDigest, entity, defined, passed, entity_at, defined_at, over_end, passed_word_of, passed_behind, over_of, declaration_of, behind_version, count, declarations_of, digest_of, schema_of}
use Rattle.p21_express_syntax.specs.Digest.{EntityDigest, DefinedTypeDigest, SchemaDigest}
use Rattle.p21_express_syntax.specs.Digesting.{entity_digest, defined_type_digest, schema_digest}
use Rattle.p21_express_syntax.specs.ReadDeclarations.{IsTextOf, ReadsDeclarations}
use Rattle.p21_express_syntax.specs.ReadSchema.{SchemaRead}
use Rattle.p21_express_syntax.specs.Views.{schema_view}
use Rattle.p21_express_syntax.specs.Within.{IsEntityWithin, IsDefinedWithin}
use Rattle.p21_express_syntax.specs.declared.schema.Declarations.{Declarations}
use Rattle.p21_express_syntax.specs.declared.schema.PassedWord.{PassedWord}
use Rattle.p21_express_syntax.specs.declared.schema.PassedWord.TheVariants as pass
use Rattle.p21_express_syntax.proofs.Apart.{functions_apart, procedures_apart}
use Rattle.p21_express_syntax.proofs.DeclaredRead.{entity_read, defined_read}
use Rattle.p21_express_syntax.proofs.ListsRead.{run_read}
use Rattle.p21_express_syntax.proofs.Repeated.{many_read}
use Rattle.p21_express_syntax.proofs.Schemas.{declaration_digest, IsOne, IsSchema, put_over, put_schema, declaration_shortens, entities_are, types_are, count_is, schema_is}
use Rattle.p21_express_syntax.proofs.Sounding.{of_some, name_read, of_le}
use Rattle.p21_express_syntax.proofs.TypesSound.{over}
use Rattle.p21_spec_schema.specs.Declared.{most_declarations}
use Rattle.p21_spec_basics.proofs.Members.{some_is}
use Rattle.p21_spec_basics.specs.Limits.{text_limit}

-- ---- declarations that are read over

end_read : (opens : Lexeme → Bool) (last : List ℕ) (run : List Lexeme) (more : Items) → AreApart opens (is_word last) → IsRun opens (is_word last) run → is_word last (identifier last) ≡ true → ◌≡◌ {A = Option Items} (over_end opens last (put run (over (identifier last) (over (symbol 59) more)))) (Some more)
unfolding over_end take_symbol
end_read opens last run more apart is closed = rw (run_read opens (is_word last) (identifier last) run (over (symbol 59) more) apart is closed) refl

-- what begins with a word and is read over behind it
passed_by : (w : PassedWord) (items behind more : Items) → ◌≡◌ {A = Option (PassedWord × Items)} (passed_word_of items) (Some (w, behind)) → ◌≡◌ {A = Option Items} (passed_behind w behind) (Some more) → ◌≡◌ {A = Option (Option (DeclarationDigest × Items))} (over_of items) (Some (Some (passed, more)))
unfolding over_of
passed_by w items behind more e f = rw e (rw f refl)

-- no entity and no type begins with such a word
no_entity_or_type : (items more : Items) (x : DeclarationDigest) → take_word (codes "ENTITY") items ≡ None → take_word (codes "TYPE") items ≡ None → ◌≡◌ {A = Option (Option (DeclarationDigest × Items))} (over_of items) (Some (Some (x, more))) → ◌≡◌ {A = Option (Option (DeclarationDigest × Items))} (declaration_of items) (Some (Some (x, more)))
unfolding declaration_of
no_entity_or_type items more x n m e = rw n (rw m e)

-- a declaration that is read over, by its words
abbrev OverReads : List ℕ × List ℕ × Bool → Type 0
OverReads words = (run : List Lexeme) (more : Items) → IsRun (λ lexeme. words.2 && is_word words.0 lexeme) (is_word words.1) run
    → ◌≡◌ {A = Option (Option (DeclarationDigest × Items))} (declaration_of (over (identifier words.0) (put run (over (identifier words.1) (over (symbol 59) more))))) (Some (Some (passed, more)))

function_read : OverReads (codes "FUNCTION", codes "END_FUNCTION", true)
unfolding passed_word_of passed_behind take_word
function_read run more is =
    no_entity_or_type _ more passed refl refl (passed_by pass.Function _ (put run (over (identifier (codes "END_FUNCTION")) (over (symbol 59) more))) more refl (end_read (is_word (codes "FUNCTION")) (codes "END_FUNCTION") run more functions_apart is refl))

procedure_read : OverReads (codes "PROCEDURE", codes "END_PROCEDURE", true)
unfolding passed_word_of passed_behind take_word
procedure_read run more is =
    no_entity_or_type _ more passed refl refl (passed_by pass.Procedure _ (put run (over (identifier (codes "END_PROCEDURE")) (over (symbol 59) more))) more refl (end_read (is_word (codes "PROCEDURE")) (codes "END_PROCEDURE") run more procedures_apart is refl))

rule_read : OverReads (codes "RULE", codes "END_RULE", false)
unfolding passed_word_of passed_behind take_word
rule_read run more is =
    no_entity_or_type _ more passed refl refl (passed_by pass.Rule _ (put run (over (identifier (codes "END_RULE")) (over (symbol 59) more))) more refl (end_read none (codes "END_RULE") run more (nothing_apart (is_word (codes "END_RULE"))) is refl))

constant_read : OverReads (codes "CONSTANT", codes "END_CONSTANT", false)
unfolding passed_word_of passed_behind take_word
constant_read run more is =
    no_entity_or_type _ more passed refl refl (passed_by pass.Constant _ (put run (over (identifier (codes "END_CONSTANT")) (over (symbol 59) more))) more refl (end_read none (codes "END_CONSTANT") run more (nothing_apart (is_word (codes "END_CONSTANT"))) is refl))

subtype_constraint_read : OverReads (codes "SUBTYPE_CONSTRAINT", codes "END_SUBTYPE_CONSTRAINT", false)
unfolding passed_word_of passed_behind take_word
subtype_constraint_read run more is =
    no_entity_or_type _ more passed refl refl (passed_by pass.SubtypeConstraint _ (put run (over (identifier (codes "END_SUBTYPE_CONSTRAINT")) (over (symbol 59) more))) more refl (end_read none (codes "END_SUBTYPE_CONSTRAINT") run more (nothing_apart (is_word (codes "END_SUBTYPE_CONSTRAINT"))) is refl))

over_read : (words : List ℕ × List ℕ × Bool) → Contains read_over_words words → OverReads words
over_read words (zero, lt, e) = subst OverReads e function_read
over_read words (suc zero, lt, e) = subst OverReads e procedure_read
over_read words (suc (suc zero), lt, e) = subst OverReads e rule_read
over_read words (suc (suc (suc zero)), lt, e) = subst OverReads e constant_read
over_read words (suc (suc (suc (suc zero))), lt, e) = subst OverReads e subtype_constraint_read
over_read words (suc (suc (suc (suc (suc k)))), lt, e) = absurd (omega arith)

-- ---- declarations

entity_declared : (items behind more : Items) (x : EntityDigest) → items ≡ over (identifier (codes "ENTITY")) behind → ◌≡◌ {A = Option (EntityDigest × Items)} (entity_at behind) (Some (x, more)) → ◌≡◌ {A = Option (Option (DeclarationDigest × Items))} (declaration_of items) (Some (Some (entity x, more)))
unfolding declaration_of take_word
entity_declared items behind more x e f = rw e (rw f refl)

type_declared : (items behind more : Items) (x : DefinedTypeDigest) → items ≡ over (identifier (codes "TYPE")) behind → ◌≡◌ {A = Option (DefinedTypeDigest × Items)} (defined_at behind) (Some (x, more)) → ◌≡◌ {A = Option (Option (DeclarationDigest × Items))} (declaration_of items) (Some (Some (defined x, more)))
unfolding declaration_of take_word
type_declared items behind more x e f = rw e (rw f refl)

declaration_read : (x : Declaration) (more : Items) → IsOne x → ◌≡◌ {A = Option (Option (DeclarationDigest × Items))} (declaration_of (put (declaration_lexemes x) more)) (Some (Some (declaration_digest x, more)))
declaration_read (written.entity x) more is = let r = entity_read x more is in entity_declared _ r.0 more (entity_digest x) r.1 r.2
declaration_read (written.defined x) more is = let r = defined_read x more is in type_declared _ r.0 more (defined_type_digest x) r.1 r.2
declaration_read (read_over x) more is = ap declaration_of (put_over x.first x.last x.nests x.run more) ∙ over_read (x.first, x.last, x.nests) is.0.0 x.run more is.0.1

no_declaration : (more : Items) → ◌≡◌ {A = Option (Option (DeclarationDigest × Items))} (declaration_of (over (identifier (codes "END_SCHEMA")) more)) None
unfolding declaration_of over_of passed_word_of take_word
no_declaration more = refl

are_one : (ds : List Declaration) → Each IsDeclaration ds → Each IsEntityWithin (entities_of ds) → Each IsDefinedWithin (types_of ds) → Each IsOne ds
are_one [] h e t = tt
are_one (written.entity x ∷ ds) h e t = ((h.0, e.0), are_one ds h.1 e.1 t)
are_one (written.defined x ∷ ds) h e t = ((h.0, t.0), are_one ds h.1 e t.1)
are_one (read_over x ∷ ds) h e t = ((h.0, tt), are_one ds h.1 e t)

all_read : (ds : List Declaration) (more : Items) → Each IsOne ds → count (map declaration_digest ds) ≤ most_declarations
    → ◌≡◌ {A = Option (List DeclarationDigest × Items)} (declarations_of (put (flat_map declaration_lexemes ds) (over (identifier (codes "END_SCHEMA")) more))) (Some (map declaration_digest ds, over (identifier (codes "END_SCHEMA")) more))
unfolding declarations_of
all_read ds more are few_ =
    rw (many_read declaration_of declaration_shortens declaration_lexemes IsOne declaration_digest declaration_read ds (over (identifier (codes "END_SCHEMA")) more) are (no_declaration more))
    (rw (of_le (count (map declaration_digest ds)) most_declarations few_) refl)

version_read : (version : Option (List ℕ)) (more : Items) → ◌≡◌ {A = Items} (behind_version (put (version_lexemes version) (over (symbol 59) more))) (over (symbol 59) more)
unfolding take_simple_string
version_read None more = refl
version_read (Some version) more = refl

-- ---- schemas

schema_by : (x : SchemaDeclaration) → IsSchema x
    → ◌≡◌ {A = Option SchemaDigest} (schema_of (over (identifier (codes "SCHEMA")) (over (identifier x.name) (put (version_lexemes x.version) (over (symbol 59) (put (flat_map declaration_lexemes x.declarations) (over (identifier (codes "END_SCHEMA")) (over (symbol 59) []))))))))
    (Some (digest_of x.name (map declaration_digest x.declarations)))
unfolding schema_of take_word take_symbol
schema_by x is =
    let last : Items = over (identifier (codes "END_SCHEMA")) (over (symbol 59) []) in
    let all : Items = put (flat_map declaration_lexemes x.declarations) last in
    let counted : count (map declaration_digest x.declarations) ≤ most_declarations = (let c = count_is x.declarations in let f = is.1.count_within in omega arith) in
    rw (name_read x.name (put (version_lexemes x.version) (over (symbol 59) all)) is.0.name_is)
    (rw (version_read x.version all) (rw (all_read x.declarations (over (symbol 59) []) (are_one x.declarations is.0.declarations_are is.1.entities_within is.1.types_within) counted) refl))

digest_same : (x : SchemaDeclaration) → digest_of x.name (map declaration_digest x.declarations) ≡ schema_digest x
digest_same x = rw (entities_are x.declarations, types_are x.declarations) refl

pub schema_read : (x : SchemaDeclaration) → IsSchema x → ◌≡◌ {A = Option SchemaDigest} (schema_of (put (schema_lexemes x) [])) (Some (schema_digest x))
schema_read x is = ap schema_of (put_schema x []) ∙ (schema_by x is ∙ ap Some (digest_same x))

-- ---- the text

text_read : (text : List ℕ) (x : SchemaDeclaration) → IsTextOf x text → ◌≡◌ {A = Option SchemaDigest} (schema_of (lexemes_of text)) (Some (schema_digest x))
text_read text x h = ap schema_of (laid_put (schema_lexemes x) text h.laid) ∙ schema_read x (h.is_schema, h.is_within)

none_is : (x : SchemaDigest) → None ≡ Some x → ⊥
none_is x q = cc

pub reads_text : (text : List ℕ) (result : Result Declarations SyntaxFault) → length text ≤ text_limit → SchemaRead result (schema_of (lexemes_of text)) → ReadsDeclarations text result
reads_text text (Ok declarations) short e =
    let w = of_some (schema_of (lexemes_of text)) _ (schema_is (lexemes_of text)) (schema_view declarations) e in
    (w.tree, record { laid = put_laid (schema_lexemes w.tree) text w.stands; is_schema = w.is_one.0; is_within = w.is_one.1; is_short = short }, sym w.same)
reads_text text (Err fault) short e = λ other x h. none_is (schema_digest x) (sym (e other) ∙ text_read text x h)

pub too_long : (text : List ℕ) (fault : SyntaxFault) → text_limit < length text → ReadsDeclarations text (Err fault)
too_long text fault long = λ other x h. (let s = h.is_short in omega arith)

-- what is kept of the declarations whose text this is, is one
pub one_digest : (text : List ℕ) (x y : SchemaDeclaration) → IsTextOf x text → IsTextOf y text → schema_digest x ≡ schema_digest y
one_digest text x y h k = some_is (schema_digest x) (schema_digest y) (sym (text_read text x h) ∙ text_read text y k)
