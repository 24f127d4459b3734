-- Statements that may stand by themselves, and texts that name a schema.
use Rattle.std.specs.Prelude.{◌≡◌, ℕ, List, [], ◌∷◌, ◌++◌, map, refl}
use Rattle.std.specs.List.{AllByRecursion as Each}
use Rattle.std.proofs.Common.{ap, sym, subst, ◌∙◌}
use Rattle.p21_spec_laws.specs.FittingLaws.{FitsBySchemaText, FitsWithNoSchemaText, SchemaNameAtEnd, SchemaNameByCharacter, SchemaNameNoLonger, SchemaNameUpToOther}
use Rattle.p21_spec_exchange.specs.Header.{IsFileSchema}
use Rattle.p21_spec_exchange.specs.Parameter as parameter
use Rattle.p21_spec_exchange.specs.Parameter.{no_params, param}
use Rattle.p21_spec_exchange.specs.Record.{Part}
use Rattle.p21_spec_schema.specs.Express.{IsIdentifierByte, upper}
use Rattle.p21_spec_schema.specs.SchemaName.{NamesSchema}

-- a FILE_SCHEMA has one text
one-schema_text : (part : Part) (a b : List ℕ) → IsFileSchema part a → IsFileSchema part b → a ≡ b
one-schema_text part a b is is_ =
    let texts : param (parameter.list (param (parameter.text a) no_params)) no_params ≡ param (parameter.list (param (parameter.text b) no_params)) no_params = sym is.1 ∙ is_.1 in
    cc

pub fits-by_text : FitsBySchemaText
fits-by_text s limits part chars is names within =
    (within, λ others is_. let P : List ℕ → Type 0 = λ x. NamesSchema x s.name in subst P (one-schema_text part chars others is is_) names)

pub fits-with_no_text : FitsWithNoSchemaText
fits-with_no_text s limits part none within = (within, λ chars is. absurd (none chars is))

-- ---- schema texts

ends-empty : (prefix rest : List ℕ) → [] ≡ prefix ++ rest → prefix ≡ []
ends-empty [] rest same = refl
ends-empty (c ∷ prefix) rest same = cc

names-nothing : (chars : List ℕ) → ((char : ℕ) (more : List ℕ) → chars ≡ char ∷ more → IsIdentifierByte char → ⊥) → NamesSchema chars []
names-nothing chars stops = record { prefix = []; rest = chars; chars_are = refl; prefix_is = tt; longest = stops; name_is = refl }

pub names-at_end : SchemaNameAtEnd
names-at_end name = (
  λ is. sym is.name_is ∙ ap (map upper) (ends-empty is.prefix is.rest is.chars_are),
  λ none. subst (λ (n : List ℕ). NamesSchema [] n) (sym none) (names-nothing [] (λ char more same. cc)),
)

-- a name that begins so
record Begins (char : ℕ) (chars name : List ℕ) : Type 0 where
  more : List ℕ
  name_is : name ≡ upper char ∷ more
  names : NamesSchema chars more

begins : (char : ℕ) (chars name : List ℕ) → IsIdentifierByte char → NamesSchema (char ∷ chars) name → Begins char chars name
begins char chars name may is = by is.prefix is.rest is.chars_are is.prefix_is is.longest is.name_is
  where
    by : (prefix rest : List ℕ) → char ∷ chars ≡ prefix ++ rest → Each IsIdentifierByte prefix → ((c : ℕ) (more : List ℕ) → rest ≡ c ∷ more → IsIdentifierByte c → ⊥) → map upper prefix ≡ name → Begins char chars name
    by [] rest are each stops same = absurd (stops char chars (sym are) may)
    by (c ∷ prefix) rest are each stops same =
        let first : char ≡ c = cc in
        let later : chars ≡ prefix ++ rest = cc in
        record {
          more = map upper prefix;
          name_is = sym same ∙ ap (λ (x : ℕ). upper x ∷ map upper prefix) (sym first);
          names = record { prefix = prefix; rest = rest; chars_are = later; prefix_is = each.1; longest = stops; name_is = refl };
        }

pub names-by_character : SchemaNameByCharacter
names-by_character char chars next name may = (to, from)
  where
    to : NamesSchema (char ∷ chars) (next ∷ name) → (upper char ≡ next) × NamesSchema chars name
    to is =
        let it = begins char chars (next ∷ name) may is in
        let same : next ∷ name ≡ upper char ∷ it.more = it.name_is in
        let first : next ≡ upper char = cc in
        let later : name ≡ it.more = cc in
        (sym first, subst (λ (n : List ℕ). NamesSchema chars n) (sym later) it.names)

    from : (upper char ≡ next) × NamesSchema chars name → NamesSchema (char ∷ chars) (next ∷ name)
    from (first, is) = record {
      prefix = char ∷ is.prefix;
      rest = is.rest;
      chars_are = ap (λ (xs : List ℕ). char ∷ xs) is.chars_are;
      prefix_is = (may, is.prefix_is);
      longest = is.longest;
      name_is = ap (λ (x : ℕ). x ∷ map upper is.prefix) first ∙ ap (λ (xs : List ℕ). next ∷ xs) is.name_is;
    }

pub names-no_more : SchemaNameNoLonger
names-no_more char chars may is = let it = begins char chars [] may is in let same : [] ≡ upper char ∷ it.more = it.name_is in cc

pub names-up_to_other : SchemaNameUpToOther
names-up_to_other char chars name other = (
  λ is. by is.prefix is.rest is.chars_are is.prefix_is is.name_is,
  λ none. subst (λ (n : List ℕ). NamesSchema (char ∷ chars) n) (sym none) (names-nothing (char ∷ chars) (λ c more same may. other (let first : char ≡ c = cc in subst IsIdentifierByte (sym first) may))),
)
  where
    by : (prefix rest : List ℕ) → char ∷ chars ≡ prefix ++ rest → Each IsIdentifierByte prefix → map upper prefix ≡ name → name ≡ []
    by [] rest are each same = sym same
    by (c ∷ prefix) rest are each same = absurd (other (let first : char ≡ c = cc in subst IsIdentifierByte (sym first) each.0))
