-- A statement has one `;`, which is its last token; parentheses of parameters and records are balanced.
use Rattle.std.proofs.Common.{◌≡◌, ℕ, Bool, true, false, List, [], ◌∷◌, ◌++◌, refl}
use Rattle.std.specs.List.{flat_map, AllByRecursion as Each}
use Rattle.p21_spec_exchange.specs.OpenNesting.{IsNoSemicolon, EndsWithSemicolon}
use Rattle.p21_spec_exchange.specs.Parameter.{Param, list, typed, Params, no_params, param, key_token, param_tokens, params_tokens, more_tokens}
use Rattle.p21_spec_exchange.specs.Record.{Part, Record, simple, complex, part_tokens, record_tokens}
use Rattle.p21_spec_exchange.specs.DataSection.{unnamed, named, data_part}
use Rattle.p21_spec_exchange.specs.Statement.{SectionLine, begin, header_start, section_end, data_start, finish, Statement, section, header, instance, section_tokens, statement_tokens}
use Rattle.p21_spec_exchange.specs.Token as token
use Rattle.p21_spec_exchange.specs.Token.{Token}
pub use Rattle.p21_spec_basics.proofs.Members.{Each-append}

abbrev HaveNone : List Token → Type 0
HaveNone tokens = Each IsNoSemicolon tokens

-- in parentheses
enclosed : (tokens : List Token) → HaveNone tokens → HaveNone (tokens ++ (token.right ∷ []))
enclosed tokens none = Each-append IsNoSemicolon tokens (token.right ∷ []) none (λ e. cc, tt)

key-none : (user : Bool) (word : List ℕ) → IsNoSemicolon (key_token (record { user = user; word = word }))
key-none true word = λ e. cc
key-none false word = λ e. cc

mutual
  pub param-no_semicolon : (p : Param) → HaveNone (param_tokens p)
  param-no_semicolon (list ps) = (λ e. cc, enclosed (params_tokens ps) (params-no_semicolon ps))
  param-no_semicolon (typed key p) = (key-none key.user key.word, (λ e. cc, enclosed (param_tokens p) (param-no_semicolon p)))
  param-no_semicolon other = (λ e. cc, tt)

  pub params-no_semicolon : (ps : Params) → HaveNone (params_tokens ps)
  params-no_semicolon no_params = tt
  params-no_semicolon (param p ps) = Each-append IsNoSemicolon (param_tokens p) (more_tokens ps) (param-no_semicolon p) (more-no_semicolon ps)

  more-no_semicolon : (ps : Params) → HaveNone (more_tokens ps)
  more-no_semicolon no_params = tt
  more-no_semicolon (param p ps) = (λ e. cc, Each-append IsNoSemicolon (param_tokens p) (more_tokens ps) (param-no_semicolon p) (more-no_semicolon ps))

pub part-no_semicolon : (part : Part) → HaveNone (part_tokens part)
part-no_semicolon part = (key-none part.key.user part.key.word, (λ e. cc, enclosed (params_tokens part.params) (params-no_semicolon part.params)))

pub record-no_semicolon : (r : Record) → HaveNone (record_tokens r)
record-no_semicolon (simple part) = part-no_semicolon part
record-no_semicolon (complex parts) = (λ e. cc, enclosed (flat_map part_tokens parts) (all parts))
  where
    all : (parts : List Part) → HaveNone (flat_map part_tokens parts)
    all [] = tt
    all (part ∷ parts) = Each-append IsNoSemicolon (part_tokens part) (flat_map part_tokens parts) (part-no_semicolon part) (all parts)

-- the tokens of a statement before its `;`
abbrev pub unended : Statement → List Token
unended (section line) = section_tokens line
unended (header part) = part_tokens part
unended (instance n r) = token.name n ∷ token.equals ∷ record_tokens r

pub statement-ends : (s : Statement) → statement_tokens s ≡ unended s ++ (token.semicolon ∷ [])
statement-ends (section line) = refl
statement-ends (header part) = refl
statement-ends (instance n r) = refl

section-none : (line : SectionLine) → HaveNone (section_tokens line)
section-none begin = (λ e. cc, tt)
section-none header_start = (λ e. cc, tt)
section-none section_end = (λ e. cc, tt)
section-none (data_start unnamed) = (λ e. cc, tt)
section-none (data_start (named name schema)) = part-no_semicolon (data_part name schema)
section-none finish = (λ e. cc, tt)

pub unended-no_semicolon : (s : Statement) → HaveNone (unended s)
unended-no_semicolon (section line) = section-none line
unended-no_semicolon (header part) = part-no_semicolon part
unended-no_semicolon (instance n r) = (λ e. cc, (λ e. cc, record-no_semicolon r))

-- so whole statements end with `;`
ends-append : (xs ys : List Token) → EndsWithSemicolon ys → EndsWithSemicolon ((xs ++ (token.semicolon ∷ [])) ++ ys)
ends-append [] [] ends = refl
ends-append [] (y ∷ ys) ends = ends
ends-append (x ∷ []) ys ends = ends-append [] ys ends
ends-append (x ∷ next ∷ xs) ys ends = ends-append (next ∷ xs) ys ends

pub statements-end : (ss : List Statement) → EndsWithSemicolon (flat_map statement_tokens ss)
statements-end [] = tt
statements-end (s ∷ ss) = rw (statement-ends s) (ends-append (unended s) (flat_map statement_tokens ss) (statements-end ss))
