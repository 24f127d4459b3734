-- The tests of header records and of named data sections decide what the definitions say of them.
use Rattle.std.proofs.Common.{◌≡◌, ℕ, Bool, true, false, List, [], ◌∷◌, inl, inr, refl, ap, sym, ◌∙◌, subst}
use Rattle.std.proofs.lemmas.Bool.{and_parts, not-true}
use Rattle.std.proofs.lemmas.Slice.Eq.{bytes_eq-Decides}
use Rattle.std.specs.Prelude.{◌≢◌, ◌&&◌, not, codes}
use Rattle.std.specs.List.{AllZip, AllByRecursion as Each}
use Rattle.p21_spec_exchange.specs.DataSection.{named, data_part, heading_of}
use Rattle.p21_spec_exchange.specs.Header.{HeaderType, string, strings, IsTextOrUnset, IsOfType, IsHeaderRecord, IsFileSchema, IsFurtherRecord, IsNoInstanceName}
use Rattle.p21_spec_exchange.specs.Parameter.{Key, key_of, Param, dollar, text, list, Params, no_params, param, listed, key_token, param_tokens, params_tokens, more_tokens}
use Rattle.p21_spec_exchange.specs.Record.{Part, part_tokens}
use Rattle.p21_spec_exchange.specs.Statement.{data_start, section_tokens}
use Rattle.p21_spec_exchange.specs.Token as token
use Rattle.p21_spec_exchange.proofs.Semicolons.{Each-append}
use Rattle.p21_grammar.specs.Shape.{is_key, is_text, is_text_or_unset, are_texts, are_strings, is_of_type, have_types, is_schema_row, is_schema, is_only_schema, is_name_and_schema, is_file_schema, is_further, is_heading}

key-cases : (wanted : List ℕ) (user : Bool) (w : List ℕ) → is_key wanted (record { user = user; word = w }) ≡ true → ◌≡◌ {A = Key} (record { user = user; word = w }) (key_of wanted)
key-cases wanted true w e = absurd cc
key-cases wanted false w e = ap key_of ((bytes_eq-Decides w wanted).0 e)

pub key-is : (wanted : List ℕ) (k : Key) → is_key wanted k ≡ true → k ≡ key_of wanted
key-is wanted k e = key-cases wanted k.user k.word e

pub is-key : (wanted : List ℕ) (k : Key) → k ≡ key_of wanted → is_key wanted k ≡ true
is-key wanted k e = ap (is_key wanted) e ∙ (bytes_eq-Decides wanted wanted).1 refl

true-false : (b : Bool) → b ≡ true → b ≡ false → ⊥
true-false b one two = let h : true ≡ false = sym one ∙ two in cc

not_key : (wanted : List ℕ) (k : Key) → not (is_key wanted k) ≡ true → k ≢ key_of wanted
not_key wanted k e is = true-false (is_key wanted k) (is-key wanted k is) (not-true (is_key wanted k) e)

key-not : (wanted : List ℕ) (k : Key) → k ≢ key_of wanted → not (is_key wanted k) ≡ true
key-not wanted k apart = by (is_key wanted k) refl where
  by : (b : Bool) → is_key wanted k ≡ b → not b ≡ true
  by true e = absurd (apart (key-is wanted k e))
  by false e = refl

text-is : (p : Param) → is_text_or_unset p ≡ true → IsTextOrUnset p
text-is dollar e = inl refl
text-is (text chars) e = inr (chars, refl)
text-is other e = absurd cc

is-text : (p : Param) → IsTextOrUnset p → is_text_or_unset p ≡ true
is-text p (inl e) = ap is_text_or_unset e
is-text p (inr (chars, e)) = ap is_text_or_unset e

both : (a b : Bool) → a ≡ true → b ≡ true → (a && b) ≡ true
both a b e f = ap (λ z. z && b) e ∙ f

texts-are : (ps : Params) → are_texts ps ≡ true → Each IsTextOrUnset (listed ps)
texts-are no_params e = tt
texts-are (param p ps) e = let parts = and_parts (is_text_or_unset p) (are_texts ps) e in (text-is p parts.0, texts-are ps parts.1)

are-texts : (ps : Params) → Each IsTextOrUnset (listed ps) → are_texts ps ≡ true
are-texts no_params all = refl
are-texts (param p ps) all = both (is_text_or_unset p) (are_texts ps) (is-text p all.0) (are-texts ps all.1)

strings-are : (p : Param) → are_strings p ≡ true → IsOfType strings p
strings-are dollar e = inl refl
strings-are (list ps) e = inr (ps, refl, texts-are ps e)
strings-are other e = absurd cc

are-strings : (p : Param) → IsOfType strings p → are_strings p ≡ true
are-strings p (inl e) = ap are_strings e
are-strings p (inr (ps, e, all)) = ap are_strings e ∙ are-texts ps all

type-is : (t : HeaderType) (p : Param) → is_of_type t p ≡ true → IsOfType t p
type-is string p e = text-is p e
type-is strings p e = strings-are p e

is-type : (t : HeaderType) (p : Param) → IsOfType t p → is_of_type t p ≡ true
is-type string p is = is-text p is
is-type strings p is = are-strings p is

types-are : (ts : List HeaderType) (ps : Params) → have_types ts ps ≡ true → AllZip IsOfType ts (listed ps)
types-are [] no_params e = tt
types-are [] (param p ps) e = absurd cc
types-are (t ∷ ts) no_params e = absurd cc
types-are (t ∷ ts) (param p ps) e = let parts = and_parts (is_of_type t p) (have_types ts ps) e in (type-is t p parts.0, types-are ts ps parts.1)

have-types : (ts : List HeaderType) (ps : Params) → AllZip IsOfType ts (listed ps) → have_types ts ps ≡ true
have-types [] no_params all = refl
have-types [] (param p ps) all = absurd all
have-types (t ∷ ts) no_params all = absurd all
have-types (t ∷ ts) (param p ps) all = both (is_of_type t p) (have_types ts ps) (is-type t p all.0) (have-types ts ps all.1)

-- parameters of these types hold no names
text-no_names : (p : Param) → is_text_or_unset p ≡ true → Each IsNoInstanceName (param_tokens p)
text-no_names dollar e = (tt, tt)
text-no_names (text chars) e = (tt, tt)
text-no_names other e = absurd cc

more-no_names : (ps : Params) → are_texts ps ≡ true → Each IsNoInstanceName (more_tokens ps)
more-no_names no_params e = tt
more-no_names (param p ps) e =
    let parts = and_parts (is_text_or_unset p) (are_texts ps) e in (tt, Each-append IsNoInstanceName (param_tokens p) (more_tokens ps) (text-no_names p parts.0) (more-no_names ps parts.1))

texts-no_names : (ps : Params) → are_texts ps ≡ true → Each IsNoInstanceName (params_tokens ps)
texts-no_names no_params e = tt
texts-no_names (param p ps) e =
    let parts = and_parts (is_text_or_unset p) (are_texts ps) e in Each-append IsNoInstanceName (param_tokens p) (more_tokens ps) (text-no_names p parts.0) (more-no_names ps parts.1)

type-no_names : (t : HeaderType) (p : Param) → is_of_type t p ≡ true → Each IsNoInstanceName (param_tokens p)
type-no_names string p e = text-no_names p e
type-no_names strings dollar e = (tt, tt)
type-no_names strings (list ps) e = (tt, Each-append IsNoInstanceName (params_tokens ps) (token.right ∷ []) (texts-no_names ps e) (tt, tt))
type-no_names strings other e = absurd cc

types-more : (ts : List HeaderType) (ps : Params) → have_types ts ps ≡ true → Each IsNoInstanceName (more_tokens ps)
types-more ts no_params e = tt
types-more [] (param p ps) e = absurd cc
types-more (t ∷ ts) (param p ps) e =
    let parts = and_parts (is_of_type t p) (have_types ts ps) e in (tt, Each-append IsNoInstanceName (param_tokens p) (more_tokens ps) (type-no_names t p parts.0) (types-more ts ps parts.1))

types-no_names : (ts : List HeaderType) (ps : Params) → have_types ts ps ≡ true → Each IsNoInstanceName (params_tokens ps)
types-no_names ts no_params e = tt
types-no_names [] (param p ps) e = absurd cc
types-no_names (t ∷ ts) (param p ps) e =
    let parts = and_parts (is_of_type t p) (have_types ts ps) e in Each-append IsNoInstanceName (param_tokens p) (more_tokens ps) (type-no_names t p parts.0) (types-more ts ps parts.1)

part-no_names : (w : List ℕ) (part : Part) → part.key ≡ key_of w → Each IsNoInstanceName (params_tokens part.params) → Each IsNoInstanceName (part_tokens part)
part-no_names w part e all = (subst (λ z. IsNoInstanceName (key_token z)) (sym e) tt, (tt, Each-append IsNoInstanceName (params_tokens part.params) (token.right ∷ []) all (tt, tt)))

pub record-is : (w : List ℕ) (ts : List HeaderType) (part : Part) → (is_key w part.key && have_types ts part.params) ≡ true → IsHeaderRecord w ts part
record-is w ts part e = let parts = and_parts (is_key w part.key) (have_types ts part.params) e in (key-is w part.key parts.0, types-are ts part.params parts.1)

pub is-record : (w : List ℕ) (ts : List HeaderType) (part : Part) → IsHeaderRecord w ts part → (is_key w part.key && have_types ts part.params) ≡ true
is-record w ts part is = both (is_key w part.key) (have_types ts part.params) (is-key w part.key is.0) (have-types ts part.params is.1)

pub record-no_names : (w : List ℕ) (ts : List HeaderType) (part : Part) → IsHeaderRecord w ts part → Each IsNoInstanceName (part_tokens part)
record-no_names w ts part is = part-no_names w part is.0 (types-no_names ts part.params (have-types ts part.params is.1))

-- a list of one text
abbrev pub only_schema : List ℕ → Params
only_schema chars = param (list (param (text chars) no_params)) no_params

text-only : (p : Param) → is_text p ≡ true → (chars : List ℕ) × (p ≡ text chars)
text-only (text chars) e = (chars, refl)
text-only other e = absurd cc

row-schema : (ps : Params) → is_schema_row ps ≡ true → (chars : List ℕ) × (ps ≡ param (text chars) no_params)
row-schema no_params e = absurd cc
row-schema (param p no_params) e = let found = text-only p e in (found.0, ap (λ z. param z no_params) found.1)
row-schema (param p (param q ps)) e = absurd cc

one-schema : (p : Param) → is_schema p ≡ true → (chars : List ℕ) × (p ≡ list (param (text chars) no_params))
one-schema (list ps) e = let found = row-schema ps e in (found.0, ap list found.1)
one-schema other e = absurd cc

pub schema-only : (ps : Params) → is_only_schema ps ≡ true → (chars : List ℕ) × (ps ≡ only_schema chars)
schema-only no_params e = absurd cc
schema-only (param p no_params) e = let found = one-schema p e in (found.0, ap (λ z. param z no_params) found.1)
schema-only (param p (param q ps)) e = absurd cc

pub schema-is : (part : Part) → is_file_schema part ≡ true → (chars : List ℕ) × IsFileSchema part chars
schema-is part e =
    let parts = and_parts (is_key (codes "FILE_SCHEMA") part.key) (is_only_schema part.params) e in
    let found = schema-only part.params parts.1 in (found.0, (key-is (codes "FILE_SCHEMA") part.key parts.0, found.1))

pub is-schema : (part : Part) (chars : List ℕ) → IsFileSchema part chars → is_file_schema part ≡ true
is-schema part chars is = both (is_key (codes "FILE_SCHEMA") part.key) (is_only_schema part.params) (is-key (codes "FILE_SCHEMA") part.key is.0) (ap is_only_schema is.1)

pub schema-no_names : (part : Part) (chars : List ℕ) → IsFileSchema part chars → Each IsNoInstanceName (part_tokens part)
schema-no_names part chars is = part-no_names (codes "FILE_SCHEMA") part is.0 (subst (λ z. Each IsNoInstanceName (params_tokens z)) (sym is.1) (tt, (tt, (tt, tt))))

pub further-is : (part : Part) → is_further part ≡ true → Each IsNoInstanceName (part_tokens part) → IsFurtherRecord part
further-is part e none =
    let one = and_parts (not (is_key (codes "FILE_DESCRIPTION") part.key)) (not (is_key (codes "FILE_NAME") part.key) && not (is_key (codes "FILE_SCHEMA") part.key)) e in
    let two = and_parts (not (is_key (codes "FILE_NAME") part.key)) (not (is_key (codes "FILE_SCHEMA") part.key)) one.1 in
    record {
      no_file_description = not_key (codes "FILE_DESCRIPTION") part.key one.0;
      no_file_name = not_key (codes "FILE_NAME") part.key two.0;
      no_file_schema = not_key (codes "FILE_SCHEMA") part.key two.1;
      no_names = none;
    }

pub is-further : (part : Part) → IsFurtherRecord part → is_further part ≡ true
is-further part is =
    both (not (is_key (codes "FILE_DESCRIPTION") part.key)) (not (is_key (codes "FILE_NAME") part.key) && not (is_key (codes "FILE_SCHEMA") part.key))
    (key-not (codes "FILE_DESCRIPTION") part.key is.no_file_description)
    (both (not (is_key (codes "FILE_NAME") part.key)) (not (is_key (codes "FILE_SCHEMA") part.key))
    (key-not (codes "FILE_NAME") part.key is.no_file_name) (key-not (codes "FILE_SCHEMA") part.key is.no_file_schema))

-- a name and a list of one text
name-schema : (ps : Params) → is_name_and_schema ps ≡ true → (chars schema : List ℕ) × (ps ≡ param (text chars) (only_schema schema))
name-schema no_params e = absurd cc
name-schema (param p ps) e =
    let parts = and_parts (is_text p) (is_only_schema ps) e in
    let first = text-only p parts.0 in
    let second = schema-only ps parts.1 in
    (first.0, second.0, ap (λ z. param z ps) first.1 ∙ ap (param (text first.0)) second.1)

pub heading-is : (part : Part) → is_heading part ≡ true → (chars schema : List ℕ) × (part ≡ data_part chars schema)
heading-is part e =
    let parts = and_parts (is_key (codes "DATA") part.key) (is_name_and_schema part.params) e in
    let found = name-schema part.params parts.1 in
    (found.0, found.1, ap (λ z. record { key = z; params = part.params }) (key-is (codes "DATA") part.key parts.0) ∙ ap (λ z. record { key = key_of (codes "DATA"); params = z }) found.2)

pub heading-named : (part : Part) → is_heading part ≡ true → (chars schema : List ℕ) × (heading_of part.params ≡ named chars schema)
heading-named part e = let found = heading-is part e in (found.0, found.1, ap (λ (z : Part). heading_of z.params) found.2)

pub heading-tokens : (part : Part) → is_heading part ≡ true → section_tokens (data_start (heading_of part.params)) ≡ part_tokens part
heading-tokens part e = let found = heading-is part e in ap (λ (z : Part). section_tokens (data_start (heading_of z.params))) found.2 ∙ ap part_tokens (sym found.2)
