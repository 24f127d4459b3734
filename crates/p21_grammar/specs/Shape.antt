-- Tests of the records of the header section, and of the beginning of a data section with a name.
use Rattle.std.specs.Prelude.{ℕ, Bool, true, false, ◌&&◌, not, if◌then◌else◌, List, [], ◌∷◌, codes}
use Rattle.std.specs.Str.{bytes_eq}
use Rattle.p21_spec_exchange.specs.Header.{HeaderType, string, strings}
use Rattle.p21_spec_exchange.specs.Parameter.{Key, Param, dollar, text, list, Params, no_params, param}
use Rattle.p21_spec_exchange.specs.Record.{Part}

abbrev pub is_key : List ℕ → Key → Bool
is_key word key = if key.user then false else bytes_eq key.word word

abbrev pub is_text : Param → Bool
is_text (text chars) = true
is_text other = false

abbrev pub is_text_or_unset : Param → Bool
is_text_or_unset dollar = true
is_text_or_unset (text chars) = true
is_text_or_unset other = false

abbrev pub are_texts : Params → Bool
are_texts no_params = true
are_texts (param p ps) = is_text_or_unset p && are_texts ps

abbrev pub are_strings : Param → Bool
are_strings dollar = true
are_strings (list ps) = are_texts ps
are_strings other = false

abbrev pub is_of_type : HeaderType → Param → Bool
is_of_type string p = is_text_or_unset p
is_of_type strings p = are_strings p

abbrev pub have_types : List HeaderType → Params → Bool
have_types [] no_params = true
have_types [] (param p ps) = false
have_types (t ∷ ts) no_params = false
have_types (t ∷ ts) (param p ps) = is_of_type t p && have_types ts ps

-- a list of exactly one text
abbrev pub is_schema_row : Params → Bool
is_schema_row no_params = false
is_schema_row (param p no_params) = is_text p
is_schema_row (param p (param q ps)) = false

abbrev pub is_schema : Param → Bool
is_schema (list ps) = is_schema_row ps
is_schema other = false

abbrev pub is_only_schema : Params → Bool
is_only_schema no_params = false
is_only_schema (param p no_params) = is_schema p
is_only_schema (param p (param q ps)) = false

abbrev pub is_name_and_schema : Params → Bool
is_name_and_schema no_params = false
is_name_and_schema (param p ps) = is_text p && is_only_schema ps

abbrev pub is_file_description : Part → Bool
is_file_description part = is_key (codes "FILE_DESCRIPTION") part.key && have_types (strings ∷ string ∷ []) part.params

abbrev pub is_file_name : Part → Bool
is_file_name part = is_key (codes "FILE_NAME") part.key && have_types (string ∷ string ∷ strings ∷ strings ∷ string ∷ string ∷ string ∷ []) part.params

abbrev pub is_file_schema : Part → Bool
is_file_schema part = is_key (codes "FILE_SCHEMA") part.key && is_only_schema part.params

abbrev pub is_further : Part → Bool
is_further part = not (is_key (codes "FILE_DESCRIPTION") part.key) && (not (is_key (codes "FILE_NAME") part.key) && not (is_key (codes "FILE_SCHEMA") part.key))

abbrev pub is_heading : Part → Bool
is_heading part = is_key (codes "DATA") part.key && is_name_and_schema part.params
