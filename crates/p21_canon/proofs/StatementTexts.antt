-- The texts of canonical records, put together from their pieces; and that their tokens have spellings.
use Rattle.std.proofs.Common.{◌≡◌, ℕ, List, [], ◌∷◌, ◌++◌, codes, map, refl, ap, sym, ◌∙◌}
use Rattle.std.proofs.lemmas.List.{map-append}
use Rattle.std.specs.List.{flat_map, AllByRecursion as Each}
use Rattle.p21_spec_basics.proofs.Members.{Each-append}
use Rattle.p21_spec_laws.proofs.CanonicalParam.{canonical_params, texts-of, value_texts-are}
use Rattle.p21_spec_laws.proofs.OfType.{AreWritten}
use Rattle.p21_spec_laws.proofs.ParamTexts.{list-is, tokens_text-append}
use Rattle.p21_spec_laws.proofs.Printing.{part-said}
use Rattle.p21_spec_laws.specs.Written.{IsWrittenStatement}
use Rattle.p21_spec_exchange.specs.Token.{IsSpelled}
use Rattle.p21_spec_exchange.specs.CanonicalText.{param_text, param_texts, statement_text, tokens_text}
use Rattle.p21_spec_exchange.specs.Parameter.{Param, Params, key_of, params_of}
use Rattle.p21_spec_exchange.specs.Record.{Record, part_tokens, record_tokens}
use Rattle.p21_spec_exchange.specs.Spelling.{name_spelling}
use Rattle.p21_spec_exchange.specs.Statement.{instance}
use Rattle.p21_spec_exchange.specs.Token as token
use Rattle.p21_spec_file.specs.Meaning.{Typed}
use Rattle.p21_spec_file.specs.Value.{Values}
use Rattle.p21_spec_file.specs.ValueText.{list_text, value_texts}
use Rattle.p21_mapping_values.proofs.Spelled.{all-written}
use Rattle.p21_mapping_values.specs.Spelled.{AreSpelled}
use Rattle.p21_spec_schema.specs.Order.{order}
use Rattle.p21_spec_schema.specs.Schema.{Schema}
use Rattle.p21_canon.proofs.Places.{rows_params}
use Rattle.p21_canon.proofs.Records.{external, internal, part_for, parts_for}
use Rattle.p21_canon.specs.StatementTexts.{AreSpelledParts, entity_name, part_text, parts_text, row_of, rows_texts, statement_of}

-- ---- texts

part-is : (word : List ℕ) (ps : Params) → tokens_text (part_tokens (record { key = key_of word; params = ps })) ≡ word
    ++ list_text (param_texts ps)
part-is word ps = ap (λ (x : List ℕ). word ++ x) (list-is ps)

row-texts : (s : Schema) (vs : Values) → param_texts (params_of (canonical_params s vs)) ≡ value_texts s vs
row-texts s vs = texts-of (canonical_params s vs) ∙ sym (value_texts-are s vs)

rows-texts : (s : Schema) (m : Typed) (es : List ℕ) → map param_text (rows_params s m es) ≡ rows_texts s m es
rows-texts s m [] = refl
rows-texts s m (e ∷ es) =
    map-append param_text (canonical_params s (row_of m e)) (rows_params s m es)
    ∙ ap (λ (x : List (List ℕ)). x ++ map param_text (rows_params s m es)) (sym (value_texts-are s (row_of m e)))
    ∙ ap (λ (x : List (List ℕ)). value_texts s (row_of m e) ++ x) (rows-texts s m es)

parts-are : (s : Schema) (es : List ℕ) (rows : List Values)
    → tokens_text (flat_map part_tokens (parts_for s es rows)) ≡ parts_text s es rows
parts-are s [] rows = refl
parts-are s (e ∷ es) [] = refl
parts-are s (e ∷ es) (vs ∷ rows) =
    tokens_text-append (part_tokens (part_for s e vs)) (flat_map part_tokens (parts_for s es rows))
    ∙ ap (λ (x : List ℕ). x ++ tokens_text (flat_map part_tokens (parts_for s es rows)))
    (part-is (entity_name s e) (params_of (canonical_params s vs))
    ∙ ap (λ (x : List (List ℕ)). entity_name s e ++ list_text x) (row-texts s vs))
    ∙ ap (λ (x : List ℕ). part_text s e (value_texts s vs) ++ x) (parts-are s es rows)

-- the name, `=`, the record and `;`
statement-is : (n : ℕ) (r : Record) (body : List ℕ) → tokens_text (record_tokens r) ≡ body
    → statement_of n body ≡ statement_text (instance n r)
statement-is n r body is = ap (λ (x : List ℕ). name_spelling n ++ (61 ∷ x))
    (ap (λ (x : List ℕ). x ++ codes ";") (sym is) ∙ sym (tokens_text-append (record_tokens r) (token.semicolon ∷ [])))

pub internal-text : (s : Schema) (n : ℕ) (m : Typed) (leaf : ℕ)
    → statement_of n (part_text s leaf (rows_texts s m (order s leaf))) ≡ statement_text (instance n (internal s m leaf))
internal-text s n m leaf =
    statement-is n (internal s m leaf) (part_text s leaf (rows_texts s m (order s leaf)))
    (part-is (entity_name s leaf) (params_of (rows_params s m (order s leaf)))
    ∙ ap (λ (x : List (List ℕ)). entity_name s leaf ++ list_text x)
    (texts-of (rows_params s m (order s leaf)) ∙ rows-texts s m (order s leaf)))

pub external-text : (s : Schema) (n : ℕ) (m : Typed)
    → statement_of n (codes "(" ++ (parts_text s m.entities m.values ++ codes ")")) ≡ statement_text (instance n (external s m))
external-text s n m =
    statement-is n (external s m) (codes "(" ++ (parts_text s m.entities m.values ++ codes ")"))
    (ap (λ (x : List ℕ). 40 ∷ x) (tokens_text-append (flat_map part_tokens (parts_for s m.entities m.values)) (token.right ∷ [])
    ∙ ap (λ (x : List ℕ). x ++ codes ")") (parts-are s m.entities m.values)))

-- ---- spellings

append-written : (xs ys : List Param) → AreWritten (params_of xs) → AreWritten (params_of ys) → AreWritten (params_of (xs ++ ys))
append-written [] ys first second = second
append-written (x ∷ xs) ys first second = (first.0, append-written xs ys first.1 second)

rows-written : (s : Schema) (m : Typed) (es : List ℕ) → Each (λ e. AreSpelled s (row_of m e)) es
    → AreWritten (params_of (rows_params s m es))
rows-written s m [] each = tt
rows-written s m (e ∷ es) each = append-written (canonical_params s (row_of m e)) (rows_params s m es) (all-written s (row_of m e) each.0)
    (rows-written s m es each.1)

statement-said : (n : ℕ) (r : Record) → IsSpelled (token.name n) → Each IsSpelled (record_tokens r) → IsWrittenStatement (instance n r)
statement-said n r name spelled = (
  name,
  (
    (codes "=", refl),
    Each-append IsSpelled (record_tokens r) (token.semicolon ∷ []) spelled
        ((codes ";", refl), tt),
  ),
)

pub internal-said : (s : Schema) (n : ℕ) (m : Typed) (leaf : ℕ) → IsSpelled (token.name n) → IsSpelled (token.keyword (entity_name s leaf))
    → Each (λ e. AreSpelled s (row_of m e)) (order s leaf) → IsWrittenStatement (instance n (internal s m leaf))
internal-said s n m leaf name keyword rows =
    statement-said n (internal s m leaf) name (part-said
    (record { key = key_of (entity_name s leaf); params = params_of (rows_params s m (order s leaf)) }) keyword
    (rows-written s m (order s leaf) rows))

parts-said : (s : Schema) (es : List ℕ) (rows : List Values) → AreSpelledParts s es rows
    → Each IsSpelled (flat_map part_tokens (parts_for s es rows))
parts-said s [] rows spelled = tt
parts-said s (e ∷ es) [] spelled = tt
parts-said s (e ∷ es) (vs ∷ rows) spelled =
    Each-append IsSpelled (part_tokens (part_for s e vs)) (flat_map part_tokens (parts_for s es rows))
    (part-said (part_for s e vs) spelled.0.0 (all-written s vs spelled.0.1)) (parts-said s es rows spelled.1)

pub external-said : (s : Schema) (n : ℕ) (m : Typed) → IsSpelled (token.name n) → AreSpelledParts s m.entities m.values
    → IsWrittenStatement (instance n (external s m))
external-said s n m name parts =
    statement-said n (external s m) name (
      (codes "(", refl),
      Each-append IsSpelled (flat_map part_tokens (parts_for s m.entities m.values)) (token.right ∷ [])
          (parts-said s m.entities m.values parts) ((codes ")", refl), tt),
    )
