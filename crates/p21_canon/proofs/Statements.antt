-- The canonical statement of a meaning: these texts are it, it is one, and it is the text of each instance of this meaning.
use Rattle.std.proofs.Common.{◌≡◌, ℕ, List, [], ◌∷◌, ◌++◌, ◌<◌, ◌^◌, codes, ap, sym, subst, ◌∙◌, append_assoc, Result, Ok, Err}
use Rattle.std.specs.List.{AllByRecursion as Each}
use Rattle.std.specs.Result.{OnOk}
use Rattle.p21_mapping_values.proofs.SpelledScalars.{name-spelled}
use Rattle.p21_spec_exchange.specs.Spelling.{name_spelling}
use Rattle.p21_spec_basics.proofs.Members.{Each-front}
use Rattle.p21_spec_laws.proofs.CanonicalLaid.{laid-each_spelled, statement_laid}
use Rattle.p21_spec_laws.proofs.Printing.{canonical-same_typed, canonical_typed}
use Rattle.p21_spec_laws.proofs.RecordOnce.{record-once}
use Rattle.p21_spec_laws.specs.Written.{IsWrittenStatement}
use Rattle.p21_spec_exchange.specs.Token.{IsSpelled}
use Rattle.p21_spec_exchange.specs.CanonicalText.{statement_text}
use Rattle.p21_spec_exchange.specs.Laying.{Laid}
use Rattle.p21_spec_exchange.specs.Record.{Record, record_tokens}
use Rattle.p21_spec_exchange.specs.Statement.{instance, statement_tokens}
use Rattle.p21_spec_exchange.specs.Token as token
use Rattle.p21_spec_file.proofs.SameFiles.{SameTyped-symmetric, SameTyped-transitive}
use Rattle.p21_spec_file.specs.CanonicalRecord.{HasOneLeaf}
use Rattle.p21_spec_file.specs.CanonicalTexts.{IsInstanceText}
use Rattle.p21_spec_file.specs.Meaning.{RecordMeans, Typed}
use Rattle.p21_spec_file.specs.Reference.{EntitySets}
use Rattle.p21_spec_file.specs.SameFile.{SameTyped}
use Rattle.p21_mapping_values.specs.Spelled.{AreSpelled}
use Rattle.p21_spec_schema.specs.Order.{order}
use Rattle.p21_spec_schema.specs.Schema.{Schema}
use Rattle.p21_spec_schema.specs.WellFormed.{IsWellFormed}
use Rattle.p21_canon.proofs.StatementTexts.{external-said, external-text, internal-said, internal-text}
use Rattle.p21_canon.proofs.Records.{external, external-canonical, external-means, internal, internal-canonical, internal-means}
use Rattle.p21_canon.specs.Meant.{IsMeant}
use Rattle.p21_canon.specs.StatementTexts.{AreSpelledParts, IsClosureOf, entity_name, part_text, parts_text, row_of, rows_texts, statement_of}
use Rattle.p21_canon.specs.Statement.{AppendsStatement, IsCanonicalStatement}

laid-as : (n : ℕ) (r : Record) (text : List ℕ) → text ≡ statement_text (instance n r) → IsWrittenStatement (instance n r)
    → Laid text (statement_tokens (instance n r))
laid-as n r text is written = let P : List ℕ → Type 0 = λ bytes. Laid bytes (statement_tokens (instance n r)) in
    subst P (sym is) (statement_laid (instance n r) written)

same_back : (s : Schema) (m : Typed) → SameTyped (canonical_typed s m) m
same_back s m = SameTyped-symmetric m (canonical_typed s m) (canonical-same_typed s m)

-- in internal mapping
pub internal-statement : (s : Schema) → IsWellFormed s → (n : ℕ) (m : Typed) → IsMeant s m → (leaf : ℕ) → IsClosureOf s m.entities leaf
    → IsSpelled (token.name n) → IsSpelled (token.keyword (entity_name s leaf)) → Each (λ e. AreSpelled s (row_of m e)) (order s leaf)
    → IsCanonicalStatement s n m (statement_of n (part_text s leaf (rows_texts s m (order s leaf))))
internal-statement s formed n m meant leaf closure name keyword rows = record {
  canonical = internal s m leaf;
  canonical_meaning = canonical_typed s m;
  same = same_back s m;
  means = λ kinds r means. internal-means s formed kinds r m leaf means closure;
  is_canonical = internal-canonical s formed meant.means.kinds meant.record_ m leaf meant.means.means closure;
  text_is = internal-text s n m leaf;
  laid = laid-as n (internal s m leaf) (statement_of n (part_text s leaf (rows_texts s m (order s leaf)))) (internal-text s n m leaf)
      (internal-said s n m leaf name keyword rows);
}

-- in external mapping
pub external-statement : (s : Schema) → IsWellFormed s → (n : ℕ) (m : Typed) → IsMeant s m → ¬ HasOneLeaf s m.entities
    → IsSpelled (token.name n) → AreSpelledParts s m.entities m.values
    → IsCanonicalStatement s n m (statement_of n (codes "(" ++ (parts_text s m.entities m.values ++ codes ")")))
external-statement s formed n m meant none name parts = record {
  canonical = external s m;
  canonical_meaning = canonical_typed s m;
  same = same_back s m;
  means = λ kinds r means. external-means s formed kinds r m means;
  is_canonical = external-canonical s formed meant.means.kinds meant.record_ m meant.means.means none;
  text_is = external-text s n m;
  laid = laid-as n (external s m) (statement_of n (codes "(" ++ (parts_text s m.entities m.values ++ codes ")"))) (external-text s n m)
      (external-said s n m name parts);
}

-- ---- as it is appended

placed : (old spelled body named opened new : List ℕ) → named ≡ old ++ spelled → opened ≡ named ++ 61 ∷ []
    → new ≡ opened ++ (body ++ codes ";") → new ≡ old ++ (spelled ++ (codes "=" ++ (body ++ codes ";")))
placed old spelled body named opened new e f g =
    g ∙ ap (λ (x : List ℕ). x ++ (body ++ codes ";")) (f ∙ ap (λ (x : List ℕ). x ++ 61 ∷ []) e)
    ∙ append_assoc (old ++ spelled) (61 ∷ []) (body ++ codes ";") ∙ append_assoc old spelled (61 ∷ (body ++ codes ";"))

pub internal-appends : {T E : Type 0} (s : Schema) → IsWellFormed s → (n : ℕ) (m : Typed) → IsMeant s m → (leaf : ℕ)
    → IsClosureOf s m.entities leaf → (r : Result T E) (old named opened new : List ℕ) → n < 2 ^ 64 → named ≡ old ++ name_spelling n
    → opened ≡ named ++ 61 ∷ []
    → OnOk r (new ≡ opened ++ (part_text s leaf (rows_texts s m (order s leaf)) ++ codes ";"))
    → OnOk r (IsSpelled (token.keyword (entity_name s leaf))) → OnOk r (Each (λ e. AreSpelled s (row_of m e)) (order s leaf))
    → OnOk r (AppendsStatement s n m old new)
internal-appends s formed n m meant leaf closure (Ok value) old named opened new low e f text keyword rows = (
  statement_of n (part_text s leaf (rows_texts s m (order s leaf))),
  placed old (name_spelling n) (part_text s leaf (rows_texts s m (order s leaf))) named opened new e f text,
  internal-statement s formed n m meant leaf closure (name-spelled n low) keyword rows,
)
internal-appends s formed n m meant leaf closure (Err fault) old named opened new low e f text keyword rows = tt

pub external-appends : {T E : Type 0} (s : Schema) → IsWellFormed s → (n : ℕ) (m : Typed) → IsMeant s m → ¬ HasOneLeaf s m.entities
    → (r : Result T E) (old named opened new : List ℕ) → n < 2 ^ 64 → named ≡ old ++ name_spelling n → opened ≡ named ++ 61 ∷ []
    → OnOk r (new ≡ opened ++ ((codes "(" ++ (parts_text s m.entities m.values ++ codes ")")) ++ codes ";"))
    → OnOk r (AreSpelledParts s m.entities m.values) → OnOk r (AppendsStatement s n m old new)
external-appends s formed n m meant none (Ok value) old named opened new low e f text parts = (
  statement_of n (codes "(" ++ (parts_text s m.entities m.values ++ codes ")")),
  placed old (name_spelling n) (codes "(" ++ (parts_text s m.entities m.values ++ codes ")")) named opened new e f text,
  external-statement s formed n m meant none (name-spelled n low) parts,
)
external-appends s formed n m meant none (Err fault) old named opened new low e f text parts = tt

-- ---- there is one

spelled-of : (s : Schema) (n : ℕ) (m : Typed) (text : List ℕ) → (is : IsCanonicalStatement s n m text)
    → Each IsSpelled (record_tokens is.canonical)
spelled-of s n m text is =
    let spelled : IsWrittenStatement (instance n is.canonical) =
    laid-each_spelled text (statement_tokens (instance n is.canonical)) is.laid in
    Each-front IsSpelled (record_tokens is.canonical) (token.semicolon ∷ []) spelled.1.1

pub one-statement : (s : Schema) → IsWellFormed s → (n : ℕ) (m : Typed) → IsMeant s m → (text other : List ℕ)
    → IsCanonicalStatement s n m text → IsCanonicalStatement s n m other → text ≡ other
one-statement s formed n m meant text other is is_ =
    let same : SameTyped is.canonical_meaning is_.canonical_meaning =
    SameTyped-transitive is.canonical_meaning m is_.canonical_meaning is.same (SameTyped-symmetric is_.canonical_meaning m is_.same) in
    let kinds : EntitySets = meant.means.kinds in
    let one : is.canonical ≡ is_.canonical =
    record-once s formed kinds kinds is.canonical is_.canonical is.canonical_meaning is_.canonical_meaning
    (is.means kinds meant.record_ meant.means.means) (is_.means kinds meant.record_ meant.means.means) same is.is_canonical
    is_.is_canonical
    (spelled-of s n m text is) (spelled-of s n m other is_) in
    is.text_is ∙ ap (λ (r : Record). statement_text (instance n r)) one ∙ sym is_.text_is

pub only-appended : (s : Schema) → IsWellFormed s → (n : ℕ) (m : Typed) → IsMeant s m → (old new : List ℕ) → AppendsStatement s n m old new
    → (text : List ℕ) → IsCanonicalStatement s n m text → new ≡ old ++ text
only-appended s formed n m meant old new (found, is, statement) text other = is
    ∙ ap (λ (x : List ℕ). old ++ x) (one-statement s formed n m meant found text statement other)

-- ---- it is the text of the instances of this meaning

pub statement-instance : (s : Schema) (n : ℕ) (m : Typed) (text : List ℕ) → IsCanonicalStatement s n m text
    → (kinds : EntitySets) (r : Record) → RecordMeans s kinds r m → IsInstanceText s n r text
statement-instance s n m text is kinds r means = record {
  kinds = kinds;
  meaning = m;
  means = means;
  canonical = is.canonical;
  canonical_meaning = is.canonical_meaning;
  canonical_means = is.means kinds r means;
  same = is.same;
  is_canonical = is.is_canonical;
  text_is = is.text_is;
  laid = is.laid;
}
