-- The canonical text of an instance: there is one, it is one, and it tells the instance's name and meaning.
use Rattle.std.proofs.Common.{◌≡◌, ℕ, ◌+◌, List, [], ◌∷◌, ◌++◌, ap, sym, subst, ◌∙◌, refl, arith}
use Rattle.std.proofs.lemmas.List.{append_cancel_right}
use Rattle.std.specs.Prelude.{codes, length}
use Rattle.std.specs.List.{AllByRecursion as Each}
use Rattle.p21_spec_basics.proofs.Members.{Each-append, Each-front}
use Rattle.p21_spec_laws.proofs.CanonicalLaid.{laid-each_spelled, statement_laid}
use Rattle.p21_spec_laws.proofs.Printing.{canonical-same_typed, canonical_typed}
use Rattle.p21_spec_laws.proofs.PrintingParts.{has-canonical_record}
use Rattle.p21_spec_laws.proofs.RecordOnce.{record-once}
use Rattle.p21_spec_laws.specs.Written.{IsWrittenStatement}
use Rattle.p21_spec_exchange.specs.Token.{IsSpelled}
use Rattle.p21_spec_exchange.proofs.OneTree.{one_record}
use Rattle.p21_spec_exchange.specs.CanonicalText.{statement_text}
use Rattle.p21_spec_exchange.specs.Grammar.{IsDataRecord}
use Rattle.p21_spec_exchange.specs.Laying.{Laid}
use Rattle.p21_spec_exchange.specs.Record.{Record, record_tokens}
use Rattle.p21_spec_exchange.specs.Statement.{Statement, section, header, instance, statement_tokens}
use Rattle.p21_spec_exchange.specs.Token as token
use Rattle.p21_spec_file.proofs.OneMeaning.{RecordMeans-one}
use Rattle.p21_spec_file.proofs.SameFiles.{SameTyped-reflexive, SameTyped-symmetric, SameTyped-transitive}
use Rattle.p21_spec_file.specs.CanonicalTexts.{HaveCanonicalSize, IsInstanceText}
use Rattle.p21_spec_file.specs.Meaning.{RecordMeans, Typed}
use Rattle.p21_spec_file.specs.Reference.{EntitySets}
use Rattle.p21_spec_file.specs.SameFile.{SameTyped}
use Rattle.p21_spec_schema.specs.WellFormed.{IsWellFormed}
use Rattle.p21_spec_schema.specs.Schema.{Schema}
use Rattle.p21_tokens_automaton.proofs.Theorems.{one-laying}

-- the tokens of the canonical record have spellings
pub canonical-written : (s : Schema) (n : ℕ) (r : Record) (text : List ℕ) (is : IsInstanceText s n r text) → Each IsSpelled (record_tokens is.canonical)
canonical-written s n r text is =
    let spelled : IsWrittenStatement (instance n is.canonical) = laid-each_spelled text (statement_tokens (instance n is.canonical)) is.laid in
    Each-front IsSpelled (record_tokens is.canonical) (token.semicolon ∷ []) spelled.1.1

-- instances of one name that mean the same have one text
pub text-once : (s : Schema) → IsWellFormed s → (n : ℕ) (r q : Record) (text other : List ℕ) (is : IsInstanceText s n r text) (is_ : IsInstanceText s n q other) → SameTyped is.meaning is_.meaning → text ≡ other
text-once s formed n r q text other is is_ same =
    let typed : SameTyped is.canonical_meaning is_.canonical_meaning =
    SameTyped-transitive is.canonical_meaning is.meaning is_.canonical_meaning is.same (SameTyped-transitive is.meaning is_.meaning is_.canonical_meaning same (SameTyped-symmetric is_.canonical_meaning is_.meaning is_.same)) in
    let one : is.canonical ≡ is_.canonical =
    record-once s formed is.kinds is_.kinds is.canonical is_.canonical is.canonical_meaning is_.canonical_meaning is.canonical_means is_.canonical_means typed is.is_canonical is_.is_canonical
    (canonical-written s n r text is) (canonical-written s n q other is_) in
    is.text_is ∙ ap (λ (x : Record). statement_text (instance n x)) one ∙ sym is_.text_is

pub texts-once : (s : Schema) → IsWellFormed s → (n m : ℕ) (r q : Record) (text other : List ℕ) (is : IsInstanceText s n r text) (is_ : IsInstanceText s m q other) → n ≡ m → SameTyped is.meaning is_.meaning → text ≡ other
texts-once s formed n m r q text other is is_ name same =
    let again : IsInstanceText s n q other = record {
      kinds = is_.kinds;
      meaning = is_.meaning;
      means = is_.means;
      canonical = is_.canonical;
      canonical_meaning = is_.canonical_meaning;
      canonical_means = is_.canonical_means;
      same = is_.same;
      is_canonical = is_.is_canonical;
      text_is = is_.text_is ∙ ap (λ (k : ℕ). statement_text (instance k is_.canonical)) (sym name);
      laid = subst (λ (k : ℕ). Laid other (statement_tokens (instance k is_.canonical))) (sym name) is_.laid;
    } in
    text-once s formed n r q text other is again same

-- an instance has one text
pub one-text_of : (s : Schema) → IsWellFormed s → (n : ℕ) (r : Record) (text other : List ℕ) → IsInstanceText s n r text → IsInstanceText s n r other → text ≡ other
one-text_of s formed n r text other is is_ =
    let one : is.meaning ≡ is_.meaning = RecordMeans-one s formed is.kinds is_.kinds r is.meaning is_.meaning is.means is_.means in
    text-once s formed n r r text other is is_ (subst (SameTyped is.meaning) one (SameTyped-reflexive is.meaning))

-- instances of one text have one name, and their canonical records are equal
canonical-once : (s : Schema) (n m : ℕ) (r q : Record) (text other : List ℕ) (is : IsInstanceText s n r text) (is_ : IsInstanceText s m q other) → text ≡ other → (n ≡ m) × (is.canonical ≡ is_.canonical)
canonical-once s n m r q text other is is_ equal =
    let tokens : statement_tokens (instance n is.canonical) ≡ statement_tokens (instance m is_.canonical) =
    one-laying other (statement_tokens (instance n is.canonical)) (statement_tokens (instance m is_.canonical)) (subst (λ (bytes : List ℕ). Laid bytes (statement_tokens (instance n is.canonical))) equal is.laid) is_.laid in
    let first : token.name n ≡ token.name m = cc in
    let behind : record_tokens is.canonical ++ (token.semicolon ∷ []) ≡ record_tokens is_.canonical ++ (token.semicolon ∷ []) = cc in
    let name : n ≡ m = cc in
    (name, one_record is.canonical is_.canonical (append_cancel_right (record_tokens is.canonical) (record_tokens is_.canonical) (token.semicolon ∷ []) behind))

-- and mean the same
pub texts-told : (s : Schema) → IsWellFormed s → (n m : ℕ) (r q : Record) (text other : List ℕ) (is : IsInstanceText s n r text) (is_ : IsInstanceText s m q other) → text ≡ other → (n ≡ m) × SameTyped is.meaning is_.meaning
texts-told s formed n m r q text other is is_ equal =
    let (name, one) = canonical-once s n m r q text other is is_ equal in
    let P : Record → Type 0 = λ x. RecordMeans s is.kinds x is.canonical_meaning in
    let meaning : is.canonical_meaning ≡ is_.canonical_meaning =
    RecordMeans-one s formed is.kinds is_.kinds is_.canonical is.canonical_meaning is_.canonical_meaning (subst P one is.canonical_means) is_.canonical_means in
    (name, SameTyped-transitive is.meaning is.canonical_meaning is_.meaning (SameTyped-symmetric is.canonical_meaning is.meaning is.same) (subst (λ (x : Typed). SameTyped x is_.meaning) (sym meaning) is_.same))

-- an instance whose record means something has a text
pub has-text : (s : Schema) → IsWellFormed s → (kinds : EntitySets) (n : ℕ) (r : Record) (a : Typed) → RecordMeans s kinds r a → IsDataRecord r → IsWrittenStatement (instance n r) → (text : List ℕ) × IsInstanceText s n r text
has-text s formed kinds n r a means data_record written =
    let has = has-canonical_record s formed kinds r a means (Each-front IsSpelled (record_tokens r) (token.semicolon ∷ []) written.1.1) data_record in
    let out : Statement = instance n has.record_ in
    let spelled : IsWrittenStatement out = (written.0, (written.1.0, Each-append IsSpelled (record_tokens has.record_) (token.semicolon ∷ []) has.written ((codes ";", refl), tt))) in (
      statement_text out,
      record {
        kinds = kinds;
        meaning = a;
        means = means;
        canonical = has.record_;
        canonical_meaning = canonical_typed s a;
        canonical_means = has.means;
        same = SameTyped-symmetric a (canonical_typed s a) (canonical-same_typed s a);
        is_canonical = has.canonical;
        text_is = refl;
        laid = statement_laid out spelled;
      },
    )

-- the bytes kept of statements are one number
pub canonical_size-one : (s : Schema) → IsWellFormed s → (sts : List Statement) (kept other : ℕ) → HaveCanonicalSize s sts kept → HaveCanonicalSize s sts other → kept ≡ other
canonical_size-one s formed [] kept other are are_ = are ∙ sym are_
canonical_size-one s formed (section line ∷ sts) kept other are are_ = canonical_size-one s formed sts kept other are are_
canonical_size-one s formed (header part ∷ sts) kept other (more, is, are) (more_, is_, are_) = let rest : more ≡ more_ = canonical_size-one s formed sts more more_ are are_ in omega (arith, is, is_, rest)
canonical_size-one s formed (instance n r ∷ sts) kept other (text, more, is, of, are) (text_, more_, is_, of_, are_) =
    let one : text ≡ text_ = one-text_of s formed n r text text_ of of_ in
    let rest : more ≡ more_ = canonical_size-one s formed sts more more_ are are_ in
    let P : List ℕ → Type 0 = λ x. kept ≡ length x + more in
    let is_one : kept ≡ length text_ + more = subst P one is in omega (arith, is_one, is_, rest)
