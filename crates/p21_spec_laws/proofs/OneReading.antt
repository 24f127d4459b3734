-- Bytes have one list of lexemes, one tree, one schema text and one meaning.
use Rattle.std.proofs.Common.{◌≡◌, ℕ, List, [], ◌∷◌, refl, ap, sym, subst, ◌∙◌, Some}
use Rattle.std.specs.List.{AllZip, flat_map}
use Rattle.p21_spec_schema.specs.WellFormed.{IsWellFormed}
use Rattle.p21_spec_exchange.proofs.OneTree.{one_tree}
use Rattle.p21_spec_exchange.specs.DataSection.{Heading, headings, instances_in}
use Rattle.p21_spec_file.specs.File.{FileMeaning, InstanceMeans, Reads, entity_sets_of, names_with_heading}
use Rattle.p21_spec_exchange.specs.Grammar.{InGrammar}
use Rattle.p21_spec_exchange.specs.Header.{IsHeader}
use Rattle.p21_spec_exchange.specs.Laying.{AreStatementsWithin, Laid, LaidAs, Lexeme}
use Rattle.p21_spec_file.specs.Meaning.{Typed}
use Rattle.p21_spec_exchange.specs.Parameter.{list, no_params, param, text}
use Rattle.p21_spec_exchange.specs.Record.{Part, Record}
use Rattle.p21_spec_file.specs.Reference.{EntitySets}
use Rattle.p21_spec_schema.specs.Schema.{Schema}
use Rattle.p21_spec_exchange.specs.Structure.{Structure}
use Rattle.p21_spec_exchange.specs.Token.{Token}
use Rattle.p21_tokens_automaton.proofs.Once.{means-once}
use Rattle.p21_tokens_automaton.proofs.Theorems.{laid_read, one-laying}
use Rattle.p21_tokens_automaton.specs.Meaning.{MeanAll}
use Rattle.p21_tokens_automaton.specs.Reading.{SizedToken}
use Rattle.p21_spec_file.proofs.OneMeaning.{RecordMeans-one}

-- what is found has one list of lexemes, with their sizes
same-lexemes : (founds : List SizedToken) (ls ms : List Lexeme) → MeanAll founds ls → MeanAll founds ms → ls ≡ ms
same-lexemes [] [] [] first second = refl
same-lexemes [] [] (m ∷ ms) first second = absurd second
same-lexemes [] (l ∷ ls) ms first second = absurd first
same-lexemes (x ∷ founds) [] ms first second = absurd first
same-lexemes (x ∷ founds) (l ∷ ls) [] first second = absurd second
same-lexemes (x ∷ founds) (l ∷ ls) (m ∷ ms) first second =
    let token_same : l.token ≡ m.token = means-once x.found l.token m.token first.0 second.0 in
    let size_same : l.size ≡ m.size = first.1 ∙ sym second.1 in
    ap (λ (t : Token). record { token = t; size = l.size } ∷ ls) token_same
    ∙ ap (λ (n : ℕ). record { token = m.token; size = n } ∷ ls) size_same
    ∙ ap (λ (rest : List Lexeme). m ∷ rest) (same-lexemes founds ls ms first.2 second.2)

-- bytes have one list of lexemes: their tokens and the sizes of their spellings
pub one_lexemes : (bytes : List ℕ) (ls ms : List Lexeme) → LaidAs bytes ls → LaidAs bytes ms → ls ≡ ms
one_lexemes bytes ls ms laid laid_ =
    let p = laid_read ls bytes laid in
    let q = laid_read ms bytes laid_ in
    let same : p.0 ≡ q.0 = let e : Some p.0 ≡ Some q.0 = sym p.1 ∙ q.1 in cc in
    same-lexemes q.0 ls ms (subst (λ (x : List SizedToken). MeanAll x ls) same p.2) q.2

pub laid-one_lexemes : (bytes : List ℕ) (tokens others : List Token) (l : Laid bytes tokens) (m : Laid bytes others) → l.lexemes ≡ m.lexemes
laid-one_lexemes bytes tokens others l m = one_lexemes bytes l.lexemes m.lexemes l.laid m.laid

-- so the statements of one laying are within a limit exactly if those of another are
pub within-one : (bytes : List ℕ) (tokens others : List Token) (l : Laid bytes tokens) (m : Laid bytes others) (most count : ℕ) → AreStatementsWithin most count l.lexemes → AreStatementsWithin most count m.lexemes
within-one bytes tokens others l m most count within = subst (λ (x : List Lexeme). AreStatementsWithin most count x) (laid-one_lexemes bytes tokens others l m) within

-- a header has one schema text
pub one_schema_text : (header : List Part) (a b : List ℕ) → IsHeader header a → IsHeader header b → a ≡ b
one_schema_text header a b is is_ =
    let heads : is.file_description ∷ is.file_name ∷ is.file_schema ∷ is.further ≡ is_.file_description ∷ is_.file_name ∷ is_.file_schema ∷ is_.further = sym is.header_is ∙ is_.header_is in
    let third : is.file_schema ≡ is_.file_schema = cc in
    let texts : param (list (param (text a) no_params)) no_params ≡ param (list (param (text b) no_params)) no_params = sym is.is_file_schema.1 ∙ ap (λ (part : Part). part.params) third ∙ is_.is_file_schema.1 in
    cc

-- bytes in the grammar have one tree
pub one_structure_of : (bytes : List ℕ) (t u : Structure) (a b : List ℕ) → InGrammar bytes t a → InGrammar bytes u b → t ≡ u
one_structure_of bytes t u a b in_ also = one_tree t u (one-laying bytes _ _ in_.laid also.laid)

-- and one schema text
pub one_schema_text_of : (bytes : List ℕ) (t u : Structure) (a b : List ℕ) → InGrammar bytes t a → InGrammar bytes u b → a ≡ b
one_schema_text_of bytes t u a b in_ also =
    one_schema_text u.header a b (subst (λ (x : Structure). IsHeader x.header a) (one_structure_of bytes t u a b in_ also) in_.is_file.header) also.is_file.header

-- instances mean one list
instances-one : (s : Schema) → IsWellFormed s → (kinds others : EntitySets) (is : List (ℕ × Record)) (ms ns : List (ℕ × Typed)) → AllZip (InstanceMeans s kinds) is ms → AllZip (InstanceMeans s others) is ns → ms ≡ ns
instances-one s formed kinds others [] [] [] all all_ = refl
instances-one s formed kinds others [] [] (n ∷ ns) all all_ = absurd all_
instances-one s formed kinds others [] (m ∷ ms) ns all all_ = absurd all
instances-one s formed kinds others (i ∷ is) [] ns all all_ = absurd all
instances-one s formed kinds others (i ∷ is) (m ∷ ms) [] all all_ = absurd all_
instances-one s formed kinds others (i ∷ is) (m ∷ ms) (n ∷ ns) all all_ =
    ap (λ (k : ℕ). (k, m.1) ∷ ms) (all.0.0 ∙ sym all_.0.0)
    ∙ ap (λ (x : Typed). (n.0, x) ∷ ms) (RecordMeans-one s formed kinds others i.1 m.1 n.1 all.0.1 all_.0.1)
    ∙ ap (λ (rest : List (ℕ × Typed)). n ∷ rest) (instances-one s formed kinds others is ms ns all.1 all_.1)

file_same : (m n : FileMeaning) → m.header ≡ n.header → m.schema ≡ n.schema → m.sections ≡ n.sections → m.instances ≡ n.instances → m.instance_sections ≡ n.instance_sections → m ≡ n
file_same m n header schema sections instances places =
    ap (λ (x : List Part). record { header = x; schema = m.schema; sections = m.sections; instances = m.instances; instance_sections = m.instance_sections }) header
    ∙ ap (λ (x : List ℕ). record { header = n.header; schema = x; sections = m.sections; instances = m.instances; instance_sections = m.instance_sections }) schema
    ∙ ap (λ (x : List Heading). record { header = n.header; schema = n.schema; sections = x; instances = m.instances; instance_sections = m.instance_sections }) sections
    ∙ ap (λ (x : List (ℕ × Typed)). record { header = n.header; schema = n.schema; sections = n.sections; instances = x; instance_sections = m.instance_sections }) instances
    ∙ ap (λ (x : List (ℕ × Heading)). record { header = n.header; schema = n.schema; sections = n.sections; instances = n.instances; instance_sections = x }) places

-- bytes read as one meaning at most, under a schema that is well formed
pub Reads-one : (s : Schema) → IsWellFormed s → (bytes : List ℕ) (m n : FileMeaning) → Reads s bytes m → Reads s bytes n → m ≡ n
Reads-one s formed bytes m n reads reads_ =
    let t = reads.structure in
    let u = reads_.structure in
    let same : t ≡ u = one_structure_of bytes t u reads.schema_text reads_.schema_text reads.in_grammar reads_.in_grammar in
    file_same m n
    (reads.header_is ∙ ap (λ (x : Structure). x.header) same ∙ sym reads_.header_is)
    (reads.schema_is ∙ sym reads_.schema_is)
    (reads.sections_are ∙ ap (λ (x : Structure). headings x.sections) same ∙ sym reads_.sections_are)
    (instances-one s formed (entity_sets_of m.instances) (entity_sets_of n.instances) (instances_in u.sections) m.instances n.instances
    (subst (λ (x : Structure). AllZip (InstanceMeans s (entity_sets_of m.instances)) (instances_in x.sections) m.instances) same reads.means) reads_.means)
    (reads.instance_sections_are ∙ ap (λ (x : Structure). flat_map names_with_heading x.sections) same ∙ sym reads_.instance_sections_are)
