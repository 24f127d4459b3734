-- Each meaning of bytes, with any other names, is the meaning of some bytes: so there is an order by rank, and a numbered file.
use Rattle.std.specs.Prelude.{◌≡◌, ◌<◌, ◌≤◌, ◌^◌, ◌+◌, ℕ, suc, Bool, true, false, List, [], ◌∷◌, ◌++◌, map, length, max, Contains, refl, ltb, nat_eq, if◌then◌else◌}
use Rattle.std.specs.List.{AllZip, IsDistinct, flat_map, AllByRecursion as Each}
use Rattle.std.proofs.Common.{arith, ap, sym, subst, ◌∙◌}
use Rattle.std.proofs.lemmas.Bool.{lt-ltb, ltb-true}
use Rattle.std.proofs.lemmas.List.{length-map, map-append}
use Rattle.p21_spec_basics.proofs.Members.{Contains-first, Contains-later, Contains-mapped, Contains-unmapped, Each-append, Each-front, Each-back, Each-joined, Each-mapped, Each-weaker}
use Rattle.p21_spec_exchange.proofs.Names.{name_spells}
use Rattle.p21_spec_exchange.specs.CanonicalText.{line}
use Rattle.p21_spec_exchange.specs.DataSection.{Heading, DataSection, AreHeadings, headings, instances_in, section_names}
use Rattle.p21_spec_exchange.specs.Grammar.{IsDataRecord, IsShallowPart, IsNoUserKeyword}
use Rattle.p21_spec_exchange.specs.Nesting.{depth, params_depth}
use Rattle.p21_spec_exchange.specs.Parameter.{Param, Params, dollar, star, whole, real, text, name, item, bits, list, typed, no_params, param, param_tokens, params_tokens, more_tokens}
use Rattle.p21_spec_exchange.specs.Record.{Part, Record, simple, complex, part_tokens, record_tokens}
use Rattle.p21_spec_exchange.specs.Spelling.{name_spelling}
use Rattle.p21_spec_exchange.specs.Statement.{section, header, instance, section_end, finish}
use Rattle.p21_spec_exchange.specs.Structure.{Structure, section_statements, statements, tokens_of}
use Rattle.p21_spec_exchange.specs.Token as token
use Rattle.p21_spec_exchange.specs.Token.{Token, IsSpelled}
use Rattle.p21_spec_file.specs.File.{FileMeaning, InstanceMeans, Reads, HeadingNamesSchema, entity_sets_of, names_with_heading}
use Rattle.p21_spec_file.specs.Meaning.{Typed}
use Rattle.std.specs.Str.{bytes_eq}
use Rattle.p21_spec_laws.proofs.FileOnce.{meant-named}
use Rattle.p21_spec_laws.proofs.CanonicalLaid.{laid-each_spelled, statements_laid}
use Rattle.p21_spec_laws.proofs.PrintingFiles.{HasCanonicalFile, has-canonical_file}
use Rattle.p21_spec_laws.proofs.SaidFiles.{Instance, instance_of, said, section-said, sections-said, behind-said, header-lines_said, behind_header}
use Rattle.p21_spec_laws.specs.Written.{IsWrittenStatement}
use Rattle.p21_spec_schema.specs.Schema.{Schema}
use Rattle.p21_spec_schema.specs.WellFormed.{IsWellFormed}
use Rattle.p21_spec_numbering.proofs.Lists.{Shuffled-length, map-mapped}
use Rattle.p21_spec_numbering.proofs.Moved.{whole-renamed}
use Rattle.p21_spec_numbering.proofs.Orders.{number-injective, order-shuffled}
use Rattle.p21_spec_numbering.proofs.Reading.{reads-whole}
use Rattle.p21_spec_numbering.proofs.Records.{Undoes, HaveSets, record-renamed}
use Rattle.p21_spec_numbering.proofs.Renaming.{renamed-kept, renamed-twice, undo, undo-is}
use Rattle.p21_spec_numbering.specs.Ordered.{Ranking, IsOrder, position, number_in, ordered}
use Rattle.p21_spec_numbering.specs.Renamed.{renamed, renamed_instance, renamed_section, names, targets_in, IsInjectiveOn, IsWhole}
use Rattle.p21_spec_numbering.specs.RenamedRecord.{renamed_param, renamed_params, renamed_part, renamed_record, renamed_written, renamed_data, renamed_tree}

-- ---- tokens

module _ (P : Token → Type 0) (f : ℕ → ℕ) (named : (k : ℕ) → P (token.name (f k))) where
  mutual
    param-each : (p : Param) → Each P (param_tokens p) → Each P (param_tokens (renamed_param f p))
    param-each dollar each = each
    param-each star each = each
    param-each (whole z) each = each
    param-each (real d) each = each
    param-each (text chars) each = each
    param-each (name n) each = (named n, tt)
    param-each (item word) each = each
    param-each (bits bs) each = each
    param-each (list ps) each = (each.0, Each-append P (params_tokens (renamed_params f ps)) (token.right ∷ []) (params-each ps (Each-front P (params_tokens ps) (token.right ∷ []) each.1)) (Each-back P (params_tokens ps) (token.right ∷ []) each.1))
    param-each (typed key p) each = (
      each.0,
      (each.1.0, Each-append P (param_tokens (renamed_param f p)) (token.right ∷ []) (param-each p (Each-front P (param_tokens p) (token.right ∷ []) each.1.1)) (Each-back P (param_tokens p) (token.right ∷ []) each.1.1)),
    )

    params-each : (ps : Params) → Each P (params_tokens ps) → Each P (params_tokens (renamed_params f ps))
    params-each no_params each = tt
    params-each (param p ps) each =
        Each-append P (param_tokens (renamed_param f p)) (more_tokens (renamed_params f ps)) (param-each p (Each-front P (param_tokens p) (more_tokens ps) each)) (more-each ps (Each-back P (param_tokens p) (more_tokens ps) each))

    more-each : (ps : Params) → Each P (more_tokens ps) → Each P (more_tokens (renamed_params f ps))
    more-each no_params each = tt
    more-each (param p ps) each = (
      each.0,
      Each-append P (param_tokens (renamed_param f p)) (more_tokens (renamed_params f ps)) (param-each p (Each-front P (param_tokens p) (more_tokens ps) each.1)) (more-each ps (Each-back P (param_tokens p) (more_tokens ps) each.1)),
    )

  part-each : (part : Part) → Each P (part_tokens part) → Each P (part_tokens (renamed_part f part))
  part-each part each = (
    each.0,
    (
      each.1.0,
      Each-append P (params_tokens (renamed_params f part.params)) (token.right ∷ []) (params-each part.params (Each-front P (params_tokens part.params) (token.right ∷ []) each.1.1)) (Each-back P (params_tokens part.params) (token.right ∷ []) each.1.1),
    ),
  )

  parts-each : (parts : List Part) → Each P (flat_map part_tokens parts) → Each P (flat_map part_tokens (map (renamed_part f) parts))
  parts-each [] each = tt
  parts-each (part ∷ parts) each =
      Each-append P (part_tokens (renamed_part f part)) (flat_map part_tokens (map (renamed_part f) parts)) (part-each part (Each-front P (part_tokens part) (flat_map part_tokens parts) each))
      (parts-each parts (Each-back P (part_tokens part) (flat_map part_tokens parts) each))

  pub record-each : (r : Record) → Each P (record_tokens r) → Each P (record_tokens (renamed_record f r))
  record-each (simple part) each = part-each part each
  record-each (complex parts) each = (
    each.0,
    Each-append P (flat_map part_tokens (map (renamed_part f) parts)) (token.right ∷ []) (parts-each parts (Each-front P (flat_map part_tokens parts) (token.right ∷ []) each.1)) (Each-back P (flat_map part_tokens parts) (token.right ∷ []) each.1),
  )

-- ---- depth

mutual
  depth-renamed : (f : ℕ → ℕ) (p : Param) → depth (renamed_param f p) ≡ depth p
  depth-renamed f dollar = refl
  depth-renamed f star = refl
  depth-renamed f (whole z) = refl
  depth-renamed f (real d) = refl
  depth-renamed f (text chars) = refl
  depth-renamed f (name n) = refl
  depth-renamed f (item word) = refl
  depth-renamed f (bits bs) = refl
  depth-renamed f (list ps) = ap suc (params_depth-renamed f ps)
  depth-renamed f (typed key p) = ap suc (depth-renamed f p)

  params_depth-renamed : (f : ℕ → ℕ) (ps : Params) → params_depth (renamed_params f ps) ≡ params_depth ps
  params_depth-renamed f no_params = refl
  params_depth-renamed f (param p ps) =
      ap (λ k. max k (params_depth (renamed_params f ps))) (depth-renamed f p) ∙ ap (λ k. max (depth p) k) (params_depth-renamed f ps)

shallow-renamed : (f : ℕ → ℕ) (part : Part) → IsShallowPart part → IsShallowPart (renamed_part f part)
shallow-renamed f part shallow = let P : ℕ → Type 0 = λ k. k ≤ 64 in subst P (sym (params_depth-renamed f part.params)) shallow

data-renamed : (f : ℕ → ℕ) (r : Record) → IsDataRecord r → IsDataRecord (renamed_record f r)
data-renamed f (simple part) is = record { some_parts = is.some_parts; shallow = (shallow-renamed f part is.shallow.0, tt); no_user_keywords = record-each IsNoUserKeyword f (λ k. tt) (simple part) is.no_user_keywords }
data-renamed f (complex parts) is = record {
  some_parts = let long = length-map parts (renamed_part f) in omega (arith, long, is.some_parts);
  shallow = Each-mapped IsShallowPart (renamed_part f) parts (Each-weaker IsShallowPart (λ (part : Part). IsShallowPart (renamed_part f part)) (shallow-renamed f) parts is.shallow);
  no_user_keywords = record-each IsNoUserKeyword f (λ k. tt) (complex parts) is.no_user_keywords;
}

-- ---- lists of sections

instances-renamed : (f : ℕ → ℕ) (xs : List DataSection) → instances_in (map (renamed_data f) xs) ≡ map (renamed_written f) (instances_in xs)
instances-renamed f [] = refl
instances-renamed f (x ∷ xs) = ap (λ (is : List Instance). map (renamed_written f) x.instances ++ is) (instances-renamed f xs) ∙ sym (map-append (renamed_written f) x.instances (instances_in xs))

headings-renamed : (f : ℕ → ℕ) (xs : List DataSection) → headings (map (renamed_data f) xs) ≡ headings xs
headings-renamed f xs = map-mapped (λ (x : DataSection). x.heading) (renamed_data f) xs

placed-renamed : (f : ℕ → ℕ) (xs : List DataSection)
    → flat_map names_with_heading (map (renamed_data f) xs) ≡ map (renamed_section f) (flat_map names_with_heading xs)
placed-renamed f [] = refl
placed-renamed f (x ∷ xs) =
    ap (λ (is : List (ℕ × Heading)). is ++ flat_map names_with_heading (map (renamed_data f) xs))
    (map-mapped (λ (i : Instance). (i.0, x.heading)) (renamed_written f) x.instances ∙ sym (map-mapped (renamed_section f) (λ (i : Instance). (i.0, x.heading)) x.instances))
    ∙ ap (λ (is : List (ℕ × Heading)). map (renamed_section f) (names_with_heading x) ++ is) (placed-renamed f xs)
    ∙ sym (map-append (renamed_section f) (names_with_heading x) (flat_map names_with_heading xs))

section-renamed : (f : ℕ → ℕ) → ((k : ℕ) → IsSpelled (token.name (f k))) → (x : DataSection)
    → Each IsWrittenStatement (section_statements x) → Each IsWrittenStatement (section_statements (renamed_data f x))
section-renamed f spelled x each = (
  each.0,
  Each-append IsWrittenStatement (map instance_of (map (renamed_written f) x.instances)) (section section_end ∷ [])
      (Each-mapped IsWrittenStatement instance_of (map (renamed_written f) x.instances)
      (Each-mapped (λ (i : Instance). IsWrittenStatement (instance i.0 i.1)) (renamed_written f) x.instances
      (Each-weaker (λ (i : Instance). IsWrittenStatement (instance i.0 i.1)) (λ (i : Instance). IsWrittenStatement (instance (f i.0) (renamed_record f i.1))) own x.instances (section-said x each))))
      (Each-back IsWrittenStatement (map instance_of x.instances) (section section_end ∷ []) each.1),
)
  where
    own : (i : Instance) → IsWrittenStatement (instance i.0 i.1) → IsWrittenStatement (instance (f i.0) (renamed_record f i.1))
    own i written = (
      spelled i.0,
      (
        written.1.0,
        Each-append IsSpelled (record_tokens (renamed_record f i.1)) (token.semicolon ∷ []) (record-each IsSpelled f spelled i.1 (Each-front IsSpelled (record_tokens i.1) (token.semicolon ∷ []) written.1.1))
            (Each-back IsSpelled (record_tokens i.1) (token.semicolon ∷ []) written.1.1),
      ),
    )

sections-renamed : (f : ℕ → ℕ) → ((k : ℕ) → IsSpelled (token.name (f k))) → (xs : List DataSection)
    → Each (λ (x : DataSection). Each IsWrittenStatement (section_statements x)) xs
    → Each (λ (x : DataSection). Each IsWrittenStatement (section_statements x)) (map (renamed_data f) xs)
sections-renamed f spelled xs each =
    Each-mapped (λ (x : DataSection). Each IsWrittenStatement (section_statements x)) (renamed_data f) xs
    (Each-weaker (λ (x : DataSection). Each IsWrittenStatement (section_statements x)) (λ (x : DataSection). Each IsWrittenStatement (section_statements (renamed_data f x))) (section-renamed f spelled) xs each)

-- ---- meanings

sets-renamed : (f : ℕ → ℕ) (ms : List (ℕ × Typed)) → HaveSets f (entity_sets_of ms) (entity_sets_of (map (renamed_instance f) ms))
sets-renamed f ms n es among =
    let set : ℕ × Typed → ℕ × List ℕ = λ i. (i.0, i.1.entities) in
    let (i, at, is) = Contains-unmapped set ms (n, es) among in
    let P : ℕ × List ℕ → Type 0 = λ k. Contains (entity_sets_of (map (renamed_instance f) ms)) (f k.0, k.1) in
    subst P is (Contains-mapped set (map (renamed_instance f) ms) (renamed_instance f i) (Contains-mapped (renamed_instance f) ms i at))

means-renamed : (s : Schema) (f g : ℕ → ℕ) (all : List (ℕ × Typed)) (is : List Instance) (ms : List (ℕ × Typed))
    → ((i : ℕ × Typed) → Contains ms i → Undoes g f (flat_map targets_in i.1.values))
    → AllZip (InstanceMeans s (entity_sets_of all)) is ms
    → AllZip (InstanceMeans s (entity_sets_of (map (renamed_instance f) all))) (map (renamed_written f) is) (map (renamed_instance f) ms)
means-renamed s f g all [] [] undoes means = tt
means-renamed s f g all [] (m ∷ ms) undoes means = absurd means
means-renamed s f g all (i ∷ is) [] undoes means = absurd means
means-renamed s f g all (i ∷ is) (m ∷ ms) undoes means = (
  (
    ap f means.0.0,
    record-renamed s (entity_sets_of all) (entity_sets_of (map (renamed_instance f) all)) f g (sets-renamed f all) m.1 (undoes m (Contains-first m ms)) i.1 means.0.1,
  ),
  means-renamed s f g all is ms (λ j among. undoes j (Contains-later m ms j among)) means.1,
)

pub reads-renamed : (s : Schema) → IsWellFormed s → (bytes : List ℕ) (m : FileMeaning) → (reads : Reads s bytes m) → (f : ℕ → ℕ)
    → IsInjectiveOn (names m) f → ((k : ℕ) → IsSpelled (token.name (f k)))
    → Reads s (flat_map line (statements (renamed_tree f reads.structure))) (renamed f m)
reads-renamed s formed bytes m reads f injective spelled =
    let t : Structure = reads.structure in
    let u : Structure = renamed_tree f t in
    let whole_ : IsWhole m = (reads-whole s formed bytes m reads).0 in
    let new_whole : IsWhole (renamed f m) = whole-renamed f m whole_ injective in
    let g : ℕ → ℕ = undo f (names m) in
    let source : Each IsWrittenStatement (statements t) = said t (laid-each_spelled bytes (tokens_of t) reads.in_grammar.laid) in
    let behind : Each IsWrittenStatement (behind_header t) = behind-said t source in
    let new_sections : Each (λ (x : DataSection). Each IsWrittenStatement (section_statements x)) u.sections = sections-renamed f spelled t.sections (sections-said t source) in
    let all_said : Each IsWrittenStatement (statements u) = (
      source.0,
      (
        source.1.0,
        Each-append IsWrittenStatement (map header t.header) (behind_header u) (header-lines_said t source)
            (behind.0, Each-append IsWrittenStatement (flat_map section_statements u.sections) (section finish ∷ []) (Each-joined IsWrittenStatement section_statements u.sections new_sections) (Each-back IsWrittenStatement (flat_map section_statements t.sections) (section finish ∷ []) behind.1)),
      ),
    ) in
    let heads : headings u.sections ≡ headings t.sections = headings-renamed f t.sections in
    let instances_are : instances_in u.sections ≡ map (renamed_written f) (instances_in t.sections) = instances-renamed f t.sections in
    let H : List Heading → Type 0 = AreHeadings in
    let N : List Heading → Type 0 = λ hs. Each (HeadingNamesSchema s.name) hs in
    let S : List Heading → Type 0 = λ hs. IsDistinct bytes_eq (section_names hs) in
    let D : List Instance → Type 0 = λ is. Each (λ (i : Instance). IsDataRecord i.1) is in
    let M : List Instance → Type 0 = λ is. AllZip (InstanceMeans s (entity_sets_of (renamed f m).instances)) is (renamed f m).instances in
    let means : AllZip (InstanceMeans s (entity_sets_of (renamed f m).instances)) (map (renamed_written f) (instances_in t.sections)) (renamed f m).instances =
    means-renamed s f g m.instances (instances_in t.sections) m.instances (λ i among k target. undo-is f (names m) injective k (whole_.closed i.0 i.1 among k target)) reads.means in
    record {
      structure = u;
      schema_text = reads.schema_text;
      in_grammar = record {
        laid = statements_laid (statements u) all_said;
        is_file = record {
          header = reads.in_grammar.is_file.header;
          shallow_header = reads.in_grammar.is_file.shallow_header;
          headings_are = subst H (sym heads) reads.in_grammar.is_file.headings_are;
          data_records = subst D (sym instances_are)
              (Each-mapped (λ (i : Instance). IsDataRecord i.1) (renamed_written f) (instances_in t.sections)
              (Each-weaker (λ (i : Instance). IsDataRecord i.1) (λ (i : Instance). IsDataRecord (renamed_record f i.1)) (λ i is. data-renamed f i.1 is) (instances_in t.sections) reads.in_grammar.is_file.data_records));
        };
      };
      names_schema = reads.names_schema;
      sections_name_schema = subst N (sym heads) reads.sections_name_schema;
      section_names_differ = subst S (sym heads) reads.section_names_differ;
      names_differ = (let P : List ℕ → Type 0 = λ ns. IsDistinct nat_eq ns in subst P (meant-named s (entity_sets_of (renamed f m).instances) (instances_in u.sections) (renamed f m).instances (subst M (sym instances_are) means)) new_whole.names_differ);
      means = subst M (sym instances_are) means;
      header_is = reads.header_is;
      schema_is = reads.schema_is;
      sections_are = reads.sections_are ∙ sym heads;
      instance_sections_are = ap (map (renamed_section f)) reads.instance_sections_are ∙ sym (placed-renamed f t.sections);
    }

-- ---- canonical bytes of what is ordered

position-within : (ns : List ℕ) (n : ℕ) → position ns n ≤ length ns
position-within [] n = omega arith
position-within (m ∷ ns) n = by_test (nat_eq m n) (position-within ns n)
  where
    by_test : (b : Bool) → position ns n ≤ length ns → (if b then 0 else suc (position ns n)) ≤ suc (length ns)
    by_test true more = omega arith
    by_test false more = omega (arith, more)

pub has-numbered_bytes : (s : Schema) → IsWellFormed s → (ranking : Ranking) (bytes : List ℕ) (m : FileMeaning) → Reads s bytes m
    → (order : List ℕ) → IsOrder ranking m order → length m.instances + 1 < 2 ^ 64 → HasCanonicalFile s (ordered order m)
has-numbered_bytes s formed ranking bytes m reads order is few =
    let whole_ : IsWhole m = (reads-whole s formed bytes m reads).0 in
    let long : length order ≡ length m.instances = Shuffled-length order (names m) (order-shuffled ranking m whole_ order is) ∙ length-map m.instances (λ (i : ℕ × Typed). i.0) in
    let spelled : (k : ℕ) → IsSpelled (token.name (number_in order k)) = λ k.
    let low : number_in order k < 2 ^ 64 = (let within = position-within order k in omega (arith, within, long, few)) in (name_spelling (number_in order k), name_spells (number_in order k) low) in
    let injective : IsInjectiveOn (names m) (number_in order) = λ j k among among_ one. number-injective order j k ((is.all j).0 among) ((is.all k).0 among_) one in
    has-canonical_file s formed (flat_map line (statements (renamed_tree (number_in order) reads.structure))) (ordered order m) (reads-renamed s formed bytes m reads (number_in order) injective spelled)

-- ---- new names that can be written, of the instances alone

module _ (s : Schema) (formed : IsWellFormed s) (bytes : List ℕ) (m : FileMeaning) (reads : Reads s bytes m) (f : ℕ → ℕ)
    (once : IsInjectiveOn (names m) f) (written : (n : ℕ) → Contains (names m) n → f n < 2 ^ 64) where
  -- names that can be written, whatever the old one
  number : ℕ → ℕ
  number k = if ltb (f k) (2 ^ 64) then f k else 0

  number-low : (k : ℕ) → number k < 2 ^ 64
  unfolding number
  number-low k = by (ltb (f k) (2 ^ 64)) refl
    where
      by : (b : Bool) → ltb (f k) (2 ^ 64) ≡ b → (if b then f k else 0) < 2 ^ 64
      by true e = ltb-true (f k) (2 ^ 64) e
      by false e = omega arith

  number-is : (n : ℕ) → Contains (names m) n → number n ≡ f n
  unfolding number
  number-is n among = ap (λ (b : Bool). if b then f n else 0) (lt-ltb (f n) (2 ^ 64) (written n among))

  named : renamed number m ≡ renamed f m
  named = ap (renamed number) (sym (renamed-kept m)) ∙ renamed-twice (λ n. n) number f m (reads-whole s formed bytes m reads).0 number-is

  -- some bytes mean the file under these
  pub reads-written : (out : List ℕ) × Reads s out (renamed f m)
  reads-written =
      let R : FileMeaning → Type 0 = λ x. Reads s (flat_map line (statements (renamed_tree number reads.structure))) x in (
        flat_map line (statements (renamed_tree number reads.structure)),
        subst R named (reads-renamed s formed bytes m reads number
            (λ j k among among_ one. once j k among among_ (sym (number-is j among) ∙ one ∙ number-is k among_))
            (λ k. (name_spelling (number k), name_spells (number k) (number-low k)))),
      )
