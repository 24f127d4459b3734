-- A file that is read by itself, token by token and piece by piece, and its end.
use Rattle.std.proofs.Common.{◌≡◌, ◌≤◌, ◌<◌, ◌⊎◌, ◌+◌, ◌^◌, ◌∙◌, ℕ, List, [], ◌∷◌, ◌++◌, Contains, length, map, take, drop, Some, None, Result, Ok, Err, append-nil, append_assoc, ap, arith, inl, inr, refl, subst, sym}
use Rattle.std.proofs.lemmas.List.{map-append, take-append-drop}
use Rattle.std.specs.List.{IsDistinct, AllByRecursion as Each}
use Rattle.std.specs.Str.{bytes_eq}
use Rattle.p21_grammar.specs.Statements.{statement_of}
use Rattle.p21_grammar.specs.declared.event.Event.{Event}
use Rattle.p21_grammar_tree.specs.View.{part_views}
use Rattle.p21_spec_basics.proofs.Members.{Contains-first, Contains-later, Contains-mapped, Each-member, Each-weaker}
use Rattle.p21_spec_basics.specs.Limits.{Limits}
use Rattle.p21_spec_exchange.specs.DataSection.{Heading, headings, instances_in, named, section_names, unnamed}
use Rattle.p21_spec_exchange.specs.Grammar.{InGrammar}
use Rattle.p21_spec_exchange.specs.Laying.{AreStatementsWithin, Laid}
use Rattle.p21_spec_exchange.specs.Record.{Part, Record}
use Rattle.p21_spec_exchange.specs.Statement.{Statement}
use Rattle.p21_spec_exchange.specs.Structure.{Structure, statements as statements_in, tokens_of}
use Rattle.p21_spec_file.specs.File.{HeadingNamesSchema}
use Rattle.p21_spec_laws.proofs.Among.{parts-are}
use Rattle.p21_spec_laws.proofs.Statements.{headings-are, instances-are}
use Rattle.p21_spec_laws.specs.Among.{parts_among}
use Rattle.p21_spec_laws.specs.Taken.{AreStatementsTaken, headings_among, instances_among}
use Rattle.p21_spec_file.specs.Reference.{record_references}
use Rattle.p21_spec_syntax.proofs.IllFormed.{missing-target}
use Rattle.p21_spec_syntax.proofs.NoFiles.{no_file-begins, no_file-ill_formed}
use Rattle.p21_spec_syntax.specs.WellFormedFile.{BeginsIllFormed, IsWellFormedFile, names_of, references_of}
use Rattle.p21_stream_statements.proofs.Pieces.{looked-within, seen-first, within-on}
use Rattle.p21_stream_statements.proofs.Refusing.{begins-no_file}
use Rattle.p21_stream_statements.proofs.Stepping.{taken-looked}
use Rattle.p21_stream_statements.specs.declared.fault.Fault.{Fault}
use Rattle.p21_stream_statements.specs.declared.refusal.Refusal.{Refusal}
use Rattle.p21_stream_statements.specs.StatementReader as statements
use Rattle.p21_stream_statements.specs.StatementReader.{AreWholeStatements, Held, StatementHistory, bytes_looked_at, limits_of}
use Rattle.p21_stream_statements.proofs.Within.{given-few, source-within, statements-within}
use Rattle.p21_stream_syntax.proofs.Adding.{HasCome}
use Rattle.p21_stream_syntax.specs.Given.{AreInstances, IsOfSchema, Keeps, Kept, Takes}
use Rattle.p21_stream_syntax.specs.Waiting.{Claim, claims_among, claims_of}
use Rattle.p21_stream_syntax.specs.Walk.{FinishGives, HasTaken, IsFoundOf, IsUnderWay, ReadGives, StepGives}
use Rattle.p21_syntax_words.specs.KeywordCounts.{AreCounts, keywords_of}
use Rattle.p21_stream_syntax.specs.declared.well_formed.WellFormed.{WellFormed}

-- ---- a step

pub step-piece : (limits : Limits) (held next : Held) (kept : Kept) (piece : List ℕ) → statements.StepGives held piece (Ok None) next
    → limits_of next ≡ limits_of held → StepGives limits held kept piece (Ok None) next kept
step-piece limits held next kept piece gives same reading live at =
    (reading.given, record { reads = gives reading live.reads at; limits_are = same ∙ live.limits_are; keeps = live.keeps })

pub step-token : (limits : Limits) (held next : Held) (kept : Kept) (piece : List ℕ) (count : ℕ)
    → statements.StepGives held piece (Ok (Some (count, None))) next → limits_of next ≡ limits_of held
    → StepGives limits held kept piece (Ok (Some count)) next kept
step-token limits held next kept piece count gives same reading live at =
    let goes = gives reading live.reads at in
    let more = goes.one_more in
    record {
      reading = goes.reading;
      live = record {
        reads = goes.live;
        limits_are = same
            ∙ live.limits_are;
        keeps = subst (λ (given : List Statement). Keeps given kept) (sym (goes.given_are ∙ append-nil reading.given))
            live.keeps;
      };
      taken_are = goes.taken_are;
      seen_at = goes.seen_at;
      more = omega (arith, more);
    }

pub step-statement : (limits : Limits) (held next : Held) (kept after : Kept) (piece : List ℕ) (count : ℕ) (event : Event)
    → statements.StepGives held piece (Ok (Some (count, Some event))) next → limits_of next ≡ limits_of held
    → Takes kept (statement_of event) (Ok tt) after → StepGives limits held kept piece (Ok (Some count)) next after
step-statement limits held next kept after piece count event gives same takes reading live at =
    let goes = gives reading live.reads at in
    let more = goes.one_more in
    record {
      reading = goes.reading;
      live = record {
        reads = goes.live;
        limits_are = same
            ∙ live.limits_are;
        keeps = subst (λ (given : List Statement). Keeps given after) (sym goes.given_are)
            (takes reading.given live.keeps);
      };
      taken_are = goes.taken_are;
      seen_at = goes.seen_at;
      more = omega (arith, more);
    }

pub step-refused : (limits : Limits) (held next last : Held) (kept after : Kept) (piece : List ℕ) (refusal : Refusal) (fault : Fault)
    → refusal.fault ≡ fault → statements.StepGives held piece (Err fault) next → StepGives limits held kept piece (Err refusal) last after
step-refused limits held next last kept after piece refusal fault is gives other reading live at =
    let r = gives (λ none. other (is ∙ none)) reading live.reads at in
    record {
      upto = r.count;
      within = r.within;
      ill_formed = no_file-begins limits (reading.taken ++ take r.count piece)
          (begins-no_file (limits_of held) (reading.taken ++ take r.count piece) limits (sym (ap (λ p. p.0) live.limits_are))
          (sym (ap (λ p. p.1) live.limits_are)) fault r.begins_none);
    }

-- a statement with which no well-formed file begins
pub step-ends : (limits : Limits) (held next last : Held) (kept after end : Kept) (piece : List ℕ) (count : ℕ) (event : Event)
    (refusal : Refusal) (fault : Fault) → refusal.fault ≡ fault → statements.StepGives held piece (Ok (Some (count, Some event))) next
    → count ≤ length piece
    → Takes kept (statement_of event) (Err fault) after → StepGives limits held kept piece (Err refusal) last end
step-ends limits held next last kept after end piece count event refusal fault is gives within takes other reading live at =
    let goes = gives reading live.reads at in
    let taken : AreStatementsTaken (bytes_looked_at goes.reading) (reading.given ++ statement_of event ∷ []) =
    subst (λ (given : List Statement). AreStatementsTaken (bytes_looked_at goes.reading) given) goes.given_are
    (taken-looked next goes.reading goes.live) in
    let (upto, upto_within, ill_formed) = looked-within (BeginsIllFormed limits) reading goes.reading piece count goes.taken_are
    goes.seen_at within (takes (λ none. other (is ∙ none)) reading.given live.keeps limits (bytes_looked_at goes.reading) taken) in
    record { upto = upto; within = upto_within; ill_formed = ill_formed }

-- ---- the rest of a piece behind a token

pub read-on : (limits : Limits) (held next last : Held) (kept after end : Kept) (piece : List ℕ) (count : ℕ)
    → StepGives limits held kept piece (Ok (Some count)) next after → count ≤ length piece → (result : Result (Unit {0}) Refusal)
    → ReadGives limits next after (drop count piece) result last end
    → ReadGives limits held kept piece result last end
read-on limits held next last kept after end piece count gives within (Ok done) reads = λ reading live at.
    let on = gives reading live at in
    let whole = reads on.reading on.live (seen-first on.reading.seen count piece on.seen_at) in
    let same : on.reading.taken ++ drop count piece ≡ reading.taken ++ piece =
    ap (λ (l : List ℕ). l ++ drop count piece) on.taken_are ∙ append_assoc reading.taken (take count piece) (drop count piece)
    ∙ ap (λ (l : List ℕ). reading.taken ++ l) (take-append-drop count piece) in
    subst (HasTaken limits last end) same whole
read-on limits held next last kept after end piece count gives within (Err refusal) reads = λ other reading live at.
    let on = gives reading live at in
    let r = reads other on.reading on.live (seen-first on.reading.seen count piece on.seen_at) in
    let (upto_within, ill_formed) = within-on reading on.reading piece count (BeginsIllFormed limits) on.taken_are within r.upto r.within
    r.ill_formed in
    record { upto = count + r.upto; within = upto_within; ill_formed = ill_formed }

-- ---- all tokens of a piece

-- what the rest gives, the piece gives; and each round gave a token
pub record IsRest (first : Held) (old : Kept) (piece : List ℕ) (held : Held) (kept : Kept) (rest : List ℕ) (rounds : ℕ) : Type 0 where
  pub gives : (limits : Limits) (result : Result (Unit {0}) Refusal) (last : Held) (end : Kept)
      → ReadGives limits held kept rest result last end → ReadGives limits first old piece result last end
  pub limits : Limits
  pub under_way : IsUnderWay limits held kept rest
  pub rounds_few : rounds ≤ length under_way.live.reads.history.given

pub rest-first : (held : Held) (kept : Kept) (piece : List ℕ) → (limits : Limits) × IsUnderWay limits held kept piece
    → IsRest held kept piece held kept piece 0
rest-first held kept piece (limits, way) = record {
  gives = λ own result last end reads. reads;
  limits = limits;
  under_way =
      way;
  rounds_few = omega arith;
}

pub rest-on : (first held next : Held) (old kept after : Kept) (piece rest : List ℕ) (count rounds : ℕ)
    → IsRest first old piece held kept rest rounds → ((limits : Limits) → StepGives limits held kept rest (Ok (Some count)) next after)
    → count ≤ length rest → IsRest first old piece next after (drop count rest) (rounds + 1)
rest-on first held next old kept after piece rest count rounds so_far gives within =
    let way = so_far.under_way in
    let on = gives so_far.limits way.reading way.live way.seen_at in
    let few = so_far.rounds_few in
    let more = on.more in
    record {
      gives = λ limits result last end reads. so_far.gives limits result last end
          (read-on limits held next last kept after end rest count (gives limits) within result reads);
      limits = so_far.limits;
      under_way = record {
        reading = on.reading;
        live = on.live;
        seen_at = seen-first on.reading.seen count rest on.seen_at;
        counted =
            way.counted;
      };
      rounds_few = omega (arith, few, more);
    }

-- a file has no more tokens than bytes, so 64 bits count the rounds
pub rounds-few : (first held next : Held) (old kept after : Kept) (piece rest : List ℕ) (count rounds : ℕ)
    → IsRest first old piece held kept rest rounds → ((limits : Limits) → StepGives limits held kept rest (Ok (Some count)) next after)
    → rounds + 1 < 2 ^ 64
rounds-few first held next old kept after piece rest count rounds so_far gives =
    let way = so_far.under_way in
    let on = gives so_far.limits way.reading way.live way.seen_at in
    let rounds_few = so_far.rounds_few in
    let more = on.more in
    let few = given-few next on.reading on.live.reads in
    let within = source-within next on.reading on.live.reads in
    let limit : (limits_of next).1 ≡ so_far.limits.file_source = ap (λ p. p.1) on.live.limits_are in
    let counted = way.counted in
    omega (arith, rounds_few, more, few, within, limit, counted)

-- ---- the end

-- these bytes, of which none was seen behind them
abbrev between : List ℕ → List Statement → StatementHistory
between bytes given = record { taken = bytes; seen = None; given = given }

-- the tokens of the tree are laid in the bytes
abbrev tree-laid : (bytes : List ℕ) (given : List Statement) (w : AreWholeStatements bytes given) → Laid bytes (tokens_of w.whole.structure)
tree-laid bytes given w = record { lexemes = w.laid.lexemes; tokens_are = w.laid.tokens_are ∙ sym w.whole.tokens_are; laid = w.laid.laid }

names-schema : (schema : List ℕ) (h : Heading) → IsOfSchema schema h → HeadingNamesSchema schema h
names-schema schema unnamed of = tt
names-schema schema (named name text) of = of.1

-- the references of instances are those that they have
references-claimed : (instances : List (ℕ × Record)) → references_of instances ≡ map (λ (c : Claim). c.1) (claims_among instances)
references-claimed [] = refl
references-claimed ((n, r) ∷ instances) =
    ap (λ (l : List ℕ). record_references r ++ l) (references-claimed instances)
    ∙ ap (λ (l : List ℕ). l ++ map (λ (c : Claim). c.1) (claims_among instances)) (sym (own (record_references r)))
    ∙ sym (map-append (λ (c : Claim). c.1) (claims_of n (record_references r)) (claims_among instances))
  where
    own : (targets : List ℕ) → map (λ (c : Claim). c.1) (claims_of n targets) ≡ targets
    own [] = refl
    own (t ∷ targets) = ap (λ (l : List ℕ). t ∷ l) (own targets)

pub claim-reference : (instances : List (ℕ × Record)) (c : Claim) → Contains (claims_among instances) c → Contains (references_of instances) c.1
claim-reference instances c among =
    subst (λ (l : List ℕ). Contains l c.1) (sym (references-claimed instances))
    (Contains-mapped (λ (d : Claim). d.1) (claims_among instances) c among)

references-come : (names : List ℕ) (instances : List (ℕ × Record)) → Each (HasCome names) (claims_among instances)
    → Each (Contains names) (references_of instances)
references-come names instances come =
    subst (Each (Contains names)) (sym (references-claimed instances)) (each (claims_among instances) come)
  where
    each : (claims : List Claim) → Each (HasCome names) claims → Each (Contains names) (map (λ (c : Claim). c.1) claims)
    each [] come_ = tt
    each (c ∷ claims) come_ = (come_.0, each claims come_.1)

-- bytes that are a tree with these statements are well formed, where all references have come; and what is kept is so
pub kept-found : (limits : Limits) (bytes : List ℕ) (given : List Statement) (kept : Kept) (t : Structure) (text : List ℕ)
    (found : WellFormed) → Keeps given kept → (in_grammar : InGrammar bytes t text) → statements_in t ≡ given
    → length bytes ≤ limits.file_source → AreStatementsWithin limits.record_source 0 in_grammar.laid.lexemes
    → Each (HasCome kept.names) kept.waiting → found.instances ≡ length kept.names → found.schema.items ≡ kept.schema
    → part_views found.header.items ≡ kept.header → found.keywords ≡ kept.counts → IsFoundOf limits bytes found
kept-found limits bytes given kept t text found keeps in_grammar same short within given_all counted schema_is header_is counts_are =
    let parts : parts_among given ≡ t.header = ap parts_among (sym same) ∙ parts-are t in
    let heads : headings_among given ≡ headings t.sections = ap headings_among (sym same) ∙ headings-are t in
    let instances : instances_among given ≡ instances_in t.sections = ap instances_among (sym same) ∙ instances-are t in
    let are : AreInstances (instances_in t.sections) kept.names kept.waiting =
    subst (λ (is : List (ℕ × Record)). AreInstances is kept.names kept.waiting) instances keeps.instances in
    let h = in_grammar.is_file.header in
    let third : Contains t.header h.file_schema =
    subst (λ (ps : List Part). Contains ps h.file_schema) (sym h.header_is)
    (Contains-later h.file_description (h.file_name ∷ h.file_schema ∷ h.further) h.file_schema
    (Contains-later h.file_name (h.file_schema ∷ h.further) h.file_schema (Contains-first h.file_schema h.further))) in
    let (begins, names) = keeps.schema.each_names h.file_schema text
    (subst (λ (ps : List Part). Contains ps h.file_schema) (sym parts) third) h.is_file_schema in
    let of_schema : Each (HeadingNamesSchema kept.schema) (headings t.sections) =
    subst (Each (HeadingNamesSchema kept.schema)) heads
    (Each-weaker (IsOfSchema kept.schema) (HeadingNamesSchema kept.schema) (names-schema kept.schema) (headings_among given)
    keeps.sections.of_schema) in
    let own = subst (λ (s : List ℕ). IsWellFormedFile limits bytes t s) (sym schema_is) (record {
      schema_text = text;
      file = record { in_grammar = in_grammar; file_within = short; statements_within = within };
      begins_with_name = begins;
      names_schema = names;
      sections_name_schema = of_schema;
      section_names_differ = subst (λ (hs : List Heading). IsDistinct bytes_eq (section_names hs)) heads keeps.sections.names_differ;
      names_differ = are.names_differ;
      references_given = references-come (names_of (instances_in t.sections)) (instances_in t.sections)
          (Each-weaker (λ (c : Claim). Contains kept.waiting c ⊎ Contains (names_of (instances_in t.sections)) c.1)
          (HasCome (names_of (instances_in t.sections)))
          (λ c served. elim served [
            | inl waits ↦ (are.names_are c.1).0
                (Each-member (HasCome kept.names) kept.waiting c given_all waits)
            | inr given ↦ given
          ])
          (claims_among (instances_in t.sections)) are.others_given);
    }) in
    record {
      structure = t;
      well_formed = own;
      instances_are = counted ∙ are.as_many;
      header_is = header_is ∙ keeps.header_is ∙ parts;
      keywords_are = subst (AreCounts (keywords_of (instances_in t.sections))) (sym counts_are)
          (subst (λ (is : List (ℕ × Record)). AreCounts (keywords_of is) kept.counts) instances keeps.keywords);
    }

pub found-whole : (held : Held) (kept : Kept) (found : WellFormed) → statements.FinishGives held (Ok tt)
    → Each (HasCome kept.names) kept.waiting → found.instances ≡ length kept.names → found.schema.items ≡ kept.schema
    → part_views found.header.items ≡ kept.header → found.keywords ≡ kept.counts → FinishGives held kept (Ok found)
found-whole held kept found ends given_all counted schema_is header_is counts_are limits bytes (given, live) =
    let w : AreWholeStatements bytes given = ends (between bytes given) live.reads refl in
    let laid : Laid bytes (tokens_of w.whole.structure) = tree-laid bytes given w in
    let short = source-within held (between bytes given) live.reads in
    let limit : (limits_of held).1 ≡ limits.file_source = ap (λ p. p.1) live.limits_are in
    let within : AreStatementsWithin limits.record_source 0 laid.lexemes =
    subst (λ (most : ℕ). AreStatementsWithin most 0 w.laid.lexemes) (ap (λ p. p.0) live.limits_are)
    (statements-within held (between bytes given) live.reads refl w) in
    kept-found limits bytes given kept w.whole.structure w.whole.text found live.keeps
    (record { laid = laid; is_file = w.whole.is_file }) w.whole.statements_are (omega (arith, short, limit)) within given_all counted
    schema_is header_is counts_are

pub finish-refused : (held : Held) (kept : Kept) (fault : Fault) (refusal : Refusal) → refusal.fault ≡ fault
    → statements.FinishGives held (Err fault) → FinishGives held kept (Err refusal)
finish-refused held kept fault refusal is gives other limits bytes (given, live) =
    no_file-ill_formed limits bytes (gives (λ none. other (is ∙ none)) (between bytes given) live.reads refl)

pub finish-missing : (held : Held) (kept : Kept) (refusal : Refusal) (holder : ℕ) → statements.FinishGives held (Ok tt)
    → (target : ℕ) × Contains kept.waiting (holder, target) × ¬ Contains kept.names target → FinishGives held kept (Err refusal)
finish-missing held kept refusal holder ends (target, waits, none) other limits bytes (given, live) =
    let w : AreWholeStatements bytes given = ends (between bytes given) live.reads refl in
    let are = live.keeps.instances in
    missing-target limits bytes w.whole.structure given w.whole.statements_are (tree-laid bytes given w) target
    (claim-reference (instances_among given) (holder, target)
    (Each-member (Contains (claims_among (instances_among given))) kept.waiting (holder, target) are.are_references waits))
    (λ among. none ((are.names_are target).1 among))
