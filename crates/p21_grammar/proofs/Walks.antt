-- The statements of each file lead to its end, and statements that lead somewhere are the first of those of some file.
use Rattle.std.proofs.Common.{◌≡◌, ℕ, Bool, true, false, List, [], ◌∷◌, ◌++◌, map, Result, Ok, Err, inl, refl, ap, sym, ◌∙◌, arith, subst}
use Rattle.std.proofs.lemmas.List.{append-nil}
use Rattle.std.specs.Prelude.{codes}
use Rattle.std.specs.List.{flat_map, AllByRecursion as Each}
use Rattle.p21_spec_exchange.proofs.Semicolons.{Each-append}
use Rattle.p21_spec_exchange.proofs.SectionOrder.{instance_of, sections_with}
use Rattle.p21_spec_exchange.specs.DataSection.{Heading, unnamed, named, DataSection, headings, instances_in, IsNamed, AreHeadings}
use Rattle.p21_spec_exchange.specs.Grammar.{IsShallowPart, IsDataRecord, IsFile}
use Rattle.p21_spec_exchange.specs.Header.{string, strings, IsFileDescription, IsFileName, IsFileSchema, IsFurtherRecord}
use Rattle.p21_spec_exchange.specs.Parameter.{key_of, dollar, no_params, param}
use Rattle.p21_spec_exchange.specs.Record.{Part, Record}
use Rattle.p21_spec_exchange.specs.Statement.{SectionLine, Statement, section, header, instance, begin, header_start, section_end, data_start, finish}
use Rattle.p21_spec_exchange.specs.Structure.{Structure, section_statements, statements}
use Rattle.p21_grammar.specs.Stage.{after, after_line, after_part, shaped, then_walk, walk}
use Rattle.p21_grammar.specs.Shape.{is_file_description, is_file_name, is_file_schema, is_further}
use Rattle.p21_grammar.specs.declared.fault.GrammarFault.{GrammarFault}
use Rattle.p21_grammar.specs.declared.stage.Stage.{Stage}
use Rattle.p21_grammar.specs.declared.stage.Stage.TheVariants.{Start, Begun, Description, FileName, FileSchema, Further, Headed, Unnamed, Named, BehindUnnamed, BehindNamed, Ended}
use Rattle.p21_grammar.proofs.RunsParams.{Each-front, Each-back}
use Rattle.p21_grammar.proofs.RunsStatements.{ok-same}
use Rattle.p21_grammar.proofs.Shapes.{record-is, is-record, record-no_names, schema-is, is-schema, schema-no_names, further-is, is-further, only_schema}
use Rattle.p21_grammar.specs.Sound.{IsSound}

abbrev pub IsInstance : ℕ × Record → Type 0
IsInstance i = IsDataRecord i.1

-- ---- a file leads to its end

further-walk : (parts : List Part) (ss : List Statement) → Each IsFurtherRecord parts → walk (map header parts ++ ss) Further ≡ walk ss Further
further-walk [] ss all = refl
further-walk (part ∷ parts) ss all = ap (λ z. then_walk (walk (map header parts ++ ss)) (shaped z Further)) (is-further part all.0) ∙ further-walk parts ss all.1

pub unnamed-walk : (is : List (ℕ × Record)) (ss : List Statement) → walk (map instance_of is ++ ss) Unnamed ≡ walk ss Unnamed
unnamed-walk [] ss = refl
unnamed-walk (i ∷ is) ss = unnamed-walk is ss

pub named-walk : (is : List (ℕ × Record)) (ss : List Statement) → walk (map instance_of is ++ ss) Named ≡ walk ss Named
named-walk [] ss = refl
named-walk (i ∷ is) ss = named-walk is ss

behind-walk : (heading : Heading) (is : List (ℕ × Record)) (ss : List Statement) → IsNamed heading
    → walk (section (data_start heading) ∷ (map instance_of is ++ section section_end ∷ ss)) BehindNamed ≡ walk ss BehindNamed
behind-walk unnamed is ss has = absurd has
behind-walk (named chars schema) is ss has = named-walk is (section section_end ∷ ss)

sections-walk : (xs : List DataSection) (ss : List Statement) → Each IsNamed (headings xs) → walk (flat_map section_statements xs ++ ss) BehindNamed ≡ walk ss BehindNamed
sections-walk [] ss all = refl
sections-walk (x ∷ xs) ss all =
    ap (λ z. walk z BehindNamed) (sections_with x xs ss)
    ∙ behind-walk x.heading x.instances (flat_map section_statements xs ++ ss) all.0
    ∙ sections-walk xs ss all.1

first-walk : (heading : Heading) (is : List (ℕ × Record)) (xs : List DataSection) → AreHeadings (heading ∷ headings xs)
    → walk (section (data_start heading) ∷ (map instance_of is ++ section section_end ∷ (flat_map section_statements xs ++ section finish ∷ []))) Headed ≡ Ok Ended
first-walk unnamed is [] are = unnamed-walk is (section section_end ∷ section finish ∷ [])
first-walk unnamed is (x ∷ xs) are = absurd are
first-walk (named chars schema) is xs are = named-walk is (section section_end ∷ (flat_map section_statements xs ++ section finish ∷ [])) ∙ sections-walk xs (section finish ∷ []) are

headed-walk : (xs : List DataSection) → AreHeadings (headings xs) → walk (flat_map section_statements xs ++ section finish ∷ []) Headed ≡ Ok Ended
headed-walk [] are = absurd are
headed-walk (x ∷ xs) are = ap (λ z. walk z Headed) (sections_with x xs (section finish ∷ [])) ∙ first-walk x.heading x.instances xs are

header-walk : (d n s : Part) (further : List Part) (text : List ℕ) (ss : List Statement) → IsFileDescription d → IsFileName n → IsFileSchema s text → Each IsFurtherRecord further
    → walk (header d ∷ header n ∷ header s ∷ (map header further ++ ss)) Description ≡ walk ss Further
header-walk d n s further text ss first second third all =
    let rest : List Statement = map header further ++ ss in
    ap (λ z. then_walk (walk (header n ∷ header s ∷ rest)) (shaped z FileName)) (is-record (codes "FILE_DESCRIPTION") (strings ∷ string ∷ []) d first)
    ∙ ap (λ z. then_walk (walk (header s ∷ rest)) (shaped z FileSchema)) (is-record (codes "FILE_NAME") (string ∷ string ∷ strings ∷ strings ∷ string ∷ string ∷ string ∷ []) n second)
    ∙ ap (λ z. then_walk (walk rest) (shaped z Further)) (is-schema s text third)
    ∙ further-walk further ss all

pub file-walk : (t : Structure) (text : List ℕ) → IsFile t text → walk (statements t) Start ≡ Ok Ended
file-walk t text is =
    let h = is.header in
    let rest : List Statement = section section_end ∷ (flat_map section_statements t.sections ++ section finish ∷ []) in
    ap (λ z. walk (map header z ++ rest) Description) h.header_is
    ∙ header-walk h.file_description h.file_name h.file_schema h.further text rest h.is_file_description h.is_file_name h.is_file_schema h.are_further
    ∙ headed-walk t.sections is.headings_are

-- ---- and its statements are sound

further-sound : (parts : List Part) (ss : List Statement) → Each IsFurtherRecord parts → Each IsShallowPart parts → Each IsSound ss → Each IsSound (map header parts ++ ss)
further-sound [] ss all shallow rest = rest
further-sound (part ∷ parts) ss all shallow rest = ((shallow.0, all.0.no_names), further-sound parts ss all.1 shallow.1 rest)

pub instances-sound : (is : List (ℕ × Record)) (ss : List Statement) → Each IsInstance is → Each IsSound ss → Each IsSound (map instance_of is ++ ss)
instances-sound [] ss all rest = rest
instances-sound (i ∷ is) ss all rest = (all.0, instances-sound is ss all.1 rest)

sections-sound : (xs : List DataSection) (ss : List Statement) → Each IsInstance (instances_in xs) → Each IsSound ss → Each IsSound (flat_map section_statements xs ++ ss)
sections-sound [] ss all rest = rest
sections-sound (x ∷ xs) ss all rest =
    subst (Each IsSound) (sym (sections_with x xs ss))
    (tt, instances-sound x.instances _ (Each-front IsInstance x.instances (instances_in xs) all) (tt, sections-sound xs ss (Each-back IsInstance x.instances (instances_in xs) all) rest))

header-sound : (d n s : Part) (further : List Part) (text : List ℕ) (ss : List Statement) → IsFileDescription d → IsFileName n → IsFileSchema s text → Each IsFurtherRecord further
    → Each IsShallowPart (d ∷ n ∷ s ∷ further) → Each IsSound ss → Each IsSound (header d ∷ header n ∷ header s ∷ (map header further ++ ss))
header-sound d n s further text ss first second third all shallow rest = (
  (shallow.0, record-no_names (codes "FILE_DESCRIPTION") (strings ∷ string ∷ []) d first),
  (
    (shallow.1.0, record-no_names (codes "FILE_NAME") (string ∷ string ∷ strings ∷ strings ∷ string ∷ string ∷ string ∷ []) n second),
    (
      (shallow.1.1.0, schema-no_names s text third),
      further-sound further ss all shallow.1.1.1 rest,
    ),
  ),
)

pub file-sound : (t : Structure) (text : List ℕ) → IsFile t text → Each IsSound (statements t)
file-sound t text is =
    let h = is.header in
    let rest : List Statement = section section_end ∷ (flat_map section_statements t.sections ++ section finish ∷ []) in (
      tt,
      (
        tt,
        subst (λ z. Each IsSound (map header z ++ rest)) (sym h.header_is)
            (header-sound h.file_description h.file_name h.file_schema h.further text rest h.is_file_description h.is_file_name h.is_file_schema h.are_further
            (subst (Each IsShallowPart) h.header_is is.shallow_header) (tt, sections-sound t.sections (section finish ∷ []) is.data_records (tt, tt))),
      ),
    )

-- ---- what may stand behind a stage

abbrev AreFurther : List Part → Type 0
AreFurther parts = Each IsFurtherRecord parts

abbrev BeginWithSchema : List Part → Type 0
BeginWithSchema parts = (s : Part) × (more : List Part) × (text : List ℕ) × (parts ≡ s ∷ more) × IsFileSchema s text × AreFurther more

abbrev BeginWithName : List Part → Type 0
BeginWithName parts = (n : Part) × (more : List Part) × (parts ≡ n ∷ more) × IsFileName n × BeginWithSchema more

abbrev BeginWithDescription : List Part → Type 0
BeginWithDescription parts = (d : Part) × (more : List Part) × (parts ≡ d ∷ more) × IsFileDescription d × BeginWithName more

record IsHeadedTail (ss : List Statement) : Type 0 where
  sections : List DataSection
  headings_are : AreHeadings (headings sections)
  records : Each IsInstance (instances_in sections)
  is : ss ≡ flat_map section_statements sections ++ section finish ∷ []

record IsHeaderTail (Fit : List Part → Type 0) (ss : List Statement) : Type 0 where
  parts : List Part
  behind : List Statement
  fit : Fit parts
  shallow : Each IsShallowPart parts
  tail : IsHeadedTail behind
  is : ss ≡ map header parts ++ section section_end ∷ behind

record IsBehindTail (ss : List Statement) : Type 0 where
  sections : List DataSection
  named : Each IsNamed (headings sections)
  records : Each IsInstance (instances_in sections)
  is : ss ≡ flat_map section_statements sections ++ section finish ∷ []

record IsUnnamedTail (ss : List Statement) : Type 0 where
  instances : List (ℕ × Record)
  records : Each IsInstance instances
  is : ss ≡ map instance_of instances ++ section section_end ∷ section finish ∷ []

record IsNamedTail (ss : List Statement) : Type 0 where
  instances : List (ℕ × Record)
  behind : List Statement
  records : Each IsInstance instances
  tail : IsBehindTail behind
  is : ss ≡ map instance_of instances ++ section section_end ∷ behind

record IsBegunTail (ss : List Statement) : Type 0 where
  behind : List Statement
  tail : IsHeaderTail BeginWithDescription behind
  is : ss ≡ section header_start ∷ behind

record IsStartTail (ss : List Statement) : Type 0 where
  behind : List Statement
  tail : IsBegunTail behind
  is : ss ≡ section begin ∷ behind

abbrev IsTail : Stage → List Statement → Type 0
IsTail Start ss = IsStartTail ss
IsTail Begun ss = IsBegunTail ss
IsTail Description ss = IsHeaderTail BeginWithDescription ss
IsTail FileName ss = IsHeaderTail BeginWithName ss
IsTail FileSchema ss = IsHeaderTail BeginWithSchema ss
IsTail Further ss = IsHeaderTail AreFurther ss
IsTail Headed ss = IsHeadedTail ss
IsTail Unnamed ss = IsUnnamedTail ss
IsTail Named ss = IsNamedTail ss
IsTail BehindUnnamed ss = ss ≡ section finish ∷ []
IsTail BehindNamed ss = IsBehindTail ss
IsTail Ended ss = ss ≡ []

record HasHeadingShape (b : Bool) (p q : Stage) : Type 0 where
  test : b ≡ true
  leads : p ≡ q

shaped-ok : (b : Bool) (p q : Stage) → shaped b p ≡ Ok q → HasHeadingShape b p q
shaped-ok true p q e = record { test = refl; leads = ok-same p q e }
shaped-ok false p q e = absurd cc

header-back : {Fit Next : List Part → Type 0} → (part : Part) (ss : List Statement) → ((parts : List Part) → Next parts → Fit (part ∷ parts)) → IsShallowPart part → IsHeaderTail Next ss → IsHeaderTail Fit (header part ∷ ss)
header-back part ss fits shallow t = record {
  parts = part ∷ t.parts;
  behind = t.behind;
  fit = fits t.parts t.fit;
  shallow = (shallow, t.shallow);
  tail = t.tail;
  is = ap (λ z. header part ∷ z) t.is;
}

part-back : (p : Stage) (part : Part) (q : Stage) (ss : List Statement) → after_part p part ≡ Ok q → IsSound (header part) → IsTail q ss → IsTail p (header part ∷ ss)
part-back Description part q ss e sound t =
    let is = shaped-ok (is_file_description part) FileName q e in
    header-back part ss (λ parts next. (part, parts, refl, record-is (codes "FILE_DESCRIPTION") (strings ∷ string ∷ []) part is.test, next)) sound.0 (subst (λ z. IsTail z ss) (sym is.leads) t)
part-back FileName part q ss e sound t =
    let is = shaped-ok (is_file_name part) FileSchema q e in
    header-back part ss (λ parts next. (part, parts, refl, record-is (codes "FILE_NAME") (string ∷ string ∷ strings ∷ strings ∷ string ∷ string ∷ string ∷ []) part is.test, next)) sound.0 (subst (λ z. IsTail z ss) (sym is.leads) t)
part-back FileSchema part q ss e sound t =
    let is = shaped-ok (is_file_schema part) Further q e in
    let found = schema-is part is.test in
    header-back part ss (λ parts next. (part, parts, found.0, refl, found.1, next)) sound.0 (subst (λ z. IsTail z ss) (sym is.leads) t)
part-back Further part q ss e sound t =
    let is = shaped-ok (is_further part) Further q e in
    header-back part ss (λ parts next. (further-is part is.test sound.1, next)) sound.0 (subst (λ z. IsTail z ss) (sym is.leads) t)
part-back other part q ss e sound t = absurd cc

unnamed-back : (ss : List Statement) → IsUnnamedTail ss → IsHeadedTail (section (data_start unnamed) ∷ ss)
unnamed-back ss t = record {
  sections = record { heading = unnamed; instances = t.instances } ∷ [];
  headings_are = tt;
  records = subst (Each IsInstance) (sym (append-nil t.instances)) t.records;
  is = ap (λ z. section (data_start unnamed) ∷ z) t.is ∙ sym (sections_with (record { heading = unnamed; instances = t.instances }) [] (section finish ∷ []));
}

named-with : (heading : Heading) (ss : List Statement) (t : IsNamedTail ss)
    → section (data_start heading) ∷ ss ≡ flat_map section_statements (record { heading = heading; instances = t.instances } ∷ t.tail.sections) ++ section finish ∷ []
named-with heading ss t =
    ap (λ z. section (data_start heading) ∷ z) (t.is ∙ ap (λ z. map instance_of t.instances ++ section section_end ∷ z) t.tail.is)
    ∙ sym (sections_with (record { heading = heading; instances = t.instances }) t.tail.sections (section finish ∷ []))

first-back : (chars schema : List ℕ) (ss : List Statement) → IsNamedTail ss → IsHeadedTail (section (data_start (named chars schema)) ∷ ss)
first-back chars schema ss t = record {
  sections = record { heading = named chars schema; instances = t.instances } ∷ t.tail.sections;
  headings_are = t.tail.named;
  records = Each-append IsInstance t.instances (instances_in t.tail.sections) t.records t.tail.records;
  is = named-with (named chars schema) ss t;
}

named-back : (chars schema : List ℕ) (ss : List Statement) → IsNamedTail ss → IsBehindTail (section (data_start (named chars schema)) ∷ ss)
named-back chars schema ss t = record {
  sections = record { heading = named chars schema; instances = t.instances } ∷ t.tail.sections;
  named = (tt, t.tail.named);
  records = Each-append IsInstance t.instances (instances_in t.tail.sections) t.records t.tail.records;
  is = named-with (named chars schema) ss t;
}

line-back : (p : Stage) (l : SectionLine) (q : Stage) (ss : List Statement) → after_line p l ≡ Ok q → IsTail q ss → IsTail p (section l ∷ ss)
line-back Start begin q ss e t = record { behind = ss; tail = subst (λ z. IsTail z ss) (sym (ok-same Begun q e)) t; is = refl }
line-back Begun header_start q ss e t = record { behind = ss; tail = subst (λ z. IsTail z ss) (sym (ok-same Description q e)) t; is = refl }
line-back Further section_end q ss e t = record { parts = []; behind = ss; fit = tt; shallow = tt; tail = subst (λ z. IsTail z ss) (sym (ok-same Headed q e)) t; is = refl }
line-back Headed (data_start unnamed) q ss e t = unnamed-back ss (subst (λ z. IsTail z ss) (sym (ok-same Unnamed q e)) t)
line-back Headed (data_start (named chars schema)) q ss e t = first-back chars schema ss (subst (λ z. IsTail z ss) (sym (ok-same Named q e)) t)
line-back Unnamed section_end q ss e t = record { instances = []; records = tt; is = ap (λ z. section section_end ∷ z) (subst (λ z. IsTail z ss) (sym (ok-same BehindUnnamed q e)) t) }
line-back Named section_end q ss e t = record { instances = []; behind = ss; records = tt; tail = subst (λ z. IsTail z ss) (sym (ok-same BehindNamed q e)) t; is = refl }
line-back BehindNamed (data_start (named chars schema)) q ss e t = named-back chars schema ss (subst (λ z. IsTail z ss) (sym (ok-same Named q e)) t)
line-back BehindUnnamed finish q ss e t = ap (λ z. section finish ∷ z) (subst (λ z. IsTail z ss) (sym (ok-same Ended q e)) t)
line-back BehindNamed finish q ss e t = record { sections = []; named = tt; records = tt; is = ap (λ z. section finish ∷ z) (subst (λ z. IsTail z ss) (sym (ok-same Ended q e)) t) }
line-back Description section_end q ss e t = absurd cc
line-back FileName section_end q ss e t = absurd cc
line-back FileSchema section_end q ss e t = absurd cc
line-back Ended section_end q ss e t = absurd cc
line-back p l q ss e t = absurd cc

instance-back : (p : Stage) (n : ℕ) (r : Record) (q : Stage) (ss : List Statement) → after p (instance n r) ≡ Ok q → IsDataRecord r → IsTail q ss → IsTail p (instance n r ∷ ss)
instance-back Unnamed n r q ss e sound t =
    let u : IsUnnamedTail ss = subst (λ z. IsTail z ss) (sym (ok-same Unnamed q e)) t in
    record { instances = (n, r) ∷ u.instances; records = (sound, u.records); is = ap (λ z. instance n r ∷ z) u.is }
instance-back Named n r q ss e sound t =
    let u : IsNamedTail ss = subst (λ z. IsTail z ss) (sym (ok-same Named q e)) t in
    record { instances = (n, r) ∷ u.instances; behind = u.behind; records = (sound, u.records); tail = u.tail; is = ap (λ z. instance n r ∷ z) u.is }
instance-back other n r q ss e sound t = absurd cc

back : (p : Stage) (s : Statement) (q : Stage) (ss : List Statement) → after p s ≡ Ok q → IsSound s → IsTail q ss → IsTail p (s ∷ ss)
back p (section l) q ss e sound t = line-back p l q ss e t
back p (header part) q ss e sound t = part-back p part q ss e sound t
back p (instance n r) q ss e sound t = instance-back p n r q ss e sound t

back-all : (es : List Statement) (p q : Stage) (ss : List Statement) → walk es p ≡ Ok q → Each IsSound es → IsTail q ss → IsTail p (es ++ ss)
back-all [] p q ss w sound t = subst (λ z. IsTail z ss) (sym (ok-same p q w)) t
back-all (e ∷ es) p q ss w sound t = by (λ next v. back-all es next q ss v sound.1 t) (after p e) refl w where
  by : ((next : Stage) → walk es next ≡ Ok q → IsTail next (es ++ ss)) → (r : Result Stage GrammarFault) → after p e ≡ r → then_walk (walk es) r ≡ Ok q → IsTail p (e ∷ (es ++ ss))
  by again (Ok next) is v = back p e next (es ++ ss) is sound.0 (again next v)
  by again (Err why) is v = absurd cc

-- ---- something may stand behind each stage

abbrev plain_schema : Part
plain_schema = record { key = key_of (codes "FILE_SCHEMA"); params = only_schema [] }

abbrev plain_name : Part
plain_name = record { key = key_of (codes "FILE_NAME"); params = param dollar (param dollar (param dollar (param dollar (param dollar (param dollar (param dollar no_params)))))) }

abbrev plain_description : Part
plain_description = record { key = key_of (codes "FILE_DESCRIPTION"); params = param dollar (param dollar no_params) }

plain-headed : (ss : List Statement) × IsHeadedTail ss
plain-headed = (section (data_start unnamed) ∷ section section_end ∷ section finish ∷ [], unnamed-back (section section_end ∷ section finish ∷ []) (record { instances = []; records = tt; is = refl }))

plain-further : (ss : List Statement) × IsHeaderTail AreFurther ss
plain-further = (section section_end ∷ plain-headed.0, record { parts = []; behind = plain-headed.0; fit = tt; shallow = tt; tail = plain-headed.1; is = refl })

plain-schema : (ss : List Statement) × IsHeaderTail BeginWithSchema ss
plain-schema = (header plain_schema ∷ plain-further.0, header-back plain_schema plain-further.0 (λ parts next. (plain_schema, parts, [], refl, (refl, refl), next)) (omega arith) plain-further.1)

plain-name : (ss : List Statement) × IsHeaderTail BeginWithName ss
plain-name = (
  header plain_name ∷ plain-schema.0,
  header-back plain_name plain-schema.0 (λ parts next. (
    plain_name,
    parts,
    refl,
    (refl, (inl refl, (inl refl, (inl refl, (inl refl, (inl refl, (inl refl, (inl refl, tt)))))))),
    next,
  )) (omega arith) plain-schema.1,
)

plain-description : (ss : List Statement) × IsHeaderTail BeginWithDescription ss
plain-description = (header plain_description ∷ plain-name.0, header-back plain_description plain-name.0 (λ parts next. (plain_description, parts, refl, (refl, (inl refl, (inl refl, tt))), next)) (omega arith) plain-name.1)

plain-begun : (ss : List Statement) × IsBegunTail ss
plain-begun = (section header_start ∷ plain-description.0, record { behind = plain-description.0; tail = plain-description.1; is = refl })

some-tail : (p : Stage) → (ss : List Statement) × IsTail p ss
some-tail Start = (section begin ∷ plain-begun.0, record { behind = plain-begun.0; tail = plain-begun.1; is = refl })
some-tail Begun = plain-begun
some-tail Description = plain-description
some-tail FileName = plain-name
some-tail FileSchema = plain-schema
some-tail Further = plain-further
some-tail Headed = plain-headed
some-tail Unnamed = (section section_end ∷ section finish ∷ [], record { instances = []; records = tt; is = refl })
some-tail Named = (section section_end ∷ section finish ∷ [], record { instances = []; behind = section finish ∷ []; records = tt; tail = record { sections = []; named = tt; records = tt; is = refl }; is = refl })
some-tail BehindUnnamed = (section finish ∷ [], refl)
some-tail BehindNamed = (section finish ∷ [], record { sections = []; named = tt; records = tt; is = refl })
some-tail Ended = ([], refl)

-- ---- a file

-- a tree of a file with these statements
pub record HasFile (ss : List Statement) : Type 0 where
  pub structure : Structure
  pub text : List ℕ
  pub is_file : IsFile structure text
  pub statements_are : statements structure ≡ ss

file-of : (ss : List Statement) → IsStartTail ss → HasFile ss
file-of ss t =
    let h = t.tail.tail in
    let d = h.fit in
    let n = d.4 in
    let s = n.4 in
    record {
      structure = record { header = h.parts; sections = h.tail.sections };
      text = s.2;
      is_file = record {
        header = record {
          file_description = d.0;
          file_name = n.0;
          file_schema = s.0;
          further = s.1;
          header_is = d.2 ∙ ap (λ z. d.0 ∷ z) (n.2 ∙ ap (λ z. n.0 ∷ z) s.3);
          is_file_description = d.3;
          is_file_name = n.3;
          is_file_schema = s.4;
          are_further = s.5;
        };
        shallow_header = h.shallow;
        headings_are = h.tail.headings_are;
        data_records = h.tail.records;
      };
      statements_are = sym (t.is ∙ ap (λ z. section begin ∷ z) (t.tail.is ∙ ap (λ z. section header_start ∷ z) (h.is ∙ ap (λ z. map header h.parts ++ section section_end ∷ z) h.tail.is)));
    }

-- statements that lead somewhere, with some behind them, are those of a file
pub led-file : (es : List Statement) (p : Stage) → walk es Start ≡ Ok p → Each IsSound es → (later : List Statement) × HasFile (es ++ later)
led-file es p w sound = let t = some-tail p in (t.0, file-of (es ++ t.0) (back-all es Start p t.0 w sound t.1))

-- those that lead to the end are all of a file
pub ended-file : (es : List Statement) → walk es Start ≡ Ok Ended → Each IsSound es → HasFile es
ended-file es w sound = subst HasFile (append-nil es) (file-of (es ++ []) (back-all es Start Ended [] w sound refl))
