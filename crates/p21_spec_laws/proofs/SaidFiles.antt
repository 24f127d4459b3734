-- The tokens of a file's statements have spellings: those of its header records, and those of the instances of each section.
use Rattle.std.specs.Prelude.{ℕ, List, [], ◌∷◌, ◌++◌, map}
use Rattle.std.specs.List.{flat_map, AllByRecursion as Each}
use Rattle.p21_spec_exchange.specs.DataSection.{DataSection, instances_in}
use Rattle.p21_spec_exchange.specs.Record.{Part, Record, part_tokens, record_tokens}
use Rattle.p21_spec_exchange.specs.Statement.{Statement, section, header, instance, section_end, finish, statement_tokens}
use Rattle.p21_spec_exchange.specs.Structure.{Structure, section_statements, statements, tokens_of}
use Rattle.p21_spec_exchange.specs.Token as token
use Rattle.p21_spec_basics.proofs.Members.{Each-front, Each-back, Each-apart, Each-joined, Each-unmapped, Each-weaker}
use Rattle.p21_spec_laws.specs.Written.{IsWrittenStatement}
use Rattle.p21_spec_exchange.specs.Token.{IsSpelled}

abbrev pub Instance : Type 0
Instance = ℕ × Record

abbrev pub instance_of : Instance → Statement
instance_of i = instance i.0 i.1

-- from the end of the header
abbrev pub behind_header : Structure → List Statement
behind_header t = section section_end ∷ (flat_map section_statements t.sections ++ (section finish ∷ []))

pub said : (t : Structure) → Each IsSpelled (tokens_of t) → Each IsWrittenStatement (statements t)
said t each = Each-apart IsSpelled statement_tokens (statements t) each

pub header-lines_said : (t : Structure) → Each IsWrittenStatement (statements t) → Each IsWrittenStatement (map header t.header)
header-lines_said t each = Each-front IsWrittenStatement (map header t.header) (behind_header t) each.1.1

pub behind-said : (t : Structure) → Each IsWrittenStatement (statements t) → Each IsWrittenStatement (behind_header t)
behind-said t each = Each-back IsWrittenStatement (map header t.header) (behind_header t) each.1.1

pub sections-said : (t : Structure) → Each IsWrittenStatement (statements t) → Each (λ (x : DataSection). Each IsWrittenStatement (section_statements x)) t.sections
sections-said t each = Each-apart IsWrittenStatement section_statements t.sections (Each-front IsWrittenStatement (flat_map section_statements t.sections) (section finish ∷ []) (behind-said t each).1)

-- the instances of a section
pub section-said : (x : DataSection) → Each IsWrittenStatement (section_statements x) → Each (λ (i : Instance). IsWrittenStatement (instance i.0 i.1)) x.instances
section-said x each = Each-unmapped IsWrittenStatement instance_of x.instances (Each-front IsWrittenStatement (map instance_of x.instances) (section section_end ∷ []) each.1)

pub header-said : (t : Structure) → Each IsSpelled (tokens_of t) → Each (λ (part : Part). Each IsSpelled (part_tokens part)) t.header
header-said t each =
    Each-weaker (λ (part : Part). IsWrittenStatement (header part)) (λ (part : Part). Each IsSpelled (part_tokens part)) (λ part all. Each-front IsSpelled (part_tokens part) (token.semicolon ∷ []) all) t.header
    (Each-unmapped IsWrittenStatement header t.header (header-lines_said t (said t each)))

pub instances-said : (t : Structure) → Each IsSpelled (tokens_of t) → Each (λ (i : Instance). Each IsSpelled (record_tokens i.1)) (instances_in t.sections)
instances-said t each =
    Each-joined (λ (i : Instance). Each IsSpelled (record_tokens i.1)) (λ (x : DataSection). x.instances) t.sections
    (Each-weaker (λ (x : DataSection). Each IsWrittenStatement (section_statements x)) (λ (x : DataSection). Each (λ (i : Instance). Each IsSpelled (record_tokens i.1)) x.instances)
    (λ x all. Each-weaker (λ (i : Instance). IsWrittenStatement (instance i.0 i.1)) (λ (i : Instance). Each IsSpelled (record_tokens i.1)) (λ i own. Each-front IsSpelled (record_tokens i.1) (token.semicolon ∷ []) own.1.1) x.instances (section-said x all))
    t.sections (sections-said t (said t each)))
