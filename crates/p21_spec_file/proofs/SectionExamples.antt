-- Data sections with names, and neighbours that are none; their order; what is held behind one.
use Rattle.std.proofs.Common.{◌≡◌, ℕ, true, List, [], ◌∷◌, refl, ap, sym, subst, inl, inr, get_or, arith}
use Rattle.std.specs.Prelude.{codes, Contains, map, nat_eq}
use Rattle.std.specs.List.{IsDistinct}
use Rattle.std.specs.List.Sorted.{IsStrictlySortedBy}
use Rattle.std.specs.Str.{bytes_eq}
use Rattle.p21_spec_file.specs.Canonical.{AreSectionsRising}
use Rattle.p21_spec_exchange.specs.DataSection.{Heading, unnamed, named, AreHeadings, section_names, instances_in}
use Rattle.p21_spec_file.specs.File.{FileMeaning, HeadingNamesSchema}
use Rattle.p21_spec_exchange.specs.Parameter as parameter
use Rattle.p21_spec_exchange.specs.Parameter.{Params, no_params, param, key_of}
use Rattle.p21_spec_exchange.specs.Record.{Part, Record, part_tokens}
use Rattle.p21_spec_file.specs.SameFile.{SameFileMeaning}
use Rattle.p21_spec_exchange.specs.Statement.{section, header, begin, header_start, section_end, data_start, section_tokens}
use Rattle.p21_spec_exchange.specs.Structure.{Structure, AreFirstStatements}
use Rattle.p21_spec_exchange.specs.Token.{Token}
use Rattle.p21_spec_basics.proofs.Members.{Contains-cases, Contains-first, Contains-none}
use Rattle.p21_spec_schema.proofs.SchemaNames.{one_schema_name, other_name}
use Rattle.p21_spec_exchange.proofs.SectionOrder.{first-in_order}

abbrev data_of : Params → List Token
data_of ps = part_tokens (record { key = key_of (codes "DATA"); params = ps })

abbrev a_text : List ℕ → parameter.Param
a_text chars = parameter.text chars

-- a heading with a name has the tokens of `DATA('a',('DEMO'))`
named_tokens : section_tokens (data_start (named (codes "a") (codes "DEMO"))) ≡ data_of (param (a_text (codes "a")) (param (parameter.list (param (a_text (codes "DEMO")) no_params)) no_params))
named_tokens = refl

-- no heading has those of `DATA('a')`, `DATA($,('DEMO'))`, `DATA('a',('DEMO','DEMO'))`, `DATA('a',$)`, `DATA('a',())` or `DATA('a',(!A('DEMO')))`
name_alone : (h : Heading) → section_tokens (data_start h) ≡ data_of (param (a_text (codes "a")) no_params) → ⊥
name_alone unnamed same = cc
name_alone (named name schema) same = cc

no_name : (h : Heading) → section_tokens (data_start h) ≡ data_of (param parameter.dollar (param (parameter.list (param (a_text (codes "DEMO")) no_params)) no_params)) → ⊥
no_name unnamed same = cc
no_name (named name schema) same = cc

two_schemas : (h : Heading) → section_tokens (data_start h) ≡ data_of (param (a_text (codes "a")) (param (parameter.list (param (a_text (codes "DEMO")) (param (a_text (codes "DEMO")) no_params))) no_params)) → ⊥
two_schemas unnamed same = cc
two_schemas (named name schema) same = cc

unset_schemas : (h : Heading) → section_tokens (data_start h) ≡ data_of (param (a_text (codes "a")) (param parameter.dollar no_params)) → ⊥
unset_schemas unnamed same = cc
unset_schemas (named name schema) same = cc

no_schema : (h : Heading) → section_tokens (data_start h) ≡ data_of (param (a_text (codes "a")) (param (parameter.list no_params) no_params)) → ⊥
no_schema unnamed same = cc
no_schema (named name schema) same = cc

user_within : (h : Heading)
    → section_tokens (data_start h)
    ≡ data_of (param (a_text (codes "a")) (param (parameter.list (param (parameter.typed (record { user = true; word = codes "A" }) (a_text (codes "DEMO"))) no_params)) no_params))
    → ⊥
user_within unnamed same = cc
user_within (named name schema) same = cc

-- the headings of a file: one without a name; several with names, the empty one among them
abbrev a_section : Heading
a_section = named (codes "a") (codes "demo")

abbrev b_section : Heading
b_section = named (codes "b") (codes "DEMO")

one_unnamed : AreHeadings (unnamed ∷ [])
one_unnamed = tt

two_named : AreHeadings (b_section ∷ a_section ∷ [])
two_named = (tt, tt)

empty_name : AreHeadings (named [] (codes "DEMO") ∷ [])
empty_name = tt

no_sections : AreHeadings [] → ⊥
no_sections are = are

-- two sections have no name in common, whatever their schema texts; `'\X\61'` is the name `a` too
names_differ : IsDistinct bytes_eq (section_names (b_section ∷ a_section ∷ []))
unfolding IsDistinct
names_differ = ((refl, tt), (tt, tt))

name_twice : (text other : List ℕ) → IsDistinct bytes_eq (section_names (named (codes "a") text ∷ named (0x61 ∷ []) other ∷ [])) → ⊥
unfolding IsDistinct
name_twice text other differ = let apart = differ.0.0 in cc

-- an instance name stands in one section
in_both : (a b : Heading) (r q : Record) → IsDistinct nat_eq (map (λ i. i.0) (instances_in (record { heading = a; instances = (1, r) ∷ [] } ∷ record { heading = b; instances = (1, q) ∷ [] } ∷ []))) → ⊥
unfolding IsDistinct
in_both a b r q differ = let apart = differ.0.0 in cc

-- the schema text of a section names another schema
other_schema : (name : List ℕ) → HeadingNamesSchema (codes "DEMO") (named name (codes "OTHER")) → ⊥
other_schema name names = let same : codes "OTHER" ≡ codes "DEMO" = one_schema_name (codes "OTHER") (codes "OTHER") (codes "DEMO") other_name names in cc

-- sections rise by the spellings of their names, apostrophes and all: `'a'` and `'b'`; `'a!'` and `'a'`; `'a'` and `'a''b'`
a_and_b : AreSectionsRising (a_section ∷ b_section ∷ [])
unfolding IsStrictlySortedBy
a_and_b = ((refl, tt), (tt, tt))

mark_first : (text : List ℕ) → AreSectionsRising (named (codes "a!") text ∷ named (codes "a") text ∷ [])
unfolding IsStrictlySortedBy
mark_first text = ((refl, tt), (tt, tt))

beginning_first : (text : List ℕ) → AreSectionsRising (named (codes "a") text ∷ named (codes "a'b") text ∷ [])
unfolding IsStrictlySortedBy
beginning_first text = ((refl, tt), (tt, tt))

b_and_a : AreSectionsRising (b_section ∷ a_section ∷ []) → ⊥
unfolding IsStrictlySortedBy
b_and_a rising = let less = rising.0.0 in cc

mark_last : (text : List ℕ) → AreSectionsRising (named (codes "a") text ∷ named (codes "a!") text ∷ []) → ⊥
unfolding IsStrictlySortedBy
mark_last text rising = let less = rising.0.0 in cc

-- files whose only sections differ are different
only_sections-differ : (x y : Heading) → (y ≡ x → ⊥) → (m n : FileMeaning) → m.sections ≡ x ∷ [] → n.sections ≡ y ∷ [] → SameFileMeaning m n → ⊥
only_sections-differ x y differ m n first second same =
    let onto : Contains (x ∷ []) x → Contains (y ∷ []) x = moved m.sections n.sections (x ∷ []) (y ∷ []) first second (same.sections x).0 in
    elim (Contains-cases y [] x (onto (Contains-first x []))) [ inl h ↦ differ h | inr h ↦ Contains-none x h ]
  where
    moved : (xs ys us vs : List Heading) → xs ≡ us → ys ≡ vs → (Contains xs x → Contains ys x) → Contains us x → Contains vs x
    moved xs ys us vs e f onto among = subst (λ (zs : List Heading). Contains zs x) f (onto (subst (λ (zs : List Heading). Contains zs x) (sym e) among))

-- one without a name and one with the empty name
empty_name-differs : (m n : FileMeaning) → m.sections ≡ unnamed ∷ [] → n.sections ≡ named [] (codes "DEMO") ∷ [] → SameFileMeaning m n → ⊥
empty_name-differs = only_sections-differ unnamed (named [] (codes "DEMO")) (λ h. cc)

-- and two whose schema texts differ in case
schema_text-differs : (m n : FileMeaning) → m.sections ≡ named (codes "a") (codes "DEMO") ∷ [] → n.sections ≡ named (codes "a") (codes "demo") ∷ [] → SameFileMeaning m n → ⊥
schema_text-differs = only_sections-differ (named (codes "a") (codes "DEMO")) (named (codes "a") (codes "demo")) (λ h. let first : 100 ≡ 68 = ap first_letter h in omega (arith, first))
  where
    first_letter : Heading → ℕ
    first_letter unnamed = 0
    first_letter (named name text) = get_or text 0 0

-- behind the header no header record stands in a tree: so `DATA('a',('DEMO'));` there is a section line, and is not kept
as_record : (t : Structure) (part : Part) → AreFirstStatements (section begin ∷ section header_start ∷ section section_end ∷ header part ∷ []) t → ⊥
as_record t part first = first-in_order (section begin ∷ section header_start ∷ section section_end ∷ header part ∷ []) t first
