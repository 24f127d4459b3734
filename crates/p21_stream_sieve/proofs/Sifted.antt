-- Statements of which some instances are refused: those that pass stand in a tree too.
use Rattle.std.proofs.Common.{◌≡◌, ◌≤◌, ◌+◌, ◌⊎◌, ℕ, List, [], ◌∷◌, ◌++◌, length, map, inl, inr, refl, sym, ap, subst, ◌∙◌, append_assoc, length-append, arith}
use Rattle.std.proofs.lemmas.Grind.{flat_map-append}
use Rattle.std.proofs.lemmas.List.Elements.{Contains-append_cases, Contains-append_left, Contains-append_right}
use Rattle.std.specs.List.{flat_map, AllByRecursion as Each}
use Rattle.std.specs.Prelude.{Contains}
use Rattle.p21_spec_basics.proofs.Members.{Contains-cases, Contains-first, Contains-mapped, Contains-none, Contains-unmapped, Each-append}
use Rattle.p21_spec_basics.specs.Limits.{Limits}
use Rattle.p21_spec_laws.proofs.Dead.{name-again, no-meaning}
use Rattle.p21_spec_laws.proofs.SaidFiles.{Instance, instance_of}
use Rattle.p21_spec_laws.proofs.Statements.{instances-append}
use Rattle.p21_spec_laws.specs.Taken.{AreStatementsTaken, instances_among, names_among}
use Rattle.p21_spec_laws.proofs.Offenders.{last-among}
use Rattle.p21_spec_exchange.specs.DataSection.{DataSection}
use Rattle.p21_spec_exchange.specs.Record.{Part, Record}
use Rattle.p21_spec_exchange.specs.Statement.{Statement, begin, data_start, finish, header, header_start, instance, section, section_end, statement_tokens}
use Rattle.p21_spec_exchange.specs.Structure.{AreFirstStatements, Structure, section_statements, statements}
use Rattle.p21_spec_file.specs.Accepted.{IsDead}
use Rattle.p21_spec_schema.specs.Schema.{Schema}
use Rattle.p21_stream_statements.specs.declared.fault.Fault.{Fault}
use Rattle.p21_stream_statements.specs.declared.refusal.Refusal.{Refusal}
use Rattle.p21_stream_sieve.proofs.RefusedNames.{same-instance}
use Rattle.p21_stream_sieve.specs.Sifting.{AreSifted, HasRefusal, IsOfInstance, RefusesInstance, at_instance, broken, name_again, none, passes, refuses}

-- ---- an instance that is left out

-- the data sections and the end of a file
abbrev sections_to_end : List DataSection → List Statement
sections_to_end xs = flat_map section_statements xs ++ section finish ∷ []

-- what stands behind the instances of a section, or behind the header records
abbrev behind : List DataSection → List Statement
behind xs = section section_end ∷ sections_to_end xs

section-apart : (x : DataSection) (xs : List DataSection)
    → sections_to_end (x ∷ xs) ≡ section (data_start x.heading) ∷ (map instance_of x.instances ++ behind xs)
section-apart x xs =
    ap (λ (sts : List Statement). section (data_start x.heading) ∷ sts)
    (append_assoc (map instance_of x.instances ++ (section section_end ∷ [])) (flat_map section_statements xs) (section finish ∷ [])
    ∙ append_assoc (map instance_of x.instances) (section section_end ∷ []) (flat_map section_statements xs ++ (section finish ∷ [])))

-- a list that goes on in the same way
both : (a b : Statement) (xs ys : List Statement) → a ≡ b → xs ≡ ys → a ∷ xs ≡ b ∷ ys
both a b xs ys first rest = ap (λ (x : Statement). x ∷ xs) first ∙ ap (λ (l : List Statement). b ∷ l) rest

head-is : (a b : Statement) (xs ys : List Statement) → a ∷ xs ≡ b ∷ ys → a ≡ b
head-is a b xs ys same = cc

tail-is : (a b : Statement) (xs ys : List Statement) → a ∷ xs ≡ b ∷ ys → xs ≡ ys
tail-is a b xs ys same = cc

module _ (n : ℕ) (r : Record) (later : List Statement) where
  -- data sections without the instance
  abbrev LeftOut : List DataSection → List Statement → Type 0
  LeftOut xs front = (ys : List DataSection) × (sections_to_end ys ≡ front ++ later)

  abbrev Stands : List Statement → List Statement → Type 0
  Stands sts front = sts ≡ front ++ instance n r ∷ later

  out-of_instances : (xs : List DataSection) → ((front : List Statement) → Stands (sections_to_end xs) front → LeftOut xs front)
      → (is : List Instance) (front : List Statement) → Stands (map instance_of is ++ behind xs) front
      → (js : List Instance) × (ys : List DataSection) × (map instance_of js ++ behind ys ≡ front ++ later)
  out-of_instances xs deeper [] [] same = cc
  out-of_instances xs deeper [] (st ∷ front) same =
      let (ys, are) = deeper front (tail-is (section section_end) st (sections_to_end xs) (front ++ instance n r ∷ later) same) in (
        [],
        ys,
        both (section section_end) st (sections_to_end ys) (front ++ later)
            (head-is (section section_end) st (sections_to_end xs) (front ++ instance n r ∷ later) same) are,
      )
  out-of_instances xs deeper (i ∷ is) [] same = (
    is,
    xs,
    tail-is (instance_of i) (instance n r) (map instance_of is ++ behind xs) later
        same,
  )
  out-of_instances xs deeper (i ∷ is) (st ∷ front) same =
      let (js, ys, are) = out-of_instances xs deeper is front
      (tail-is (instance_of i) st (map instance_of is ++ behind xs) (front ++ instance n r ∷ later) same) in (
        i ∷ js,
        ys,
        both (instance_of i) st (map instance_of js ++ behind ys) (front ++ later)
            (head-is (instance_of i) st (map instance_of is ++ behind xs) (front ++ instance n r ∷ later) same) are,
      )

  out-of_sections : (xs : List DataSection) (front : List Statement) → Stands (sections_to_end xs) front → LeftOut xs front
  out-of_sections [] [] same = cc
  out-of_sections [] (st ∷ []) same = cc
  out-of_sections [] (st ∷ other ∷ front) same = cc
  out-of_sections (x ∷ xs) [] same = let apart : section (data_start x.heading) ∷ (map instance_of x.instances ++ behind xs) ≡ instance n
      r ∷ later = sym (section-apart x xs) ∙ same in cc
  out-of_sections (x ∷ xs) (st ∷ front) same =
      let first = section (data_start x.heading) in
      let apart : first ∷ (map instance_of x.instances ++ behind xs) ≡ st ∷ (front ++ instance n r ∷ later) = sym (section-apart x xs)
      ∙ same in
      let (js, ys, are) = out-of_instances xs (out-of_sections xs) x.instances front
      (tail-is first st (map instance_of x.instances ++ behind xs) (front ++ instance n r ∷ later) apart) in
      let y : DataSection = record { heading = x.heading; instances = js } in (
        y ∷ ys,
        section-apart y ys ∙ both first st (map instance_of js ++ behind ys) (front ++ later)
            (head-is first st (map instance_of x.instances ++ behind xs) (front ++ instance n r ∷ later) apart) are,
      )

  out-of_headers : (parts : List Part) (xs : List DataSection) (front : List Statement) → Stands (map header parts ++ behind xs) front
      → (ys : List DataSection) × (map header parts ++ behind ys ≡ front ++ later)
  out-of_headers [] xs [] same = cc
  out-of_headers [] xs (st ∷ front) same =
      let (ys, are) = out-of_sections xs front (tail-is (section section_end) st (sections_to_end xs) (front ++ instance n r ∷ later)
      same) in (
        ys,
        both (section section_end) st (sections_to_end ys) (front ++ later)
            (head-is (section section_end) st (sections_to_end xs) (front ++ instance n r ∷ later) same) are,
      )
  out-of_headers (part ∷ parts) xs [] same = let clash : header part ≡ instance n r =
      head-is (header part) (instance n r) (map header parts ++ behind xs) later same in cc
  out-of_headers (part ∷ parts) xs (st ∷ front) same =
      let (ys, are) = out-of_headers parts xs front (tail-is (header part) st (map header parts ++ behind xs)
      (front ++ instance n r ∷ later) same) in (
        ys,
        both (header part) st (map header parts ++ behind ys) (front ++ later)
            (head-is (header part) st (map header parts ++ behind xs) (front ++ instance n r ∷ later) same) are,
      )

  out-of_tree : (t : Structure) (front : List Statement) → Stands (statements t) front → (u : Structure) × (statements u ≡ front ++ later)
  out-of_tree t [] same = cc
  out-of_tree t (a ∷ []) same = cc
  out-of_tree t (a ∷ b ∷ front) same =
      let rest = map header t.header ++ behind t.sections in
      let one : section header_start ∷ rest ≡ b ∷ (front ++ instance n r ∷ later) =
      tail-is (section begin) a (section header_start ∷ rest) (b ∷ (front ++ instance n r ∷ later)) same in
      let (ys, are) = out-of_headers t.header t.sections front
      (tail-is (section header_start) b rest (front ++ instance n r ∷ later) one) in
      let others = map header t.header ++ behind ys in (
        record { header = t.header; sections = ys },
        both (section begin) a (section header_start ∷ others) (b ∷ (front ++ later))
            (head-is (section begin) a (section header_start ∷ rest) (b ∷ (front ++ instance n r ∷ later)) same)
            (both (section header_start) b others (front ++ later)
            (head-is (section header_start) b rest (front ++ instance n r ∷ later) one) are),
      )

-- the first statements of a tree without an instance are those of another one
without-instance : (n : ℕ) (r : Record) (front more : List Statement) (t : Structure) → AreFirstStatements (front ++ instance n r ∷ more) t
    → (u : Structure) × AreFirstStatements (front ++ more) u
without-instance n r front more t (later, are) =
    let (u, others) = out-of_tree n r (more ++ later) t front (are ∙ append_assoc front (instance n r ∷ more) later) in
    (u, (later, others ∙ sym (append_assoc front more later)))

-- ---- those that pass

one-behind : (given more : List Statement) (st : Statement) → (given ++ st ∷ []) ++ more ≡ given ++ st ∷ more
one-behind given more st = append_assoc given (st ∷ []) more

-- they are the first of a tree, with whatever comes behind them
pub passed-first : (s : Schema) (given passed : List Statement) (refusals : List Refusal) → AreSifted s given passed refusals
    → (more : List Statement) (t : Structure) → AreFirstStatements (given ++ more) t
    → (u : Structure) × AreFirstStatements (passed ++ more) u
passed-first s given passed refusals none more t first = (t, first)
passed-first s given passed refusals (passes g p rs st sifted) more t first =
    let (u, is) = passed-first s g p rs sifted (st ∷ more) t
    (subst (λ (l : List Statement). AreFirstStatements l t) (one-behind g more st) first) in
    (u, subst (λ (l : List Statement). AreFirstStatements l u) (sym (one-behind p more st)) is)
passed-first s given passed refusals (refuses g p rs n r fault sifted refused) more t first =
    let (v, are) = without-instance n r g more t (subst (λ (l : List Statement). AreFirstStatements l t) (one-behind g more (instance n r))
    first) in
    passed-first s g p rs sifted more v are

tokens-more : (sts : List Statement) (st : Statement)
    → length (flat_map statement_tokens (sts ++ st ∷ [])) ≡ length (flat_map statement_tokens sts) + length (statement_tokens st)
tokens-more sts st =
    let split : length (flat_map statement_tokens (sts ++ st ∷ [])) ≡ length
    (flat_map statement_tokens sts ++ (statement_tokens st ++ [])) = ap length (flat_map-append statement_tokens sts (st ∷ [])) in
    let sum = length-append (flat_map statement_tokens sts) (statement_tokens st ++ []) in
    let own = length-append (statement_tokens st) [] in
    omega (arith, split, sum, own)

-- they have no more tokens
pub passed-few : (s : Schema) (given passed : List Statement) (refusals : List Refusal) → AreSifted s given passed refusals
    → length (flat_map statement_tokens passed) ≤ length (flat_map statement_tokens given)
passed-few s given passed refusals none = omega arith
passed-few s given passed refusals (passes g p rs st sifted) =
    let few = passed-few s g p rs sifted in
    let one = tokens-more g st in
    let two = tokens-more p st in
    omega (arith, few, one, two)
passed-few s given passed refusals (refuses g p rs n r fault sifted refused) =
    let few = passed-few s g p rs sifted in
    let one = tokens-more g (instance n r) in
    omega (arith, few, one)

some-refusals : (rs : List Refusal) (r : Refusal) → rs ++ r ∷ [] ≡ [] → ⊥
some-refusals [] r is = cc
some-refusals (x ∷ xs) r is = cc

-- where none is refused, all pass
pub all-passed : (s : Schema) (given passed : List Statement) (refusals : List Refusal) → AreSifted s given passed refusals → refusals ≡ []
    → passed ≡ given
all-passed s given passed refusals none is = refl
all-passed s given passed refusals (passes g p rs st sifted) is = ap (λ (l : List Statement). l ++ st ∷ []) (all-passed s g p rs sifted is)
all-passed s given passed refusals (refuses g p rs n r fault sifted refused) is = absurd (some-refusals rs (at_instance fault n) is)

-- ---- the instances

instances-more : (sts : List Statement) (st : Statement) (i : Instance) → Contains (instances_among (sts ++ st ∷ [])) i
    → Contains (instances_among sts) i ⊎ Contains (instances_among (st ∷ [])) i
instances-more sts st i among = Contains-append_cases (instances_among sts) (instances_among (st ∷ [])) i
    (subst (λ (is : List Instance). Contains is i) (instances-append sts (st ∷ [])) among)

instances-before : (sts : List Statement) (st : Statement) (i : Instance) → Contains (instances_among sts) i
    → Contains (instances_among (sts ++ st ∷ [])) i
instances-before sts st i among = subst (λ (is : List Instance). Contains is i) (sym (instances-append sts (st ∷ [])))
    (Contains-append_left (instances_among sts) (instances_among (st ∷ [])) i among)

instances-last : (sts : List Statement) (st : Statement) (i : Instance) → Contains (instances_among (st ∷ [])) i
    → Contains (instances_among (sts ++ st ∷ [])) i
instances-last sts st i among = subst (λ (is : List Instance). Contains is i) (sym (instances-append sts (st ∷ [])))
    (Contains-append_right (instances_among sts) (instances_among (st ∷ [])) i among)

-- what passes was given
pub passed-given : (s : Schema) (given passed : List Statement) (refusals : List Refusal) → AreSifted s given passed refusals
    → (i : Instance) → Contains (instances_among passed) i → Contains (instances_among given) i
passed-given s given passed refusals none i among = among
passed-given s given passed refusals (passes g p rs st sifted) i among = elim (instances-more p st i among) [
  | inl before ↦ instances-before g st i (passed-given s g p rs sifted i before)
  | inr last ↦ instances-last g st i last
]
passed-given s given passed refusals (refuses g p rs n r fault sifted refused) i among =
    instances-before g (instance n r) i (passed-given s g p rs sifted i among)

name-of : (sts : List Statement) (i : Instance) → Contains (instances_among sts) i → Contains (names_among sts) i.0
name-of sts i among = Contains-mapped (λ (j : Instance). j.0) (instances_among sts) i among

names-before : (sts : List Statement) (st : Statement) (n : ℕ) → Contains (names_among sts) n → Contains (names_among (sts ++ st ∷ [])) n
names-before sts st n among =
    let (i, at, is) = Contains-unmapped (λ (j : Instance). j.0) (instances_among sts) n among in
    subst (λ (m : ℕ). Contains (names_among (sts ++ st ∷ [])) m) is (name-of (sts ++ st ∷ []) i (instances-before sts st i at))

pub passed-named : (s : Schema) (given passed : List Statement) (refusals : List Refusal) → AreSifted s given passed refusals → (n : ℕ)
    → Contains (names_among passed) n → Contains (names_among given) n
passed-named s given passed refusals sifted n among =
    let (i, at, is) = Contains-unmapped (λ (j : Instance). j.0) (instances_among passed) n among in
    subst (λ (m : ℕ). Contains (names_among given) m) is (name-of given i (passed-given s given passed refusals sifted i at))

refusals-more : (rs : List Refusal) (fault : Fault) (n m : ℕ) → HasRefusal (rs ++ at_instance fault n ∷ []) m → HasRefusal rs m ⊎ (n ≡ m)
refusals-more rs fault n m (other, among) = elim (Contains-append_cases rs (at_instance fault n ∷ []) (at_instance other m) among) [
  | inl before ↦ inl (other, before)
  | inr last ↦ elim (Contains-cases (at_instance fault n) [] (at_instance other m) last) [
    | inl same ↦ inr (same-instance fault other n m same)
    | inr nothing ↦ absurd (Contains-none (at_instance other m) nothing)
  ]
]

refusals-before : (rs : List Refusal) (fault : Fault) (n m : ℕ) → HasRefusal rs m → HasRefusal (rs ++ at_instance fault n ∷ []) m
refusals-before rs fault n m (other, among) = (other, Contains-append_left rs (at_instance fault n ∷ []) (at_instance other m) among)

refusals-last : (rs : List Refusal) (fault : Fault) (n : ℕ) → HasRefusal (rs ++ at_instance fault n ∷ []) n
refusals-last rs fault n = (
  fault,
  Contains-append_right rs (at_instance fault n ∷ []) (at_instance fault n)
      (Contains-first (at_instance fault n) []),
)

-- what is refused was given
pub refused-named : (s : Schema) (given passed : List Statement) (refusals : List Refusal) → AreSifted s given passed refusals → (n : ℕ)
    → HasRefusal refusals n → Contains (names_among given) n
refused-named s given passed refusals none n (fault, among) = absurd (Contains-none (at_instance fault n) among)
refused-named s given passed refusals (passes g p rs st sifted) n has = names-before g st n (refused-named s g p rs sifted n has)
refused-named s given passed refusals (refuses g p rs m r fault sifted refused) n has = elim (refusals-more rs fault m n has) [
  | inl before ↦ names-before g (instance m r) n (refused-named s g p rs sifted n before)
  | inr same ↦ subst (λ (k : ℕ). Contains (names_among (g ++ instance m r ∷ [])) k) same
      (name-of (g ++ instance m r ∷ []) (m, r) (instances-last g (instance m r) (m, r) (Contains-first (m, r) [])))
]

-- each instance passes, or it is refused
pub each-answered : (s : Schema) (given passed : List Statement) (refusals : List Refusal) → AreSifted s given passed refusals
    → (i : Instance) → Contains (instances_among given) i → Contains (instances_among passed) i ⊎ HasRefusal refusals i.0
each-answered s given passed refusals none i among = inl among
each-answered s given passed refusals (passes g p rs st sifted) i among = elim (instances-more g st i among) [
  | inl before ↦ elim (each-answered s g p rs sifted i before)
      [ inl in_passed ↦ inl (instances-before p st i in_passed) | inr has ↦ inr has ]
  | inr last ↦ inl (instances-last p st i last)
]
each-answered s given passed refusals (refuses g p rs n r fault sifted refused) i among = elim (instances-more g (instance n r) i among) [
  | inl before ↦ elim (each-answered s g p rs sifted i before)
      [ inl in_passed ↦ inl in_passed | inr has ↦ inr (refusals-before rs fault n i.0 has) ]
  | inr last ↦ elim (Contains-cases (n, r) [] i last) [
    | inl same ↦ inr (subst (λ (j : Instance). HasRefusal (rs ++ at_instance fault n ∷ []) j.0) same (refusals-last rs fault n))
    | inr nothing ↦ absurd (Contains-none i nothing)
  ]
]

-- ---- bytes that begin with them

pub taken-front : (bytes : List ℕ) (given more : List Statement) → AreStatementsTaken bytes (given ++ more) → AreStatementsTaken bytes given
taken-front bytes given more taken rest are structure text in_grammar =
    let (others, is) = taken rest are structure text in_grammar in
    (more ++ others, is ∙ append_assoc given more others)

-- where one is refused, nothing that is accepted begins with the bytes
pub refused-dead : (s : Schema) (limits : Limits) (bytes : List ℕ) (given passed : List Statement) (refusals : List Refusal)
    → AreSifted s given passed refusals → (first : Refusal) (others : List Refusal) → refusals ≡ first ∷ others
    → AreStatementsTaken bytes given → IsDead s limits bytes
refused-dead s limits bytes given passed refusals none first others is taken = cc
refused-dead s limits bytes given passed refusals (passes g p rs st sifted) first others is taken =
    refused-dead s limits bytes g p rs sifted first others is (taken-front bytes g (st ∷ []) taken)
refused-dead s limits bytes given passed refusals (refuses g p rs n r fault sifted (broken _ of nothing breaks)) first others is taken =
    no-meaning s limits bytes (g ++ instance n r ∷ []) taken n r (last-among g (instance n r)) nothing
refused-dead s limits bytes given passed refusals (refuses g p rs n r fault sifted (name_again among)) first others is taken =
    name-again s limits bytes g n r taken among

fault-of_instance : (s : Schema) (given : List Statement) (n : ℕ) (r : Record) (fault : Fault) → RefusesInstance s given n r fault
    → IsOfInstance fault
fault-of_instance s given n r fault (broken _ of nothing breaks) = of
fault-of_instance s given n r fault (name_again among) = tt

-- each is refused for its record or its name
pub refusals-of_instances : (s : Schema) (given passed : List Statement) (refusals : List Refusal) → AreSifted s given passed refusals
    → Each (λ (refusal : Refusal). IsOfInstance refusal.fault) refusals
refusals-of_instances s given passed refusals none = tt
refusals-of_instances s given passed refusals (passes g p rs st sifted) = refusals-of_instances s g p rs sifted
refusals-of_instances s given passed refusals (refuses g p rs n r fault sifted refused) =
    Each-append (λ (refusal : Refusal). IsOfInstance refusal.fault) rs (at_instance fault n ∷ []) (refusals-of_instances s g p rs sifted)
    (fault-of_instance s g n r fault refused, tt)
