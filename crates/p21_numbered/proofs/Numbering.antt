-- The records of a file under the numbers of its instances, and the law of its numbered file.
use Rattle.std.specs.List.{AllZip, AllByRecursion as Each}
use Rattle.std.specs.Prelude.{◌≡◌, ◌<◌, ◌++◌, ◌^◌, ℕ, List, [], ◌∷◌, map, length, Contains}
use Rattle.std.proofs.Common.{arith, ap, sym, subst, ◌∙◌, reverse, append_assoc}
use Rattle.std.proofs.lemmas.List.{append-nil, length-map, reverse-append, reverse-reverse}
use Rattle.p21_spec_basics.proofs.Members.{Contains-at, Contains-first, Contains-later, Contains-mapped, Each-member, Each-of_members}
use Rattle.p21_spec_basics.proofs.Shuffles.{Shuffled-members, Shuffled-symmetric}
use Rattle.p21_spec_file.proofs.SameFiles.{SameFileMeaning-transitive}
use Rattle.p21_spec_basics.specs.Limits.{Limits}
use Rattle.p21_spec_file.specs.Accepted.{IsCanonicalOf, Means}
use Rattle.p21_spec_file.specs.File.{FileMeaning, Reads}
use Rattle.p21_spec_file.specs.Meaning.{RecordMeans, Typed}
use Rattle.p21_spec_file.specs.SameFile.{SameFileMeaning}
use Rattle.p21_spec_file.specs.Value.{Value, whole, real, number, text, bits, item, reference, derived, missing, list, array, set, bag, typed, Values, no_values, value}
use Rattle.p21_spec_laws.proofs.FileTheorems.{one-meaning_within}
use Rattle.p21_spec_laws.proofs.Needs.{has-needs}
use Rattle.p21_spec_laws.specs.CompleteFile.{Line}
use Rattle.p21_spec_schema.specs.Schema.{Schema}
use Rattle.p21_spec_schema.specs.WellFormed.{IsWellFormed}
use Rattle.p21_spec_numbering.proofs.CopiesMoved.{aligned-are_same, typed-twice}
use Rattle.p21_spec_numbering.proofs.Decided.{decided-no_choice}
use Rattle.p21_spec_numbering.proofs.Lists.{Shuffled-length}
use Rattle.p21_spec_numbering.proofs.Orders.{number-injective, order-shuffled, position-low}
use Rattle.p21_spec_numbering.proofs.Reading.{reads-whole}
use Rattle.p21_spec_numbering.proofs.Records.{Undoes, record-renamed}
use Rattle.p21_spec_numbering.proofs.Renaming.{rows-kept, undo, undo-is}
use Rattle.p21_spec_numbering.proofs.Targets.{typed_targets}
use Rattle.p21_spec_numbering.proofs.Theorems.{meanings-are_proper}
use Rattle.p21_spec_numbering.specs.Claim.{IsNumberedFile}
use Rattle.p21_spec_numbering.specs.Copies.{IsAligned, IsDecided}
use Rattle.p21_spec_numbering.specs.Laws.{IsProper}
use Rattle.p21_spec_numbering.specs.Ordered.{IsOrder, Ranking, number_in, ordered}
use Rattle.p21_spec_numbering.specs.Renamed.{IsInjectiveOn, IsWhole, names, renamed_typed, renamed_value, renamed_values}
use Rattle.p21_spec_numbering.specs.RenamedRecord.{renamed_record}
use Rattle.p21_mapping_values.specs.KnownTypes.{HasKnownTypes, HaveKnownTypes}
use Rattle.p21_canon.specs.Meant.{IsMeant}
use Rattle.p21_canon.specs.Statement.{IsCanonicalStatement}
use Rattle.p21_numbering.proofs.Decisions.{got}
use Rattle.p21_numbering.proofs.SaidTexts.{meant-in}
use Rattle.p21_numbering.specs.declared.instances.Instance.{Instance as Code}
use Rattle.p21_numbering.specs.Instances.{AreInstancesOf, Instance, IsInstanceOf, file_instance, file_instances, names_of, no_instance}
use Rattle.p21_numbering.specs.NodesOf.{HasKnownParts}
use Rattle.p21_numbered.proofs.NumberedFile.{heads-within, only-canonical, renamed-canonical, stored-within}
use Rattle.p21_numbered.specs.declared.numbered_line.NumberedLine.{NumberedLine}
use Rattle.p21_numbered.specs.Lines.{IsLineUnder, held_line, held_lines}
use Rattle.p21_numbered.specs.NumberedLaws.{AreWritten, KeptIsNumbered, KeptIsOnlyNumbered, KeptIsOnlyRenamed, KeptIsRenamed}

-- ---- types are known under other names, too

mutual
  known-renamed : (s : Schema) (f : ℕ → ℕ) (v : Value) → HasKnownTypes s v → HasKnownTypes s (renamed_value f v)
  known-renamed s f (whole z) known = tt
  known-renamed s f (real d) known = tt
  known-renamed s f (number d) known = tt
  known-renamed s f (text chars) known = tt
  known-renamed s f (bits bs) known = tt
  known-renamed s f (item word) known = tt
  known-renamed s f (reference n) known = tt
  known-renamed s f derived known = tt
  known-renamed s f missing known = tt
  known-renamed s f (list vs) known = row-renamed s f vs known
  known-renamed s f (array vs) known = row-renamed s f vs known
  known-renamed s f (set vs) known = row-renamed s f vs known
  known-renamed s f (bag vs) known = row-renamed s f vs known
  known-renamed s f (typed t v) known = (known.0, known-renamed s f v known.1)

  row-renamed : (s : Schema) (f : ℕ → ℕ) (vs : Values) → HaveKnownTypes s vs → HaveKnownTypes s (renamed_values f vs)
  row-renamed s f no_values known = tt
  row-renamed s f (value v vs) known = (known-renamed s f v known.0, row-renamed s f vs known.1)

rows-renamed : (s : Schema) (f : ℕ → ℕ) (rows : List Values) → Each (HaveKnownTypes s) rows
    → Each (HaveKnownTypes s) (map (renamed_values f) rows)
rows-renamed s f [] known = tt
rows-renamed s f (vs ∷ rows) known = (row-renamed s f vs known.0, rows-renamed s f rows known.1)

-- ---- names that agree where a record refers

typed-agree : (f g : ℕ → ℕ) (x : Typed) → ((t : ℕ) → Contains (typed_targets x) t → f t ≡ g t) → renamed_typed f x ≡ renamed_typed g x
typed-agree f g x same =
    let make : List Values → Typed = λ rows. record { entities = x.entities; values = rows } in
    ap (renamed_typed f) (sym (ap make (rows-kept x.values))) ∙ typed-twice (λ n. n) f g x same

-- ---- the instances of a file

module _ (s : Schema) (formed : IsWellFormed s) (bytes : List ℕ) (m : FileMeaning) (reads : Reads s bytes m) (all : List Instance)
    (are : AreInstancesOf m all) where
  is_whole : IsWhole m
  is_whole = (reads-whole s formed bytes m reads).0

  pub instance-is : (i : Instance) → Contains all i → IsInstanceOf m i
  instance-is i among =
      let (k, at) = Contains-at all i among in
      let (low, same) = got all k i no_instance at in
      let P : Instance → Type 0 = λ j. IsInstanceOf m j in
      subst P same (are.each k low)

  target-named : (i : Instance) → Contains all i → (t : ℕ) → Contains (typed_targets i.typed) t → Contains (names m) t
  target-named i among t target = is_whole.closed i.name i.typed (instance-is i among).instance t target

  -- names that differ for the instances differ for those of the file
  pub differ-in_file : (f : ℕ → ℕ) → IsInjectiveOn (names_of all) f → IsInjectiveOn (names m) f
  differ-in_file f apart j k among among_ one = apart j k (listed j among) (listed k among_) one
    where
      listed : (n : ℕ) → Contains (names m) n → Contains (names_of all) n
      listed n at = Shuffled-members (names m) (names_of all) (Shuffled-symmetric (names_of all) (names m) are.names_are) n at

  -- each record is meant under other names
  pub all-meant : (f : ℕ → ℕ) → IsInjectiveOn (names m) f → Each (λ (i : Instance). HasKnownParts s i.typed) all
      → Each (λ (i : Instance). IsMeant s (renamed_typed f i.typed)) all
  all-meant f apart known = Each-of_members (λ (i : Instance). IsMeant s (renamed_typed f i.typed)) all meant
    where
      meant : (i : Instance) → Contains all i → IsMeant s (renamed_typed f i.typed)
      meant i among =
          let ts : List ℕ = typed_targets i.typed in
          let once : IsInjectiveOn ts f = λ t u among_t among_u one. apart t u (target-named i among t among_t)
          (target-named i among u among_u) one in
          let own = meant-in s bytes m reads i.name i.typed (instance-is i among).instance in
          let move : ℕ × List ℕ → ℕ × List ℕ = λ k. (f k.0, k.1) in
          let undoes : Undoes (undo f ts) f ts = λ t target. undo-is f ts once t target in
          let renamed_ : RecordMeans s (map move own.kinds) (renamed_record f own.record_) (renamed_typed f i.typed) =
          record-renamed s own.kinds (map move own.kinds) f (undo f ts) (λ n es at. Contains-mapped move own.kinds (n, es) at) i.typed
          undoes own.record_ own.means in
          let (needs, means) = has-needs s (map move own.kinds) (renamed_record f own.record_) (renamed_typed f i.typed) renamed_ in
          record {
            record_ = renamed_record f own.record_;
            needs = needs;
            means = means;
            types_known = rows-renamed s f i.typed.values (Each-member (λ (j : Instance). HasKnownParts s j.typed) all i known among).known;
          }

-- ---- under the numbers of an order

module _ (s : Schema) (formed : IsWellFormed s) (bytes : List ℕ) (m : FileMeaning) (reads : Reads s bytes m) (all : List Instance)
    (are : AreInstancesOf m all) (ranking : Ranking) (order : List ℕ) (is : IsOrder ranking m order) (f : ℕ → ℕ)
    (given : (n : ℕ) → Contains order n → f n ≡ number_in order n) where
  agrees : (n : ℕ) → Contains (names m) n → f n ≡ number_in order n
  agrees n among = given n ((is.all n).0 among)

  -- numbers differ
  pub numbers-apart : IsInjectiveOn (names_of all) f
  numbers-apart j k among among_ one =
      number-injective order j k ((is.all j).0 (there j among)) ((is.all k).0 (there k among_))
      (sym (agrees j (there j among)) ∙ one ∙ agrees k (there k among_))
    where
      there : (n : ℕ) → Contains (names_of all) n → Contains (names m) n
      there n at = Shuffled-members (names_of all) (names m) are.names_are n at

  -- the lines under the numbers that are given are those under the numbers of the order
  pub lines-numbered : (lines : List Line) → AllZip (IsLineUnder s f) all lines → AllZip (IsLineUnder s (number_in order)) all lines
  lines-numbered lines under = changed all lines (λ i among. among) under
    where
      one : (i : Instance) (l : Line) → Contains all i → IsLineUnder s f i l → IsLineUnder s (number_in order) i l
      one i l among line =
          let name : f i.name ≡ number_in order i.name = agrees i.name
          (Contains-mapped (λ (j : ℕ × Typed). j.0) m.instances (i.name, i.typed)
          (instance-is s formed bytes m reads all are i among).instance) in
          let typed_ : renamed_typed f i.typed ≡ renamed_typed (number_in order) i.typed =
          typed-agree f (number_in order) i.typed (λ t target. agrees t
          (target-named s formed bytes m reads all are i among t target)) in
          let P : ℕ → Type 0 = λ n. IsCanonicalStatement s n (renamed_typed f i.typed) l.1 in
          let Q : Typed → Type 0 = λ x. IsCanonicalStatement s (number_in order i.name) x l.1 in
          (line.0 ∙ name, subst Q typed_ (subst P name line.1))

      changed : (is_ : List Instance) (ls : List Line) → ((i : Instance) → Contains is_ i → Contains all i)
          → AllZip (IsLineUnder s f) is_ ls → AllZip (IsLineUnder s (number_in order)) is_ ls
      changed [] [] within zipped = tt
      changed [] (l ∷ ls) within zipped = absurd zipped
      changed (i ∷ is_) [] within zipped = absurd zipped
      changed (i ∷ is_) (l ∷ ls) within zipped = (
        one i l (within i (Contains-first i is_)) zipped.0,
        changed is_ ls
            (λ j at. within j (Contains-later i is_ j at)) zipped.1,
      )

-- ---- lines one by one

-- some instances were taken, and each has its line; those that are left stand in the other order
pub record Halfway (s : Schema) (f : ℕ → ℕ) (left all : List Code) (lines : List NumberedLine) : Type 0 where
  pub taken : List Code
  pub parts : taken ++ reverse left ≡ all
  pub under : AllZip (IsLineUnder s f) (file_instances taken) (held_lines lines)

next-one : (left rest : List Code) (x : Code) → left ≡ rest ++ x ∷ [] → reverse left ≡ x ∷ reverse rest
next-one left rest x is = ap (λ (xs : List Code). reverse xs) is ∙ reverse-append rest (x ∷ [])

pub none-taken : (s : Schema) (f : ℕ → ℕ) (left all : List Code) (lines : List NumberedLine) → left ≡ reverse all → lines ≡ []
    → Halfway s f left all lines
none-taken s f left all lines turned none = record {
  taken = [];
  parts = ap (λ (xs : List Code). reverse xs) turned ∙ reverse-reverse all;
  under = let P : List NumberedLine → Type 0 = λ ls. AllZip (IsLineUnder s f) [] (held_lines ls) in subst P (sym none) tt;
}

zip-more : (s : Schema) (f : ℕ → ℕ) (is : List Code) (ls : List NumberedLine) (i : Code) (l : NumberedLine)
    → AllZip (IsLineUnder s f) (file_instances is) (held_lines ls) → IsLineUnder s f (file_instance i) (held_line l)
    → AllZip (IsLineUnder s f) (file_instances (is ++ i ∷ [])) (held_lines (ls ++ l ∷ []))
zip-more s f [] [] i l zipped line = (line, tt)
zip-more s f [] (k ∷ ls) i l zipped line = absurd zipped
zip-more s f (j ∷ is) [] i l zipped line = absurd zipped
zip-more s f (j ∷ is) (k ∷ ls) i l zipped line = (zipped.0, zip-more s f is ls i l zipped.1 line)

pub one-taken : (s : Schema) (f : ℕ → ℕ) (left rest all : List Code) (x : Code) (line : NumberedLine) (lines more : List NumberedLine)
    → Halfway s f left all lines → left ≡ rest ++ x ∷ []
    → IsLineUnder s f (file_instance x) (held_line line) → more ≡ lines ++ line ∷ [] → Halfway s f rest all more
one-taken s f left rest all x line lines more h is under pushed = record {
  taken = h.taken ++ x ∷ [];
  parts = append_assoc h.taken (x ∷ []) (reverse rest) ∙ ap (λ (xs : List Code). h.taken ++ xs) (sym (next-one left rest x is)) ∙ h.parts;
  under = let P : List NumberedLine → Type 0 = λ ls. AllZip (IsLineUnder s f) (file_instances (h.taken ++ x ∷ [])) (held_lines ls) in
      subst P (sym pushed) (zip-more s f h.taken lines x line h.under under);
}

pub all-taken : (s : Schema) (f : ℕ → ℕ) (left all : List Code) (lines : List NumberedLine) → Halfway s f left all lines → left ≡ []
    → AllZip (IsLineUnder s f) (file_instances all) (held_lines lines)
all-taken s f left all lines h none =
    let P : List Code → Type 0 = λ xs. AllZip (IsLineUnder s f) (file_instances xs) (held_lines lines) in
    subst P (sym (append-nil h.taken) ∙ ap (λ (xs : List Code). h.taken ++ reverse xs) (sym none) ∙ h.parts) h.under

-- what is taken next is one of all
at-seam : (P : Instance → Type 0) (ys : List Code) (x : Code) (more : List Code) → Each P (file_instances (ys ++ x ∷ more))
    → P (file_instance x)
at-seam P [] x more each = each.0
at-seam P (y ∷ ys) x more each = at-seam P ys x more each.1

pub next-is : (P : Instance → Type 0) (s : Schema) (f : ℕ → ℕ) (left rest all : List Code) (x : Code) (lines : List NumberedLine)
    → Halfway s f left all lines → left ≡ rest ++ x ∷ [] → Each P (file_instances all) → P (file_instance x)
next-is P s f left rest all x lines h is each =
    let whole_ : h.taken ++ x ∷ reverse rest ≡ all = ap (λ (xs : List Code). h.taken ++ xs) (sym (next-one left rest x is)) ∙ h.parts in
    let Q : List Code → Type 0 = λ xs. Each P (file_instances xs) in
    at-seam P h.taken x (reverse rest) (subst Q (sym whole_) each)

-- ---- the laws

pub kept-renamed : KeptIsRenamed
kept-renamed s formed limits bytes m means f apart written kept under blocks of short lines =
    renamed-canonical s formed bytes m means.reads f apart written limits (heads-within s limits bytes m means) kept under blocks of short
    lines

pub kept-only_renamed : KeptIsOnlyRenamed
kept-only_renamed s formed limits bytes m means f apart written kept under blocks are found is = (
  only-canonical s formed bytes m means.reads f apart written limits (heads-within s limits bytes m means) found is kept under blocks are,
  stored-within s formed bytes m means.reads f apart written limits found is kept under,
)

module _ (s : Schema) (formed : IsWellFormed s) (bytes : List ℕ) (m : FileMeaning) (reads : Reads s bytes m)
    (few : length m.instances < 2 ^ 64) (ranking : Ranking) (order : List ℕ) (is : IsOrder ranking m order) where
  order-apart : IsInjectiveOn (names m) (number_in order)
  order-apart j k among among_ one = number-injective order j k ((is.all j).0 among) ((is.all k).0 among_) one

  order-written : AreWritten m (number_in order)
  order-written n among =
      let long : length order ≡ length m.instances = Shuffled-length order (names m)
      (order-shuffled ranking m (reads-whole s formed bytes m reads).0 order is) ∙ length-map m.instances (λ (i : ℕ × Typed). i.0) in
      let low = position-low order n ((is.all n).0 among) in
      omega (arith, low, long, few)

pub kept-numbered : KeptIsNumbered
kept-numbered s formed limits bytes m means few ranking decided order aligned kept under blocks of short lines = record {
  meaning = m;
  means = means;
  decided = decided;
  order = order;
  aligned = aligned;
  canonical = kept-renamed s formed limits bytes m means (number_in order)
      (order-apart s formed bytes m means.reads few ranking order aligned.is_order)
      (order-written s formed bytes m means.reads few ranking order aligned.is_order) kept under blocks of short lines;
}

-- a numbered file is canonical under the numbers of each order that counts copies in one sequence
pub numbered-is : (s : Schema) → IsWellFormed s → (limits : Limits) (bytes : List ℕ) (m : FileMeaning) → Means s limits bytes m
    → (ranking : Ranking) → IsDecided ranking m → (order : List ℕ) → IsAligned ranking m order
    → (numbered : List ℕ) → IsNumberedFile s limits ranking bytes numbered → IsCanonicalOf s limits (ordered order m) numbered
numbered-is s formed limits bytes m means ranking decided order aligned numbered is =
    let one : is.meaning ≡ m = one-meaning_within s formed limits limits bytes is.meaning m is.means means in
    let A : FileMeaning → Type 0 = λ x. IsAligned ranking x is.order in
    let C : FileMeaning → Type 0 = λ x. IsCanonicalOf s limits (ordered is.order x) numbered in
    let own : IsCanonicalOf s limits (ordered is.order m) numbered = subst C one is.canonical in
    let proper : IsProper m = meanings-are_proper s formed bytes m means.reads in
    let same : SameFileMeaning (ordered is.order m) (ordered order m) =
    aligned-are_same ranking m proper (decided-no_choice ranking m proper decided) is.order order (subst A one is.aligned) aligned in
    record {
      canonical = own.canonical;
      same = SameFileMeaning-transitive own.canonical.meaning (ordered is.order m) (ordered order m) own.same same;
      file_within = own.file_within;
      lines_within = own.lines_within;
    }

pub kept-only_numbered : KeptIsOnlyNumbered
kept-only_numbered s formed limits bytes m means few ranking decided order aligned kept under blocks are numbered is =
    kept-only_renamed s formed limits bytes m means (number_in order)
    (order-apart s formed bytes m means.reads few ranking order aligned.is_order)
    (order-written s formed bytes m means.reads few ranking order aligned.is_order) kept under blocks are numbered
    (numbered-is s formed limits bytes m means ranking decided order aligned numbered is)
