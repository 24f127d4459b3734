-- The entities of two canonical records: they stand in one order, so the sets are one exactly if the lists are.
use Rattle.std.specs.Prelude.{◌≡◌, ◌↔◌, ℕ, List, [], ◌∷◌, Contains, refl}
use Rattle.std.specs.List.{AllZip}
use Rattle.std.proofs.Common.{ap, sym, subst, ◌∙◌}
use Rattle.p21_express_graph.specs.Resolved.{HoldsTogether}
use Rattle.p21_model.specs.EntitiesLeft.{AreEntitiesOf, ArePartEntities}
use Rattle.p21_spec_basics.proofs.Members.{AllZip-member, AllZip-second_member}
use Rattle.p21_spec_basics.proofs.Shuffles.{AreMembers, NoneTwice, distinct-none_twice}
use Rattle.p21_spec_exchange.specs.Parameter.{Key}
use Rattle.p21_spec_exchange.specs.Record.{Part, Record, simple, complex}
use Rattle.p21_spec_file.proofs.OneMeaning.{EntityNamed-one, NamesEntity-one, rising-one}
use Rattle.p21_spec_file.specs.CanonicalRecord.{HasOneLeaf, IsCanonicalForm}
use Rattle.p21_spec_file.specs.Meaning.{NamesEntity, PartMeans, RecordMeans, Typed}
use Rattle.p21_spec_file.specs.Reference.{EntitySets}
use Rattle.p21_spec_laws.proofs.RecordOnce.{words}
use Rattle.p21_spec_laws.proofs.Sorting.{rising-members}
use Rattle.p21_spec_schema.specs.Order.{order}
use Rattle.p21_spec_schema.specs.Schema.{EntityNamed, Schema}
use Rattle.p21_spec_schema.specs.Supertype.{IsA, itself}
use Rattle.p21_spec_schema.specs.WellFormed.{HasDistinctEntities, IsWellFormed}

-- ---- in external mapping

word-named : (s : Schema) (key : Key) (e : ℕ) → NamesEntity s key e → EntityNamed s e key.word
word-named s key e (name, named, is) = let P : List ℕ → Type 0 = λ x. EntityNamed s e x in subst P (sym (ap (λ (k : Key). k.word) is)) named

words-named : (s : Schema) (parts : List Part) (es : List ℕ) → ArePartEntities s parts es → AllZip (EntityNamed s) es (words parts)
words-named s [] es are = let P : List ℕ → Type 0 = λ xs. AllZip (EntityNamed s) xs [] in subst P (sym are) tt
words-named s (part ∷ parts) es (e, more, named, later, is) =
    let P : List ℕ → Type 0 = λ xs. AllZip (EntityNamed s) xs (words (part ∷ parts)) in
    subst P (sym is) (word-named s part.key e named, words-named s parts more later)

parts-once : (s : Schema) → HasDistinctEntities s → (kinds : EntitySets) (m : Typed) (parts : List Part) (es fs : List ℕ)
    → ArePartEntities s parts es → AllZip (PartMeans s kinds m) parts fs → es ≡ fs
parts-once s distinct kinds m [] es [] are all = are
parts-once s distinct kinds m [] es (f ∷ fs) are all = absurd all
parts-once s distinct kinds m (part ∷ parts) es [] are all = absurd all
parts-once s distinct kinds m (part ∷ parts) es (f ∷ fs) (e, more, named, later, is) all =
    is ∙ ap (λ (x : ℕ). x ∷ more) (NamesEntity-one s distinct part.key e f named all.0.0)
    ∙ ap (λ (xs : List ℕ). f ∷ xs) (parts-once s distinct kinds m parts more fs later all.1)

-- entities of equal names are the same
names-once : (s : Schema) → HasDistinctEntities s → (es fs : List ℕ) (ns ms : List (List ℕ)) → AllZip (EntityNamed s) es ns
    → AllZip (EntityNamed s) fs ms → ns ≡ ms → es ≡ fs
names-once s distinct [] [] ns ms all all_ same = refl
names-once s distinct [] (f ∷ fs) [] [] all all_ same = absurd all_
names-once s distinct [] (f ∷ fs) [] (m ∷ ms) all all_ same = cc
names-once s distinct [] (f ∷ fs) (n ∷ ns) ms all all_ same = absurd all
names-once s distinct (e ∷ es) fs [] ms all all_ same = absurd all
names-once s distinct (e ∷ es) fs (n ∷ ns) [] all all_ same = cc
names-once s distinct (e ∷ es) [] (n ∷ ns) (m ∷ ms) all all_ same = absurd all_
names-once s distinct (e ∷ es) (f ∷ fs) (n ∷ ns) (m ∷ ms) all all_ same =
    let first : n ≡ m = cc in
    let rest : ns ≡ ms = cc in
    let P : List ℕ → Type 0 = λ x. EntityNamed s e x in
    ap (λ (x : ℕ). x ∷ es) (distinct e f m (subst P first all.0) all_.0)
    ∙ ap (λ (xs : List ℕ). f ∷ xs) (names-once s distinct es fs ns ms all.1 all_.1 rest)

none_twice-named : (s : Schema) → HasDistinctEntities s → (es : List ℕ) (ns : List (List ℕ)) → AllZip (EntityNamed s) es ns → NoneTwice es
    → NoneTwice ns
none_twice-named s distinct [] [] all none = tt
none_twice-named s distinct [] (n ∷ ns) all none = absurd all
none_twice-named s distinct (e ∷ es) [] all none = absurd all
none_twice-named s distinct (e ∷ es) (n ∷ ns) all none = (
  λ among.
      let (f, at, named) = AllZip-second_member (EntityNamed s) es ns n all.1 among in
      none.0 (let P : ℕ → Type 0 = λ x. Contains es x in subst P (distinct f e n named all.0) at),
  none_twice-named s distinct es ns all.1 none.1,
)

members-named : (s : Schema) (es fs : List ℕ) (ns ms : List (List ℕ)) → AllZip (EntityNamed s) es ns → AllZip (EntityNamed s) fs ms
    → AreMembers es fs → AreMembers ns ms
members-named s es fs ns ms all all_ onto n among =
    let (e, at, named) = AllZip-second_member (EntityNamed s) es ns n all among in
    let (m, at_, named_) = AllZip-member (EntityNamed s) fs ms e all_ (onto e at) in
    let P : List ℕ → Type 0 = λ x. Contains ms x in
    subst P (EntityNamed-one s e m n named_ named) at_

-- ---- two canonical records

leaf-is : (s : Schema) (entities : List ℕ) (e : ℕ) → ((f : ℕ) → Contains entities f ↔ IsA s e f) → (leaf : HasOneLeaf s entities)
    → leaf.0 ≡ e
leaf-is s entities e closure leaf = sym (leaf.1.1 e ((closure e).1 (itself e)) ((closure leaf.0).0 leaf.1.0))

-- under one schema, each for a meaning of its own
module _ (s : Schema) (formed : IsWellFormed s) (holds : HoldsTogether s) (kinds others : EntitySets) (a b : Typed) where
  -- of one set of entities they have one list
  pub lists-same : (r q : Record) → RecordMeans s kinds r a → RecordMeans s others q b → IsCanonicalForm s r a → IsCanonicalForm s q b
      → a.entities ≡ b.entities
      → (es fs : List ℕ) → AreEntitiesOf s r es → AreEntitiesOf s q fs → es ≡ fs
  lists-same (simple p) (simple q) means means_ form form_ set es fs (e, named, is) (f, named_, is_) =
      let P : List ℕ → Type 0 = λ xs. HasOneLeaf s xs in
      let leaf : HasOneLeaf s b.entities = subst P set form in
      let C : List ℕ → Type 0 = λ xs. (g : ℕ) → Contains xs g ↔ IsA s means.means.entity g in
      let first : leaf.0 ≡ means.means.entity = leaf-is s b.entities means.means.entity (subst C set means.means.closure) leaf in
      let second : leaf.0 ≡ means_.means.entity = leaf-is s b.entities means_.means.entity means_.means.closure leaf in
      let e_is = NamesEntity-one s formed.entities_distinct p.key e means.means.entity named means.means.named in
      let f_is = NamesEntity-one s formed.entities_distinct q.key f means_.means.entity named_ means_.means.named in
      is ∙ ap (order s) (e_is ∙ sym first ∙ second ∙ sym f_is) ∙ sym is_
  lists-same (simple p) (complex qs) means means_ form form_ set es fs are are_ =
      absurd (form_.0 (let P : List ℕ → Type 0 = λ xs. HasOneLeaf s xs in subst P set form))
  lists-same (complex ps) (simple q) means means_ form form_ set es fs are are_ =
      absurd (form.0 (let P : List ℕ → Type 0 = λ xs. HasOneLeaf s xs in subst P (sym set) form_))
  lists-same (complex ps) (complex qs) means means_ form form_ set es fs are are_ =
      let own = parts-once s formed.entities_distinct kinds a ps es means.means.entities are means.means.parts_mean in
      let own_ = parts-once s formed.entities_distinct others b qs fs means_.means.entities are_ means_.means.parts_mean in
      let named = words-named s ps es are in
      let named_ = words-named s qs fs are_ in
      let once : NoneTwice es = subst NoneTwice (sym own) (distinct-none_twice means.means.entities means.means.distinct) in
      let once_ : NoneTwice fs = subst NoneTwice (sym own_) (distinct-none_twice means_.means.entities means_.means.distinct) in
      let Onto : List ℕ → List ℕ → Type 0 = λ xs ys. AreMembers xs ys in
      let onto : AreMembers means.means.entities means_.means.entities =
      λ g among. (means_.means.same_entities g).1 (let P : List ℕ
      → Type 0 = λ xs. Contains xs g in subst P set ((means.means.same_entities g).0 among)) in
      let back : AreMembers means_.means.entities means.means.entities =
      λ g among. (means.means.same_entities g).1 (let P : List ℕ
      → Type 0 = λ xs. Contains xs g in subst P (sym set) ((means_.means.same_entities g).0 among)) in
      let onto_ : AreMembers es fs = subst (λ (xs : List ℕ). Onto xs fs) (sym own) (subst (Onto means.means.entities) (sym own_) onto) in
      let back_ : AreMembers fs es = subst (λ (xs : List ℕ). Onto xs es) (sym own_) (subst (Onto means_.means.entities) (sym own) back) in
      let same : words ps ≡ words qs =
      rising-members (words ps) (words qs) form.1 form_.1 (none_twice-named s formed.entities_distinct es (words ps) named once)
      (none_twice-named s formed.entities_distinct fs (words qs) named_ once_)
      (members-named s es fs (words ps) (words qs) named named_ onto_) (members-named s fs es (words qs) (words ps) named_ named back_) in
      names-once s formed.entities_distinct es fs (words ps) (words qs) named named_ same

  -- and of one list they have one set
  pub sets-same : (r q : Record) → RecordMeans s kinds r a → RecordMeans s others q b → (es fs : List ℕ)
      → ((f : ℕ) → Contains es f ↔ Contains a.entities f) → ((f : ℕ) → Contains fs f ↔ Contains b.entities f)
      → es ≡ fs → a.entities ≡ b.entities
  sets-same r q means means_ es fs first second same =
      rising-one s a.entities b.entities means.rising.0 means_.rising.0 means.rising.1 means_.rising.1 means.rising.2 means_.rising.2
      (λ e at. (second e).0 (let P : List ℕ → Type 0 = λ xs. Contains xs e in subst P same ((first e).1 at)))
      (λ e at. (first e).0 (let P : List ℕ → Type 0 = λ xs. Contains xs e in subst P (sym same) ((second e).1 at)))
