-- The uses in a file, instance by instance.
use Rattle.std.specs.Prelude.{◌≡◌, ◌⊎◌, ℕ, ◌+◌, ◌<◌, ◌≤◌, ◌^◌, List, [], ◌∷◌, ◌++◌, Some, None, Result, Ok, Err, IfErr, IsErrAnd, Contains}
use Rattle.std.proofs.Common.{arith, ap, refl, sym, subst, ◌∙◌, inl, inr, append-nil, append_assoc}
use Rattle.std.proofs.lemmas.List.Elements.{Contains-append_cases, Contains-append_left, Contains-append_right}
use Rattle.p21_express_graph.specs.Meaning.{place as place_of}
use Rattle.p21_model.proofs.Meanings.{told}
use Rattle.p21_model.specs.Kept.{AreStated, HaveOneLine, IsKeptLine, IsStated}
use Rattle.p21_model.specs.Left.{HandsOutRow, TellsRows}
use Rattle.p21_model.specs.Rows.{AreRowsOf, Row}
use Rattle.p21_model.specs.Told.{AreTold}
use Rattle.p21_model_uses.specs.Tables.{IsOfUses}
use Rattle.p21_model_uses.specs.UseRows.{UseRow}
use Rattle.p21_model_uses.specs.declared.fault.UsersFault.{UsersFault}
use Rattle.p21_model_uses.specs.declared.fault.UsersFault.TheVariants.{NoMemory, TooMany}
use Rattle.p21_model.specs.Uses.{IsUse, AreUsesIn, IsOfManyUses, place_used, uses_at, uses_by}
use Rattle.p21_model.specs.declared.attributes.Attribute.{Attribute}
use Rattle.p21_model.specs.declared.attributes.Attributes.{Attributes}
use Rattle.p21_model.specs.declared.instance.Instance.{Instance}
use Rattle.p21_model_values.specs.Written.{IsTextOf}
use Rattle.p21_spec_basics.proofs.Members.{Contains-flat_map, Contains-mapped, Contains-none, Contains-one_of, Contains-unmapped}
use Rattle.p21_spec_exchange.specs.Parameter.{Param}
use Rattle.p21_spec_exchange.specs.Record.{Record}
use Rattle.p21_spec_exchange.specs.Statement.{instance, statement_tokens}
use Rattle.p21_spec_exchange.specs.Token.{IsSpelled}
use Rattle.std.specs.List.{AllByRecursion as Each}
use Rattle.p21_spec_file.specs.CanonicalTexts.{IsInstanceText}
use Rattle.p21_spec_file.specs.Reference.{param_references}
use Rattle.p21_spec_laws.proofs.CanonicalLaid.{laid-each_spelled}
use Rattle.p21_spec_schema.specs.Schema.{Place, Schema}
use Rattle.p21_stream_store.specs.StoredInstance.{StoredInstance, instance_names}

-- ---- the uses at the attributes of an instance

-- with those of the attributes that are left, these are all
pub record AreAdded (user : ℕ) (rows more : List UseRow) (attributes : Attributes) (all : List Row) : Type 0 where
  pub left : List Row
  pub tells : TellsRows attributes left
  pub together : more ++ uses_by user left ≡ rows ++ uses_by user all

pub none-added : (user : ℕ) (rows : List UseRow) (attributes : Attributes) (all : List Row) → TellsRows attributes all
    → AreAdded user rows rows attributes all
none-added user rows attributes all tells = record { left = all; tells = tells; together = refl }

pub one-added : (user : ℕ) (rows old more : List UseRow) (before after : Attributes) (all : List Row) (found : Attribute)
    → AreAdded user rows old before all
    → ((left : List Row) → TellsRows before left → HandsOutRow left (Some found) after)
    → ((p : Param) → IsTextOf found.value.text.now p → more ≡ old ++ uses_at user (place_of found.place, p))
    → AreAdded user rows more after all
one-added user rows old more before after all found a hands adds = by_left a.left a.together (hands a.left a.tells)
  where
    by_left : (left : List Row) → old ++ uses_by user left ≡ rows ++ uses_by user all → HandsOutRow left (Some found) after
        → AreAdded user rows more after all
    by_left [] together handed = absurd handed
    by_left (row ∷ left) together handed =
        let At : Place → List UseRow = λ place. uses_at user (place, row.1) in
        let added : more ≡ old ++ uses_at user row = adds row.1 handed.1 ∙ ap (λ (place : Place). old ++ At place) handed.0 in
        record {
          left = left;
          tells = handed.2;
          together = ap (λ (us : List UseRow). us ++ uses_by user left) added ∙ append_assoc old (uses_at user row) (uses_by user left)
              ∙ together;
        }

pub all-added : (user : ℕ) (rows more : List UseRow) (attributes after : Attributes) (all : List Row)
    → AreAdded user rows more attributes all
    → ((left : List Row) → TellsRows attributes left → HandsOutRow left None after) → more ≡ rows ++ uses_by user all
all-added user rows more attributes after all a hands = by_left a.left a.together (hands a.left a.tells)
  where
    by_left : (left : List Row) → more ++ uses_by user left ≡ rows ++ uses_by user all → HandsOutRow left None after
        → more ≡ rows ++ uses_by user all
    by_left [] together handed = sym (append-nil more) ∙ together
    by_left (row ∷ left) together handed = absurd handed

-- ---- a use stands among those of its instance, and is one of the file

used-there : (user : ℕ) (rows : List Row) (u : UseRow) (p : Param) → u.1 ≡ user → Contains rows (place_used u, p)
    → Contains (param_references p) u.0 → Contains (uses_by user rows) u
used-there user rows u p same stands named =
    let At : ℕ → Type 0 = λ n. Contains (uses_by n rows) u in
    subst At same (Contains-flat_map (uses_at u.1) rows (place_used u, p) u stands
    (Contains-mapped (λ (n : ℕ). (n, u.1, u.2, u.3)) (param_references p) u.0 named))

pub is-use : (s : Schema) (kept : List StoredInstance) (name : ℕ) (line : List ℕ) (record_ : Record)
    (stated : IsInstanceText s name record_ line) (rows : List Row)
    → IsKeptLine kept name line → AreTold stated rows → (u : UseRow) → Contains (uses_by name rows) u → IsUse s kept u
is-use s kept name line record_ stated rows is_line told_ u among =
    let (row, stands, at) = Contains-one_of (uses_at name) rows u among in
    let (n, named, is) = Contains-unmapped (λ (n : ℕ). (n, name, row.0.entity, row.0.index)) (param_references row.1) u at in
    subst (IsUse s kept) is (record {
      line = line;
      is_line = is_line;
      record_ = record_;
      stated = stated;
      rows = rows;
      told = told_;
      p = row.1;
      stands = stands;
      named = named;
    })

-- ---- the uses by the instances below a name

-- these are uses of the file, and each use by an instance below this bound is one of them
pub record HaveUsesBelow (s : Schema) (kept : List StoredInstance) (bound : ℕ) (rows : List UseRow) : Type 0 where
  pub sound : (u : UseRow) → Contains rows u → IsUse s kept u
  pub complete : (u : UseRow) → IsUse s kept u → u.1 < bound → Contains rows u

pub no-uses : (s : Schema) (kept : List StoredInstance) → HaveUsesBelow s kept 0 []
no-uses s kept = record { sound = λ u among. absurd (Contains-none u among); complete = λ u is below. absurd (omega (arith, below)) }

-- the uses of a line of this name are among those that it adds
line-uses : (s : Schema) (name : ℕ) (line : List ℕ) (old new : List UseRow)
    → ((record_ : Record) (stated : IsInstanceText s name record_ line) (found : List Row) → AreRowsOf s stated.canonical found
    → new ≡ old ++ uses_by name found)
    → (u : UseRow) (user : ℕ) → user ≡ name → (other : List ℕ) → other ≡ line
    → (r : Record) (t : IsInstanceText s user r other) (rows : List Row) → AreRowsOf s t.canonical rows
    → Contains (uses_by name rows) u → Contains new u
line-uses s name line old new adds u user same other line_is r t rows are among =
    let At : ℕ → List ℕ → Type 0 = λ n text. (x : IsInstanceText s n r text) → AreRowsOf s x.canonical rows → Contains new u in
    let Has : List UseRow → Type 0 = λ us. Contains us u in
    let here : At name line = λ x rows_are. subst Has (sym (adds r x rows rows_are))
    (Contains-append_right old (uses_by name rows) u among) in
    let At_line : List ℕ → Type 0 = λ text. At name text in
    let At_name : ℕ → Type 0 = λ n. At n other in
    subst At_name (sym same) (subst At_line (sym line_is) here) t are

-- one more instance, the next one by its name
pub more-uses : (s : Schema) (kept : List StoredInstance) (least name : ℕ) (line : List ℕ) (old new : List UseRow) → HaveOneLine kept
    → HaveUsesBelow s kept least old
    → IsKeptLine kept name line → (record_ : Record) (stated : IsInstanceText s name record_ line)
    → ((record_ : Record) (stated : IsInstanceText s name record_ line) (found : List Row) → AreRowsOf s stated.canonical found
    → new ≡ old ++ uses_by name found)
    → ((other : ℕ) → least ≤ other → other < name → Contains (instance_names kept) other → ⊥)
    → HaveUsesBelow s kept (name + 1) new
more-uses s kept least name line old new once h is_line record_ stated adds between = record { sound = sound; complete = complete }
  where
    first : (told_ : (rows : List Row) × AreTold stated rows) → (u : UseRow) → Contains new u → IsUse s kept u
    first (rows, is) u among =
        let Has : List UseRow → Type 0 = λ us. Contains us u in
        elim (Contains-append_cases old (uses_by name rows) u (subst Has (adds record_ stated rows is.are) among)) [
          | inl before ↦ h.sound u before
          | inr own ↦ is-use s kept name line record_ stated rows is_line is u own
        ]

    sound : (u : UseRow) → Contains new u → IsUse s kept u
    sound u among = let t = told s name record_ line stated in first (t.rows, t.told) u among

    named : (u : UseRow) → IsUse s kept u → Contains (instance_names kept) u.1
    named u is = Contains-mapped (λ (x : StoredInstance). x.name) kept (record { name = u.1; membership = is.is_line.0; text = is.line })
        is.is_line.1

    own : (u : UseRow) → IsUse s kept u → u.1 ≡ name → Contains new u
    own u is same =
        let Kept : ℕ → Type 0 = λ n. IsKeptLine kept n is.line in
        let line_is : is.line ≡ line = once name is.line line (subst Kept same is.is_line) is_line in
        line-uses s name line old new adds u u.1 same is.line line_is is.record_ is.stated is.rows is.told.are
        (used-there name is.rows u is.p same is.stands is.named)

    earlier : (u : UseRow) → Contains old u → Contains new u
    earlier u among =
        let t = told s name record_ line stated in
        let Has : List UseRow → Type 0 = λ us. Contains us u in
        subst Has (sym (adds record_ stated t.rows t.told.are)) (Contains-append_left old (uses_by name t.rows) u among)

    either : (x y : ℕ) → (x < y) ⊎ (y ≤ x)
    either x y = grind arith

    complete : (u : UseRow) → IsUse s kept u → u.1 < name + 1 → Contains new u
    complete u is low = elim (either u.1 least) [
      | inl before ↦ earlier u (h.complete u is before)
      | inr from ↦ elim (either u.1 name) [
        | inl below ↦ absurd (between u.1 from below (named u is))
        | inr over ↦ own u is (omega (arith, low, over))
      ]
    ]

pub instance-uses : (s : Schema) (kept : List StoredInstance) (least number : ℕ) (found : Instance) (old new : List UseRow)
    → HaveOneLine kept → HaveUsesBelow s kept least old
    → number ≡ found.name → found.schema.now ≡ s → IsKeptLine kept found.name found.line.now → IsStated found
    → ((record_ : Record) (stated : IsInstanceText found.schema.now found.name record_ found.line.now) (rows : List Row)
    → AreRowsOf found.schema.now stated.canonical rows → new ≡ old ++ uses_by number rows)
    → ((other : ℕ) → least ≤ other → other < found.name → Contains (instance_names kept) other → ⊥)
    → HaveUsesBelow s kept (number + 1) new
instance-uses s kept least number found old new once h same under is_line (record_, stated) adds between =
    let Adds : ℕ → Type 0 = λ n. (r : Record) (t : IsInstanceText found.schema.now found.name r found.line.now) (rows : List Row)
    → AreRowsOf found.schema.now t.canonical rows → new ≡ old ++ uses_by n rows in
    let Before : Schema → Type 0 = λ t. HaveUsesBelow t kept least old in
    let Behind : Schema → Type 0 = λ t. HaveUsesBelow t kept (found.name + 1) new in
    let Up_to : ℕ → Type 0 = λ n. HaveUsesBelow s kept (n + 1) new in
    subst Up_to (sym same)
    (subst Behind under (more-uses found.schema.now kept least found.name found.line.now old new once (subst Before (sym under) h) is_line
    record_ stated (subst Adds same adds) between))

-- behind the last instance, all are there
pub all-uses : (s : Schema) (kept : List StoredInstance) (bound : ℕ) (rows : List UseRow) → HaveUsesBelow s kept bound rows
    → ((other : ℕ) → bound ≤ other → Contains (instance_names kept) other → ⊥) → AreUsesIn s kept rows
all-uses s kept bound rows h none u = (h.sound u, all)
  where
    either : (x y : ℕ) → (x < y) ⊎ (y ≤ x)
    either x y = grind arith

    all : IsUse s kept u → Contains rows u
    all is = elim (either u.1 bound) [
      | inl before ↦ h.complete u is before
      | inr behind ↦ absurd (none u.1 behind (Contains-mapped (λ (x : StoredInstance). x.name) kept
          (record { name = u.1; membership = is.is_line.0; text = is.line }) is.is_line.1))
    ]

-- so they are behind the last name of 64 bits
pub last-uses : (s : Schema) (kept : List StoredInstance) (name : ℕ) (rows : List UseRow) → ¬ (name + 1 < 2 ^ 64)
    → HaveUsesBelow s kept (name + 1) rows → AreUsesIn s kept rows
last-uses s kept name rows last h u = (h.sound u, λ is. h.complete u is (below (u.1) (name + 1) (2 ^ 64) (low is) last))
  where
    below : (x y z : ℕ) → x < z → ¬ (y < z) → x < y
    below x y z under over = omega (arith, under, over)

    low : IsUse s kept u → u.1 < 2 ^ 64
    low is =
        let spelled : Each IsSpelled (statement_tokens (instance u.1 is.stated.canonical)) =
        laid-each_spelled is.line (statement_tokens (instance u.1 is.stated.canonical)) is.stated.laid in
        spelled.0.1.in_range

-- ---- too many uses

-- where the uses that were found are too many, those in the file are
many-uses : (s : Schema) (kept : List StoredInstance) (rows : List UseRow) (fault : UsersFault) → AreUsesIn s kept rows
    → IsOfUses rows fault → IsOfManyUses s kept fault
many-uses s kept rows NoMemory all of = tt
many-uses s kept rows TooMany all of = record {
  uses = of.uses;
  are = λ u. (λ among. (all u).0 ((of.members u).0 among), λ is. (of.members u).1 ((all u).1 is));
  order = of.order;
  many = of.many;
}

pub too-many : {T : Type 0} (s : Schema) (kept : List StoredInstance) (rows : List UseRow) (fault : UsersFault)
    (result : Result T UsersFault) → IsErrAnd result (λ found. found ≡ fault)
    → (AreStated s kept → HaveOneLine kept → AreUsesIn s kept rows) → IsOfUses rows fault
    → IfErr result (λ found. AreStated s kept → HaveOneLine kept → IsOfManyUses s kept found)
too-many s kept rows fault (Ok users) wrong all of = absurd wrong
too-many s kept rows fault (Err found) is all of =
    λ stated once. subst (IsOfManyUses s kept) (sym is) (many-uses s kept rows fault (all stated once) of)
