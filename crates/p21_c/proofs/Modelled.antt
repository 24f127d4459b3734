-- What the calls over the model in hand answer of what they found.
use Rattle.std.specs.Prelude.{◌≡◌, ◌≤◌, ◌<◌, ℕ, suc, Bool, List, Option, None, Some}
use denote.Ref.{Bor}
use Rattle.std.proofs.Common.{refl, sym, subst, inl, inr}
use Rattle.p21_c.specs.Filled.{AreFirst, IsToldNumber, IsToldRow}
use Rattle.p21_c.specs.Models.{HasNoInstance, IsToldAt, SaysEntities, SaysValues, ShowsType, TellsInstanceFrom, TellsPlaceType, TellsSome}
use Rattle.p21_c.specs.Reports.{done, refused}
use Rattle.p21_c.specs.Types.{elements_of, place_told, told_at}
use Rattle.p21_c.specs.declared.model_instances.AttributeValue.{AttributeValue}
use Rattle.p21_c.specs.declared.model_instances.InstanceLine.{InstanceLine}
use Rattle.p21_c.specs.declared.model_types.TypeParts.{TypeParts}
use Rattle.p21_model.specs.EntitiesLeft.{TellsEntities, TellsSet}
use Rattle.p21_model.specs.Kept.{IsKeptLine}
use Rattle.p21_model.specs.Left.{TellsRows}
use Rattle.p21_model.specs.Rows.{Row}
use Rattle.p21_model.specs.Told.{TellsInstance}
use Rattle.p21_model.specs.declared.attributes.Attributes.{Attributes}
use Rattle.p21_model.specs.declared.entities.Entities.{Entities}
use Rattle.p21_model.specs.declared.instance.Instance.{Instance}
use Rattle.p21_spec_exchange.specs.Record.{Record}
use Rattle.p21_spec_file.specs.CanonicalTexts.{IsInstanceText}
use Rattle.p21_spec_schema.specs.Order.{order}
use Rattle.p21_spec_schema.specs.PlaceType.{PlaceType, TypeAt}
use Rattle.p21_spec_schema.specs.Schema.{Place, Schema, TypeUse}
use Rattle.p21_stream_output.specs.Output.{Output}

-- what the line of a found instance states is told
module _ (held : Option (Output × Schema)) (output : Output) (s : Schema) (name count old : ℕ) (found : Instance)
    (held_is : held ≡ Some (output, s)) (named : found.name ≡ name)
    (under : found.schema.now ≡ s) (kept : IsKeptLine output.kept found.name found.line.now) where
  pub values-told : (attributes : Attributes) (room : List AttributeValue)
      → ((record_ : Record) (stated : IsInstanceText found.schema.now found.name record_ found.line.now) → TellsInstance stated attributes)
      → ((rows : List Row) → TellsRows attributes rows → AreFirst IsToldRow rows room count)
      → TellsSome SaysValues held name room done old count
  values-told attributes room tells first =
      let says : SaysValues found room count = λ record_ stated. let t = tells record_ stated in (t.rows, t.told, first t.rows t.tells) in
      subst (λ (h : Option (Output × Schema)). TellsSome SaysValues h name room done old count) (sym held_is)
      (inl (found, named, under, kept, says, refl))

  pub entities-told : (entities : Entities) (room : List ℕ)
      → ((record_ : Record) (stated : IsInstanceText found.schema.now found.name record_ found.line.now) → TellsSet stated entities)
      → ((set : List ℕ) → TellsEntities entities set → AreFirst IsToldNumber set room count)
      → TellsSome SaysEntities held name room done old count
  entities-told entities room tells first =
      let says : SaysEntities found room count = λ record_ stated. let t = tells record_ stated in (t.set, t.same, first t.set t.tells) in
      subst (λ (h : Option (Output × Schema)). TellsSome SaysEntities h name room done old count) (sym held_is)
      (inl (found, named, under, kept, says, refl))

-- one aggregate deeper it is the same type
pub deeper : (left rest : ℕ) (optional leaves_out : Bool) (type inside : TypeUse) → left ≡ suc rest
    → elements_of type ≡ Some (leaves_out, inside) → told_at rest leaves_out inside ≡ told_at left optional type
deeper left rest optional leaves_out type inside is elements =
    let Further : Option (Bool × TypeUse) → Type 0 = λ found. told_at rest leaves_out inside ≡ elim found
    [ Some x ↦ told_at rest x.0 x.1 | None ↦ None ] in
    subst (λ n. told_at rest leaves_out inside ≡ told_at n optional type) (sym is) (subst Further (sym elements) refl)

-- what may stand at an attribute is told, or nothing
pub type-told : (held : Option Schema) (s : Schema) (of number depth status : ℕ) (at place : Place) (t : PlaceType)
    (found : Option TypeParts) (old new : TypeParts) → held ≡ Some s → number ≡ of → at ≡ place → TypeAt s (order s number) at t
    → found ≡ place_told depth t
    → ShowsType found status old new → TellsPlaceType held of place depth status old new
type-told held s of number depth status at place t found old new held_is of_is place_is is told shows =
    let there : TypeAt s (order s of) place t = subst (λ (p : Place). TypeAt s (order s of) p t) place_is
    (subst (λ n. TypeAt s (order s n) at t) of_is is) in
    subst (λ (h : Option Schema). TellsPlaceType h of place depth status old new) (sym held_is)
    (inl (t, there, subst (λ (r : Option TypeParts). ShowsType r status old new) told shows))

-- the first instance from a name on is told, or none is there
pub instance-from : (held : Option (Output × Schema)) (output : Output) (s : Schema) (least name : ℕ) (line : Bor (List ℕ))
    (old new : InstanceLine) → held ≡ Some (output, s) → IsToldAt new name line → least ≤ name → IsKeptLine output.kept name line.now
    → ((other : ℕ) → least ≤ other → other < name → HasNoInstance output other) → TellsInstanceFrom held least done old new
instance-from held output s least name line old new held_is told from kept between =
    let Kept : ℕ → Type 0 = λ n. IsKeptLine output.kept n line.now in
    let From : ℕ → Type 0 = λ n. least ≤ n in
    let Between : ℕ → Type 0 = λ n. (other : ℕ) → least ≤ other → other < n → HasNoInstance output other in
    let here = sym told.0 in
    subst (λ (h : Option (Output × Schema)). TellsInstanceFrom h least done old new) (sym held_is)
    (inl (line, subst Kept here kept, (refl, told.1), subst From here from, subst Between here between, refl))

pub no-instance-from : (held : Option (Output × Schema)) (output : Output) (s : Schema) (least : ℕ) (old : InstanceLine)
    → held ≡ Some (output, s) → ((other : ℕ) → least ≤ other → HasNoInstance output other) → TellsInstanceFrom held least refused old old
no-instance-from held output s least old held_is none =
    subst (λ (h : Option (Output × Schema)). TellsInstanceFrom h least refused old old) (sym held_is) (inr (none, refl, refl))
