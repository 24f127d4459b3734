use Rattle.std.specs.Prelude.{◌≡◌, ℕ, List, Some, Contains, length, map, slice_get, slice_index_or}
use Rattle.std.specs.List.{AllZip}
use Rattle.std.proofs.Common.{arith, ap, sym, ◌∙◌, subst, Bor}
use Rattle.p21_express_graph.specs.declared.number.EntityId.{EntityId}
use Rattle.p21_spec_schema.specs.Schema.{EntityNamed}
use Rattle.p21_express_graph.specs.Orders.{numbers}
use Rattle.p21_express_graph.specs.SchemaContents.{entity, schema_of}
use Rattle.p21_express_graph.specs.Rising.{texts_of}
use Rattle.p21_express_graph.proofs.Gatherings.{mapped-length, map-map}
use Rattle.p21_express_graph.proofs.RisingNames.{sorted-among, found-entity, found-each, found-rising, found-size}
use Rattle.p21_express_graph.proofs.ranking.rank_entities.Goals as goal

pub entities_named-requires-clause-among : goal.entities_named-requires-clause-among
entities_named-requires-clause-among c name among =
    let s = schema_of c.args.parts.now in
    let all : texts_of c.in_ok-names.names.items ≡ map (λ x. x.name) s.entities = c.in_ok-names.ensures ∙ ap (map (λ x. x.name)) c.deref.ensures.value ∙ map-map (λ x. x.name) entity c.args.parts.now.entities.items in
    let P : List (Bor (List ℕ)) → Type 0 = λ texts. Contains (texts_of texts) name in
    sorted-among s c.in_ok-names.names.items c.sort_unstable.new.self.items all c.sort_unstable.ensures.permutation name (subst P c.deref-2.ensures.value among)

pub ranks_of-requires-clause-within : goal.ranks_of-requires-clause-within
ranks_of-requires-clause-within c e among =
    let s = schema_of c.args.parts.now in
    let all : texts_of c.in_ok-names.names.items ≡ map (λ x. x.name) s.entities = c.in_ok-names.ensures ∙ ap (map (λ x. x.name)) c.deref.ensures.value ∙ map-map (λ x. x.name) entity c.args.parts.now.entities.items in
    let rising : List ℕ = numbers c.in_ok-rising.rising.items in
    let P : List (Bor (List ℕ)) → Type 0 = λ texts. AllZip (EntityNamed s) rising (texts_of texts) in
    let Q : List EntityId → Type 0 = λ es. Contains (numbers es) e in
    let below = found-entity s c.in_ok-names.names.items c.sort_unstable.new.self.items all c.sort_unstable.ensures.permutation c.requires.holds.entities_distinct rising (subst P c.deref-2.ensures.value c.in_ok-rising.ensures) e (subst Q c.deref-3.ensures.value among) in
    omega (arith, below, c.len.ensures, mapped-length entity c.args.parts.now.entities.items, c.args.parts.now.entities.ok.0)

pub ranks_of-requires-clause-few : goal.ranks_of-requires-clause-few
ranks_of-requires-clause-few c =
    let s = schema_of c.args.parts.now in
    let all : texts_of c.in_ok-names.names.items ≡ map (λ x. x.name) s.entities = c.in_ok-names.ensures ∙ ap (map (λ x. x.name)) c.deref.ensures.value ∙ map-map (λ x. x.name) entity c.args.parts.now.entities.items in
    let rising : List ℕ = numbers c.in_ok-rising.rising.items in
    let P : List (Bor (List ℕ)) → Type 0 = λ texts. AllZip (EntityNamed s) rising (texts_of texts) in
    let size = found-size s c.in_ok-names.names.items c.sort_unstable.new.self.items all c.sort_unstable.ensures.permutation c.requires.holds.entities_distinct rising (subst P c.deref-2.ensures.value c.in_ok-rising.ensures) in
    let few = c.requires.holds.few in
    omega (arith, few, size, mapped-length (λ e. e.0) c.in_ok-rising.rising.items, ap length c.deref-3.ensures.value)

pub returns : goal.returns
returns c =
    let s = schema_of c.args.parts.now in
    let all : texts_of c.in_ok-names.names.items ≡ map (λ x. x.name) s.entities = c.in_ok-names.ensures ∙ ap (map (λ x. x.name)) c.deref.ensures.value ∙ map-map (λ x. x.name) entity c.args.parts.now.entities.items in
    let rising : List ℕ = numbers c.in_ok-rising.rising.items in
    let P : List (Bor (List ℕ)) → Type 0 = λ texts. AllZip (EntityNamed s) rising (texts_of texts) in
    let named : AllZip (EntityNamed s) rising (texts_of c.sort_unstable.new.self.items) = subst P c.deref-2.ensures.value c.in_ok-rising.ensures in
    record {
      names_rise = found-rising s c.in_ok-names.names.items c.sort_unstable.new.self.items all c.sort_unstable.ensures.permutation c.requires.holds.entities_distinct rising named c.sort_unstable.ensures.sorted;
      size = omega (arith, c.in_ok-ranks.ensures.size, c.len.ensures, mapped-length entity c.args.parts.now.entities.items, c.args.parts.now.entities.ok.0);
      each = λ e below.
          let Q : List EntityId → Type 0 = λ es. Contains (numbers es) e in
          let R : List EntityId → Type 0 = λ es. slice_get (numbers es) (slice_index_or c.in_ok-ranks.ranks.items e 0) ≡ Some e in
          let there = found-each s c.in_ok-names.names.items c.sort_unstable.new.self.items all c.sort_unstable.ensures.permutation c.requires.holds.entities_distinct rising named e below in
          subst R c.deref-3.ensures.value (c.in_ok-ranks.ensures.each e (subst Q (sym c.deref-3.ensures.value) there));
    }
