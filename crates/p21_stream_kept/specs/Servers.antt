-- What is remembered of the entities that serve needs.
use Rattle.std.specs.Prelude.{ℕ, IsSome}
use Rattle.std.specs.BTreeMap.{get}
use Rattle.p21_express_graph.specs.declared.kind.Member.{Member}
use Rattle.p21_express_graph.specs.declared.kind.Member.TheVariants.{Entity, Defined}
use Rattle.p21_stream_kept.specs.declared.servers.Servers.{Servers}
use Rattle.p21_stream_store.specs.Memberships.{by_pair}

-- for the set of this number it is remembered which of its entities serves what is wanted, or that none does
abbrev pub Remembers : Servers → Member → ℕ → Type 0
Remembers servers (Entity entity) set = IsSome (get by_pair servers.of_entities (set, entity.0))
Remembers servers (Defined select) set = IsSome (get by_pair servers.of_selects (set, select.0))
