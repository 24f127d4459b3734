-- What instances by name hold.
use Rattle.std.specs.Prelude.{◌≡◌, ℕ, length, Contains}
use Rattle.p21_stream_store.specs.Seen.{MayHaveCome}
use Rattle.p21_stream_store.specs.declared.named_lines.NamedLines.TheInside.{Inside}

pub record IsSound (a : Inside) : Type 0 where
  -- each name has a text
  pub texts : length a.names ≡ length a.texts.lines
  -- the bit of each small name is set
  pub seen : (name : ℕ) → Contains a.names name → MayHaveCome a.seen.items name
