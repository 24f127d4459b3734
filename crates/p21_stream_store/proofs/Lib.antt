mod BlockLemmas
mod InstanceLemmas
mod PositionLemmas
mod LineLemmas
mod StoredTextLemmas
mod RunLemmas
mod SeenLemmas
mod NotedLemmas
mod NamedMembershipLemmas
mod PageLemmas
mod RoomLemmas
mod TextLemmas
pub mod OrderLemmas
mod Numbering
mod SetNumbers
mod LaneLemmas
mod Interning
