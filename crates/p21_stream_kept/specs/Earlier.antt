-- A file that was read before.
use Rattle.std.specs.List.{IsDistinct}
use Rattle.std.specs.Prelude.{◌≡◌, ℕ, Bool, IsTrue, List, length, nat_eq}
use Rattle.p21_spec_laws.specs.Stored.{Earlier}
use Rattle.p21_stream_output.specs.Ending.{stored_of}
use Rattle.p21_stream_output.specs.Filing.{AreOfSections, HaveMemberships}
use Rattle.p21_stream_kept.specs.declared.earlier.Earlier.TheInside.{Inside}
use Rattle.p21_spec_exchange.specs.DataSection.{Heading}
use Rattle.p21_stream_store.specs.StoredInstance.{StoredInstance, instance_names}

abbrev pub earlier_in : Inside → Earlier
earlier_in a = record { header = a.header.items; headings = a.sections; stored = stored_of a.memberships a.instances }

-- no two instances have one name, each has the number of a membership, and each membership is of a data section
pub record IsEarlier (a : Inside) : Type 0 where
  pub once : IsDistinct nat_eq (instance_names a.instances)
  pub memberships : HaveMemberships a.memberships a.instances
  pub sections : AreOfSections (length a.sections) a.memberships

-- Each line was one of the earlier file, the header lines are the same bytes, and there are as many instances and headings
pub record HasCounts (earlier : Earlier) (equal : Bool) (header : List ℕ) (headings : List Heading) (names : List StoredInstance) : Type
    0 where
  pub lines_are : IsTrue equal
  pub as_many_lines : length names ≡ length earlier.stored
  pub header_is : header ≡ earlier.header
  pub as_many_headings : length headings ≡ length earlier.headings
