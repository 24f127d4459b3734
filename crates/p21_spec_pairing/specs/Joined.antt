-- Two files as one population of instances.
use Rattle.std.specs.Prelude.{ℕ, suc, ◌+◌, [], ◌++◌}
use Rattle.p21_spec_file.specs.File.{FileMeaning}
use Rattle.p21_spec_numbering.specs.Renamed.{renamed}

-- the name among both for an instance of the first, and for one of the second
abbrev pub of_first : ℕ → ℕ
of_first n = n + n

abbrev pub of_second : ℕ → ℕ
of_second n = suc (n + n)

-- the instances of both: each refers to those of its own file
abbrev pub joined : FileMeaning → FileMeaning → FileMeaning
joined a b = record {
  header = [];
  schema = a.schema;
  sections = [];
  instances = (renamed of_first a).instances ++ (renamed of_second b).instances;
  instance_sections = (renamed of_first a).instance_sections ++ (renamed of_second b).instance_sections;
}
