-- The exit statuses that a command answers.
use Rattle.std.specs.Prelude.{ℕ}

-- the answer was written
abbrev pub done : ℕ
done = 0

-- the input is refused
abbrev pub refused : ℕ
refused = 1

-- the command line has a mistake
abbrev pub usage : ℕ
usage = 2

-- memory ran out, or the input could not be read, or the answer or the fault line not be written
abbrev pub failed : ℕ
failed = 3
