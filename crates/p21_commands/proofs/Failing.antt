-- Which calls failed, in a step of a command and in the steps together.
use Rattle.std.proofs.Common.{◌≡◌, List, [], ◌∷◌, ◌++◌, inl, inr}
use Rattle.p21_commands.specs.Failures.{Failures, FailedBy, NoneFailed}
use Rattle.p21_commands.specs.declared.fault.CommandFault.{CommandFault}
use Rattle.p21_commands.specs.declared.fault.CommandFault.TheVariants.{Refused, NoMemory, Read, Write}

pub none_more : (some others : List Failures) → NoneFailed some → NoneFailed others → NoneFailed (some ++ others)
none_more [] others a b = b
none_more (first ∷ some) others a b = (a.0, none_more some others a.1 b)

-- a fault before anything was written
pub before_writing : (readers writers : List Failures) (fault : CommandFault) → FailedBy readers [] fault → NoneFailed writers
    → FailedBy readers writers fault
before_writing readers writers (Refused line) a b = (a.0, b)
before_writing readers writers NoMemory a b = (a.0, b)
before_writing readers writers Read a b = (a.0, b)
before_writing readers writers Write a b = absurd a.1

-- a fault of the first reader, before the others were read
pub before_reading : (first : Failures) (others writers : List Failures) (fault : CommandFault) → FailedBy (first ∷ []) writers fault
    → NoneFailed others → FailedBy (first ∷ others) writers fault
before_reading first others writers (Refused line) a b = ((a.0.0, b), a.1)
before_reading first others writers NoMemory a b = ((a.0.0, b), a.1)
before_reading first others writers Read (inl failed, written) b = (inl (failed.0, b), written)
before_reading first others writers Read (inr kept, written) b = absurd kept.1
before_reading first others writers Write a b = ((a.0.0, b), a.1)

-- a fault after the first reader was read
pub after_reading : (first : Failures) (others writers : List Failures) (fault : CommandFault) → first.after ≡ first.before
    → FailedBy others writers fault → FailedBy (first ∷ others) writers fault
after_reading first others writers (Refused line) e a = ((e, a.0), a.1)
after_reading first others writers NoMemory e a = ((e, a.0), a.1)
after_reading first others writers Read e a = (inr (e, a.0), a.1)
after_reading first others writers Write e a = ((e, a.0), a.1)
