-- What holds of a value that there may be, or where there is none.
use Rattle.std.specs.Prelude.{Option, Some, None, IfNone, IfSome}

pub some_to : {A : Type 0} {P Q : A → Type 0} (found : Option A) → ((x : A) → P x → Q x) → IfSome found P → IfSome found Q
some_to None follows h = tt
some_to (Some x) follows h = follows x h

pub none_to : {A : Type 0} {P Q : Type 0} (found : Option A) → (P → Q) → IfNone found P → IfNone found Q
none_to None follows h = follows h
none_to (Some x) follows h = tt
