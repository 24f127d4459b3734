use Rattle.p21_shorter_tokens.proofs.Found.{none_to, some_to}
use Rattle.p21_shorter_instances.proofs.Scalars.{at-type, boolean-taken, logical-taken, number-taken, real-taken, whole-taken}
use Rattle.p21_shorter_instances.proofs.scalar.append_simple.Goals as goal
use Rattle.p21_values.proofs.Continuing.{continues-same}

pub returns-in-Whole-clause-some : goal.returns-in-Whole-clause-some
returns-in-Whole-clause-some c = some_to _ (λ count h. at-type _ _ _ count _ _ c.in-Whole.is (whole-taken _ count _ _ h.0 h.1))
    c.append_whole.ensures.some

pub returns-in-Real-clause-some : goal.returns-in-Real-clause-some
returns-in-Real-clause-some c = some_to _ (λ count h. at-type _ _ _ count _ _ c.in-Real.is (real-taken _ count _ _ h))
    c.append_single_real.ensures.some

pub returns-in-Number-clause-some : goal.returns-in-Number-clause-some
returns-in-Number-clause-some c = some_to _ (λ count h. at-type _ _ _ count _ _ c.in-Number.is (number-taken _ count _ _ h))
    c.append_single_real-in-Number.ensures.some

pub returns-in-Boolean-clause-some : goal.returns-in-Boolean-clause-some
returns-in-Boolean-clause-some c = some_to _ (λ count h. at-type _ _ _ count _ _ c.in-Boolean.is (boolean-taken _ count _ _ h.0 h.1 h.2))
    c.append_logical.ensures.some

pub returns-in-Boolean-clause-none : goal.returns-in-Boolean-clause-none
returns-in-Boolean-clause-none c = none_to _ (continues-same _ _) c.append_logical.ensures.none

pub returns-in-Logical-clause-some : goal.returns-in-Logical-clause-some
returns-in-Logical-clause-some c = some_to _ (λ count h. at-type _ _ _ count _ _ c.in-Logical.is (logical-taken _ count _ _ h.0 h.1 h.2))
    c.append_logical-in-Logical.ensures.some

pub returns-in-Logical-clause-none : goal.returns-in-Logical-clause-none
returns-in-Logical-clause-none c = none_to _ (continues-same _ _) c.append_logical-in-Logical.ensures.none

pub returns-in-Text-clause-some : goal.returns-in-Text-clause-some
returns-in-Text-clause-some c = some_to _ (λ count h. at-type _ _ _ count _ _ c.in-Text.is h) c.append_string.ensures.some

pub returns-in-Bits-clause-some : goal.returns-in-Bits-clause-some
returns-in-Bits-clause-some c = some_to _ (λ count h. at-type _ _ _ count _ _ c.in-Bits.is h) c.append_binary.ensures.some
