-- What is remembered of the sets of memberships: whether they serve what is wanted.
use Rattle.std.specs.Prelude.{◌≡◌, ◌↔◌, ℕ, Bool, List, Option, Some, slice_get, IsTrue}
use Rattle.std.specs.List.{AllByRecursion as Each}
use Rattle.p21_express_graph.specs.Meaning.{member}
use Rattle.p21_spec_file.specs.Reference.{Serves}
use Rattle.p21_spec_laws.specs.Stored.{StoredEntry}
use Rattle.p21_spec_laws.specs.Waiting.{Reference}
use Rattle.p21_spec_schema.specs.Schema.{Member, Schema}
use Rattle.p21_stream_kept.specs.Served.{AnswersNeed}
use Rattle.p21_stream_kept.specs.declared.judgements.Judgement.{Judgement}
use Rattle.p21_stream_statements.specs.declared.fault.Fault.{Fault}
use Rattle.p21_stream_store.specs.Memberships.{Membership}

-- whether the set of the membership of a number serves what is wanted
abbrev pub Serving : Schema → List Membership → Member → ℕ → Bool → Type 0
Serving s memberships wanted number serves = (own : Membership) → slice_get memberships number ≡ Some own → IsTrue serves
    ↔ Serves s wanted own.entities

-- each judgement is right
abbrev pub AreRight : Schema → List Membership → List Judgement → Type 0
AreRight s memberships judgements = Each (λ (j : Judgement). Serving s memberships (member j.wanted) j.membership j.serves) judgements

-- the need of a reference is served, or it is refused
abbrev pub AnswersNeedOf : Schema → List StoredEntry → Reference → Option Fault → Type 0
AnswersNeedOf s stored reference answer = AnswersNeed s stored reference.1 answer
