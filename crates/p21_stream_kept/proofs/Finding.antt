-- What is found of an instance, from its check and its text.
use Rattle.std.proofs.Common.{◌≡◌, ◌⊎◌, ◌+◌, ◌∷◌, ◌++◌, ◌∙◌, List, [], ℕ, length, map, Ok, add-one, ap, inl, refl, sym, subst}
use Rattle.std.specs.List.{AllByRecursion as Each}
use Rattle.std.specs.List.Sorted.{IsPermutation}
use Rattle.std.specs.Prelude.{◌↔◌, Bool, Contains, IsTrue}
use Rattle.p21_spec_basics.proofs.Members.{Each-of_members}
use Rattle.p21_spec_basics.specs.Limits.{Limits}
use Rattle.p21_canon.proofs.Statements.{statement-instance}
use Rattle.p21_canon.specs.Statement.{AppendsStatement}
use Rattle.p21_spec_laws.specs.CompleteFile.{Entry}
use Rattle.p21_spec_laws.specs.Keeping.{IsServedBy, Kept}
use Rattle.p21_spec_laws.specs.Stored.{IsAmongEarlier, KeptLines, StoredEntry, kept_text}
use Rattle.p21_spec_laws.specs.Waiting.{Reference}
use Rattle.p21_spec_laws.proofs.CanonicalLaid.{laid-each_spelled}
use Rattle.p21_spec_laws.proofs.GraphicTexts.{lines-graphic}
use Rattle.p21_spec_exchange.specs.Token.{IsSpelled, semicolon}
use Rattle.p21_spec_exchange.specs.CanonicalText.{tokens_text}
use Rattle.p21_spec_exchange.specs.Record.{Record, record_tokens}
use Rattle.p21_spec_exchange.specs.Statement.{Statement, instance, statement_tokens}
use Rattle.p21_spec_exchange.specs.Text.{IsGraphic}
use Rattle.p21_spec_file.specs.CanonicalTexts.{IsInstanceText}
use Rattle.p21_spec_file.specs.Meaning.{Typed}
use Rattle.p21_spec_file.specs.Reference.{Need}
use Rattle.p21_express_graph.specs.declared.number.EntityId.{EntityId}
use Rattle.p21_mapping.specs.Checked.{IsChecked, needs_view}
use Rattle.p21_mapping_values.specs.TypedView.{ids_view}
use Rattle.p21_mapping_values.specs.declared.need.Need as mapping
use Rattle.p21_spec_schema.specs.Schema.{Schema}
use Rattle.p21_stream_output.specs.Output.{IsNamed}
use Rattle.p21_stream_output.specs.Ending.{AreNamed}
use Rattle.p21_stream_store.specs.StoredInstance.{StoredInstance}
use Rattle.p21_stream_kept.proofs.Instances.{took-instance}
use Rattle.p21_stream_kept.specs.Found.{HasFound}
use Rattle.p21_stream_kept.specs.Inside.{AreNamedWhereKept}
use Rattle.p21_stream_kept.specs.Served.{with_needs}
use Rattle.p21_stream_kept.specs.Steps.{FitsLimits, StepGives}

pub found : (s : Schema) (n : ℕ) (r : Record) (m : Typed) (needs : List Need) → IsChecked s r m needs → (text : List ℕ)
    → AppendsStatement s n m [] text → HasFound s n r m.entities needs text
found s n r m needs checked text (own, is, statement) =
    let P : List ℕ → Type 0 = λ bytes. IsInstanceText s n r bytes in
    record {
      meaning = m;
      meant = checked.means;
      entities_are = refl;
      printed = subst P (sym is) (statement-instance s n m own statement checked.means.kinds r checked.means.means);
    }

-- its line begins with its name, and holds graphic bytes alone
pub found-named : (s : Schema) (n : ℕ) (r : Record) (entities : List ℕ) (needs : List Need) (text : List ℕ)
    → HasFound s n r entities needs text → IsNamed n text
found-named s n r entities needs text is =
    let statement : Statement = instance n is.printed.canonical in
    let spelled : Each IsSpelled (statement_tokens statement) = laid-each_spelled text (statement_tokens statement) is.printed.laid in (
      (tokens_text (record_tokens is.printed.canonical ++ (semicolon ∷ [])), is.printed.text_is),
      subst (Each IsGraphic)
          (sym is.printed.text_is) (lines-graphic statement spelled),
    )

-- where lines are kept, the text that is kept of it begins so too
pub named-kept : (lines later : KeptLines) → later ≡ lines → (old new : List StoredInstance) (n : ℕ) (line : List ℕ) → IsNamed n line
    → AreNamedWhereKept lines old → (AreNamed old → IsNamed n (kept_text lines line) → AreNamed new) → AreNamedWhereKept later new
named-kept lines later same old new n line named was more =
    record {
      where_kept = λ yes. more (was.where_kept (sym same ∙ yes))
          (subst (λ (b : KeptLines). IsNamed n (kept_text b line)) (sym (sym same ∙ yes)) named);
    }

-- the same is found, where the lists are the same
pub found-same : (s : Schema) (n : ℕ) (r : Record) (es fs : List EntityId) (ns ms : List mapping.Need) (xs ys : List ℕ) → fs ≡ es → ms ≡ ns
    → ys ≡ xs → HasFound s n r (ids_view es) (needs_view ns) xs → HasFound s n r (ids_view fs) (needs_view ms) ys
found-same s n r es fs ns ms xs ys same_entities same_needs same_text is =
    let E : List EntityId → Type 0 = λ a. HasFound s n r (ids_view a) (needs_view ns) xs in
    let N : List mapping.Need → Type 0 = λ a. HasFound s n r (ids_view fs) (needs_view a) xs in
    let T : List ℕ → Type 0 = λ a. HasFound s n r (ids_view fs) (needs_view ms) a in
    subst T (sym same_text) (subst N (sym same_needs) (subst E (sym same_entities) is))

-- ---- the step

-- all of it is kept
pub took-found : (s : Schema) (limits : Limits) (old new : Kept) (n : ℕ) (r : Record) (entities : List ℕ) (needs : List Need)
    (text : List ℕ) → HasFound s n r entities needs text → (Contains (map (λ (x : StoredEntry). x.name) old.stored) n → ⊥)
    → (waiting : List Reference) → waiting ≡ with_needs n needs old.waiting → (number : ℕ) → number + 1 ≡ length old.headings
    → (stored : List StoredEntry) → IsPermutation (record
    { name = n; section = number; entities = entities; text = kept_text old.lines text } ∷ old.stored) stored
    → (equal : Bool) → IsTrue equal ↔ (IsTrue old.equal × IsAmongEarlier old.lines (n, text))
    → FitsLimits limits (old.bytes + old.framing) (length text)
    → new ≡ record old {
      equal = equal;
      stored = stored;
      waiting = waiting;
      references = old.references + length needs;
      bytes =
          old.bytes + length text;
      framing = old.framing + 1;
    } → StepGives s limits old (instance n r) (Ok tt) new
took-found s limits old new n r entities needs text is none waiting adds number last stored permuted equal is_equal room same =
    let entry : Entry = record { name = n; record_ = r; meaning = is.meaning; needs = needs; text = text } in
    let P : List ℕ → Type 0 = λ es. IsPermutation (record
    { name = n; section = number; entities = es; text = kept_text old.lines text } ∷ old.stored) stored in
    let W : List Reference → Kept = λ w. record old {
      equal = equal;
      stored = stored;
      waiting = w;
      references =
          old.references + length needs;
      bytes = old.bytes + length text;
      framing = old.framing + 1;
    } in
    took-instance s limits old new entry (record { meant = is.meant; printed = is.printed; within = room.0 }) none needs
    (Each-of_members (Contains needs) needs (λ need among. among))
    (Each-of_members (λ (need : Need). Contains needs need ⊎ IsServedBy s old.stored need) needs (λ need among. inl among)) number
    (sym (add-one number) ∙ last) stored (subst P (sym is.entities_are) permuted) equal is_equal room (same ∙ ap W adds)
