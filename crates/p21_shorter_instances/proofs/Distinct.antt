-- Elements whose texts differ are distinct.
use Rattle.std.proofs.Common.{ℕ, false, List, ◌∷◌, sym, subst, Contains}
use Rattle.p21_spec_basics.proofs.Members.{Contains-first, Contains-later}
use Rattle.p21_spec_laws.proofs.Needs.{assignment, each-servable, served-each}
use Rattle.p21_spec_laws.proofs.OfType.{EachOf, OfType, fit_each-of, of_next, of_none, params-written}
use Rattle.p21_spec_laws.proofs.TextsFromSame.{text-from_same}
use Rattle.p21_spec_laws.specs.Needs.{FitEachWithNeeds}
use Rattle.p21_spec_exchange.specs.Parameter.{Params, params_tokens}
use Rattle.p21_spec_file.specs.Reference.{Need}
use Rattle.p21_spec_file.specs.SameValue.{Among, AreDistinct, here, there}
use Rattle.p21_spec_file.specs.Value.{Value, Values}
use Rattle.p21_spec_file.specs.ValueText.{value_text, value_texts}
use Rattle.p21_mapping_values.specs.SplitTexts.{NoneTwice}
use Rattle.p21_spec_schema.specs.Schema.{Schema, TypeUse}
use Rattle.p21_spec_schema.specs.WellFormed.{HasDistinctTypes}
use Rattle.p21_shorter_instances.specs.TakenValues.{LaidBefore}
use Rattle.p21_shorter_instances.proofs.LaidRuns.{laid-spelled}

elements-of : (s : Schema) (type : TypeUse) (ps : Params) (vs : Values) (needs : List Need) (bytes rest : List ℕ)
    → FitEachWithNeeds s false type ps vs needs
    → LaidBefore bytes (params_tokens ps) rest → EachOf s false type vs
elements-of s type ps vs needs bytes rest each laid =
    let (kinds, served) = assignment s needs (each-servable s false type ps vs needs each) in
    fit_each-of s kinds false type ps vs (served-each s kinds false type ps vs needs each served)
    (params-written ps (laid-spelled bytes rest (params_tokens ps) laid))

among-text : (s : Schema) → HasDistinctTypes s → (type : TypeUse) (v : Value) → OfType s type v → (vs : Values) → EachOf s false type vs
    → Among v vs
    → Contains (value_texts s vs) (value_text s v)
among-text s distinct type v of vs (of_none _ _) among = elim among [ ]
among-text s distinct type v of vs (of_next _ _ w ws of_ each) (here _ _ _ same) =
    subst (λ (text : List ℕ). Contains (value_text s w ∷ value_texts s ws) text) (sym (text-from_same s distinct type v w of of_ same))
    (Contains-first (value_text s w) (value_texts s ws))
among-text s distinct type v of vs (of_next _ _ w ws of_ each) (there _ _ _ among) =
    Contains-later (value_text s w) (value_texts s ws) (value_text s v) (among-text s distinct type v of ws each among)

distinct-by_texts : (s : Schema) → HasDistinctTypes s → (type : TypeUse) (vs : Values) → EachOf s false type vs
    → NoneTwice (value_texts s vs) → AreDistinct vs
distinct-by_texts s distinct type vs (of_none _ _) none = tt
distinct-by_texts s distinct type vs (of_next _ _ v ws of each) none =
    ((λ some among. none.0 (among-text s distinct type v of ws each among)), distinct-by_texts s distinct type ws each none.1)

pub elements-distinct : (s : Schema) → HasDistinctTypes s
    → (type : TypeUse) (ps : Params) (vs : Values) (needs : List Need) (bytes rest : List ℕ)
    → FitEachWithNeeds s false type ps vs needs → LaidBefore bytes (params_tokens ps) rest → NoneTwice (value_texts s vs) → AreDistinct vs
elements-distinct s distinct type ps vs needs bytes rest each laid none =
    distinct-by_texts s distinct type vs (elements-of s type ps vs needs bytes rest each laid) none
