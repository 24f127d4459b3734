-- What an entity redeclares, by its parts.
use Rattle.std.specs.Prelude.{◌≡◌, ℕ, List, ◌++◌, map, Result, Ok, Err, Vec}
use Rattle.std.specs.Prelude as std
use Rattle.std.specs.declared.alloc.Global.{Global}
use Rattle.std.specs.List.{AllZip, IsDistinct}
use Rattle.std.specs.Result.{IsErr, IsErrAnd}
use Rattle.std.proofs.Common.{ap, sym, ◌∙◌, subst}
use Rattle.p21_spec_schema.specs.DeclaredEntity.{same_place}
use Rattle.p21_spec_schema.specs.Schema as pure
use Rattle.p21_spec_schema.specs.Schema.{Schema, Place, Entity}
use Rattle.p21_spec_schema.specs.WellFormed.{HasDistinctEntities}
use Rattle.p21_express_outline.specs.Finding.{RefusalShows}
use Rattle.p21_express_outline.specs.declared.fault.SchemaFault.{SchemaFault}
use Rattle.p21_express.specs.Found.{HasDistinctAttributes, RedeclarationsFound}
use Rattle.p21_express_graph.specs.declared.schema_contents.Redeclarations.{Redeclarations}
use Rattle.p21_express_outline.specs.Outline.{Named, digest_redeclared_explicit, digest_redeclared_names}
use Rattle.p21_express_outline.specs.Redeclarations.{DigestRedeclaredIs, DigestDerivedAre, RedeclarationsAre}
use Rattle.p21_express_outline.proofs.OneSchema.{TellsPlaces, redeclares-one, derived-one}
use Rattle.p21_express_outline.proofs.Zips.{AllZip-one_mapped, map-twice}
use Rattle.p21_express_syntax.specs.Digest.{EntityDigest}
use Rattle.p21_express_graph.specs.SchemaContents.{redeclared}
use Rattle.p21_express_graph.specs.declared.schema_contents.Redeclared.{Redeclared}
use Rattle.p21_express_graph.specs.Meaning.{place}
use Rattle.p21_express_graph.specs.declared.number.Place as code

abbrev places_in : List pure.Redeclared → List Place → List Place
places_in rs ds = map (λ r. r.place) rs ++ ds

-- all redeclarations of an entity have the same places
places-one : (s : Schema) → TellsPlaces s → (n : Named) (entities : List EntityDigest) (e : ℕ) (x : EntityDigest)
    (rs : List pure.Redeclared) (ds : List Place) → AllZip (DigestRedeclaredIs s n e) (digest_redeclared_explicit x.explicit) rs
    → DigestDerivedAre s entities e (digest_redeclared_names x.derived) ds → (y : Entity) → RedeclarationsAre s n entities e x y
    → places_in y.redeclared y.derived ≡ places_in rs ds
places-one s tells n entities e x rs ds found derived y are =
    ap (λ ps. ps ++ y.derived) (AllZip-one_mapped (DigestRedeclaredIs s n e) (DigestRedeclaredIs s n e) (λ r. r.place)
    (λ k r q is is_. redeclares-one s tells e k.0.0 k.0.1 r.place q.place is.0 is_.0) (digest_redeclared_explicit x.explicit)
    y.redeclared rs are.redeclared_are found)
    ∙ ap (λ ps. map (λ r. r.place) rs ++ ps) (derived-one s tells entities e (digest_redeclared_names x.derived) y.derived ds
    are.derived_are derived)

-- the places of the code's redeclarations
abbrev pub code_places : List Redeclared → List code.Place → List Place
code_places rs ds = map (λ r. place r.place) rs ++ map place ds

code-places : (rs : List Redeclared) (ds : List code.Place) → places_in (map redeclared rs) (map place ds) ≡ code_places rs ds
code-places rs ds = ap (λ ps. ps ++ map place ds) (map-twice redeclared (λ r. r.place) rs)

-- a refusal handed on by `?`
pub found-refused : (s : Schema) (n : Named) (entities : List EntityDigest) (e : ℕ) (x : EntityDigest) (less : Type 0) (fault : SchemaFault)
    (result : Result Redeclarations SchemaFault) → IsErr result → IsErrAnd result (λ found. found ≡ fault)
    → ((y : Entity) → RedeclarationsAre s n entities e x y → less) → RefusalShows fault (less → ⊥)
    → RedeclarationsFound s n entities e x result
found-refused s n entities e x less fault (Ok u) is_err is so refused = cc
found-refused s n entities e x less fault (Err found) is_err is so refused = λ other y are. refused (λ h. other (is ∙ h)) (so y are)

-- where places are told apart, one place twice is twice in all
pub distinct-all : (s : Schema) → HasDistinctEntities s → HasDistinctAttributes s
    → (n : Named) (entities : List EntityDigest) (e : ℕ) (x : EntityDigest) (rs : List Redeclared) (ds : List code.Place)
    → AllZip (DigestRedeclaredIs s n e) (digest_redeclared_explicit x.explicit) (map redeclared rs)
    → DigestDerivedAre s entities e (digest_redeclared_names x.derived) (map place ds)
    → (y : Entity) → RedeclarationsAre s n entities e x y → IsDistinct same_place (code_places rs ds)
distinct-all s entities_distinct attributes_distinct n entities e x rs ds found derived y are =
    let tells : TellsPlaces s = record { one_entity = entities_distinct; one_own = attributes_distinct } in
    subst (IsDistinct same_place) (places-one s tells n entities e x (map redeclared rs) (map place ds) found derived y are
    ∙ code-places rs ds) are.places_distinct

pub all-found : (s : Schema) (n : Named) (entities : List EntityDigest) (e : ℕ) (x : EntityDigest) (rs : std.Vec Redeclared Global)
    (ds : std.Vec code.Place Global)
    → AllZip (DigestRedeclaredIs s n e) (digest_redeclared_explicit x.explicit) (map redeclared rs.items)
    → DigestDerivedAre s entities e (digest_redeclared_names x.derived) (map place ds.items)
    → IsDistinct same_place (code_places rs.items ds.items)
    → RedeclarationsFound s n entities e x (Ok (record { redeclared = rs; derived = ds }))
all-found s n entities e x rs ds found derived distinct y redeclared_is derived_is =
    let P : List pure.Redeclared → Type 0 = λ qs. AllZip (DigestRedeclaredIs s n e) (digest_redeclared_explicit x.explicit) qs in
    let Q : List pure.Redeclared → Type 0 = λ qs. IsDistinct same_place (places_in qs (map place ds.items)) in
    let R : List Place → Type 0 = λ ps. IsDistinct same_place (places_in y.redeclared ps) in
    record {
      redeclared_are = subst P (sym redeclared_is) found;
      derived_are = subst (DigestDerivedAre s entities e (digest_redeclared_names x.derived)) (sym derived_is) derived;
      places_distinct = subst R (sym derived_is) (subst Q (sym redeclared_is)
          (subst (IsDistinct same_place) (sym (code-places rs.items ds.items)) distinct));
    }
