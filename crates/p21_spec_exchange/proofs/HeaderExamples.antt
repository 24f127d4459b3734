-- Header records that have the shape of the standard's, and neighbours that have not.
use Rattle.std.proofs.Common.{◌≡◌, ℕ, true, false, pos, List, [], ◌∷◌, refl, ap, sym, ◌∙◌, subst, inl, inr}
use Rattle.std.specs.Prelude.{codes}
use Rattle.std.specs.List.{AllByRecursion as Each}
use Rattle.p21_spec_exchange.specs.Header.{IsFileDescription, IsFileName, IsFileSchema, IsFurtherRecord, IsHeader, IsTextOrUnset}
use Rattle.p21_spec_exchange.specs.Parameter.{Key, Param, dollar, star, whole, text, name, list, no_params, key_of, params_of}
use Rattle.p21_spec_exchange.specs.Record.{Part}

abbrev part_of : List ℕ → List Param → Part
part_of word ps = record { key = key_of word; params = params_of ps }

abbrev empty : Param
empty = text []

abbrev texts : List Param → Param
texts ps = list (params_of ps)

-- `FILE_DESCRIPTION($,$)`, `FILE_DESCRIPTION((),$)`, `FILE_DESCRIPTION(($,''),$)`
all_unset : IsFileDescription (part_of (codes "FILE_DESCRIPTION") (dollar ∷ dollar ∷ []))
all_unset = (refl, (inl refl, (inl refl, tt)))

no_text : IsFileDescription (part_of (codes "FILE_DESCRIPTION") (texts [] ∷ dollar ∷ []))
no_text = (refl, (inr (no_params, refl, tt), (inl refl, tt)))

unset_within : IsFileDescription (part_of (codes "FILE_DESCRIPTION") (texts (dollar ∷ empty ∷ []) ∷ dollar ∷ []))
unset_within = (refl, (inr (params_of (dollar ∷ empty ∷ []), refl, (inl refl, (inr ([], refl), tt))), (inl refl, tt)))

-- a text where a list of texts is wanted: `FILE_DESCRIPTION('',$)`
text_for_list : IsFileDescription (part_of (codes "FILE_DESCRIPTION") (empty ∷ dollar ∷ [])) → ⊥
text_for_list (key, (inl is, rest)) = cc
text_for_list (key, (inr (ps, is, are), rest)) = cc

-- a list where a text is wanted: `FILE_DESCRIPTION($,())`; a list in a list; `*`
not_text : (p : Param) → (p ≡ dollar → ⊥) → ((chars : List ℕ) → p ≡ text chars → ⊥) → IsTextOrUnset p → ⊥
not_text p not_dollar not_chars (inl is) = not_dollar is
not_text p not_dollar not_chars (inr (chars, is)) = not_chars chars is

list_for_text : IsFileDescription (part_of (codes "FILE_DESCRIPTION") (dollar ∷ texts [] ∷ [])) → ⊥
list_for_text (key, (first, (second, rest))) = not_text (texts []) (λ h. cc) (λ chars h. cc) second

star_for_text : IsFileDescription (part_of (codes "FILE_DESCRIPTION") (dollar ∷ star ∷ [])) → ⊥
star_for_text (key, (first, (second, rest))) = not_text star (λ h. cc) (λ chars h. cc) second

-- FILE_NAME takes seven parameters
seven : IsFileName (part_of (codes "FILE_NAME") (empty ∷ dollar ∷ texts [] ∷ dollar ∷ empty ∷ empty ∷ dollar ∷ []))
seven = (refl, (inr ([], refl), (inl refl, (inr (no_params, refl, tt), (inl refl, (inr ([], refl), (inr ([], refl), (inl refl, tt))))))))

six : IsFileName (part_of (codes "FILE_NAME") (empty ∷ dollar ∷ texts [] ∷ dollar ∷ empty ∷ empty ∷ [])) → ⊥
six (key, (a, (b, (c, (d, (e, (f, none))))))) = none

eight : IsFileName (part_of (codes "FILE_NAME") (empty ∷ dollar ∷ texts [] ∷ dollar ∷ empty ∷ empty ∷ dollar ∷ empty ∷ [])) → ⊥
eight (key, (a, (b, (c, (d, (e, (f, (g, more)))))))) = more

-- FILE_SCHEMA takes a list of exactly one text
one_text : IsFileSchema (part_of (codes "FILE_SCHEMA") (texts (text (codes "DEMO") ∷ []) ∷ [])) (codes "DEMO")
one_text = (refl, refl)

no_schema : (chars : List ℕ) → IsFileSchema (part_of (codes "FILE_SCHEMA") (dollar ∷ [])) chars → ⊥
no_schema chars h = let e = h.1 in (cc)

empty_list : (chars : List ℕ) → IsFileSchema (part_of (codes "FILE_SCHEMA") (texts [] ∷ [])) chars → ⊥
empty_list chars h = let e = h.1 in (cc)

unset_schema : (chars : List ℕ) → IsFileSchema (part_of (codes "FILE_SCHEMA") (texts (dollar ∷ []) ∷ [])) chars → ⊥
unset_schema chars h = let e = h.1 in (cc)

two_schemas : (chars : List ℕ) → IsFileSchema (part_of (codes "FILE_SCHEMA") (texts (empty ∷ empty ∷ []) ∷ [])) chars → ⊥
two_schemas chars h = let e = h.1 in (cc)

-- a further record may have the keyword ENDSEC, or `!FILE_NAME`, but not FILE_NAME
other_word : (word word_ : List ℕ) → (word ≡ word_ → ⊥) → key_of word ≡ key_of word_ → ⊥
other_word word word_ differ same = differ (ap (λ (key : Key). key.word) same)

endsec_further : IsFurtherRecord (part_of (codes "ENDSEC") (whole (pos 1) ∷ star ∷ []))
endsec_further = record {
  no_file_description = other_word (codes "ENDSEC") (codes "FILE_DESCRIPTION") (λ h. cc);
  no_file_name = other_word (codes "ENDSEC") (codes "FILE_NAME") (λ h. cc);
  no_file_schema = other_word (codes "ENDSEC") (codes "FILE_SCHEMA") (λ h. cc);
  no_names = (tt, (tt, (tt, (tt, (tt, (tt, tt))))));
}

user_key : Key
user_key = record { user = true; word = codes "FILE_NAME" }

user_is_other : (word : List ℕ) → user_key ≡ key_of word → ⊥
unfolding user_key
user_is_other word same = let h : true ≡ false = ap (λ (key : Key). key.user) same in cc

user_further : IsFurtherRecord (record { key = user_key; params = no_params })
unfolding user_key
user_further = record {
  no_file_description = user_is_other (codes "FILE_DESCRIPTION");
  no_file_name = user_is_other (codes "FILE_NAME");
  no_file_schema = user_is_other (codes "FILE_SCHEMA");
  no_names = (tt, (tt, (tt, tt)));
}

file_name_again : (ps : List Param) → IsFurtherRecord (part_of (codes "FILE_NAME") ps) → ⊥
file_name_again ps further = further.no_file_name refl

-- it holds no instance name, in a list neither
name_within : IsFurtherRecord (part_of (codes "OWNER") (texts (name 1 ∷ []) ∷ [])) → ⊥
name_within further = further.no_names.1.1.1.0

-- two records are no header, nor three in another order, nor three and the first again
abbrev description : Part
description = part_of (codes "FILE_DESCRIPTION") (dollar ∷ dollar ∷ [])

abbrev file_name : Part
file_name = part_of (codes "FILE_NAME") (empty ∷ dollar ∷ texts [] ∷ dollar ∷ empty ∷ empty ∷ dollar ∷ [])

abbrev file_schema : Part
file_schema = part_of (codes "FILE_SCHEMA") (texts (text (codes "DEMO") ∷ []) ∷ [])

two_records : (schema : List ℕ) → IsHeader (description ∷ file_name ∷ []) schema → ⊥
two_records schema h = let e = h.header_is in cc

other_order : (schema : List ℕ) → IsHeader (description ∷ file_schema ∷ file_name ∷ []) schema → ⊥
other_order schema h =
    let e = h.header_is in
    let second : file_schema ≡ h.file_name = cc in
    other_word (codes "FILE_SCHEMA") (codes "FILE_NAME") (λ words. cc) (ap (λ (part : Part). part.key) second ∙ h.is_file_name.0)

first_again : (schema : List ℕ) → IsHeader (description ∷ file_name ∷ file_schema ∷ description ∷ []) schema → ⊥
first_again schema h =
    let e = h.header_is in
    let further : description ∷ [] ≡ h.further = cc in
    let are : Each IsFurtherRecord (description ∷ []) = subst (Each IsFurtherRecord) (sym further) h.are_further in
    are.0.no_file_description refl
