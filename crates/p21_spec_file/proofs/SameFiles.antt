-- Sameness of parameters, parts and meanings of files is reflexive, symmetric and transitive.
use Rattle.std.specs.Prelude.{List, [], ◌∷◌, refl, ℕ}
use Rattle.std.specs.List.{AllZip}
use Rattle.std.proofs.Common.{sym, ◌∙◌}
use Rattle.p21_spec_exchange.specs.Parameter.{Param, dollar, star, whole, real, text, name, item, bits, list, typed, Params, no_params, param}
use Rattle.p21_spec_exchange.specs.Record.{Part}
use Rattle.p21_spec_file.specs.SameValue.{SameInOrder}
use Rattle.p21_spec_file.specs.Meaning.{Typed}
use Rattle.p21_spec_file.specs.File.{FileMeaning}
use Rattle.p21_spec_file.specs.SameFile.{HaveSameMembers, SameParam, both_dollar, both_star, same_wholes, same_reals, same_texts, same_names, same_items, same_bits, same_lists, same_typed, SameParams, both_end, both_next, SamePart, SameTyped, AreInstancesAmong, SameFileMeaning}
use Rattle.p21_spec_file.proofs.Sameness.{SameInOrder-reflexive, SameInOrder-symmetric}
use Rattle.p21_spec_file.proofs.Transitive.{SameInOrder-transitive}
use Rattle.p21_spec_exchange.proofs.Ratios.{decimals-transitive}

AllZip-reflexive : {A : Type 0} (R : A → A → Type 0) → ((x : A) → R x x) → (xs : List A) → AllZip R xs xs
AllZip-reflexive R reflexive [] = tt
AllZip-reflexive R reflexive (x ∷ xs) = (reflexive x, AllZip-reflexive R reflexive xs)

AllZip-symmetric : {A : Type 0} (R : A → A → Type 0) → ((x y : A) → R x y → R y x) → (xs ys : List A) → AllZip R xs ys → AllZip R ys xs
AllZip-symmetric R symmetric [] [] all = tt
AllZip-symmetric R symmetric [] (y ∷ ys) all = absurd all
AllZip-symmetric R symmetric (x ∷ xs) [] all = absurd all
AllZip-symmetric R symmetric (x ∷ xs) (y ∷ ys) all = (symmetric x y all.0, AllZip-symmetric R symmetric xs ys all.1)

mutual
  pub SameParam-reflexive : (p : Param) → SameParam p p
  SameParam-reflexive dollar = both_dollar
  SameParam-reflexive star = both_star
  SameParam-reflexive (whole z) = same_wholes z
  SameParam-reflexive (real d) = same_reals d d refl
  SameParam-reflexive (text chars) = same_texts chars
  SameParam-reflexive (name n) = same_names n
  SameParam-reflexive (item word) = same_items word
  SameParam-reflexive (bits bs) = same_bits bs
  SameParam-reflexive (list ps) = same_lists ps ps (SameParams-reflexive ps)
  SameParam-reflexive (typed key p) = same_typed key p p (SameParam-reflexive p)

  pub SameParams-reflexive : (ps : Params) → SameParams ps ps
  SameParams-reflexive no_params = both_end
  SameParams-reflexive (param p ps) = both_next p p ps ps (SameParam-reflexive p) (SameParams-reflexive ps)

mutual
  pub SameParam-symmetric : (p q : Param) → SameParam p q → SameParam q p
  SameParam-symmetric p q both_dollar = both_dollar
  SameParam-symmetric p q both_star = both_star
  SameParam-symmetric p q (same_wholes a) = same_wholes a
  SameParam-symmetric p q (same_reals a b ratio) = same_reals b a (sym ratio)
  SameParam-symmetric p q (same_texts a) = same_texts a
  SameParam-symmetric p q (same_names a) = same_names a
  SameParam-symmetric p q (same_items a) = same_items a
  SameParam-symmetric p q (same_bits a) = same_bits a
  SameParam-symmetric p q (same_lists ps qs same) = same_lists qs ps (SameParams-symmetric ps qs same)
  SameParam-symmetric p q (same_typed key a b same) = same_typed key b a (SameParam-symmetric a b same)

  pub SameParams-symmetric : (ps qs : Params) → SameParams ps qs → SameParams qs ps
  SameParams-symmetric ps qs both_end = both_end
  SameParams-symmetric ps qs (both_next a b as_ bs same more) = both_next b a bs as_ (SameParam-symmetric a b same) (SameParams-symmetric as_ bs more)

pub SamePart-reflexive : (part : Part) → SamePart part part
SamePart-reflexive part = (refl, SameParams-reflexive part.params)

pub SamePart-symmetric : (a b : Part) → SamePart a b → SamePart b a
SamePart-symmetric a b same = (sym same.0, SameParams-symmetric a.params b.params same.1)

pub SameTyped-reflexive : (x : Typed) → SameTyped x x
SameTyped-reflexive x = (refl, AllZip-reflexive SameInOrder SameInOrder-reflexive x.values)

pub SameTyped-symmetric : (x y : Typed) → SameTyped x y → SameTyped y x
SameTyped-symmetric x y same = (sym same.0, AllZip-symmetric SameInOrder SameInOrder-symmetric x.values y.values same.1)

HaveSameMembers-reflexive : {A : Type 0} (xs : List A) → HaveSameMembers xs xs
HaveSameMembers-reflexive xs x = (λ among. among, λ among. among)

HaveSameMembers-symmetric : {A : Type 0} (xs ys : List A) → HaveSameMembers xs ys → HaveSameMembers ys xs
HaveSameMembers-symmetric xs ys same x = ((same x).1, (same x).0)

HaveSameMembers-transitive : {A : Type 0} (xs ys zs : List A) → HaveSameMembers xs ys → HaveSameMembers ys zs → HaveSameMembers xs zs
HaveSameMembers-transitive xs ys zs first second x = (λ among. (second x).0 ((first x).0 among), λ among. (first x).1 ((second x).1 among))

pub SameFileMeaning-reflexive : (m : FileMeaning) → SameFileMeaning m m
SameFileMeaning-reflexive m = record {
  header = AllZip-reflexive SamePart SamePart-reflexive m.header;
  schema = refl;
  sections = HaveSameMembers-reflexive m.sections;
  onto = own;
  back = own;
  instance_sections = HaveSameMembers-reflexive m.instance_sections;
}
  where
    own : AreInstancesAmong m.instances m.instances
    own n x among = (x, among, SameTyped-reflexive x)

pub SameFileMeaning-symmetric : (a b : FileMeaning) → SameFileMeaning a b → SameFileMeaning b a
SameFileMeaning-symmetric a b same = record {
  header = AllZip-symmetric SamePart SamePart-symmetric a.header b.header same.header;
  schema = sym same.schema;
  sections = HaveSameMembers-symmetric a.sections b.sections same.sections;
  onto = same.back;
  back = same.onto;
  instance_sections = HaveSameMembers-symmetric a.instance_sections b.instance_sections same.instance_sections;
}

mutual
  pub SameParam-transitive : (q p r : Param) → SameParam p q → SameParam q r → SameParam p r
  SameParam-transitive dollar p r both_dollar h = h
  SameParam-transitive star p r both_star h = h
  SameParam-transitive (whole z) p r (same_wholes _) h = h
  SameParam-transitive (real b) p r (same_reals a _ first) (same_reals _ c second) = same_reals a c (decimals-transitive a b c first second)
  SameParam-transitive (text chars) p r (same_texts _) h = h
  SameParam-transitive (name n) p r (same_names _) h = h
  SameParam-transitive (item word) p r (same_items _) h = h
  SameParam-transitive (bits bs) p r (same_bits _) h = h
  SameParam-transitive (list qs) p r (same_lists ps _ first) (same_lists _ rs second) = same_lists ps rs (SameParams-transitive qs ps rs first second)
  SameParam-transitive (typed key q) p r (same_typed _ a _ first) (same_typed _ _ b second) = same_typed key a b (SameParam-transitive q a b first second)

  pub SameParams-transitive : (qs ps rs : Params) → SameParams ps qs → SameParams qs rs → SameParams ps rs
  SameParams-transitive no_params ps rs both_end both_end = both_end
  SameParams-transitive (param q qs) ps rs (both_next p _ ps_ _ first firsts) (both_next _ r _ rs_ second seconds) = both_next p r ps_ rs_ (SameParam-transitive q p r first second) (SameParams-transitive qs ps_ rs_ firsts seconds)

AllZip-transitive : {A : Type 0} (R : A → A → Type 0) → ((x y z : A) → R x y → R y z → R x z) → (xs ys zs : List A) → AllZip R xs ys → AllZip R ys zs → AllZip R xs zs
AllZip-transitive R transitive [] [] [] first second = tt
AllZip-transitive R transitive [] [] (z ∷ zs) first second = absurd second
AllZip-transitive R transitive [] (y ∷ ys) zs first second = absurd first
AllZip-transitive R transitive (x ∷ xs) [] zs first second = absurd first
AllZip-transitive R transitive (x ∷ xs) (y ∷ ys) [] first second = absurd second
AllZip-transitive R transitive (x ∷ xs) (y ∷ ys) (z ∷ zs) first second = (transitive x y z first.0 second.0, AllZip-transitive R transitive xs ys zs first.1 second.1)

pub SamePart-transitive : (a b c : Part) → SamePart a b → SamePart b c → SamePart a c
SamePart-transitive a b c first second = (first.0 ∙ second.0, SameParams-transitive b.params a.params c.params first.1 second.1)

pub SameTyped-transitive : (x y z : Typed) → SameTyped x y → SameTyped y z → SameTyped x z
SameTyped-transitive x y z first second = (first.0 ∙ second.0, AllZip-transitive SameInOrder (λ us vs ws. SameInOrder-transitive vs us ws) x.values y.values z.values first.1 second.1)

AreAmong-transitive : (a b c : List (ℕ × Typed)) → AreInstancesAmong a b → AreInstancesAmong b c → AreInstancesAmong a c
AreAmong-transitive a b c first second n x among =
    let (y, among_b, same) = first n x among in
    let (z, among_c, same_) = second n y among_b in
    (z, among_c, SameTyped-transitive x y z same same_)

pub SameFileMeaning-transitive : (a b c : FileMeaning) → SameFileMeaning a b → SameFileMeaning b c → SameFileMeaning a c
SameFileMeaning-transitive a b c first second = record {
  header = AllZip-transitive SamePart SamePart-transitive a.header b.header c.header first.header second.header;
  schema = first.schema ∙ second.schema;
  sections = HaveSameMembers-transitive a.sections b.sections c.sections first.sections second.sections;
  onto = AreAmong-transitive a.instances b.instances c.instances first.onto second.onto;
  back = AreAmong-transitive c.instances b.instances a.instances second.back first.back;
  instance_sections = HaveSameMembers-transitive a.instance_sections b.instance_sections c.instance_sections first.instance_sections second.instance_sections;
}
