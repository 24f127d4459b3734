-- The laws of values, as the contract has them.
use Rattle.p21_spec_laws.proofs.CanonicalValue.{canonical_at-text}
use Rattle.p21_spec_laws.proofs.SameTexts.{same-exactly_texts_at, canonical-once, canonical-there}
use Rattle.p21_spec_laws.specs.ValueLaws.{CanonicalHasValueText, OneCanonicalParameter, OneValue, OneValueAtPlace, TextsTellValues}
use Rattle.p21_spec_file.proofs.OneValue.{Fits-one_value, FitsAt-one_value}

pub one-value : OneValue
one-value s formed kinds others type p v w = Fits-one_value s kinds others formed.types_distinct type p v w

pub one-value_at : OneValueAtPlace
one-value_at s formed kinds others at p v w = FitsAt-one_value s kinds others formed.types_distinct at p v w

pub texts-tell : TextsTellValues
texts-tell s formed kinds others at v w (p, fit, written) (q, fit_, written_) = same-exactly_texts_at s formed.types_distinct kinds others at p q v w fit fit_ written written_

pub canonical-has_text : CanonicalHasValueText
canonical-has_text = canonical_at-text

pub one-canonical : OneCanonicalParameter
one-canonical s formed kinds at v (p, fit, written) =
    let (q, is) = canonical-there s kinds at v p fit written in
    (q, is, λ other also. canonical-once s formed.types_distinct kinds at v q other is also)
