use Rattle.std.proofs.Common.{sym, subst}
use Rattle.p21_stream_statements.proofs.Placing.{is-place}
use Rattle.p21_stream_statements.specs.Place.{IsPlaceOf}
use Rattle.p21_stream_sieve.proofs.placing.place_of.Goals as goal

pub returns-in-Token : goal.returns-in-Token
returns-in-Token c = subst (λ found. IsPlaceOf c.args.fault c.args.places.byte found) (sym c.of-place.ensures)
    (is-place c.args.fault c.args.places)

pub returns-in-DuplicateName : goal.returns-in-DuplicateName
returns-in-DuplicateName c = subst (λ found. IsPlaceOf c.args.fault c.args.places.byte found) (sym c.of-place.ensures)
    (is-place c.args.fault c.args.places)

pub returns-in-CanonicalTooLong : goal.returns-in-CanonicalTooLong
returns-in-CanonicalTooLong c = subst (λ found. IsPlaceOf c.args.fault c.args.places.byte found) (sym c.of-place.ensures)
    (is-place c.args.fault c.args.places)

pub returns-in-Dangling : goal.returns-in-Dangling
returns-in-Dangling c = subst (λ found. IsPlaceOf c.args.fault c.args.places.byte found) (sym c.of-place.ensures)
    (is-place c.args.fault c.args.places)

pub returns-in-WrongTarget : goal.returns-in-WrongTarget
returns-in-WrongTarget c = subst (λ found. IsPlaceOf c.args.fault c.args.places.byte found) (sym c.of-place.ensures)
    (is-place c.args.fault c.args.places)

pub returns-in-NoMemory : goal.returns-in-NoMemory
returns-in-NoMemory c = subst (λ found. IsPlaceOf c.args.fault c.args.places.byte found) (sym c.of-place.ensures)
    (is-place c.args.fault c.args.places)

pub returns-in-Read : goal.returns-in-Read
returns-in-Read c = subst (λ found. IsPlaceOf c.args.fault c.args.places.byte found) (sym c.of-place.ensures)
    (is-place c.args.fault c.args.places)

pub returns-in-Write : goal.returns-in-Write
returns-in-Write c = subst (λ found. IsPlaceOf c.args.fault c.args.places.byte found) (sym c.of-place.ensures)
    (is-place c.args.fault c.args.places)

pub returns-in-Grammar : goal.returns-in-Grammar
returns-in-Grammar c = subst (λ f. IsPlaceOf f c.args.places.byte c.inside_or.result) (sym c.in-Grammar.is) tt

pub returns-in-Check : goal.returns-in-Check
returns-in-Check c = subst (λ f. IsPlaceOf f c.args.places.byte c.inside_or-in-Check.result) (sym c.in-Check.is) tt

pub returns-in-SchemaName : goal.returns-in-SchemaName
returns-in-SchemaName c = subst (λ f. IsPlaceOf f c.args.places.byte c.inside_or-in-SchemaName.result) (sym c.in-SchemaName.is) tt

pub returns-in-SectionTwice : goal.returns-in-SectionTwice
returns-in-SectionTwice c = subst (λ f. IsPlaceOf f c.args.places.byte c.inside_or-in-SectionTwice.result) (sym c.in-SectionTwice.is) tt
