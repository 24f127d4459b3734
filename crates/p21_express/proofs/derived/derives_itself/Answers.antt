use Rattle.std.specs.Prelude.{◌≡◌, length, false, true, refl}
use Rattle.std.proofs.lemmas.Option.{slice_get_read}
use Rattle.p21_express.proofs.Deriving.{derives-at, derives-none}
use Rattle.p21_express.proofs.derived.derives_itself.Goals as goal

pub returns-in-Some : goal.returns-in-Some
returns-in-Some c =
    derives-at c.args.declared.now c.args.entity.0 c.in-Some.own.now c.deref.result.now c.args.name.now c.has_new.result
    (slice_get_read c.args.declared.now (length c.args.declared.now) c.args.entity.0 c.in-Some.own.now refl c.in-Some.ensures.lookup.3.0
    c.in-Some.ensures.lookup.1) c.deref.ensures.value c.has_new.ensures

pub returns-in-None : goal.returns-in-None
returns-in-None c = (
  λ no. let t : false ≡ true = no in
      cc,
  λ derives. absurd (derives-none c.args.declared.now c.args.entity.0 c.args.name.now c.in-None.ensures.lookup.3 derives),
)
