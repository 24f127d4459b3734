use Rattle.std.proofs.Common.{◌≡◌, ◌+◌, ◌<◌, inl, ℕ, true, refl, ap, subst, arith}
use Rattle.p21_stream_log.proofs.Openings.{not-true}
use Rattle.p21_stream_log.specs.Going.{BeginsAnew, GoOnGives}
use Rattle.p21_stream_log.specs.Log.{Held}
use Rattle.p21_stream_log.proofs.log.Log.pass_to.Goals as goal

pub returns-then-go_on-clause-gives : goal.returns-then-go_on-clause-gives
returns-then-go_on-clause-gives c =
    let start_is : c.self.inside.start ≡ c.args.self.now.start = ap (λ (h : Held). h.start) c.self.view_is in
    let place_is : c.in-Some.place ≡ c.args.self.now.start + c.args.count = omega (arith, c.in-Some.ensures, start_is) in (
      refl,
      λ mark. not-true (c.if-is_file_mark.ensures.1 mark),
      subst (λ (n : ℕ). GoOnGives c.args.self.now n true c.go_on.new.self)
          place_is c.if-go_on.ensures.gives,
    )

pub returns-else-go_on-clause-gives : goal.returns-else-go_on-clause-gives
returns-else-go_on-clause-gives c =
    let start_is : c.self.inside.start ≡ c.args.self.now.start = ap (λ (h : Held). h.start) c.self.view_is in
    let place_is : c.in-Some.place ≡ c.args.self.now.start + c.args.count = omega (arith, c.in-Some.ensures, start_is) in (
      c.if-go_on.ensures.gives.0,
      λ mark. not-true (c.if-is_file_mark.ensures.1 mark),
      λ s limits known point stood. inl (subst (λ (n : ℕ). limits.file_source < n) place_is
          (c.if-go_on.ensures.gives.1 s limits known point stood)),
    )

pub returns-then-go_on-clause-begins : goal.returns-then-go_on-clause-begins
returns-then-go_on-clause-begins c =
    let start_is : c.self.inside.start ≡ c.args.self.now.start = ap (λ (h : Held). h.start) c.self.view_is in
    let place_is : c.in-Some.place ≡ c.args.self.now.start + c.args.count = omega (arith, c.in-Some.ensures, start_is) in
    subst (λ (n : ℕ). BeginsAnew n c.go_on.new.self) place_is (c.if-go_on.ensures.begins refl)
