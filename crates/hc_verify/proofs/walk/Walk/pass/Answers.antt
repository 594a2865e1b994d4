use Rattle.std.proofs.Common.{refl, ap, subst, ◌∙◌, Some}
use Rattle.std.proofs.lemmas.Bool.{false≢true}
use Rattle.hc_rational.specs.Words.{Rational}
use Rattle.hc_term.specs.Posts.{Took}
use Rattle.hc_term.specs.Step.{passing, delayed}
use Rattle.hc_verify.specs.Stands.{IsAt}
use Rattle.hc_verify.proofs.TimePasses.{took_once}
use Rattle.hc_verify.proofs.walk.Walk.pass.Goals as goal

pub returns-then-not-is_same : goal.returns-then-not-is_same
returns-then-not-is_same c before r e =
    let p = c.in-Some.ensures before r in
    false≢true (c.if-not-is_same.ensures.1 (took_once (passing c.args.task.now before) c.in-Some.most c.args.by p.passes e))

pub let_pass-requires : goal.let_pass-requires
let_pass-requires c = record {
  passes = (c.args.task.now, c.requires.run.0, c.in-Some.ensures c.requires.run.0 c.requires.run.1);
}

pub returns : goal.returns
returns c before r =
    let t = c.args.task.now in
    let p = c.in-Some.ensures before r in
    let same = c.if-not-is_same.ensures.0 refl in (
      p.passes ∙ ap (λ (z : Rational). Some (Took z)) same,
      subst (λ (z : Rational). IsAt t.system c.let_pass.new.self (delayed z before)) same (c.let_pass.ensures t before p),
    )
