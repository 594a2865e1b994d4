use Rattle.std.proofs.Common.{ap, ◌∙◌, map, slice_get}
use Rattle.hc_modules.specs.declared.flat.ModuleStop.TheVariants.{RepeatedParameter}
use Rattle.hc_modules.proofs.Repeats.{passed, noted_more, repeated}
use Rattle.hc_modules.proofs.names.no_repeated_param.Goals as goal

pub returns-then-not-branch-clause-stop : goal.returns-then-not-branch-clause-stop
returns-then-not-branch-clause-stop c =
    ap (λ ps. slice_get (map RepeatedParameter ps) 0)
    (c.loop-param.invariant.found
    ∙ repeated (λ x. x.name) (λ x. x.place) c.args.params.now c.loop-param.param-index c.param-item.result c.loop-param-test.true c.param-item.is
    c.loop-param.names.keys c.loop-param.invariant.noted _ (c.in_ok-note.ensures {u = tt}).new (cc))

pub loop-param-preserved : goal.loop-param-preserved
loop-param-preserved c = record {
  noted = noted_more (λ x. x.name) (λ x. x.place) c.args.params.now c.loop-param.param-index c.param-item.result c.loop-param-test.true c.param-item.is
      c.loop-param.names.keys c.loop-param.invariant.noted _ (c.in_ok-note.ensures {u = tt}).new (cc) _ (c.in_ok-note.ensures {u = tt}).noted;
  found = c.loop-param.invariant.found
      ∙ passed (λ x. x.name) (λ x. x.place) c.args.params.now c.loop-param.param-index c.param-item.result c.loop-param-test.true c.param-item.is
      c.loop-param.names.keys c.loop-param.invariant.noted _ (c.in_ok-note.ensures {u = tt}).new (cc);
}
