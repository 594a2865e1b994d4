use Rattle.std.proofs.Common.{ap, ◌∙◌, map, slice_get}
use Rattle.hc_modules.specs.declared.flat.ModuleStop.TheVariants.{RepeatedModule}
use Rattle.hc_modules.proofs.Repeats.{passed, noted_more, repeated}
use Rattle.hc_modules.proofs.names.no_repeated_module.Goals as goal

pub returns-then-not-branch-clause-stop : goal.returns-then-not-branch-clause-stop
returns-then-not-branch-clause-stop c =
    ap (λ ps. slice_get (map RepeatedModule ps) 0)
    (c.loop-module.invariant.found
    ∙ repeated (λ x. x.name) (λ x. x.place) c.args.modules.now c.loop-module.module-index c.module-item.result c.loop-module-test.true c.module-item.is
    c.loop-module.names.keys c.loop-module.invariant.noted _ (c.in_ok-note.ensures {u = tt}).new (cc))

pub loop-module-preserved : goal.loop-module-preserved
loop-module-preserved c = record {
  noted = noted_more (λ x. x.name) (λ x. x.place) c.args.modules.now c.loop-module.module-index c.module-item.result c.loop-module-test.true c.module-item.is
      c.loop-module.names.keys c.loop-module.invariant.noted _ (c.in_ok-note.ensures {u = tt}).new (cc) _ (c.in_ok-note.ensures {u = tt}).noted;
  found = c.loop-module.invariant.found
      ∙ passed (λ x. x.name) (λ x. x.place) c.args.modules.now c.loop-module.module-index c.module-item.result c.loop-module-test.true c.module-item.is
      c.loop-module.names.keys c.loop-module.invariant.noted _ (c.in_ok-note.ensures {u = tt}).new (cc);
}
