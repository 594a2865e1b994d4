use Rattle.std.proofs.Common.{ap, sym, ◌∙◌, length, take, zip}
use Rattle.std.specs.Option.{option_or}
use Rattle.std.proofs.lemmas.List.{length_push}
use Rattle.std.proofs.lemmas.Slice.Zip.{zip_turn, zip_end}
use Rattle.hc_modules.specs.Tables.{argument_in, argument_for}
use Rattle.hc_modules.proofs.Bound.{argument_more, zip_more, zip_whole}
use Rattle.hc_modules.proofs.call.table_of.Goals as goal

pub loop-param-preserved : goal.loop-param-preserved
loop-param-preserved c =
    let ps = c.args.params.now in
    let es = c.args.arguments.now in
    let k = c.args.kind in
    let p = c.in-Some.param.now in
    let e = c.in-Some.argument.now in
    let n = length c.loop-param.yielded in
    let turn = zip_turn ps es c.loop-param.yielded c.into_iter-param-iterator.result c.loop-param.param-iterator c.next.new.self c.next.result (cc) (cc)
    c.loop-param.yielded_by (c.in-Some.param, c.in-Some.argument) c.in-Some.is c.next.ensures.steps in
    λ x. c.in_ok-bind.ensures {u = tt} x
    ∙ ap (λ o. option_or o (argument_for k (p, e) x)) (c.loop-param.invariant x)
    ∙ sym (argument_more k (take n (zip ps es)) (p, e) x)
    ∙ ap (λ bs. argument_in k bs x) (sym (zip_more ps es n p e turn.0 turn.1 (turn.2 _) (turn.3 _)))
    ∙ ap (λ m. argument_in k (take m (zip ps es)) x) (sym (length_push c.loop-param.yielded (c.in-Some.param, c.in-Some.argument)))

pub returns : goal.returns
returns c =
    let ps = c.args.params.now in
    let es = c.args.arguments.now in
    let whole = zip_end ps es c.loop-param.yielded c.into_iter-param-iterator.result c.loop-param.param-iterator c.next.new.self c.next.result (cc) (cc)
    c.loop-param.yielded_by c.in-None.is c.next.ensures.steps in
    λ x. c.loop-param.invariant x ∙ ap (λ bs. argument_in c.args.kind bs x) (zip_whole ps es (length c.loop-param.yielded) whole)
