use Rattle.std.proofs.Common.{refl, ap, sym, Err, subst, List, ℕ, arith}
use Rattle.hc_world.specs.Reading.{ReadsAll}
use Rattle.hc_cmd.specs.Running.{running}
use Rattle.hc_cmd.proofs.Finding.{text_readies, unread_readies, usage_readies}
use Rattle.hc_cmd.proofs.running.prepare_run.Goals as goal

pub returns-in-Err-Usage : goal.returns-in-Err-Usage
returns-in-Err-Usage g c =
    usage_readies running g.S.Source.state _ c.args.source.now c.args.source.now ((c.in-Err-Usage.ensures {u = tt}).usage (ap Err c.in-Err-Usage.field-0-is)) refl

pub returns-in-Err : goal.returns-in-Err
returns-in-Err g c =
    unread_readies running g.S.Source.state _ c.args.source.now c.text_of.new.source c.in-Ok.asked (c.in-Ok.ensures {u = tt}).asked refl
    c.in-Err.refusal (c.in-Err.ensures {u = tt})

pub returns-in-Ok-text_of : goal.returns-in-Ok-text_of
returns-in-Ok-text_of g c =
    let told = c.in-Ok-text_of.ensures {u = tt} in
    let text = c.as_slice.ensures.value in
    text_readies running g.S.Source.state _ c.args.source.now c.text_of.new.source c.in-Ok.asked c.as_slice.result.now
    (c.in-Ok.ensures {u = tt}).asked refl
    (subst (λ (bs : List ℕ). ReadsAll (g.S.Source.state c.args.source.now).left (g.S.Source.state c.text_of.new.source).left bs) (sym text) told.0.0)
    (omega (arith, told.1, c.as_slice.ensures.len)) told.0.1 c.prepare_run_of.result c.prepare_run_of.ensures
