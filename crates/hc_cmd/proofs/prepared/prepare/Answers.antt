use Rattle.std.proofs.Common.{◌≡◌, ◌≤◌, ◌∙◌, refl, ap, sym, Err, subst, List, ℕ, length, true, false, arith}
use Rattle.hc_world.specs.Reading.{ReadsAll}
use Rattle.hc_cmd.specs.Answers.{answering, reads_source}
use Rattle.hc_cmd.specs.Prepared.{GivesNone}
use Rattle.hc_cmd.proofs.Finding.{alone_readies, text_readies, unread_readies, usage_readies}
use Rattle.hc_cmd.proofs.prepared.prepare.Goals as goal

pub returns-in-Err-Usage : goal.returns-in-Err-Usage
returns-in-Err-Usage g c =
    usage_readies answering g.S.Source.state _ c.args.source.now c.args.source.now ((c.in-Err-Usage.ensures {u = tt}).usage (ap Err c.in-Err-Usage.field-0-is)) refl

pub returns-then-not-reads_source : goal.returns-then-not-reads_source
returns-then-not-reads_source g c =
    let none : reads_source c.in-Ok.request ≡ false = sym c.reads_source.ensures ∙ c.if-not-reads_source.true in
    alone_readies answering g.S.Source.state _ c.args.source.now c.args.source.now c.in-Ok.request (c.in-Ok.ensures {u = tt}).asked none refl
    c.prepare_text.result c.prepare_text.ensures

pub returns-in-Err : goal.returns-in-Err
returns-in-Err g c =
    let reads : reads_source c.in-Ok.request ≡ true = sym c.reads_source.ensures ∙ c.if-not-reads_source.false in
    unread_readies answering g.S.Source.state _ c.args.source.now c.text_of.new.source c.in-Ok.request (c.in-Ok.ensures {u = tt}).asked reads
    c.in-Err.refusal
    (subst (λ (n : ℕ). GivesNone g.S.Source.state n c.args.source.now c.text_of.new.source c.in-Err.refusal) c.most_bytes_of-most.ensures (c.in-Err.ensures {u = tt}))

pub returns-in-Ok-text_of : goal.returns-in-Ok-text_of
returns-in-Ok-text_of g c =
    let reads : reads_source c.in-Ok.request ≡ true = sym c.reads_source.ensures ∙ c.if-not-reads_source.false in
    let told = c.in-Ok-text_of.ensures {u = tt} in
    let text = c.as_slice.ensures.value in
    text_readies answering g.S.Source.state _ c.args.source.now c.text_of.new.source c.in-Ok.request c.as_slice.result.now
    (c.in-Ok.ensures {u = tt}).asked reads
    (subst (λ (bs : List ℕ). ReadsAll (g.S.Source.state c.args.source.now).left (g.S.Source.state c.text_of.new.source).left bs) (sym text) told.0.0)
    (subst (λ (n : ℕ). length c.as_slice.result.now ≤ n) c.most_bytes_of-most.ensures (omega (arith, told.1, c.as_slice.ensures.len))) told.0.1 c.prepare_text-in-Ok-text_of.result c.prepare_text-in-Ok-text_of.ensures
