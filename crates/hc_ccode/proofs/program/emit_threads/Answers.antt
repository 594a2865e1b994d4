use Rattle.std.proofs.Common.{◌≡◌, ◌<◌, List, length, get_or, refl, subst}
use Rattle.hc_cast.specs.declared.program.CBody.{CBody}
use Rattle.hc_ccode.proofs.Making.{thread_more}
use Rattle.hc_ccode.proofs.program.emit_threads.Goals as goal

pub loop-body-preserved : goal.loop-body-preserved
loop-body-preserved c =
    let i = c.loop-body.body-index in
    let b = c.body-item.result in
    let inside = subst (λ (bs : List CBody). i < length bs) c.as_slice-body-items.ensures c.loop-body-test.true in
    let item = subst (λ (bs : List CBody). b ≡ get_or bs i b) c.as_slice-body-items.ensures c.body-item.is in
    thread_more c.args.program.now c.loop-body.code c.emit_entry.new.code c.args.program.now.functions c.args.functions.now c.loop-body.entries c.push.new.self
    c.loop-body.body-index c.body-item.result c.in_ok-emit_entry.field-0 c.len-known.result _ c.len-known.ensures inside item
    c.loop-body.invariant refl c.in_ok-emit_entry.ensures c.in_ok-push.ensures.ok
