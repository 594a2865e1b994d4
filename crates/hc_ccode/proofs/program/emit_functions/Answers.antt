use Rattle.std.proofs.Common.{◌≡◌, ◌<◌, List, length, get_or, subst}
use Rattle.hc_cast.specs.declared.program.CFunction.{CFunction}
use Rattle.hc_ccode.proofs.Making.{function_calls, function_more}
use Rattle.hc_ccode.proofs.program.emit_functions.Goals as goal

pub emit_entry-requires-clause-called : goal.emit_entry-requires-clause-called
emit_entry-requires-clause-called c =
    let i = c.loop-known.known in
    let f = c.function-item.result in
    let inside = subst (λ (fs : List CFunction). i < length fs) c.as_slice-function-items.ensures c.loop-known-test.true in
    let item = subst (λ (fs : List CFunction). f ≡ get_or fs i f) c.as_slice-function-items.ensures c.function-item.is in
    function_calls c.args.program.now c.requires.called c.loop-known.known c.function-item.result inside item

pub loop-known-preserved : goal.loop-known-preserved
loop-known-preserved c =
    let i = c.loop-known.known in
    let f = c.function-item.result in
    let inside = subst (λ (fs : List CFunction). i < length fs) c.as_slice-function-items.ensures c.loop-known-test.true in
    let item = subst (λ (fs : List CFunction). f ≡ get_or fs i f) c.as_slice-function-items.ensures c.function-item.is in
    function_more c.args.program.now c.loop-known.code c.emit_entry.new.code c.loop-known.known c.function-item.result c.loop-known.entries c.push.new.self
    c.in_ok-emit_entry.field-0 c.as_slice.result.now inside item c.loop-known.invariant c.as_slice.ensures
    c.in_ok-emit_entry.ensures c.in_ok-push.ensures.ok
