use Rattle.std.proofs.Common.{◌+◌, arith}
use Rattle.std.proofs.lemmas.Result.{err_from_is_err_and}
use Rattle.hc_crun.proofs.Along.{along_start, stopped_at_start, along_item, ended_at_item, stopped_at_item, used_up}
use Rattle.hc_crun.proofs.telling.tell_items.Goals as goal

pub returns-in_err-put_piece : goal.returns-in_err-put_piece
returns-in_err-put_piece g c at =
    let exit = err_from_is_err_and c.from_residual.result c.from_residual.ensures.1 in
    rw exit.1 (stopped_at_start g.O.Sink.state c.args.out.now c.args.program.now c.args.seed c.args.steps c.put_piece.new.sink c.args.machine.now at c.in_err-put_piece.ensures)

pub loop-done-init : goal.loop-done-init
loop-done-init g c at =
    along_start g.O.Sink.state c.args.out.now c.args.program.now c.args.seed c.args.steps c.put_piece.new.sink c.args.machine.now c.new-words.result
    c.new-words.ensures at c.in_ok-put_piece.ensures

pub returns-in_err-end : goal.returns-in_err-end
returns-in_err-end g c at =
    let exit = err_from_is_err_and c.from_residual-in_err-end.result c.from_residual-in_err-end.ensures.1 in
    let a = c.loop-done.invariant at in
    rw exit.1 (stopped_at_item g.O.Sink.state c.args.out.now c.args.program.now c.args.seed c.args.steps
    c.loop-done.out c.loop-done.machine c.tell_item.new.machine c.loop-done.done c.next_word-word.result c.loop-done.words c.next_word-word.new.self
    a c.loop-done-test.true c.next_word-word.ensures (c.tell_item.ensures.at a.reached a.at) c.tell_item.new.out
    (c.in_err-end.ensures.puts a.reached a.at))

pub returns-in-Some : goal.returns-in-Some
returns-in-Some g c at =
    let a = c.loop-done.invariant at in
    ended_at_item g.O.Sink.state c.args.out.now c.args.program.now c.args.seed c.args.steps
    c.loop-done.out c.loop-done.machine c.tell_item.new.machine c.loop-done.done c.next_word-word.result c.loop-done.words c.next_word-word.new.self
    a c.loop-done-test.true c.next_word-word.ensures (c.tell_item.ensures.at a.reached a.at) c.tell_item.new.out
    (c.loop-done.done + 1) c.in_ok-end.field-0 c.in-Some.end (omega arith) (c.in_ok-end.ensures.puts a.reached a.at)
    (c.in_ok-end.ensures.end a.reached a.at) c.in-Some.is

pub loop-done-preserved : goal.loop-done-preserved
loop-done-preserved g c at =
    let a = c.loop-done.invariant at in
    along_item g.O.Sink.state c.args.out.now c.args.program.now c.args.seed c.args.steps
    c.loop-done.out c.loop-done.machine c.tell_item.new.machine c.loop-done.done c.next_word-word.result c.loop-done.words c.next_word-word.new.self
    a c.loop-done-test.true c.next_word-word.ensures (c.tell_item.ensures.at a.reached a.at) c.tell_item.new.out
    (c.loop-done.done + 1) c.in_ok-end.field-0 (omega arith) (c.in_ok-end.ensures.puts a.reached a.at)
    (c.in_ok-end.ensures.end a.reached a.at) c.in_default.is

pub returns : goal.returns
returns g c at =
    used_up g.O.Sink.state c.args.out.now c.args.program.now c.args.seed c.args.steps
    c.loop-done.out c.loop-done.machine c.loop-done.done c.loop-done.words c.loop-done-test.false (c.loop-done.invariant at)
