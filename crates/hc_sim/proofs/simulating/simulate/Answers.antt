use Rattle.std.proofs.Common.{◌≡◌, refl, sym, ap, subst, ◌∙◌, Ok}
use Rattle.std.proofs.lemmas.Result.{err_from_is_err_and}
use Rattle.hc_term.specs.declared.task.Task.{Task}
use Rattle.hc_term.specs.Canonical.{canonical}
use Rattle.hc_world.specs.Sinks.{IsCut}
use Rattle.hc_joint.specs.Keeps.{HasCourse}
use Rattle.hc_sim.specs.Told.{canonical_text}
use Rattle.hc_sim.proofs.Untouched.{untouched}
use Rattle.hc_sim.proofs.Turning.{along_from, cut_in_text, along_turn, turn_ends, turn_keeps, cut_at_start, cut_in_turn, along_end, end_there, ended_along}
use Rattle.hc_sim.proofs.simulating.simulate.Goals as goal

pub returns-in_err-put_text-clause-text : goal.returns-in_err-put_text-clause-text
returns-in_err-put_text-clause-text g c =
    let s = c.args.joint.now in
    let exit = err_from_is_err_and c.from_residual.result c.from_residual.ensures.1 in
    let first = untouched s c.put_text.ensures.keeps c.requires.history c.requires.stop in
    rw exit.1 (cut_in_text g.O.Sink.state c.args.out.now c.put_text.new.out s first c.in_err-put_text.ensures.puts)

pub returns-in_err-put_text-clause-failed : goal.returns-in_err-put_text-clause-failed
returns-in_err-put_text-clause-failed g c =
    let s = c.args.joint.now in
    let exit = err_from_is_err_and c.from_residual.result c.from_residual.ensures.1 in
    rw exit.1 (cut_at_start g.O.Sink.state c.args.out.now s (untouched s c.put_text.ensures.keeps c.requires.history c.requires.stop))

pub loop-init : goal.loop-init
loop-init g c =
    let s = c.args.joint.now in
    let first = untouched s c.put_text.ensures.keeps c.requires.history c.requires.stop in
    record {
      task = refl;
      along = along_from g.O.Sink.state c.args.out.now c.put_text.new.out s first c.in_ok-put_text.ensures.puts;
    }

pub returns-in_err-tell_turn-clause-text : goal.returns-in_err-tell_turn-clause-text
returns-in_err-tell_turn-clause-text g c =
    let exit = err_from_is_err_and c.from_residual-in_err-tell_turn.result c.from_residual-in_err-tell_turn.ensures.1 in
    let cut = cut_in_turn g.O.Sink.state c.args.out.now c.loop.out c.tell_turn.new.out c.loop.joint c.tell_turn.new.joint c.tell_turn.result _
    c.in_err-tell_turn.was c.loop.invariant.along c.tell_turn.ensures in
    rw exit.1 (subst (λ (t : Task). IsCut g.O.Sink.state c.args.out.now c.tell_turn.new.out (canonical_text t)) c.loop.invariant.task cut.0)

pub returns-in_err-tell_turn-clause-failed : goal.returns-in_err-tell_turn-clause-failed
returns-in_err-tell_turn-clause-failed g c =
    let exit = err_from_is_err_and c.from_residual-in_err-tell_turn.result c.from_residual-in_err-tell_turn.ensures.1 in
    let cut = cut_in_turn g.O.Sink.state c.args.out.now c.loop.out c.tell_turn.new.out c.loop.joint c.tell_turn.new.joint c.tell_turn.result _
    c.in_err-tell_turn.was c.loop.invariant.along c.tell_turn.ensures in
    rw exit.1 cut.1

pub loop-smaller : goal.loop-smaller
loop-smaller g c =
    turn_ends g.O.Sink.state c.args.out.now c.loop.out c.tell_turn.new.out c.loop.joint c.tell_turn.new.joint c.tell_turn.result
    (c.in_ok-tell_turn.was ∙ ap Ok c.if-branch.true) c.tell_turn.ensures

pub loop-preserved : goal.loop-preserved
loop-preserved g c = record {
  task =
      turn_keeps g.O.Sink.state c.args.out.now c.loop.out c.tell_turn.new.out c.loop.joint c.tell_turn.new.joint c.tell_turn.result c.tell_turn.ensures
      ∙ c.loop.invariant.task;
  along =
      along_turn g.O.Sink.state c.args.out.now c.loop.out c.tell_turn.new.out c.loop.joint c.tell_turn.new.joint c.tell_turn.result
      (c.in_ok-tell_turn.was ∙ ap Ok c.if-branch.true) c.loop.invariant.along c.tell_turn.ensures;
}

pub returns-in_err-put_stop-clause-text : goal.returns-in_err-put_stop-clause-text
returns-in_err-put_stop-clause-text g c =
    let exit = err_from_is_err_and c.from_residual-in_err-put_stop.result c.from_residual-in_err-put_stop.ensures.1 in
    let at = along_end g.O.Sink.state c.args.out.now c.loop.out c.tell_turn.new.out c.loop.joint c.tell_turn.new.joint c.tell_turn.result c.in-Some.stop
    (c.in_ok-tell_turn.was ∙ ap Ok c.if-branch.false) (sym c.stop.ensures ∙ c.in-Some.is) c.loop.invariant.along c.tell_turn.ensures in
    let same : c.tell_turn.new.joint.task ≡ c.args.joint.now.task =
    turn_keeps g.O.Sink.state c.args.out.now c.loop.out c.tell_turn.new.out c.loop.joint c.tell_turn.new.joint c.tell_turn.result c.tell_turn.ensures
    ∙ c.loop.invariant.task in
    let there = end_there g.O.Sink.state c.args.out.now c.tell_turn.new.out c.tell_turn.new.joint c.in-Some.stop at
    c.args.joint.now.task c.task.result.now c.clock.result same c.task.ensures c.clock.ensures in
    rw exit.1 (c.in_err-put_stop.ensures c.args.out.now (canonical_text c.args.joint.now.task) there.0 there.1)

pub returns-in_err-put_stop-clause-failed : goal.returns-in_err-put_stop-clause-failed
returns-in_err-put_stop-clause-failed g c =
    let exit = err_from_is_err_and c.from_residual-in_err-put_stop.result c.from_residual-in_err-put_stop.ensures.1 in
    rw exit.1 (ended_along g.O.Sink.state c.args.out.now c.loop.out c.tell_turn.new.out c.loop.joint c.tell_turn.new.joint c.tell_turn.result
    (c.in_ok-tell_turn.was ∙ ap Ok c.if-branch.false) c.loop.invariant.along c.tell_turn.ensures)

pub returns-clause-text : goal.returns-clause-text
returns-clause-text g c =
    let at = along_end g.O.Sink.state c.args.out.now c.loop.out c.tell_turn.new.out c.loop.joint c.tell_turn.new.joint c.tell_turn.result c.in-Some.stop
    (c.in_ok-tell_turn.was ∙ ap Ok c.if-branch.false) (sym c.stop.ensures ∙ c.in-Some.is) c.loop.invariant.along c.tell_turn.ensures in
    let same : c.tell_turn.new.joint.task ≡ c.args.joint.now.task =
    turn_keeps g.O.Sink.state c.args.out.now c.loop.out c.tell_turn.new.out c.loop.joint c.tell_turn.new.joint c.tell_turn.result c.tell_turn.ensures
    ∙ c.loop.invariant.task in
    let there = end_there g.O.Sink.state c.args.out.now c.tell_turn.new.out c.tell_turn.new.joint c.in-Some.stop at
    c.args.joint.now.task c.task.result.now c.clock.result same c.task.ensures c.clock.ensures in
    c.in_ok-put_stop.ensures c.args.out.now (canonical_text c.args.joint.now.task) there.0 there.1

pub returns-clause-stop : goal.returns-clause-stop
returns-clause-stop g c =
    let at = along_end g.O.Sink.state c.args.out.now c.loop.out c.tell_turn.new.out c.loop.joint c.tell_turn.new.joint c.tell_turn.result c.in-Some.stop
    (c.in_ok-tell_turn.was ∙ ap Ok c.if-branch.false) (sym c.stop.ensures ∙ c.in-Some.is) c.loop.invariant.along c.tell_turn.ensures in
    let same : c.tell_turn.new.joint.task ≡ c.args.joint.now.task =
    turn_keeps g.O.Sink.state c.args.out.now c.loop.out c.tell_turn.new.out c.loop.joint c.tell_turn.new.joint c.tell_turn.result c.tell_turn.ensures
    ∙ c.loop.invariant.task in
    sym at.ends ∙ ap (λ (t : Task). (canonical t).stop) same

pub returns-clause-course : goal.returns-clause-course
returns-clause-course g c =
    let at = along_end g.O.Sink.state c.args.out.now c.loop.out c.tell_turn.new.out c.loop.joint c.tell_turn.new.joint c.tell_turn.result c.in-Some.stop
    (c.in_ok-tell_turn.was ∙ ap Ok c.if-branch.false) (sym c.stop.ensures ∙ c.in-Some.is) c.loop.invariant.along c.tell_turn.ensures in
    let same : c.tell_turn.new.joint.task ≡ c.args.joint.now.task =
    turn_keeps g.O.Sink.state c.args.out.now c.loop.out c.tell_turn.new.out c.loop.joint c.tell_turn.new.joint c.tell_turn.result c.tell_turn.ensures
    ∙ c.loop.invariant.task in
    subst (λ (t : Task). HasCourse c.tell_turn.new.joint (canonical t)) same at.course
