use Rattle.std.proofs.Common.{◌≤◌, ◌<◌, refl, sym, subst, ℕ, Option, arith}
use Rattle.hc_term.specs.declared.run.Step.TheVariants.{Delay}
use Rattle.hc_verify.specs.Following.{Followed}
use Rattle.hc_verify.proofs.Delaying.{no_stillness, too_many, not_passed, delayed_by, run_to}
use Rattle.hc_verify.proofs.walk.Walk.delay.Goals as goal

pub returns-in_err-moved : goal.returns-in_err-moved
returns-in_err-moved c before r =
    let t = c.args.task.now in
    let new = c.halt_all.new.self in
    subst (λ (o : Option ℕ). Followed t (record { at = c.args.at; step = Delay c.args.by }) c.args.room before new o) (sym c.from_residual.ensures)
    (no_stillness t c.args.by c.args.room c.args.self.now before r c.args.at new (c.in_err-moved.ensures before r.at))

pub returns-then-moved-room : goal.returns-then-moved-room
returns-then-moved-room c before r =
    let h = c.in_ok-moved.ensures before r.at in
    let past : c.args.room ≤ c.in_ok-moved.moved = omega (arith, c.if-moved-room.true) in
    too_many c.args.task.now c.args.by c.args.room c.args.self.now before r c.in_ok-moved.moved h.1.0 h.1.1 h.1.2 c.args.at c.args.self.now past

pub pass-requires : goal.pass-requires
pass-requires c =
    let before = c.requires.reached.0 in
    let r = c.requires.reached.1 in
    let h = c.in_ok-moved.ensures before r.at in
    record {
      run = (
        h.1.0,
        run_to c.args.task.now c.args.by c.args.room c.args.self.now before r c.in_ok-moved.moved h.1.0 h.1.1 h.1.2
            c.halt_all.new.self h.1.3,
      );
    }

pub returns-then-not-pass : goal.returns-then-not-pass
returns-then-not-pass c before r =
    let t = c.args.task.now in
    let w = c.args.self.now in
    let m = c.in_ok-moved.moved in
    let h = c.in_ok-moved.ensures before r.at in
    let run = run_to t c.args.by c.args.room w before r m h.1.0 h.1.1 h.1.2 c.halt_all.new.self h.1.3 in
    not_passed t c.args.by c.args.room w before r m h.1.0 h.1.1 h.1.2 c.args.at c.pass.new.self (c.if-not-pass.ensures h.1.0 run)

pub returns : goal.returns
returns c before r =
    let t = c.args.task.now in
    let w = c.args.self.now in
    let m = c.in_ok-moved.moved in
    let h = c.in_ok-moved.ensures before r.at in
    let run = run_to t c.args.by c.args.room w before r m h.1.0 h.1.1 h.1.2 c.halt_all.new.self h.1.3 in
    let low : m < c.args.room = omega (arith, c.if-moved-room.false) in
    delayed_by t c.args.by c.args.room w before r m h.1.0 h.1.1 h.1.2 c.args.at c.pass.new.self (c.if-not-is_same.ensures.0 refl) low
    (c.if-not-pass.ensures h.1.0 run)
