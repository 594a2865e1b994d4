use Rattle.std.proofs.Common.{◌≡◌, length, sym, ap, subst, ◌∙◌, ◌⊎◌, inl, inr, false, slice_get}
use Rattle.hc_schedule.specs.Sections.{Item, Step, Wake}
use Rattle.hc_schedule.specs.Threads.{is_waiting}
use Rattle.hc_cmach.specs.Machine.{stepped}
use Rattle.hc_cmach.specs.Seeded.{drawn_in}
use Rattle.hc_cexec.specs.Stands.{IsAt}
use Rattle.hc_crun.specs.Items.{item_said}
use Rattle.hc_crun.proofs.Single.{draws_wake, draws_step}
use Rattle.hc_crun.proofs.telling.take_item.Goals as goal
use Rattle.hc_crun.proofs.telling.take_item.Goals.{else-wakes-via-then-wakes+else-waiting, else-wakes-via-else-wakes}

pub returns-then-waiting-clause-says : goal.returns-then-waiting-clause-says
returns-then-waiting-clause-says g c s h =
    let p = c.args.program.now in
    let d = c.drawn-thread.result in
    let item : drawn_in p s c.args.word ≡ Wake d.0 =
    draws_wake s (length c.as_slice.result.now) (length p.threads) c.args.word d (ap length c.as_slice.ensures) c.drawn-thread.ensures
    c.if-wakes.true (sym (c.if-waiting.ensures p s h)) in
    ap (item_said p s) (sym item)

pub returns-then-waiting-clause-at : goal.returns-then-waiting-clause-at
returns-then-waiting-clause-at g c s h =
    let p = c.args.program.now in
    let d = c.drawn-thread.result in
    let item : drawn_in p s c.args.word ≡ Wake d.0 =
    draws_wake s (length c.as_slice.result.now) (length p.threads) c.args.word d (ap length c.as_slice.ensures) c.drawn-thread.ensures
    c.if-wakes.true (sym (c.if-waiting.ensures p s h)) in
    subst (λ (i : Item). IsAt p c.wake.new.self (stepped p s i)) (sym item) (c.wake.ensures.at p s h)

-- a step, where the word draws no wake-up or the thread doesn't wait
pub returns-clause-says : goal.returns-clause-says
returns-clause-says g c s h =
    let p = c.args.program.now in
    let d = c.drawn-thread.result in
    let fails : (d.1 ≡ false) ⊎ (is_waiting (slice_get s.world.threads d.0) ≡ false) =
    elim c.else-wakes.branch [ else-wakes-via-then-wakes+else-waiting w ↦ inr (sym (w.if-waiting.ensures p s h)) | else-wakes-via-else-wakes w ↦ inl w.if-wakes.false ] in
    let item : drawn_in p s c.args.word ≡ Step d.0 =
    draws_step s (length c.as_slice.result.now) (length p.threads) c.args.word d (ap length c.as_slice.ensures) c.drawn-thread.ensures fails in
    c.step_by.ensures.says s h ∙ ap (item_said p s) (sym item)

pub returns-clause-at : goal.returns-clause-at
returns-clause-at g c s h =
    let p = c.args.program.now in
    let d = c.drawn-thread.result in
    let fails : (d.1 ≡ false) ⊎ (is_waiting (slice_get s.world.threads d.0) ≡ false) =
    elim c.else-wakes.branch [ else-wakes-via-then-wakes+else-waiting w ↦ inr (sym (w.if-waiting.ensures p s h)) | else-wakes-via-else-wakes w ↦ inl w.if-wakes.false ] in
    let item : drawn_in p s c.args.word ≡ Step d.0 =
    draws_step s (length c.as_slice.result.now) (length p.threads) c.args.word d (ap length c.as_slice.ensures) c.drawn-thread.ensures fails in
    subst (λ (i : Item). IsAt p c.step_by.new.self (stepped p s i)) (sym item) (c.step_by.ensures.at s h)
