-- A thread, out of the parts that were made.
use Rattle.std.specs.Prelude.{◌≡◌, ℕ, List}
use Rattle.std.proofs.Common.{refl, sym, ap, ap₂, ◌∙◌}
use Rattle.hc_term.specs.declared.task.Task.{Task}
use Rattle.hc_code.specs.declared.code.Instr.{Instr}
use Rattle.hc_cast.specs.declared.stmt.CStmt.{CStmt}
use Rattle.hc_cast.specs.declared.program.CBody.{CBody}
use Rattle.hc_cmach.specs.State.{Word}
use Rattle.hc_cthreads.specs.Reports.{report_of}
use Rattle.hc_csection.specs.Code.{no_stop, has_room, enter_steps, pass_call}
use Rattle.hc_csection.specs.PrivateLaw.{stretch_of}
use Rattle.hc_csection.specs.Words.{variables}
use Rattle.hc_cpost.specs.Written.{post_code}
use Rattle.hc_cpost.specs.Taking.{take_code}
use Rattle.hc_cprivate.specs.Body.{private_statements}
use Rattle.hc_cgen.specs.Program.{thread_locals, thread_of}
use Rattle.hc_cgen.specs.Threads.{round, rounds}

report_with : Task → ℕ → List CStmt → List CStmt
report_with t n show = report_of no_stop has_room (enter_steps t n) show pass_call

made_body : List Word → List CStmt → CBody
made_body locals statements = record { locals = locals; statements = statements }

pub thread_made : (t : Task) (n count : ℕ) (code : List Instr) (private stretch show report take turn statements : List CStmt) (locals : List Word) →
    count ≡ variables t n → private ≡ private_statements n count t.seed code → stretch ≡ stretch_of t private → show ≡ post_code n count code →
    report ≡ report_of no_stop has_room (enter_steps t n) show pass_call → take ≡ take_code n count code → turn ≡ round n stretch report take →
    statements ≡ rounds turn → locals ≡ thread_locals → ◌≡◌ {A = CBody} (record { locals = locals; statements = statements }) (thread_of t n code)
unfolding report_with made_body
thread_made t n count code private stretch show report take turn statements locals counted private_is stretch_is show_is report_is take_is turn_is statements_is locals_is =
    let many : ℕ → List CStmt = λ (k : ℕ). private_statements n k t.seed code in
    let stretched : stretch ≡ stretch_of t (many (variables t n)) = stretch_is ∙ ap (stretch_of t) (private_is ∙ ap many counted) in
    let shown : show ≡ post_code n (variables t n) code = show_is ∙ ap (λ (k : ℕ). post_code n k code) counted in
    let reported : report ≡ report_with t n (post_code n (variables t n) code) = report_is ∙ ap (report_with t n) shown in
    let taken : take ≡ take_code n (variables t n) code = take_is ∙ ap (λ (k : ℕ). take_code n k code) counted in
    let turned : turn ≡ round n (stretch_of t (many (variables t n))) (report_with t n (post_code n (variables t n) code)) (take_code n (variables t n) code) =
    turn_is
    ∙ ap (λ (ss : List CStmt). round n ss report take) stretched
    ∙ ap (λ (ss : List CStmt). round n (stretch_of t (many (variables t n))) ss take) reported
    ∙ ap (λ (ss : List CStmt). round n (stretch_of t (many (variables t n))) (report_with t n (post_code n (variables t n) code)) ss) taken in
    ap₂ made_body locals_is (statements_is ∙ ap rounds turned)
