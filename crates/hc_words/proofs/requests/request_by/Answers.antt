use Rattle.std.proofs.Common.{refl, sym, subst}
use Rattle.hc_words.specs.declared.actions.Action.{Action}
use Rattle.hc_words.specs.declared.requests.Request.TheVariants.{Simulate, Channels, Verify, Make, Cexec}
use Rattle.hc_words.specs.Requests.{Asks}
use Rattle.hc_words.specs.Seen.{seen}
use Rattle.hc_words.proofs.requests.request_by.Goals as goal

pub returns-in_ok-settings-in-Simulate-clause-some : goal.returns-in_ok-settings-in-Simulate-clause-some
returns-in_ok-settings-in-Simulate-clause-some c =
    let settings = c.in_ok-settings-in-Simulate.settings in
    subst (λ (a : Action). Asks a (seen c.args.given.now) (Simulate settings)) (sym c.in-Simulate.is) (settings, c.in_ok-settings-in-Simulate.ensures.some, refl)

pub returns-in_ok-settings-in-Channels-clause-some : goal.returns-in_ok-settings-in-Channels-clause-some
returns-in_ok-settings-in-Channels-clause-some c =
    let settings = c.in_ok-settings-in-Channels.settings in
    subst (λ (a : Action). Asks a (seen c.args.given.now) (Channels settings)) (sym c.in-Channels.is) (settings, c.in_ok-settings-in-Channels.ensures.some, refl)

pub returns-in_ok-settings-in-Verify-clause-some : goal.returns-in_ok-settings-in-Verify-clause-some
returns-in_ok-settings-in-Verify-clause-some c =
    let settings = c.in_ok-settings-in-Verify.settings in
    subst (λ (a : Action). Asks a (seen c.args.given.now) (Verify settings)) (sym c.in-Verify.is) (settings, c.in_ok-settings-in-Verify.ensures.some, refl)

pub returns-in_ok-made-in-Make-clause-some : goal.returns-in_ok-made-in-Make-clause-some
returns-in_ok-made-in-Make-clause-some c =
    let made = c.in_ok-made-in-Make.made in
    subst (λ (a : Action). Asks a (seen c.args.given.now) (Make made)) (sym c.in-Make.is) (made, c.in_ok-made-in-Make.ensures.some, refl)

pub returns-in_ok-execution-in-Cexec-clause-some : goal.returns-in_ok-execution-in-Cexec-clause-some
returns-in_ok-execution-in-Cexec-clause-some c =
    let execution = c.in_ok-execution-in-Cexec.execution in
    subst (λ (a : Action). Asks a (seen c.args.given.now) (Cexec execution)) (sym c.in-Cexec.is) (execution, c.in_ok-execution-in-Cexec.ensures.some, refl)
