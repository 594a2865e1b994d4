use Rattle.std.proofs.Common.{ap, ap₂, sym, ◌∙◌, List}
use Rattle.hc_rational.specs.Words.{zero_ℚ}
use Rattle.hc_term.specs.declared.stmt.Rate.{Rate}
use Rattle.hc_term.specs.Evaluated.{if_fitting}
use Rattle.hc_code.specs.declared.code.Way.{Way}
use Rattle.hc_code.specs.declared.code.Instr.{Instr}
use Rattle.hc_step.specs.Arriving.{may_arrive, may_evolve, left_at, post_of, evolving_post}
use Rattle.hc_step.proofs.Fitting.{on_ok}
use Rattle.hc_step.proofs.arrival.show_arrival.Goals as goal

pub returns-in-Evolve-clause-shows : goal.returns-in-Evolve-clause-shows
returns-in-Evolve-clause-shows c =
    let s = c.args.store.now in
    on_ok c.show_evolution.result
    (λ h. h ∙ ap₂ (λ (rs : List Rate) (ws : List Way). evolving_post c.args.clock s rs c.in-Evolve.domain ws) c.as_slice-rates.ensures c.as_slice-ways.ensures
    ∙ sym (ap (post_of c.args.clock s) c.in-Evolve.is))
    c.show_evolution.ensures.shows

pub returns-in-Evolve-clause-fits : goal.returns-in-Evolve-clause-fits
returns-in-Evolve-clause-fits c =
    let s = c.args.store.now in
    c.show_evolution.ensures.fits
    ∙ ap₂ (λ (rs : List Rate) (ws : List Way). if_fitting (may_evolve c.args.clock s rs c.in-Evolve.domain ws) zero_ℚ) c.as_slice-rates.ensures c.as_slice-ways.ensures
    ∙ sym (ap (λ (i : Instr). if_fitting (may_arrive c.args.clock s i) (left_at s i)) c.in-Evolve.is)
