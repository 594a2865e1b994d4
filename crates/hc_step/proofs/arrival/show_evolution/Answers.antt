use Rattle.std.proofs.Common.{◌≡◌, ap, sym, ◌∙◌, arith, Bool, true, ◌&&◌, nat_lt, length, take}
use Rattle.std.specs.List.{list_all}
use Rattle.hc_rational.specs.Words.{zero_ℚ}
use Rattle.hc_term.specs.Evaluated.{if_fitting}
use Rattle.hc_term.specs.EndMoment.{is_domain}
use Rattle.hc_term.specs.Motion.{Rates, rates_in}
use Rattle.hc_term.specs.Offers.{moving_of}
use Rattle.hc_term.specs.Profile.{sends_affine}
use Rattle.hc_term.specs.Silent.{rates_fit}
use Rattle.hc_step.specs.Arriving.{course_fits, rates_shown}
use Rattle.hc_step.proofs.Fitting.{answer_fits, on_ok, shows_course}
use Rattle.hc_step.proofs.Guards.{guards}
use Rattle.hc_step.proofs.Evolves.{evolves, speeds_are, moving_below}
use Rattle.hc_step.proofs.arrival.show_evolution.Goals as goal

pub show_moving-requires-clause-few : goal.show_moving-requires-clause-few
show_moving-requires-clause-few c =
    let e = evolves c.args.store.now c.args.rates.now c.args.domain.now c.args.ways.now c.requires.evolution in
    omega (arith, e.few, c.requires.few)

pub show_moving-requires-clause-in_range : goal.show_moving-requires-clause-in_range
show_moving-requires-clause-in_range c =
    (evolves c.args.store.now c.args.rates.now c.args.domain.now c.args.ways.now c.requires.evolution).in_range

pub show_moving-requires-clause-ruled : goal.show_moving-requires-clause-ruled
show_moving-requires-clause-ruled c =
    (evolves c.args.store.now c.args.rates.now c.args.domain.now c.args.ways.now c.requires.evolution).valued

pub rates_shown-by_variable-requires : goal.rates_shown-by_variable-requires
rates_shown-by_variable-requires c =
    let s = c.args.store.now in
    let e = evolves s c.args.rates.now c.args.domain.now c.args.ways.now c.requires.evolution in
    record {
      in_range = ap (list_all (λ m. nat_lt m.variable 64)) (c.as_slice.ensures.elements ∙ c.in_ok-show_moving.ensures.moving)
          ∙ moving_below s (length s) c.args.rates.now c.requires.few e.in_range;
    }

pub show_course-requires-clause-in_range : goal.show_course-requires-clause-in_range
show_course-requires-clause-in_range c =
    (evolves c.args.store.now c.args.rates.now c.args.domain.now c.args.ways.now c.requires.evolution).reaches

pub show_course-requires-clause-domain : goal.show_course-requires-clause-domain
show_course-requires-clause-domain c =
    let s = c.args.store.now in
    let e = evolves s c.args.rates.now c.args.domain.now c.args.ways.now c.requires.evolution in
    let speeds = ap (take (length s)) (c.rates_shown-by_variable.ensures.rates ∙ ap rates_shown (c.as_slice.ensures.elements ∙ c.in_ok-show_moving.ensures.moving))
    ∙ speeds_are s c.args.rates.now c.requires.few in
    ap (λ (r : Rates). is_domain r c.args.domain.now) speeds ∙ e.domain

pub show_course-requires-clause-ruled : goal.show_course-requires-clause-ruled
show_course-requires-clause-ruled c =
    (c.requires.guards.0, (guards c.requires.guards.0 (length c.args.store.now) c.args.ways.now c.requires.guards.1).ruled)

pub show_course-requires-clause-affine : goal.show_course-requires-clause-affine
show_course-requires-clause-affine c =
    let s = c.args.store.now in
    let e = evolves s c.args.rates.now c.args.domain.now c.args.ways.now c.requires.evolution in
    let speeds = ap (take (length s)) (c.rates_shown-by_variable.ensures.rates ∙ ap rates_shown (c.as_slice.ensures.elements ∙ c.in_ok-show_moving.ensures.moving))
    ∙ speeds_are s c.args.rates.now c.requires.few in
    ap (λ (r : Rates). list_all (λ w. sends_affine r w.io) c.args.ways.now) speeds ∙ e.affine

pub returns-clause-shows : goal.returns-clause-shows
returns-clause-shows c =
    let s = c.args.store.now in
    let speeds = ap (take (length s)) (c.rates_shown-by_variable.ensures.rates ∙ ap rates_shown (c.as_slice.ensures.elements ∙ c.in_ok-show_moving.ensures.moving))
    ∙ speeds_are s c.args.rates.now c.requires.few in
    on_ok c.show_course.result
    (λ h. h ∙ shows_course c.args.clock s _ (rates_in c.args.rates.now s) c.args.domain.now c.args.ways.now c.show.new.self _ (moving_of s c.args.rates.now)
    speeds c.show.ensures c.in_ok-show_moving.ensures.moving)
    c.show_course.ensures.shows

pub returns-clause-fits : goal.returns-clause-fits
returns-clause-fits c =
    let s = c.args.store.now in
    let speeds = ap (take (length s)) (c.rates_shown-by_variable.ensures.rates ∙ ap rates_shown (c.as_slice.ensures.elements ∙ c.in_ok-show_moving.ensures.moving))
    ∙ speeds_are s c.args.rates.now c.requires.few in
    let fit : rates_fit s c.args.rates.now ≡ true = answer_fits _ _ _ c.in_ok-show_moving.ensures.fits in
    c.show_course.ensures.fits
    ∙ ap (λ (r : Rates). if_fitting (course_fits c.args.clock s r c.args.domain.now c.args.ways.now) zero_ℚ) speeds
    ∙ ap (λ (b : Bool). if_fitting (b && course_fits c.args.clock s (rates_in c.args.rates.now s) c.args.domain.now c.args.ways.now) zero_ℚ) (sym fit)
