use Rattle.std.proofs.Common.{ℕ, refl, subst}
use Rattle.std.proofs.lemmas.Result.{err_from_is_err_and}
use Rattle.hc_rational.specs.Words.{Rational}
use Rattle.hc_term.specs.Given.{HasParts}
use Rattle.hc_cmd.specs.declared.simulation.Simulation.{Simulation}
use Rattle.hc_cmd.specs.Prepared.{AtOpening}
use Rattle.hc_cmd.proofs.Finding.{memory_or, not_accepted, accepts, ok_found}
use Rattle.hc_cmd.proofs.prepared.prepare_sum.Goals as goal

pub run_line-requires : goal.run_line-requires
run_line-requires c = ok_found AtOpening _ c.open.result c.map_err.result c.in_ok-simulation.simulation c.open.ensures.opening c.map_err.ensures.cases c.in_ok-simulation.was

pub returns-in_err-system : goal.returns-in_err-system
returns-in_err-system c =
    let exit = err_from_is_err_and c.from_residual.result c.from_residual.ensures.1 in
    rw (exit.1, exit.2) (memory_or _ _ (not_accepted _ c.args.text.now) c.in_err-system.field-0.0 c.in_err-system.ensures)

pub returns : goal.returns
returns c =
    let set = c.made_settings.ensures in
    let given = c.made_settings.result in
    let system = c.in_ok-system.system in
    let made = c.in_ok-simulation.simulation in
    let parts = ok_found (λ (s : Simulation). HasParts system given.seed given.horizon given.limit s.joint.task) _
    c.open.result c.map_err.result made c.open.ensures.parts c.map_err.ensures.cases c.in_ok-simulation.was in
    let settled = subst (λ (n : ℕ). HasParts system 0 _ n made.joint.task) set.limit
    (subst (λ (q : Rational). HasParts system 0 q given.limit made.joint.task) set.horizon
    (subst (λ (n : ℕ). HasParts system n given.horizon given.limit made.joint.task) set.seed parts)) in (
      tt,
      accepts _ c.args.text.now _ system c.in_ok-system.ensures _ (record {
        line = c.run_line.result.bytes;
        tells = record { task = made.joint.task; parts = settled; says = c.run_line.ensures };
        stands = refl;
      }),
    )
