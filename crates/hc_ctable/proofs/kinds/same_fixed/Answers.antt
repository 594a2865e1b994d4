use denote.Enum.Bare.{same_true, same_false}
use Rattle.std.proofs.Common.{rules, sym, ◌∙◌}
use Rattle.hc_ctoken.specs.contracts.fixed.Fixed.{the_type}
use Rattle.hc_ctable.proofs.Alike.{by_fixed}
use Rattle.hc_ctable.proofs.kinds.same_fixed.Goals as goal

pub returns : goal.returns
returns c =
    by_fixed c.args.wanted c.args.one c.eq.result
    (λ e. same_true the_type (search rules) c.args.wanted c.args.one (sym c.eq.ensures ∙ e))
    (λ e. same_false the_type c.args.wanted c.args.one (sym c.eq.ensures ∙ e))
