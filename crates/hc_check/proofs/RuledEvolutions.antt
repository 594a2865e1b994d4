-- An evolution against which nothing is found keeps the rules.
use Rattle.std.proofs.Common.{◌≡◌, nat_le, IsTrue, List, [], length, map}
use Rattle.hc_frac.specs.declared.place.Place.{Place}
use Rattle.hc_ast.specs.Bare.{Word}
use Rattle.hc_ast.specs.declared.expr.CondTree.{CondTree}
use Rattle.hc_ast.specs.declared.stmt.RateTree.{RateTree}
use Rattle.hc_modules.proofs.Induction.{Each}
use Rattle.hc_term.specs.Profile.{is_moving_domain, is_evolution}
use Rattle.hc_finds.specs.declared.rules.Rule.TheVariants as rule
use Rattle.hc_finds.specs.Exprs.{sides, moves_of}
use Rattle.hc_finds.specs.Looks.{evolving}
use Rattle.hc_finds.specs.Parts.{Guard, domain, rates_from}
use Rattle.hc_check.specs.Numbered.{cond_over, rate_over, io_over}
use Rattle.hc_check.proofs.Clean.{IsClean}
use Rattle.hc_check.proofs.EachLists.{both, each_joined, none_found}
use Rattle.hc_check.proofs.PartFacts.{domain_plain, domain_ruled}
use Rattle.hc_check.proofs.RuledExprs as exprs
use Rattle.hc_check.proofs.RuledRates.{pattern, pattern_agrees, rates_ruled}
use Rattle.hc_check.proofs.RuledGuards.{ios, AreClean, all_send}

module _ (cs xs : List Word) where
  moving_domain : (rs : List RateTree) (p : Place) (c : CondTree) → IsClean cs xs (domain rs p c)
      → IsTrue (is_moving_domain (length xs) (pattern cs xs rs) (cond_over xs c))
  moving_domain rs p c h =
      both (domain_ruled cs xs rs p c h)
      (exprs.domain xs (evolving rs) (pattern cs xs rs) (pattern_agrees xs rs) c
      (each_joined (exprs.IsPlain xs) (λ e. (moves_of (evolving rs) e).products ≡ []) (sides c) (domain_plain cs xs rs p c h)
      (none_found (λ e. (moves_of (evolving rs) e).products) (sides c) (h.lawful rule.NotAffine))))

  pub evolution_ruled : (rs : List RateTree) (p : Place) (c : CondTree) (gs : List Guard) → IsTrue (nat_le 1 (length rs))
      → Each (IsClean cs xs) (rates_from rs [] rs) → IsClean cs xs (domain rs p c) → AreClean cs xs rs [] gs
      → IsTrue (is_evolution (length xs) (map (rate_over xs) rs) (cond_over xs c) (map (io_over cs xs) (ios gs)))
  evolution_ruled rs p c gs some rates d guards =
      both (both (rates_ruled cs xs rs some rates) (moving_domain rs p c d)) (all_send cs xs rs [] gs guards)
