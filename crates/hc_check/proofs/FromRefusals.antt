-- What is known of the parts, the channels and the variables where nothing is found.
use Rattle.std.proofs.Common.{◌≡◌, ◌≤◌, true, false, IsTrue, List, [], ◌∷◌, ◌++◌, map, flat_map, length, arith}
use Rattle.hc_ast.specs.Bare.{Word}
use Rattle.hc_modules.specs.declared.flat.FlatProcess.{FlatProcess}
use Rattle.hc_modules.proofs.Induction.{Each}
use Rattle.hc_modules.proofs.Nothing.{left_empty, right_empty, unmapped_empty, each_empty}
use Rattle.hc_finds.specs.declared.rules.Rule.{Rule}
use Rattle.hc_finds.specs.declared.rules.Rule.TheVariants as rule
use Rattle.hc_finds.specs.Parts.{Part, parts_of}
use Rattle.hc_finds.specs.Rules.{rules, breaks, refused_by, broken}
use Rattle.hc_finds.specs.Limits.{channels_in, variables_in, guards_beyond, nodes_beyond, beyond_limits, limited_parts, channels_named, variables_named, channels_of, variables_of}
use Rattle.hc_finds.specs.Uses.{uses_of}
use Rattle.hc_finds.specs.Refusals.{all_parts, bad_ends, refusals}
use Rattle.hc_check.proofs.Clean.{is_named, IsClean}
use Rattle.hc_check.proofs.EachLists.{each_flat}
use Rattle.hc_check.proofs.Eachwise.{each-all}
use Rattle.hc_check.proofs.InEitherOrder.{in_either_order}
use Rattle.hc_check.proofs.FirstNamed.{all_named}
use Rattle.hc_check.proofs.Within.{few_guards, few_nodes, process_within, rest_within, channels_over, variables_over}

-- the phases
module _ (ps : List FlatProcess) (none : refusals ps ≡ []) where
  two_phases : beyond_limits [] ps ++ flat_map (λ r. broken r (all_parts ps)) rules ≡ []
  two_phases =
      left_empty (beyond_limits [] ps ++ flat_map (λ r. broken r (all_parts ps)) rules) (bad_ends (map uses_of ps)) none

  pub all_within : beyond_limits [] ps ≡ []
  all_within = left_empty (beyond_limits [] ps) (flat_map (λ r. broken r (all_parts ps)) rules) two_phases

  none_broken : Each (λ r. broken r (all_parts ps) ≡ []) rules
  none_broken =
      each_empty (λ r. broken r (all_parts ps)) rules
      (right_empty (beyond_limits [] ps) (flat_map (λ r. broken r (all_parts ps)) rules) two_phases)

  pub good_ends : bad_ends (map uses_of ps) ≡ []
  good_ends =
      right_empty (beyond_limits [] ps ++ flat_map (λ r. broken r (all_parts ps)) rules) (bad_ends (map uses_of ps)) none

  -- no part breaks a rule
  kept_rule : (r : Rule) → broken r (all_parts ps) ≡ []
  kept_rule rule.DivisorNotLiteral = none_broken.0
  kept_rule rule.ZeroDivisor = none_broken.1.0
  kept_rule rule.RepeatedRate = none_broken.1.1.0
  kept_rule rule.RateEvolves = none_broken.1.1.1.0
  kept_rule rule.NotAffine = none_broken.1.1.1.1.0
  kept_rule rule.RepeatedGuard = none_broken.1.1.1.1.1.0

  lawful : (r : Rule) → Each (λ p. Each (λ x. breaks r x ≡ []) (parts_of false p.body)) ps
  lawful r =
      each_flat (λ x. breaks r x ≡ []) (λ p. parts_of false p.body) ps
      (each_empty (breaks r) (all_parts ps) (unmapped_empty (refused_by r) (flat_map (breaks r) (all_parts ps)) (kept_rule r)))

  pub few_channels : length (channels_of ps) ≤ 256
  few_channels = channels_over [] ps (omega arith) all_within

  pub few_variables : Each (λ p. length (variables_of p) ≤ 64) ps
  few_variables = variables_over [] ps all_within

-- all that is known of one part
clean_parts : (cs xs : List Word) (us : List Part) → Each (λ u. Each (λ c. IsTrue (is_named cs c)) (channels_in u)) us
    → Each (λ u. Each (λ v. IsTrue (is_named xs v)) (variables_in u)) us → Each (λ u. guards_beyond u ≡ []) us
    → Each (λ u. nodes_beyond u ≡ []) us → Each (λ u. (r : Rule) → breaks r u ≡ []) us → Each (IsClean cs xs) us
clean_parts cs xs [] a b c d e = tt
clean_parts cs xs (u ∷ us) a b c d e =
    (record { channels = a.0; variables = b.0; guards = c.0; nodes = d.0; lawful = e.0 }, clean_parts cs xs us a.1 b.1 c.1 d.1 e.1)

-- and of one process after another
clean_processes : (cs before : List Word) (ps : List FlatProcess) → Each (λ p. Each (λ c. IsTrue (is_named cs c)) (channels_named p)) ps
    → ((r : Rule) → Each (λ p. Each (λ x. breaks r x ≡ []) (parts_of false p.body)) ps) → beyond_limits before ps ≡ []
    → Each (λ p. Each (IsClean cs (variables_of p)) (parts_of true p.body)) ps
clean_processes cs before [] named lawful e = tt
clean_processes cs before (p ∷ ps) named lawful e = (
  clean_parts cs (variables_of p) (limited_parts p)
      (each_flat (λ c. IsTrue (is_named cs c)) channels_in (limited_parts p) named.0)
      (each_flat (λ v. IsTrue (is_named (variables_of p) v)) variables_in (limited_parts p) (all_named (variables_named p)))
      (few_guards before [] (limited_parts p) (process_within before p ps e))
      (few_nodes before [] (limited_parts p) (process_within before p ps e))
      (each-all (λ r x. breaks r x ≡ []) (limited_parts p)
      (λ r. in_either_order (λ x. breaks r x ≡ []) false true p.body (lawful r).0)),
  clean_processes cs (before ++ channels_named p) ps named.1 (λ r. (lawful r).1) (rest_within before p ps e),
)

pub clean : (ps : List FlatProcess) → refusals ps ≡ [] → Each (λ p. Each (IsClean (channels_of ps) (variables_of p)) (parts_of true p.body)) ps
clean ps none =
    clean_processes (channels_of ps) [] ps
    (each_flat (λ c. IsTrue (is_named (channels_of ps) c)) channels_named ps (all_named (flat_map channels_named ps)))
    (lawful ps none) (all_within ps none)
