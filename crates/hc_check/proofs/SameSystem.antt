-- Systems with the same processes and channels are the same.
use Rattle.std.proofs.Common.{◌≡◌, ℕ, true, List, ap, sym, ◌∙◌, subst}
use denote.Struct.Props.{props}
use Rattle.hc_modules.specs.declared.flat.Flat.{Flat}
use Rattle.hc_term.specs.declared.system.Process.{Process}
use Rattle.hc_term.specs.declared.system.System.{System}
use Rattle.hc_term.specs.Rules.{keeps_rules}
use Rattle.hc_check.specs.Checked.{IsChecked}

-- that the rules are kept is one fact
one_fact : (ps : List Process) (cs : List (List ℕ)) (k l : keeps_rules ps cs ≡ true) → k ≡ l
one_fact ps cs = hlevel props

pub same_system : (s t : System) → s.processes ≡ t.processes → s.channels ≡ t.channels → s ≡ t
same_system s t p c = by s.processes s.channels p c s.kept
  where
    by : (ps : List Process) (cs : List (List ℕ)) → ps ≡ t.processes → cs ≡ t.channels
        → (k : keeps_rules ps cs ≡ true)
        → record { processes = ps; channels = cs; kept = k } ≡ t
    by ps cs p c =
        let Same : List Process → List (List ℕ) → Type 0 =
        λ ps cs. (k : keeps_rules ps cs ≡ true) → record { processes = ps; channels = cs; kept = k } ≡ t in
        let here : Same t.processes t.channels =
        λ k. ap (λ k. record { processes = t.processes; channels = t.channels; kept = k })
        (one_fact t.processes t.channels k t.kept) in
        subst (λ ps. Same ps cs) (sym p) (subst (λ cs. Same t.processes cs) (sym c) here)

pub one_system : (flat : Flat) (s t : System) → IsChecked flat s → IsChecked flat t → s ≡ t
one_system flat s t is of = same_system s t (is.processes ∙ sym of.processes) (is.channels ∙ sym of.channels)
