-- No step changes the number of processes.
use Rattle.std.proofs.Common.{◌≡◌, refl, ap, ◌∙◌, ℕ, zero, suc, List, [], ◌∷◌, length}
use Rattle.std.proofs.lemmas.List.{length-map}
use Rattle.hc_term.specs.declared.task.Task.{Task}
use Rattle.hc_term.specs.declared.run.Step.{Step}
use Rattle.hc_term.specs.declared.run.Step.TheVariants.{Silent, Comm, Delay}
use Rattle.hc_term.specs.declared.run.Item.{Item}
use Rattle.hc_term.specs.declared.model.ProcessState.{ProcessState}
use Rattle.hc_term.specs.declared.model.Configuration.{Configuration}
use Rattle.hc_term.specs.Communication.{sent, received, moved}
use Rattle.hc_term.specs.Step.{opening, opening_of, changed, StepTo, Leads}
use Rattle.hc_runs.proofs.Basics.{length-set}

length-changed : (f : ProcessState → ProcessState) (p : ℕ) (qs : List ProcessState) → length (changed f p qs) ≡ length qs
length-changed f p [] = refl
length-changed f zero (q ∷ qs) = refl
length-changed f (suc p) (q ∷ qs) = ap suc (length-changed f p qs)

module _ (t : Task) where
  step_counts : (s : Step) (c new : Configuration) → StepTo t c s new → length new.processes ≡ length c.processes
  step_counts (Silent p logged) c new s =
      ap (λ (d : Configuration). length d.processes) s.2 ∙ length-set c.processes p s.0
  step_counts (Comm channel value) c new s =
      let m = s.0 in
      let receive = received m.channel m.value in
      ap (λ (d : Configuration). length d.processes) s.5
      ∙ length-changed (sent m.channel) m.sender (changed receive m.receiver c.processes)
      ∙ length-changed receive m.receiver c.processes
  step_counts (Delay d) c new s =
      ap (λ (d : Configuration). length d.processes) s.1 ∙ length-map c.processes (moved d)

  leads_count : (items : List Item) (c new : Configuration) → Leads t c items new → length new.processes ≡ length c.processes
  leads_count [] c new h = ap (λ (d : Configuration). length d.processes) h
  leads_count (i ∷ is) c new h = leads_count is h.1.0 new h.1.2 ∙ step_counts i.step c h.1.0 h.1.1

  -- what a run reaches has all processes of the task
  pub all_there : (items : List Item) (c : Configuration) → Leads t (opening t) items c → length c.processes ≡ length t.system.processes
  all_there items c h = leads_count items (opening t) c h ∙ length-map t.system.processes opening_of
