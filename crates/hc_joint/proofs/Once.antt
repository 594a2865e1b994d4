-- The items of a run lead to one configuration.
use Rattle.std.proofs.Common.{◌≡◌, refl, sym, ap, subst, ◌∙◌, ℕ, ◌<◌, List, [], ◌∷◌, ◌++◌, length, Option}
use Rattle.hc_rational.specs.Words.{Rational}
use Rattle.hc_term.specs.declared.task.Task.{Task}
use Rattle.hc_term.specs.declared.run.Step.{Step}
use Rattle.hc_term.specs.declared.run.Step.TheVariants.{Silent, Comm, Delay}
use Rattle.hc_term.specs.declared.run.Item.{Item}
use Rattle.hc_term.specs.declared.model.ProcessState.{ProcessState}
use Rattle.hc_term.specs.declared.model.Meeting.{Meeting}
use Rattle.hc_term.specs.declared.model.Configuration.{Configuration}
use Rattle.hc_term.specs.Silent.{Did}
use Rattle.hc_term.specs.Step.{opening, replaced, met, StepTo, Leads}
use Rattle.hc_term.proofs.Pieces.{leads_on}
use Rattle.hc_term.proofs.Reached.{meetings_are_unique}

same_next : (logged : Option Rational) (q r : ProcessState) → Did logged q ≡ Did logged r → q ≡ r
same_next logged q r e = cc

-- a step of what a run reaches leads to one configuration
pub step_once : (t : Task) (before : List Item) (c x y : Configuration) (step : Step) → Leads t (opening t) before c →
    StepTo t c step x → StepTo t c step y → x ≡ y
step_once t before c x y (Silent p logged) run h k =
    let same = same_next logged h.0 k.0 (sym h.1 ∙ k.1) in
    h.2 ∙ ap (replaced c p) same ∙ sym k.2
step_once t before c x y (Comm channel value) run h k =
    let below = subst (λ (i : ℕ). i < length t.system.channels) (sym h.1) h.3 in
    let same = meetings_are_unique t before c h.0 k.0 run below (h.1 ∙ sym k.1) h.4 k.4 in
    h.5 ∙ ap (λ (i : Meeting). met i c) same ∙ sym k.5
step_once t before c x y (Delay d) run h k = h.1 ∙ sym k.1

leads_once : (t : Task) (before : List Item) (c x y : Configuration) (items : List Item) → Leads t (opening t) before c →
    Leads t c items x → Leads t c items y → x ≡ y
leads_once t before c x y [] run h k = h ∙ sym k
leads_once t before c x y (i ∷ is) run h k =
    let mid = h.1.0 in
    let same = step_once t before c k.1.0 mid i.step run k.1.1 h.1.1 in
    let one = leads_on t (opening t) c mid before (i ∷ []) run (h.0, (mid, h.1.1, refl)) in
    leads_once t (before ++ i ∷ []) mid x y is one h.1.2 (subst (λ (d : Configuration). Leads t d is y) same k.1.2)

pub reached_once : (t : Task) (items : List Item) (x y : Configuration) → Leads t (opening t) items x → Leads t (opening t) items y → x ≡ y
reached_once t items x y = leads_once t [] (opening t) x y items refl
