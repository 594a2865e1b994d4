-- One silent step, taken or not.
use Rattle.std.specs.Prelude.{◌≡◌, Some, None}
use Rattle.hc_rational.specs.Words.{Rational}
use Rattle.hc_term.specs.declared.run.StretchEnd.{StretchEnd}
use Rattle.hc_term.specs.declared.run.StretchEnd.TheVariants as ends
use Rattle.hc_term.specs.declared.model.ProcessState.{ProcessState}
use Rattle.hc_term.specs.Silent.{Outcome, Idle, Unfit, Did}
use Rattle.hc_term.specs.Event.{idle_end}
use Rattle.hc_code.specs.Stands.{Table}
use Rattle.hc_step.specs.declared.local.Local.{Local}
use Rattle.hc_step.specs.declared.look.Move.{Move}
use Rattle.hc_step.specs.declared.look.Move.TheVariants as move
use Rattle.hc_step.specs.declared.stretch.Stepped.{Stepped}
use Rattle.hc_step.specs.declared.stretch.Stepped.TheVariants.{Took, Logged, Ends}
use Rattle.hc_step.specs.Represents.{Represents}

abbrev pub stepped : Move → Stepped
stepped (move.Logs v next) = Logged v
stepped _ = Took

-- what came of the silent step of q: the local stands for what it leads to, or still for q where there is none to take
abbrev pub Steps : Table → Rational → ProcessState → Outcome → Local → Stepped → Type 0
Steps t clock q Idle l s = (s ≡ Ends (idle_end q)) × Represents t clock l q
Steps t clock q Unfit l s = (s ≡ Ends ends.Unfit) × Represents t clock l q
Steps t clock q (Did None next) l s = (s ≡ Took) × Represents t clock l next
Steps t clock q (Did (Some v) next) l s = (s ≡ Logged v) × Represents t clock l next

-- why a stretch ends before the silent step of q, which may not be taken any more
abbrev pub end_before : ProcessState → Outcome → StretchEnd
end_before q Idle = idle_end q
end_before q Unfit = ends.Unfit
end_before q (Did logged next) = ends.Spent
