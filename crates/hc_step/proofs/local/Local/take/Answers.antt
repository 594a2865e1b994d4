use Rattle.std.proofs.Common.{subst}
use Rattle.hc_step.specs.declared.look.Move.{Move}
use Rattle.hc_step.specs.Represents.{LeadsTo}
use Rattle.hc_step.proofs.Going.{carried, led_on, led_logging, led_setting, led_picking}
use Rattle.hc_step.proofs.local.Local.take.Goals as goal

pub returns-in-Goes-clause-leads : goal.returns-in-Goes-clause-leads
returns-in-Goes-clause-leads c t clock q next logged all r h =
    led_on t clock q next logged c.go.new.self c.in-Goes.next (subst (λ (m : Move). LeadsTo t q m logged next) c.in-Goes.is h)
    (λ rest at. c.go.ensures.stands t clock q rest all at (carried t clock c.args.self.now q r))

pub returns-in-Logs-clause-leads : goal.returns-in-Logs-clause-leads
returns-in-Logs-clause-leads c t clock q next logged all r h =
    led_logging t clock q next logged c.go-in-Logs.new.self c.in-Logs.value c.in-Logs.next
    (subst (λ (m : Move). LeadsTo t q m logged next) c.in-Logs.is h)
    (λ rest at. c.go-in-Logs.ensures.stands t clock q rest all at (carried t clock c.args.self.now q r))

pub returns-in-Sets-clause-leads : goal.returns-in-Sets-clause-leads
returns-in-Sets-clause-leads c t clock q next logged all r h =
    led_setting t clock q next logged c.set_and_go.new.self c.in-Sets.variable c.in-Sets.value c.in-Sets.next
    (subst (λ (m : Move). LeadsTo t q m logged next) c.in-Sets.is h)
    (λ rest at. c.set_and_go.ensures.stands t clock q rest all at (carried t clock c.args.self.now q r))

pub returns-in-Picks-clause-leads : goal.returns-in-Picks-clause-leads
returns-in-Picks-clause-leads c t clock q next logged all r h =
    led_picking t clock q next logged c.pick_and_go.new.self c.in-Picks.next
    (subst (λ (m : Move). LeadsTo t q m logged next) c.in-Picks.is h)
    (λ rest at. c.pick_and_go.ensures.stands t clock q rest all at (carried t clock c.args.self.now q r))
