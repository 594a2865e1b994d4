-- What comes of parts of an event, one after the other.
use Rattle.std.proofs.Common.{◌≡◌, refl, sym, ap, subst, ◌∙◌, ◌+◌, ◌-◌, ◌≤◌, List, [], ◌++◌, length, length-append, Option, arith}
use Rattle.std.proofs.lemmas.List.{append_assoc, append-nil}
use Rattle.hc_term.specs.declared.task.Task.{Task}
use Rattle.hc_term.specs.declared.run.Item.{Item}
use Rattle.hc_term.specs.declared.run.Stop.{Stop}
use Rattle.hc_term.specs.declared.model.Configuration.{Configuration}
use Rattle.hc_term.specs.Step.{opening, posts, Leads}
use Rattle.hc_term.specs.Event.{Event, event_after}
use Rattle.hc_term.proofs.Pieces.{leads_on}
use Rattle.hc_member.specs.States.{AllIn}
use Rattle.hc_joint.specs.declared.scene.Scene.{Scene}
use Rattle.hc_joint.specs.Stands.{IsAt}
use Rattle.hc_joint.specs.Parts.{room, Follows, Comes}

-- what a part of an event made of the scene, which stood for c: it stands for d
pub record Becomes (old new : Scene) (more : List Item) (c d : Configuration) : Type 0 where
  pub task : new.task ≡ old.task
  pub items : new.history.items ≡ old.history.items ++ more
  pub run : Leads old.task c more d
  pub fits : length more ≤ room old
  pub members : AllIn d.clock new.members.items d.processes
  pub shown : new.board.posts ≡ posts d
  pub channels : new.board.channels ≡ old.board.channels
  pub clock : new.clock ≡ d.clock

pub becomes-follows : (old new : Scene) (more : List Item) (c d : Configuration) → IsAt old c → Becomes old new more c d →
    Follows old new more d
becomes-follows old new more c d at b = record {
  task = b.task;
  items = b.items;
  at = record {
    leads = leads;
    within = within;
    members = b.members;
    shown = b.shown;
    channels = b.channels ∙ at.channels ∙ ap (λ (t : Task). length t.system.channels) (sym b.task);
    clock = b.clock;
  };
} where
  leads : Leads new.task (opening new.task) new.history.items d
  leads =
      let run = leads_on old.task (opening old.task) c d old.history.items more at.leads b.run in
      subst (λ (t : Task). Leads t (opening t) new.history.items d) (sym b.task)
      (subst (λ (is : List Item). Leads old.task (opening old.task) is d) (sym b.items) run)

  within : length new.history.items ≤ new.task.limit
  within =
      let all : length new.history.items ≡ length old.history.items + length more =
      ap length b.items ∙ length-append old.history.items more in
      let limit : new.task.limit ≡ old.task.limit = ap (λ (t : Task). t.limit) b.task in
      omega (arith, all, limit, at.within, b.fits)

-- what is left then
pub room_after : (old new : Scene) (more : List Item) (d : Configuration) → Follows old new more d →
    room new ≡ room old - length more
room_after old new more d f =
    let all : length new.history.items ≡ length old.history.items + length more =
    ap length f.items ∙ length-append old.history.items more in
    let limit : new.task.limit ≡ old.task.limit = ap (λ (t : Task). t.limit) f.task in
    omega (arith, all, limit)

pub follows_on : (old mid new : Scene) (is js : List Item) (d e : Configuration) → Follows old mid is d → Follows mid new js e →
    Follows old new (is ++ js) e
follows_on old mid new is js d e f g = record {
  task = g.task ∙ f.task;
  items = g.items ∙ ap (λ (l : List Item). l ++ js) f.items ∙ append_assoc old.history.items is js;
  at = g.at;
}

-- an event's rest, behind its beginning
pub comes_after : (old mid new : Scene) (is : List Item) (d : Configuration) (e : Event) (set : Option Stop) →
    Follows old mid is d → Comes mid new e set → Comes old new (event_after is e) set
comes_after old mid new is d e set f k = record {
  follows = follows_on old mid new is e.items d e.end f k.follows;
  stop = k.stop;
}

-- nothing happens
pub stays : (s : Scene) (c : Configuration) → IsAt s c → Follows s s [] c
stays s c at = record { task = refl; items = sym (append-nil s.history.items); at = at }
