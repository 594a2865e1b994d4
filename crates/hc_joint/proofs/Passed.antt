-- What a delay makes of a scene whose board has moved already.
use Rattle.std.proofs.Common.{◌≡◌, ◌<◌, refl, sym, ap, subst, ◌∙◌, true, List, [], ◌∷◌, ◌++◌, map, length, arith, length-append}
use Rattle.std.specs.List.{list_all}
use Rattle.hc_rational.specs.Words.{Rational, zero_ℚ, ◌+ℚ◌, ◌≤ℚ◌, fits}
use Rattle.hc_term.specs.declared.task.Task.{Task}
use Rattle.hc_term.specs.declared.run.Step.TheVariants.{Delay}
use Rattle.hc_term.specs.declared.run.Item.{Item}
use Rattle.hc_term.specs.declared.model.Configuration.{Configuration}
use Rattle.hc_term.specs.Communication.{moved}
use Rattle.hc_term.specs.Posts.{post_fits}
use Rattle.hc_term.specs.Step.{opening, delayed, Leads}
use Rattle.hc_term.specs.Together.{is_within}
use Rattle.hc_term.proofs.Pieces.{leads_on}
use Rattle.hc_member.specs.declared.member.Member.{Member}
use Rattle.hc_member.specs.States.{AllIn}
use Rattle.hc_member.proofs.Passing.{later_fits, passes_forward, posts_moved, all_fit, all_within}
use Rattle.hc_joint.specs.declared.scene.Scene.{Scene}
use Rattle.hc_joint.specs.Stands.{IsPassing}
use Rattle.hc_joint.specs.Parts.{room, Follows}

-- the item of a delay
abbrev pub passed_item : Rational → Rational → Item
passed_item clock by = record { at = clock; step = Delay by }

module _ (s : Scene) (c : Configuration) (by : Rational) (p : IsPassing s c by) where
  pub end_fits : fits (s.clock +ℚ by) ≡ true
  end_fits = later_fits s.task s.history.items c by p.leads p.passes s.clock p.clock

  pub from_zero : zero_ℚ ≤ℚ by
  from_zero = passes_forward s.task s.history.items c by p.leads p.passes

  pub members_fit : list_all (λ (m : Member). post_fits by m.local.post) s.members.items ≡ true
  members_fit = all_fit s.task s.history.items c by p.leads p.passes s.members.items p.members

  pub members_within : list_all (λ (m : Member). is_within by m.local.post.bound) s.members.items ≡ true
  members_within = all_within s.task s.history.items c by p.leads p.passes s.members.items p.members

  -- with the members moved, the item behind the history and the clock set, it stands for the configuration after the delay
  module _ (new : Scene) (same : new.task ≡ s.task) (items : new.history.items ≡ s.history.items ++ passed_item s.clock by ∷ [])
      (members : AllIn (c.clock +ℚ by) new.members.items (map (moved by) c.processes)) (board : new.board ≡ s.board)
      (clock : new.clock ≡ s.clock +ℚ by) (left : 0 < room s) where
    item_is : new.history.items ≡ s.history.items ++ passed_item c.clock by ∷ []
    item_is = items ∙ ap (λ (k : Rational). s.history.items ++ passed_item k by ∷ []) p.clock

    leads_to : Leads s.task (opening s.task) (s.history.items ++ passed_item c.clock by ∷ []) (delayed by c)
    leads_to =
        leads_on s.task (opening s.task) c (delayed by c) s.history.items (passed_item c.clock by ∷ []) p.leads
        (refl, (delayed by c, (p.passes, refl), refl))

    leads_new : Leads new.task (opening new.task) new.history.items (delayed by c)
    leads_new =
        subst (λ (t : Task). Leads t (opening t) new.history.items (delayed by c)) (sym same)
        (subst (λ (l : List Item). Leads s.task (opening s.task) l (delayed by c)) (sym item_is) leads_to)

    pub passed_follows : Follows s new (passed_item c.clock by ∷ []) (delayed by c)
    passed_follows = record {
      task = same;
      items = item_is;
      at = record {
        leads = leads_new;
        within = omega (arith, left, ap length items, length-append s.history.items (passed_item s.clock by ∷ []), ap (λ (t : Task). t.limit) same);
        members = members;
        shown = ap (λ b. b.posts) board ∙ p.shown ∙ sym (posts_moved s.task s.history.items c by p.leads p.passes);
        channels = ap (λ b. b.channels) board ∙ p.channels ∙ ap (λ (t : Task). length t.system.channels) (sym same);
        clock = clock ∙ ap (λ (k : Rational). k +ℚ by) p.clock;
      };
    }
