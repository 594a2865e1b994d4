-- What a delay makes of a walk whose board has moved already.
use Rattle.std.proofs.Common.{◌≡◌, sym, ap, ◌∙◌, true, map}
use Rattle.std.specs.List.{list_all}
use Rattle.hc_rational.specs.Words.{Rational, zero_ℚ, ◌+ℚ◌, ◌≤ℚ◌, fits}
use Rattle.hc_term.specs.declared.task.Task.{Task}
use Rattle.hc_term.specs.declared.model.Configuration.{Configuration}
use Rattle.hc_term.specs.Communication.{moved}
use Rattle.hc_term.specs.Posts.{post_fits}
use Rattle.hc_term.specs.Step.{delayed}
use Rattle.hc_term.specs.Together.{is_within}
use Rattle.hc_member.specs.declared.member.Member.{Member}
use Rattle.hc_member.specs.States.{AllIn}
use Rattle.hc_member.proofs.Passing.{later_fits, passes_forward, posts_moved, all_fit, all_within}
use Rattle.hc_verify.specs.declared.walk.Walk.{Walk}
use Rattle.hc_verify.specs.Stands.{IsAt}
use Rattle.hc_verify.specs.Timing.{IsPassing}

module _ (t : Task) (w : Walk) (c : Configuration) (by : Rational) (p : IsPassing t w c by) where
  pub end_fits : fits (w.clock +ℚ by) ≡ true
  end_fits = later_fits t p.items c by p.leads p.passes w.clock p.clock

  pub from_zero : zero_ℚ ≤ℚ by
  from_zero = passes_forward t p.items c by p.leads p.passes

  pub members_fit : list_all (λ (m : Member). post_fits by m.local.post) w.members.items ≡ true
  members_fit = all_fit t p.items c by p.leads p.passes w.members.items p.members

  pub members_within : list_all (λ (m : Member). is_within by m.local.post.bound) w.members.items ≡ true
  members_within = all_within t p.items c by p.leads p.passes w.members.items p.members

  -- with the members moved and the clock set, it stands for the configuration after the delay
  pub passed : (new : Walk) → AllIn (c.clock +ℚ by) new.members.items (map (moved by) c.processes) → new.board ≡ w.board →
      new.clock ≡ w.clock +ℚ by → IsAt t.system new (delayed by c)
  passed new members board clock = record {
    members = members;
    shown = ap (λ b. b.posts) board ∙ p.shown ∙ sym (posts_moved t p.items c by p.leads p.passes);
    channels = ap (λ b. b.channels) board ∙ p.channels;
    clock = clock ∙ ap (λ (k : Rational). k +ℚ by) p.clock;
  }
