use Rattle.std.proofs.Common.{rules, refl, sym, ap, subst, ◌∙◌, ◌≡◌, ◌<◌, length, vec_len, vec_capacity, arith}
use Rattle.hc_board.specs.Seen.{Seen}
use Rattle.hc_joint.proofs.Meetings.{there_by, told_here, meets_by}
use Rattle.hc_joint.proofs.scene.Scene.meet.Goals as goal

pub tell-requires-clause-sender : goal.tell-requires-clause-sender
tell-requires-clause-sender c =
    (there_by c.args.self.now c.requires.at.0 c.in-Some.meeting c.requires.at.1 (sym c.fire.ensures.met ∙ c.in-Some.is)).sender

pub tell-requires-clause-receiver : goal.tell-requires-clause-receiver
tell-requires-clause-receiver c =
    (there_by c.args.self.now c.requires.at.0 c.in-Some.meeting c.requires.at.1 (sym c.fire.ensures.met ∙ c.in-Some.is)).receiver

pub push_reserved-requires : goal.push_reserved-requires
push_reserved-requires c =
    let s = c.args.self.now in
    let told = told_here c.in-Some.meeting s _ c.tell.new.self c.requires.at.0 c.requires.at.1 (sym c.fire.ensures.met ∙ c.in-Some.is) refl
    c.tell.ensures in
    let counted : vec_len s.history ≡ length s.history.items = search rules in
    let left : vec_len s.history < vec_capacity s.history = omega (arith, counted, c.requires.left, s.room) in
    subst (λ h. vec_len h < vec_capacity h) (sym told.history) left

pub returns : goal.returns
returns c before at =
    let s = c.args.self.now in
    meets_by c.in-Some.meeting s _ c.tell.new.self _
    (record {
      found = sym c.fire.ensures.met ∙ c.in-Some.is;
      left = c.requires.left;
      fire_task = refl;
      fire_members = refl;
      fire_clock = refl;
      fire_history = refl;
      fire_posts = ap (λ (b : Seen). b.posts) c.in-Some.ensures.after;
      fire_channels = ap (λ (b : Seen). b.channels) c.in-Some.ensures.after;
      tells = c.tell.ensures;
      task = refl;
      members = refl;
      board = refl;
      clock = refl;
      items = c.push_reserved.ensures.items;
    })
    before at
