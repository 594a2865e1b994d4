use Rattle.std.proofs.Common.{◌≡◌, ◌∙◌, refl, sym, subst, true, List, map}
use Rattle.std.specs.List.{list_all}
use Rattle.hc_rational.specs.Words.{◌+ℚ◌}
use Rattle.hc_term.specs.Communication.{moved}
use Rattle.hc_term.specs.Posts.{post_fits}
use Rattle.hc_term.specs.Together.{is_within}
use Rattle.hc_member.specs.declared.member.Member.{Member}
use Rattle.hc_member.specs.States.{AllIn}
use Rattle.hc_member.proofs.Passing.{written_back}
use Rattle.hc_joint.proofs.Passed.{end_fits, from_zero, members_fit, members_within, passed_follows}
use Rattle.hc_joint.proofs.scene.Scene.let_pass.Goals as goal

pub unreachable-requires : goal.unreachable-requires
unreachable-requires c = c.in_default.ensures (end_fits c.args.self.now c.requires.passes.0 c.args.by c.requires.passes.1)

pub move_all-requires-clause-fits : goal.move_all-requires-clause-fits
move_all-requires-clause-fits c =
    subst (λ (ms : List Member). list_all (λ (m : Member). post_fits c.args.by m.local.post) ms ≡ true) (sym c.as_mut_slice.ensures.value)
    (members_fit c.args.self.now c.requires.passes.0 c.args.by c.requires.passes.1)

pub move_all-requires-clause-from_zero : goal.move_all-requires-clause-from_zero
move_all-requires-clause-from_zero c = from_zero c.args.self.now c.requires.passes.0 c.args.by c.requires.passes.1

pub move_all-requires-clause-to_bound : goal.move_all-requires-clause-to_bound
move_all-requires-clause-to_bound c =
    subst (λ (ms : List Member). list_all (λ (m : Member). is_within c.args.by m.local.post.bound) ms ≡ true) (sym c.as_mut_slice.ensures.value)
    (members_within c.args.self.now c.requires.passes.0 c.args.by c.requires.passes.1)

pub returns : goal.returns
returns c at p =
    let s = c.args.self.now in
    let by = c.args.by in
    let before = subst (λ (ms : List Member). AllIn at.clock ms at.processes) (sym c.as_mut_slice.ensures.value) p.members in
    let long = c.move_all.auto.members ∙ c.as_mut_slice.ensures.len in
    let after = subst (λ (ms : List Member). AllIn (at.clock +ℚ by) ms (map (moved by) at.processes))
    (sym (written_back s.members.len c.move_all.new.members _ long)) (c.move_all.ensures at.clock at.processes before) in
    passed_follows s at by p _ refl c.push_reserved.ensures.items after refl c.in-Some.ensures.1 c.requires.left
