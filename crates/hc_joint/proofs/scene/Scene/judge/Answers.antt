use Rattle.std.proofs.Common.{rules, ◌≡◌, ◌-◌, refl, sym, subst, ◌∙◌, ℕ, length, vec_len, slice_get, Some, arith}
use Rattle.std.specs.Prelude.{◌↔◌, IsTrue}
use Rattle.std.proofs.lemmas.Option.{slice_get_read}
use Rattle.hc_advance.specs.Lead.{StartsAt}
use Rattle.hc_member.specs.declared.member.Member.{Member}
use Rattle.hc_member.specs.Lending.{kept}
use Rattle.hc_joint.specs.declared.turn.Turn.{Turn}
use Rattle.hc_joint.specs.Parts.{room}
use Rattle.hc_joint.specs.Handed.{Judges}
use Rattle.hc_joint.specs.Judging.{judged}
use Rattle.hc_joint.proofs.Deciding.{judges}
use Rattle.hc_joint.proofs.scene.Scene.judge.Goals as goal

pub returns : goal.returns
returns c m there =
    let s = c.args.self.now in
    let a = c.args.advance.now in
    let at = c.index.result.now in
    let here : slice_get s.members.items c.args.process ≡ Some at =
    slice_get_read s.members.items (length s.members.items) c.args.process at refl c.requires.there c.index.ensures in
    let one : Some at ≡ Some m = sym here ∙ there in
    let same : at ≡ m = cc in
    let is = subst (λ (x : Member). IsTrue c.is_start_of-starts.result ↔ StartsAt a x.code x.local s.clock s.task.seed) same
    c.is_start_of-starts.ensures in
    let counted : vec_len s.history ≡ length s.history.items = search rules in
    let left : s.task.limit - c.len.result ≡ room s = omega (arith, counted, c.len.ensures) in
    subst (λ (t : Turn). Judges (kept m) s.clock s.task.seed (room s) a t) (sym c.judged.ensures)
    (subst (λ (n : ℕ). Judges (kept m) s.clock s.task.seed (room s) a (judged c.is_start_of-starts.result c.steps.result n)) (sym left)
    (judges (kept m) s.clock s.task.seed (room s) a c.is_start_of-starts.result c.steps.result is c.steps.ensures))
