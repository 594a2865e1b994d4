-- A joint that lends what it keeps of a process, and that has a turn with an advance.
use Rattle.std.proofs.Common.{◌≡◌, ◌≢◌, ◌<◌, refl, sym, ap, subst, ◌∙◌, ℕ, ◌+◌, ◌≤◌, ◌++◌, inl, inr, Bool, true, false, length, slice_get, Option, Some, None, is_some, arith}
use Rattle.std.proofs.lemmas.Option.{slice_get_within}
use Rattle.hc_term.specs.declared.run.Stop.{Stop}
use Rattle.hc_term.specs.declared.model.ProcessState.{ProcessState}
use Rattle.hc_term.specs.declared.model.Configuration.{Configuration}
use Rattle.hc_term.specs.Process.{wants}
use Rattle.hc_term.specs.Event.{Event}
use Rattle.hc_runs.specs.Turns.{WantsAt, event_behind}
use Rattle.hc_advance.specs.Lead.{Lead}
use Rattle.hc_member.specs.declared.member.Member.{Member}
use Rattle.hc_member.specs.States.{IsIn}
use Rattle.hc_member.specs.Lending.{kept, Lends}
use Rattle.hc_member.proofs.Places.{beside}
use Rattle.hc_joint.specs.declared.scene.Scene.{Scene}
use Rattle.hc_joint.specs.declared.turn.Turn.{Turn}
use Rattle.hc_joint.specs.declared.turn.Turn.TheVariants as turn
use Rattle.hc_joint.specs.Able.{is_able, wants_if, shows_able}
use Rattle.hc_joint.specs.Seen.{Seen}
use Rattle.hc_joint.specs.Stands.{IsAt}
use Rattle.hc_joint.specs.Parts.{room, Comes}
use Rattle.hc_joint.specs.Keeps.{IsMade, IsReached, seen}
use Rattle.hc_joint.specs.Judging.{is_made, again}
use Rattle.hc_joint.specs.Handed.{KeptOf, MayTurn, Leases, Judges, Answers, state_after}
use Rattle.hc_joint.proofs.Once.{reached_once}
use Rattle.hc_joint.proofs.Halting.{none_is}
use Rattle.hc_joint.proofs.Kept.{able_seen}
use Rattle.hc_joint.proofs.NextTurn.{made_by_turn, seen_by_turn}

-- a process that is able wants a step
wants_where_able : (o : Option ProcessState) → wants_if o ≡ true → (q : ProcessState) × (o ≡ Some q) × (wants q ≡ true)
wants_where_able None e = cc
wants_where_able (Some q) e = (q, refl, e)

some_stands : (o : Option Stop) → is_some o ≡ true → o ≢ None
some_stands None e n = cc
some_stands (Some stop) e n = cc

nothing_more : (n : ℕ) → n + 0 ≡ n
nothing_more n = omega arith

module _ (s : Scene) (stop : Option Stop) (turns recomputed : ℕ) (m : IsMade s stop turns recomputed) where
  abbrev view : Seen
  view = seen s.task s.clock s.history.items stop turns recomputed

  pub here : IsReached view m.reached
  here = record { leads = m.at.leads; clock = m.at.clock }

  once : (c : Configuration) → IsReached view c → c ≡ m.reached
  once c is = reached_once s.task s.history.items c m.reached is.leads m.at.leads

  pub stop_stands : (old : Seen) → view ≡ old → is_some stop ≡ true → old.stop ≢ None
  stop_stands old is e = subst (λ (x : Seen). x.stop ≢ None) is (some_stands stop e)

  module _ (p : ℕ) where
    pub able_here : (b : Bool) → b ≡ shows_able s.board.posts p → b ≡ is_able p m.reached.processes
    able_here b e = e ∙ able_seen s stop turns recomputed m p m.reached here

    pub not_able : (old : Seen) → view ≡ old → is_able p m.reached.processes ≡ false → (c : Configuration) → IsReached old c →
        is_able p c.processes ≡ false
    not_able old is e c at =
        let same = once c (subst (λ (x : Seen). IsReached x c) (sym is) at) in
        ap (λ (x : Configuration). is_able p x.processes) same ∙ e

    pub leases_not : (old : Seen) → view ≡ old → is_able p m.reached.processes ≡ false → (a : Lead) (c : Configuration) → IsReached old c →
        Leases old p c a a false
    leases_not old is e a c at = (refl, inr (inl (not_able old is e c at)))

    module _ (able : is_able p m.reached.processes ≡ true) where
      pub wants_here : WantsAt p m.reached
      wants_here = wants_where_able (slice_get m.reached.processes p) able

      -- the member of the process
      member : (x : Member) × (slice_get s.members.items p ≡ Some x)
      member = beside m.reached.processes s.members.items p wants_here.0 (sym m.at.members.counted) wants_here.1

      pub is_there : p < length s.members.items
      is_there = slice_get_within s.members.items p member.0 member.1

      abbrev kept_of : (x : Member) → slice_get s.members.items p ≡ Some x → KeptOf m.reached p
      kept_of x there =
          let is : IsIn p m.reached.clock x wants_here.0 = m.at.members.each p x wants_here.0 there wants_here.1 in
          record {
            kept = kept x;
            state = wants_here.0;
            there = wants_here.1;
            number = is.number;
            table = is.table;
            agrees = is.agrees;
            stands = is.stands;
          }

      module _ (going : false ≡ is_some stop) where
        may : MayTurn view p m.reached
        may = record { going = none_is stop (sym going); able = able }

        lease_here : (before after : Lead) (said : Bool) (x : Member) (there : slice_get s.members.items p ≡ Some x) →
            Lends (kept x) s.clock s.task.seed before after said → Leases view p m.reached before after said
        lease_here before after true x there h = (may, (kept_of x there, h.0, h.1))
        lease_here before after false x there h = (h.1, inr (inr (kept_of x there, h.0)))

        pub leases : (old : Seen) → view ≡ old → (before after : Lead) (said : Bool) →
            ((x : Member) → slice_get s.members.items p ≡ Some x → Lends (kept x) s.clock s.task.seed before after said) →
            (c : Configuration) → IsReached old c → Leases old p c before after said
        leases old is before after said lends c at =
            let same = once c (subst (λ (x : Seen). IsReached x c) (sym is) at) in
            let it = lease_here before after said member.0 member.1 (lends member.0 member.1) in
            subst (λ (x : Seen). Leases x p c before after said) is
            (subst (λ (d : Configuration). Leases view p d before after said) (sym same) it)

        -- ---- a turn

        answer_here : (a : Lead) (said : Turn) (x : Member) (there : slice_get s.members.items p ≡ Some x) →
            Judges (kept x) s.clock s.task.seed (room s) a said → Answers view p m.reached a said
        answer_here a turn.Stopped x there h = absurd h
        answer_here a turn.NotAble x there h = absurd h
        answer_here a turn.Recomputed x there h = (may, (kept_of x there, h))
        answer_here a turn.Cut x there h = (may, (kept_of x there, h))
        answer_here a turn.Taken x there h = (may, (kept_of x there, h))

        pub answers : (old : Seen) → view ≡ old → (a : Lead) (said : Turn) →
            ((x : Member) → slice_get s.members.items p ≡ Some x → Judges (kept x) s.clock s.task.seed (room s) a said) →
            (c : Configuration) → IsReached old c → Answers old p c a said
        answers old is a said judges c at =
            let same = once c (subst (λ (x : Seen). IsReached x c) (sym is) at) in
            let it = answer_here a said member.0 member.1 (judges member.0 member.1) in
            subst (λ (x : Seen). Answers x p c a said) is
            (subst (λ (d : Configuration). Answers view p d a said) (sym same) it)

        made_if : (said : Turn) (x : Member) (a : Lead) → Judges (kept x) s.clock s.task.seed (room s) a said → is_made said ≡ true
        made_if turn.Stopped x a h = absurd h
        made_if turn.NotAble x a h = absurd h
        made_if turn.Recomputed x a h = refl
        made_if turn.Cut x a h = refl
        made_if turn.Taken x a h = refl

        pub is_turn : (said : Turn) (a : Lead) →
            ((x : Member) → slice_get s.members.items p ≡ Some x → Judges (kept x) s.clock s.task.seed (room s) a said) →
            is_made said ≡ true
        is_turn said a judges = made_if said member.0 a (judges member.0 member.1)

        module _ (new : Scene) (set : Option Stop)
            (comes : (c : Configuration) → IsAt s c → Comes s new (event_behind s.history.items s.task p c) set) where
          after_by : (said : Turn) → is_made said ≡ true → (e : Event) →
              seen new.task new.clock new.history.items set (turns + 1) (recomputed + again said)
              ≡ seen s.task e.end.clock (s.history.items ++ e.items) e.stop (turns + 1) (recomputed + again said) →
              seen new.task new.clock new.history.items set (turns + 1) (recomputed + again said) ≡ state_after view e said
          after_by turn.Stopped made e same = cc
          after_by turn.NotAble made e same = cc
          after_by turn.Recomputed made e same = same
          after_by turn.Cut made e same = same ∙ ap (seen s.task e.end.clock (s.history.items ++ e.items) e.stop (turns + 1)) (nothing_more recomputed)
          after_by turn.Taken made e same = same ∙ ap (seen s.task e.end.clock (s.history.items ++ e.items) e.stop (turns + 1)) (nothing_more recomputed)

          pub turn_made : (said : Turn) → again said ≤ 1 → IsMade new set (turns + 1) (recomputed + again said)
          turn_made said few = made_by_turn s stop turns recomputed m going p wants_here new set comes (again said) few

          pub turn_after : (old : Seen) → view ≡ old → (said : Turn) → is_made said ≡ true → (c : Configuration) → IsReached old c →
              seen new.task new.clock new.history.items set (turns + 1) (recomputed + again said)
              ≡ state_after old (event_behind old.history old.task p c) said
          turn_after old is said made c at =
              let same = once c (subst (λ (x : Seen). IsReached x c) (sym is) at) in
              let e = event_behind s.history.items s.task p m.reached in
              let it = after_by said made e (seen_by_turn s stop turns recomputed m going p wants_here new set comes (turns + 1) (recomputed + again said)) in
              it
              ∙ ap (λ (d : Configuration). state_after view (event_behind s.history.items s.task p d) said) (sym same)
              ∙ ap (λ (x : Seen). state_after x (event_behind x.history x.task p c) said) is

pub again_few : (said : Turn) → again said ≤ 1
again_few turn.Stopped = omega arith
again_few turn.NotAble = omega arith
again_few turn.Recomputed = omega arith
again_few turn.Cut = omega arith
again_few turn.Taken = omega arith
