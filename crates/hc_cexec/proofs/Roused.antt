-- A spurious wake-up leads to the state of the definition.
use Rattle.std.proofs.Common.{◌≡◌, refl, sym, ap, ◌∙◌, subst, ℕ, List, length, slice_get, Option, Some, None}
use Rattle.std.specs.Prelude.{if◌then◌else◌}
use Rattle.hc_cast.specs.declared.program.CProgram.{CProgram}
use Rattle.hc_ccode.specs.declared.code.Entry.{Entry}
use Rattle.hc_ccode.specs.Stages.{Stages}
use Rattle.hc_schedule.specs.declared.status.Status.{Status}
use Rattle.hc_schedule.specs.declared.status.Status.TheVariants as status
use Rattle.hc_schedule.specs.Sections.{Wake}
use Rattle.hc_schedule.specs.Threads as world
use Rattle.hc_cmach.specs.State.{Own, Shared}
use Rattle.hc_cmach.specs.Machine.{CState, stepped}
use Rattle.hc_cexec.specs.declared.thread.Thread.{Thread}
use Rattle.hc_cexec.specs.declared.machine.Machine.{Machine}
use Rattle.hc_cexec.specs.Applied.{is_waiting, roused, replaced, replaced_by, with_status}
use Rattle.hc_cexec.specs.Stands.{ThreadIs, ThreadsAre, IsAtBy}
use Rattle.hc_cexec.specs.Taken.{IsRoused}
use Rattle.hc_cexec.proofs.Worlds.{HasThread, get_some, get_none, set_both, waiting_same}
use Rattle.hc_cexec.proofs.Stepped.{TellsOf, told_is, at_state}

module _ (es : List Entry) (t : Stages) (w : world.World Own Shared) (ths : List Thread) (q : ℕ) (all : ThreadsAre es t ths w.threads) where
  abbrev IsWoken : List Thread → world.World Own Shared → Type 0
  IsWoken new v = ThreadsAre es t new v.threads

  module _ (th : Thread) (stands : slice_get ths q ≡ Some th) (has : HasThread es t w.threads q th) where
    woken : ThreadIs es t (with_status status.Woken th) (record { own = has.thread.own; status = status.Woken })
    woken = record { own = record { row = has.is.own.row; stack = has.is.own.stack; rooms = has.is.own.rooms }; status = refl }

    woken_all : ThreadsAre es t (replaced ths q (with_status status.Woken)) (world.put w.threads q has.thread.own status.Woken)
    woken_all =
        subst (λ (o : Option Thread). ThreadsAre es t (replaced_by ths q (with_status status.Woken) o) (world.put w.threads q has.thread.own status.Woken)) (sym stands)
        (set_both es t ths w.threads q (with_status status.Woken th) (record { own = has.thread.own; status = status.Woken }) woken all)

    by_status : (s : Status) → IsWoken (if world.waits s then replaced ths q (with_status status.Woken) else ths) (world.roused_from w q has.thread.own s)
    by_status status.Ready = all
    by_status (status.Waiting k) = woken_all
    by_status status.Woken = all

    some_woken : IsWoken (roused ths q) (world.roused w q)
    some_woken =
        subst (λ (o : Option Thread). IsWoken (if is_waiting o then replaced ths q (with_status status.Woken) else ths) (world.roused w q)) (sym stands)
        (
        subst (λ (o : Option (world.Thread Own)). IsWoken (if world.waits th.status then replaced ths q (with_status status.Woken) else ths) (world.roused_by w q o))
        (sym has.stands)
        (
        subst (λ (s : Status). IsWoken (if world.waits s then replaced ths q (with_status status.Woken) else ths) (world.roused_from w q has.thread.own has.thread.status))
        (sym has.is.status) (by_status has.thread.status)
        )
        )

  at_thread : (o : Option Thread) → slice_get ths q ≡ o → IsWoken (roused ths q) (world.roused w q)
  at_thread None e =
      subst (λ (o : Option Thread). IsWoken (if is_waiting o then replaced ths q (with_status status.Woken) else ths) (world.roused w q)) (sym e)
      (subst (λ (o : Option (world.Thread Own)). IsWoken ths (world.roused_by w q o)) (sym (get_none es t ths w.threads q all e)) all)
  at_thread (Some th) e = some_woken th e (get_some es t ths w.threads q th all e)

  pub threads_roused : IsWoken (roused ths q) (world.roused w q)
  threads_roused = at_thread (slice_get ths q) refl

-- ---- what a wake-up leaves as it is

owner_from : (w : world.World Own Shared) (q : ℕ) (p : Own) (s : Status) → ((world.roused_from w q p s).owner ≡ w.owner) × ((world.roused_from w q p s).shared ≡ w.shared)
owner_from w q p status.Ready = (refl, refl)
owner_from w q p (status.Waiting k) = (refl, refl)
owner_from w q p status.Woken = (refl, refl)

others_kept : (w : world.World Own Shared) (q : ℕ) (o : Option (world.Thread Own)) → ((world.roused_by w q o).owner ≡ w.owner) × ((world.roused_by w q o).shared ≡ w.shared)
others_kept w q None = (refl, refl)
others_kept w q (Some th) = owner_from w q th.own th.status

module _ (g : CProgram) (m : Machine) (t : Stages) (s : CState) (is : IsAtBy g m t s) (q : ℕ) where
  pub roused_at : (n : Machine) → IsRoused q m n → IsAtBy g n t (stepped g s (Wake q))
  roused_at n r =
      let kept = others_kept s.world q (slice_get s.world.threads q) in
      at_state g m t s is n (stepped g s (Wake q)) r.same (ap length r.arguments)
      (
      record {
        owner = r.owner ∙ is.owner ∙ sym kept.0;
        row = r.row ∙ is.row ∙ ap (λ (x : Shared). x.row) (sym kept.1);
        arrays = r.arrays ∙ is.arrays ∙ ap (λ (x : Shared). x.arrays) (sym kept.1);
        threads = subst (λ (ths : List Thread). ThreadsAre m.code.functions t ths (world.roused s.world q).threads) (sym r.threads)
            (threads_roused m.code.functions t s.world m.world.threads.items q is.threads);
        told = subst (λ x. TellsOf g x s.lines) (sym r.told) (told_is g m t s is);
        moved = r.moved ∙ is.moved;
      }
      )

  pub waiting_at : is_waiting (slice_get m.world.threads.items q) ≡ world.is_waiting (slice_get s.world.threads q)
  waiting_at = waiting_same m.code.functions t m.world.threads.items s.world.threads q is.threads
