-- The schedule of a seed, and what it comes to.
use Rattle.std.specs.Prelude.{ℕ, zero, suc, ◌/◌, ◌%◌, ◌&&◌, ◌==◌, if◌then◌else◌, List, [], ◌∷◌, length, slice_get, Option, Some, None}
use Rattle.rand_pcg.specs.Lcg.{Lcg, started, increment_of}
use Rattle.rand_pcg.specs.Pcg.{multiplier_64, pcg32}
use Rattle.hc_cast.specs.declared.program.CProgram.{CProgram}
use Rattle.hc_cmach.specs.declared.kind.Kind.{Kind}
use Rattle.hc_cmach.specs.declared.exec_end.ExecEnd.{ExecEnd}
use Rattle.hc_cmach.specs.declared.exec_end.ExecEnd.TheVariants.{Ended, UsedUp, Undefined}
use Rattle.hc_schedule.specs.Sections.{Item, Step, Wake}
use Rattle.hc_schedule.specs.Threads.{is_waiting}
use Rattle.hc_cmach.specs.Line.{first_end}
use Rattle.hc_cmach.specs.Machine.{CState, opening, stepped, undefined_kind}

-- the generator of a seed, before its first word
abbrev pub generator : ℕ → Lcg
generator seed = started 64 multiplier_64 seed (increment_of 64 0)

-- Word w means a step of thread w mod T, T threads being there; but a spurious wake-up of it, where it waits and isn't
-- woken, for one word in eight.
abbrev pub drawn : CState → ℕ → ℕ → Item
drawn s n w = if is_waiting (slice_get s.world.threads (w % n)) && (w / n) % 8 == 0 then Wake (w % n) else Step (w % n)

abbrev pub drawn_in : CProgram → CState → ℕ → Item
drawn_in g s w = drawn s (length g.threads) w

-- n items from a state on
abbrev pub seeded_from : CProgram → ℕ → Lcg → CState → List Item
seeded_from g zero r s = []
seeded_from g (suc n) r s =
    drawn_in g s (pcg32 r).0 ∷ seeded_from g n (pcg32 r).1 (stepped g s (drawn_in g s (pcg32 r).0))

-- the schedule of a seed, of n items
abbrev pub seeded : CProgram → ℕ → ℕ → List Item
seeded g seed n = seeded_from g n (generator seed) (opening g)

-- ---- a schedule that is left at the first end line, or at the first undefined step

-- how it ended, and in which state
pub record Performed : Type 0 where
  pub end : ExecEnd
  pub state : CState

abbrev pub item_kind : CProgram → CState → Item → Option Kind
item_kind g s (Step t) = undefined_kind g s t
item_kind g s (Wake t) = None

abbrev pub ends_with : ExecEnd → CState → Performed
ends_with end s = record { end = end; state = s }

-- The items after the first k. Where no item is left, all are used up; an undefined item, and one that prints an end
-- line, is the last.
abbrev pub performed_at : CProgram → ℕ → CState → Option Kind → Option ℕ → CState → Performed → Performed
performed_at g k s (Some kind) ended t rest = ends_with (Undefined kind (suc k)) s
performed_at g k s None (Some end) t rest = ends_with (Ended end) t
performed_at g k s None None t rest = rest

abbrev pub performed_from : CProgram → CState → ℕ → List Item → Performed
performed_from g s k [] = ends_with UsedUp s
performed_from g s k (i ∷ is) =
    performed_at g k s (item_kind g s i) (first_end (stepped g s i).lines) (stepped g s i) (performed_from g (stepped g s i) (suc k) is)

-- what a program does under the schedule of a seed, of n items at most
abbrev pub performed : CProgram → ℕ → ℕ → Performed
performed g seed n = performed_from g (opening g) 0 (seeded g seed n)
