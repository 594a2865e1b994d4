-- An event out of its parts: all meetings and the delay, what follows a stretch, and the whole.
use Rattle.std.proofs.Common.{◌≡◌, ◌≢◌, refl, sym, ap, subst, ◌∙◌, ℕ, zero, suc, ◌+◌, ◌-◌, ◌<◌, ◌≤◌, min, true, false, List, [], ◌∷◌, ◌++◌, length, slice_get, Option, Some, None, arith}
use Rattle.std.proofs.lemmas.List.{append_assoc, length_push}
use Rattle.hc_limits.specs.Limits.{most_silent_steps}
use Rattle.hc_term.specs.declared.task.Task.{Task}
use Rattle.hc_term.specs.declared.run.Step.TheVariants.{Comm}
use Rattle.hc_term.specs.declared.run.Item.{Item}
use Rattle.hc_term.specs.declared.run.Stop.{Stop}
use Rattle.hc_term.specs.declared.run.Stop.TheVariants.{Limit, Overflow}
use Rattle.hc_term.specs.declared.run.StretchEnd.{StretchEnd}
use Rattle.hc_term.specs.declared.run.StretchEnd.TheVariants as ends
use Rattle.hc_term.specs.declared.model.ProcessState.{ProcessState}
use Rattle.hc_term.specs.declared.model.Meeting.{Meeting}
use Rattle.hc_term.specs.declared.model.Configuration.{Configuration}
use Rattle.hc_term.specs.Step.{ready, passing, replaced, met}
use Rattle.hc_term.specs.Event.{Event, progress, still, event_after, last_part_by, meetings_by, meetings, second_part, silent_items, event_by, event_of}
use Rattle.hc_term.proofs.EventRuns.{length-silent_items}
use Rattle.hc_runs.specs.Turns.{event_behind}
use Rattle.hc_joint.specs.declared.scene.Scene.{Scene}
use Rattle.hc_joint.specs.Stands.{IsAt, IsSomewhere}
use Rattle.hc_joint.specs.Parts.{room, Follows, Comes, Runs, Meets}
use Rattle.hc_joint.proofs.Following.{room_after, follows_on, comes_after, stays}

event_after-append : (is js : List Item) (e : Event) → event_after is (event_after js e) ≡ event_after (is ++ js) e
event_after-append is js e =
    ap (λ (l : List Item). record { items = l; end = e.end; stop = e.stop }) (sym (append_assoc is js e.items))

-- ---- communications

-- From the scene `old`, which stood for c, these meetings led to the scene of now; what is left of the event follows from it.
pub record Under (old now : Scene) (c : Configuration) : Type 0 where
  pub reached : Configuration
  pub more : List Item
  pub follows : Follows old now more reached
  pub rest : meetings (room old) old.task c ≡ event_after more (meetings (room now) old.task reached)

pub under_start : (s : Scene) (c : Configuration) → IsAt s c → Under s s c
under_start s c at = record { reached = c; more = []; follows = stays s c at; rest = refl }

-- one meeting more
module _ (old now new : Scene) (c : Configuration) (u : Under old now c) (left : 0 < room now) where
  met_once : (m : Meeting) → ready now.task u.reached ≡ Some m →
      Follows now new (record { at = u.reached.clock; step = Comm m.channel m.value } ∷ []) (met m u.reached) → Under old new c
  met_once m found f =
      let d = u.reached in
      let t = old.task in
      let step : Item = record { at = d.clock; step = Comm m.channel m.value } in
      let is : ready t d ≡ Some m = ap (λ (x : Task). ready x d) (sym u.follows.task) ∙ found in
      let less : room now ≡ suc (room new) = omega (arith, left, room_after now new (step ∷ []) (met m d) f) in
      let one : meetings (room now) t d ≡ event_after (step ∷ []) (meetings (room new) t (met m d)) =
      ap (λ (n : ℕ). meetings n t d) less
      ∙ ap (meetings_by d (meetings (room new) t) (last_part_by (room new) t d (passing t d))) is in
      record {
        reached = met m d;
        more = u.more ++ step ∷ [];
        follows = follows_on old now new u.more (step ∷ []) d (met m d) u.follows f;
        rest = u.rest ∙ ap (event_after u.more) one ∙ event_after-append u.more (step ∷ []) (meetings (room new) t (met m d));
      }

  under_by : (o : Option Meeting) → ready now.task u.reached ≡ o → Meets now new u.reached o true → Under old new c
  under_by None e h = let wrong = h.0 in cc
  under_by (Some m) e h = met_once m e h.1

pub under_next : (old now new : Scene) → 0 < room now →
    ((d : Configuration) → IsAt now d → Meets now new d (ready now.task d) true) → (c : Configuration) → Under old now c →
    Under old new c
under_next old now new left meets c u =
    under_by old now new c u left (ready now.task u.reached) refl (meets u.reached u.follows.at)

-- how many items there are tells whether there is room
pub under_left : (old now : Scene) (n : ℕ) → length now.history.items ≡ n → n < old.task.limit → (c : Configuration) → Under old now c →
    0 < room now
under_left old now n counted below c u =
    let limit : now.task.limit ≡ old.task.limit = ap (λ (t : Task). t.limit) u.follows.task in
    omega (arith, limit, counted, below)

pub under_none : (old now : Scene) (n : ℕ) → length now.history.items ≡ n → old.task.limit ≤ n → (c : Configuration) → Under old now c →
    room now ≡ 0
under_none old now n counted above c u =
    let limit : now.task.limit ≡ old.task.limit = ap (λ (t : Task). t.limit) u.follows.task in
    omega (arith, limit, counted, above)

-- a meeting is one item
one_more : (now new : Scene) (d : Configuration) (o : Option Meeting) → Meets now new d o true →
    length new.history.items ≡ length now.history.items + 1
one_more now new d None h = let wrong = h.0 in cc
one_more now new d (Some m) h =
    let step : Item = record { at = d.clock; step = Comm m.channel m.value } in
    ap length h.1.items ∙ length_push now.history.items step

pub met_more : (old now new : Scene) → ((d : Configuration) → IsAt now d → Meets now new d (ready now.task d) true) →
    (c : Configuration) → Under old now c → length new.history.items ≡ length now.history.items + 1
met_more old now new meets c u = one_more now new u.reached (ready now.task u.reached) (meets u.reached u.follows.at)

-- no room is left
pub under_limit : (old now : Scene) → room now ≡ 0 → (c : Configuration) → Under old now c →
    Comes old now (meetings (room old) old.task c) (Some Limit)
under_limit old now none c u =
    let all : meetings (room old) old.task c ≡ event_after u.more (still u.reached (Some Limit)) =
    u.rest ∙ ap (λ (n : ℕ). event_after u.more (meetings n old.task u.reached)) none in
    let stop : Comes now now (still u.reached (Some Limit)) (Some Limit) = record { follows = stays now u.reached u.follows.at; stop = refl } in
    subst (λ (e : Event). Comes old now e (Some Limit)) (sym all) (comes_after old now now u.more u.reached (still u.reached (Some Limit)) (Some Limit) u.follows stop)

-- what the end of an event does where no channel is ready
abbrev pub Waits : Scene → Scene → Option Stop → Type 0
Waits s new set =
    (d : Configuration) → IsAt s d → ready s.task d ≡ None → Comes s new (last_part_by (room s - 1) s.task d (passing s.task d)) set

-- where no two met no channel is ready
quiet_by : (now mid : Scene) (d : Configuration) (o : Option Meeting) → ready now.task d ≡ o → Meets now mid d o false →
    (ready now.task d ≡ None) × (mid ≡ now)
quiet_by now mid d None e h = (e, h.1)
quiet_by now mid d (Some m) e h = let wrong = h.0 in cc

pub quiet_here : (old now mid : Scene) (c : Configuration) → Under old now c →
    ((d : Configuration) → IsAt now d → Meets now mid d (ready now.task d) false) →
    (d : Configuration) × IsAt mid d × (ready mid.task d ≡ None)
quiet_here old now mid c u meets =
    let q = quiet_by now mid u.reached (ready now.task u.reached) refl (meets u.reached u.follows.at) in (
      u.reached,
      subst (λ (s : Scene). IsAt s u.reached) (sym q.1) u.follows.at,
      subst (λ (s : Scene). ready s.task u.reached ≡ None) (sym q.1) q.0,
    )

pub under_waits : (old now mid new : Scene) (set : Option Stop) → 0 < room now →
    ((d : Configuration) → IsAt now d → Meets now mid d (ready now.task d) false) → Waits mid new set →
    (c : Configuration) → Under old now c → Comes old new (meetings (room old) old.task c) set
under_waits old now mid new set left meets waits c u =
    let d = u.reached in
    let t = old.task in
    let q = quiet_by now mid d (ready now.task d) refl (meets d u.follows.at) in
    let waiting : Waits now new set = subst (λ (s : Scene). Waits s new set) q.1 waits in
    let last : Comes now new (last_part_by (room now - 1) t d (passing t d)) set =
    subst (λ (x : Task). Comes now new (last_part_by (room now - 1) x d (passing x d)) set) u.follows.task (waiting d u.follows.at q.0) in
    let is : ready t d ≡ None = ap (λ (x : Task). ready x d) (sym u.follows.task) ∙ q.0 in
    let more : room now ≡ suc (room now - 1) = omega (arith, left) in
    let one : meetings (room now) t d ≡ last_part_by (room now - 1) t d (passing t d) =
    ap (λ (n : ℕ). meetings n t d) more
    ∙ ap (meetings_by d (meetings (room now - 1) t) (last_part_by (room now - 1) t d (passing t d))) is in
    subst (λ (e : Event). Comes old new e set) (sym (u.rest ∙ ap (event_after u.more) one))
    (comes_after old now new u.more d (last_part_by (room now - 1) t d (passing t d)) set u.follows last)

-- ---- what follows a stretch

-- no room is left
pub second-limit : (s : Scene) (p : ℕ) (c : Configuration) (end : StretchEnd) → IsAt s c → room s ≡ 0 →
    Comes s s (second_part (room s) s.task p c end) (Some Limit)
second-limit s p c end at none =
    subst (λ (n : ℕ). Comes s s (second_part n s.task p c end) (Some Limit)) (sym none) (record { follows = stays s c at; stop = refl })

-- a step didn't fit
pub second-unfit : (s : Scene) (p : ℕ) (c : Configuration) (end : StretchEnd) → IsAt s c → 0 < room s → end ≡ ends.Unfit →
    Comes s s (second_part (room s) s.task p c end) (Some (Overflow (Some p)))
second-unfit s p c end at left unfit =
    let more : room s ≡ suc (room s - 1) = omega (arith, left) in
    let is : second_part (room s) s.task p c end ≡ still c (Some (Overflow (Some p))) =
    ap (λ (n : ℕ). second_part n s.task p c end) more ∙ ap (second_part (suc (room s - 1)) s.task p c) unfit in
    subst (λ (e : Event). Comes s s e (Some (Overflow (Some p)))) (sym is) (record { follows = stays s c at; stop = refl })

-- else the communications follow
pub second-meets : (n : ℕ) (t : Task) (p : ℕ) (c : Configuration) (end : StretchEnd) → end ≢ ends.Unfit →
    second_part n t p c end ≡ meetings n t c
second-meets zero t p c end fits = refl
second-meets (suc n) t p c ends.Unfit fits = absurd (fits refl)
second-meets (suc n) t p c (ends.Logged v) fits = refl
second-meets (suc n) t p c ends.Waits fits = refl
second-meets (suc n) t p c ends.Ended fits = refl
second-meets (suc n) t p c ends.Spent fits = refl

-- ---- the event

get-there : {A : Type 0} (xs : List A) (p : ℕ) → p < length xs → (x : A) × (slice_get xs p ≡ Some x)
get-there [] p h = absurd (omega arith)
get-there (x ∷ xs) zero h = (x, refl)
get-there (x ∷ xs) (suc p) h = get-there xs p (omega arith)

-- after the steps of the process the scene stands for what they led to
pub somewhere_after : (old mid : Scene) (p most : ℕ) (end : StretchEnd) → p < length old.members.items →
    ((c : Configuration) (q : ProcessState) → IsAt old c → slice_get c.processes p ≡ Some q →
    Runs p old mid end c (progress most old.task.seed p c.clock q)) →
    IsSomewhere old → IsSomewhere mid
somewhere_after old mid p most end there runs here =
    let c = here.0 in
    let at = here.1 in
    let q = get-there c.processes p (omega (arith, there, at.members.counted)) in
    let r = runs c q.0 at q.1 in
    (replaced c p (progress most old.task.seed p c.clock q.0).next, r.follows.at)

-- the event of a process in this state, of which each step counts
module _ (old mid new : Scene) (p most : ℕ) (end : StretchEnd) (set : Option Stop) (least : most ≡ min most_silent_steps (room old))
    (runs : (c : Configuration) (q : ProcessState) → IsAt old c → slice_get c.processes p ≡ Some q →
    Runs p old mid end c (progress most old.task.seed p c.clock q))
    (goes : (d : Configuration) → IsAt mid d → Comes mid new (second_part (room mid) mid.task p d end) set) where
  event_in : (c : Configuration) (q : ProcessState) → IsAt old c → slice_get c.processes p ≡ Some q →
      Comes old new (event_by (room old) old.task p c (progress most old.task.seed p c.clock q)) set
  event_in c q at here =
      let g = progress most old.task.seed p c.clock q in
      let t = old.task in
      let d = replaced c p g.next in
      let is = silent_items c.clock p g.logs in
      let r = runs c q at here in
      let left : room mid ≡ room old - length g.logs =
      room_after old mid is d r.follows ∙ ap (λ (n : ℕ). room old - n) (length-silent_items c.clock p g.logs) in
      let rest : Comes mid new (second_part (room mid) mid.task p d end) set = goes d r.follows.at in
      let by_task = subst (λ (x : Task). Comes mid new (second_part (room mid) x p d end) set) r.follows.task rest in
      let by_room = subst (λ (n : ℕ). Comes mid new (second_part n t p d end) set) left by_task in
      let by_end = subst (λ (e : StretchEnd). Comes mid new (second_part (room old - length g.logs) t p d e) set) r.ended by_room in
      comes_after old mid new is d (second_part (room old - length g.logs) t p d g.end) set r.follows by_end

  pub event_comes : p < length old.members.items → (c : Configuration) → IsAt old c →
      Comes old new (event_behind old.history.items old.task p c) set
  event_comes there c at =
      let q = get-there c.processes p (omega (arith, there, at.members.counted)) in
      let n = min most_silent_steps (room old) in
      let steps : Comes old new (event_by (room old) old.task p c (progress n old.task.seed p c.clock q.0)) set =
      subst (λ (k : ℕ). Comes old new (event_by (room old) old.task p c (progress k old.task.seed p c.clock q.0)) set) least
      (event_in c q.0 at q.1) in
      subst (λ (o : Option ProcessState). Comes old new (event_of (room old) old.task p c o) set) (sym q.1) steps
