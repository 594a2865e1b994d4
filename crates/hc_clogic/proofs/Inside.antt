-- The state after each step of a section, how long a section is at most, and how it is closed.
use Rattle.std.specs.Prelude.{◌≡◌, ◌≤◌, ℕ, zero, suc, ◌+◌, true, List, [], ◌∷◌, ◌++◌, Some}
use Rattle.std.proofs.Common.{refl, sym, ap, ◌∙◌, subst, arith}
use Rattle.hc_schedule.specs.Threads.{Act, Unlocks, Waits, Does, Code}
use Rattle.hc_schedule.specs.Sections.{Item, Step, steps, Moves, run, IsSafe, is_calm}
use Rattle.hc_schedule.specs.Schedule.{State, moves}
use Rattle.hc_schedule.specs.Solo.{Solo, within, begun, gives_up, RunsAlone}
use Rattle.hc_schedule.proofs.Reduction.{Holds}
use Rattle.hc_schedule.proofs.ThreadLaws.{thread_laws}
use Rattle.hc_schedule.proofs.SoloRuns.{Leaves, leaves_unlocking, leaves_waiting, sections_run_alone}
use Rattle.hc_clogic.specs.Inside.{SectionsStandWithin, SectionsClose}
use Rattle.hc_schedule.proofs.Reduction.{run_append}
use Rattle.hc_schedule.proofs.SoloRuns.{alone_for, split_solos, held_within, entered}

-- ---- steps in a row

steps_add : (t m n : ℕ) → steps t (m + n) ≡ steps t m ++ steps t n
steps_add t zero n = let same : zero + n ≡ n = omega arith in ap (steps t) same
steps_add t (suc m) n =
    let same : suc m + n ≡ suc (m + n) = omega arith in
    ap (steps t) same ∙ ap (λ is. Step t ∷ is) (steps_add t m n)

pub calm_steps : (t n : ℕ) → is_calm (steps t n) ≡ true
calm_steps t zero = refl
calm_steps t (suc n) = calm_steps t n

safe_later : {St : Type 0} → (m : Moves St) (s : St) (u v : List Item) → IsSafe m s (u ++ v) → IsSafe m (run m s u) v
safe_later m s [] v h = h
safe_later m s (i ∷ u) v h = safe_later m (m.next s i) u v h.1

-- ---- sections

module _ {P S L F : Type 0} (c : Code P S L F) where
  pub sections_stand_within : SectionsStandWithin c
  sections_stand_within a t n own y act h j less =
      let k = entered c a t own h.takes in
      let z = split_solos c t j n (begun a own) y less h.alone in
      let r = alone_for c a t (begun a own) z.0 1 j k.there z.2 in
      let same : 1 + j ≡ suc j = omega arith in
      record {
        at = z.0;
        alone = z.2;
        stands = ap (λ (b : State P S L). run (moves c) b (steps t j)) k.within_is ∙ r.ends ∙ ap (within a t z.0) same;
      }

  pub leaves_there : (a : State P S L) (t n : ℕ) (own : P) (y : Solo P S L) (act : Act P S L) → RunsAlone c a t n own y act → Leaves c a t y
  leaves_there a t n own y act h = by act h.asks h.leaves
    where
      by : (act : Act P S L) → c.turn t y.own (Some y.shared) ≡ Does act → gives_up act ≡ true → Leaves c a t y
      by (Unlocks p) e k = leaves_unlocking c a t y p (entered c a t own h.takes).there e
      by (Waits i p) e k = leaves_waiting c a t y i p (entered c a t own h.takes).there e
      by act e k = absurd cc

  -- while the thread owns the mutex it has done n + 1 steps at most
  pub held_at_most : (a : State P S L) (t n : ℕ) (own : P) (y : Solo P S L) (act : Act P S L) → RunsAlone c a t n own y act →
      (held : ℕ) → Holds (moves c) (thread_laws c) t a held → held ≤ suc n
  held_at_most a t n own y act h zero k = omega arith
  held_at_most a t n own y act h (suc held) k =
      let e = entered c a t own h.takes in
      let less : held ≤ n =
      held_within c a t held n 1 (begun a own) y e.there (leaves_there a t n own y act h) h.alone
      (subst (λ (b : State P S L). Holds (moves c) (thread_laws c) t b held) e.within_is k.1) in
      omega (arith, less)

  pub sections_close : SectionsClose c
  sections_close a t n own y act h held left sum =
      let s = sections_run_alone c a t n own y act h in
      let all : steps t (suc (suc n)) ≡ steps t held ++ steps t left = ap (steps t) (sym sum) ∙ steps_add t held left in
      record {
        safe = safe_later (moves c) a (steps t held) (steps t left) (subst (λ (w : List Item). IsSafe (moves c) a w) all s.safe);
        ends =
            sym (run_append (moves c) (thread_laws c) a (steps t held) (steps t left)) ∙ ap (λ (w : List Item). run (moves c) a w) (sym all) ∙ s.ends;
      }
