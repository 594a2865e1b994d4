-- Marking the workers whose processes have a silent step.
use Rattle.std.proofs.Common.{◌≡◌, ◌≢◌, ◌⊎◌, inl, inr, refl, sym, ap, ◌∙◌, arith, ℕ, ◌+◌, ◌<◌, ◌≤◌, ◌%◌, Bool, true, false, List, length, Option, Some, None, is_some}
use Rattle.std.specs.Prelude.{slice_index_or, slice_set}
use Rattle.std.proofs.lemmas.List.{get_or-set_same, get_or-set_other, length-set}
use Rattle.std.proofs.lemmas.Bool.{cases_eq, both_ways}
use Rattle.hc_term.specs.declared.run.Stop.{Stop}
use Rattle.hc_term.specs.declared.model.Configuration.{Configuration}
use Rattle.hc_joint.specs.Able.{is_able}
use Rattle.hc_joint.specs.Seen.{Seen}
use Rattle.hc_joint.specs.Keeps.{IsReached}
use Rattle.hc_run.specs.Wanted.{AreWanted}

-- the workers of the processes below n are marked, or all of them at a stop, and no others
pub record Marks (s : Seen) (used n : ℕ) (ws : List Bool) : Type 0 where
  pub size : length ws ≡ 64
  pub stop : s.stop ≢ None → (w : ℕ) → w < 64 → slice_index_or ws w false ≡ true
  pub marked : (c : Configuration) → IsReached s c → (p : ℕ) → p < n → is_able p c.processes ≡ true → slice_index_or ws (p % used) false ≡ true
  pub others : (c : Configuration) → IsReached s c → (w : ℕ) → w < 64 → slice_index_or ws w false ≡ true →
      (s.stop ≢ None) ⊎ ((p : ℕ) × (p % used ≡ w) × (is_able p c.processes ≡ true))

-- all at a stop, else none
some_by : (o : Option Stop) → o ≢ None → is_some o ≡ true
some_by None n = absurd (n refl)
some_by (Some stop) n = refl

some_not : (o : Option Stop) → is_some o ≡ true → o ≢ None
some_not None e n = cc
some_not (Some stop) e n = cc

pub start : (s : Seen) (used : ℕ) (ws : List Bool) (all : Bool) → length ws ≡ 64 → all ≡ is_some s.stop →
    ((w : ℕ) → w < 64 → slice_index_or ws w false ≡ all) → Marks s used 0 ws
start s used ws all size is each = record {
  size = size;
  stop = λ st w low. each w low ∙ is ∙ some_by s.stop st;
  marked = λ c at p below able. absurd (omega (arith, below));
  others = λ c at w low e. inl (some_not s.stop (sym is ∙ sym (each w low) ∙ e));
}

-- what stood true stands true after one more is marked
kept : (ws : List Bool) (i w : ℕ) → i < length ws → slice_index_or ws w false ≡ true → slice_index_or (slice_set ws i true) w false ≡ true
kept ws i w inside e = elim (cases_eq w i) [
  | inl same ↦ ap (λ k. slice_index_or (slice_set ws i true) k false) same ∙ get_or-set_same ws i true false inside
  | inr other ↦ get_or-set_other ws i w true false other ∙ e
]

module _ (s : Seen) (used n : ℕ) (ws : List Bool) (m : Marks s used n ws) where
  pub next : n % used < 64 → ((c : Configuration) → IsReached s c → true ≡ is_able n c.processes) →
      Marks s used (n + 1) (slice_set ws (n % used) true)
  next low is_able_here =
      let i = n % used in
      let inside : i < length ws = omega (arith, m.size, low) in
      record {
        size = length-set ws i true ∙ m.size;
        stop = λ st w low. kept ws i w inside (m.stop st w low);
        marked = λ c at p below p_able. elim (cases_eq p n) [
          | inl same ↦ ap (λ k. slice_index_or (slice_set ws i true) (k % used) false) same ∙ get_or-set_same ws i true false inside
          | inr other ↦ kept ws i (p % used) inside (m.marked c at p (omega (arith, below, other)) p_able)
        ];
        others = λ c at w low e. elim (cases_eq w i) [
          | inl same ↦ inr (n, sym same, sym (is_able_here c at))
          | inr other ↦ m.others c at w low (sym (get_or-set_other ws i w true false other) ∙ e)
        ];
      }

  pub skip : ((c : Configuration) → IsReached s c → false ≡ is_able n c.processes) → Marks s used (n + 1) ws
  skip not_able = record {
    size = m.size;
    stop = m.stop;
    marked = λ c at p below p_able. elim (cases_eq p n) [
      | inl same ↦ absurd (both_ways (is_able p c.processes) (ap (λ k. is_able k c.processes) same ∙ sym (not_able c at)) p_able)
      | inr other ↦ m.marked c at p (omega (arith, below, other)) p_able
    ];
    others = m.others;
  }

  -- all processes were looked at
  pub whole : length s.task.system.processes ≤ n → (c : Configuration) → IsReached s c → AreWanted s used ws c
  whole long c at = record {
    stop = m.stop;
    able_ones = λ p below is_able. m.marked c at p (omega (arith, below, long)) is_able;
    no_others = m.others c at;
  }
