-- One process more is dealt out.
use Rattle.std.proofs.Common.{◌≡◌, ◌≢◌, ◌+◌, ◌%◌, ◌==◌, ◌||◌, inl, inr, sym, ap, ◌∙◌, arith, ℕ, List, [], ◌∷◌, ◌++◌, false, eq-eqb}
use mathlib.Core.Bool.{or-true}
use Rattle.std.proofs.lemmas.Bool.{cases_eq}
use Rattle.std.proofs.lemmas.List.Elements.{All-push}
use Rattle.std.proofs.lemmas.List.Folds.{list_any-append}
use Rattle.hc_run.specs.Lanes.{has_lane, AreOf}
use Rattle.hc_run.specs.declared.share.Lane.{Lane}

module _ (used worker n : ℕ) (lanes : List Lane) (so_far : AreOf used worker n lanes) where
  -- to this worker: it has a lane more
  pub dealt : (x : Lane) → x.process ≡ n → n % used ≡ worker → AreOf used worker (n + 1) (lanes ++ x ∷ [])
  dealt x is is_mine = record {
    mine = All-push (λ (lane : Lane). lane.process % used ≡ worker) lanes x so_far.mine (ap (λ p. p % used) is ∙ is_mine);
    all = λ p below here. list_any-append (λ (lane : Lane). lane.process == p) lanes (x ∷ []) ∙ elim (cases_eq p n) [
      | inl same ↦ ap (λ b. has_lane p lanes || (b || false)) (eq-eqb x.process p (is ∙ sym same)) ∙ or-true (has_lane p lanes)
      | inr other ↦ ap (λ b. b || ((x.process == p) || false)) (so_far.all p (omega (arith, below, other)) here)
    ];
  }

  -- to another
  pub passed : n % used ≢ worker → AreOf used worker (n + 1) lanes
  passed not_mine = record {
    mine = so_far.mine;
    all = λ p below here. elim (cases_eq p n) [
      | inl same ↦ absurd (not_mine (sym (ap (λ k. k % used) same) ∙ here))
      | inr other ↦ so_far.all p (omega (arith, below, other)) here
    ];
  }
