-- Pieces of a run, one after the other.
use Rattle.std.proofs.Common.{◌≡◌, refl, sym, ap, subst, ℕ, suc, ◌+◌, ◌≤◌, List, [], ◌∷◌, ◌++◌, length, length-append, Option, Some, None, inl, inr, arith}
use Rattle.hc_term.specs.declared.task.Task.{Task}
use Rattle.hc_term.specs.declared.run.Step.{Step}
use Rattle.hc_term.specs.declared.run.Item.{Item}
use Rattle.hc_term.specs.declared.run.Stop.{Stop}
use Rattle.hc_term.specs.declared.model.Configuration.{Configuration}
use Rattle.hc_term.specs.Step.{StepTo, Leads}
use Rattle.hc_term.specs.Event.{EndsWell}

-- from c, where there is room for n steps, these lead to the end, and the stop, where there is one, holds there
pub record Piece (t : Task) (n : ℕ) (c : Configuration) (items : List Item) (end : Configuration) (stop : Option Stop) : Type 0 where
  pub leads : Leads t c items end
  pub within : length items ≤ n
  pub ends : EndsWell t n (length items) end stop

module _ (t : Task) where
  pub no_steps : (n : ℕ) (c : Configuration) (stop : Option Stop) → EndsWell t n 0 c stop → Piece t n c [] c stop
  no_steps n c stop h = record { leads = refl; within = omega arith; ends = h }

  pub leads_on : (c mid end : Configuration) (is js : List Item) → Leads t c is mid → Leads t mid js end →
      Leads t c (is ++ js) end
  leads_on c mid end [] js h k = subst (λ (x : Configuration). Leads t x js end) h k
  leads_on c mid end (i ∷ is) js h k = (h.0, (h.1.0, h.1.1, leads_on h.1.0 mid end is js h.1.2 k))

  ends_later : (k n m : ℕ) (end : Configuration) (stop : Option Stop) → EndsWell t n m end stop →
      EndsWell t (k + n) (k + m) end stop
  ends_later k n m end None h = omega (arith, h)
  ends_later k n m end (Some stop) (inl h) = inl (ap (λ i. k + i) h.0, h.1)
  ends_later k n m end (Some stop) (inr h) = inr (omega (arith, h.0), h.1)

  -- a piece after other steps
  pub piece_after : (room n : ℕ) (c mid end : Configuration) (is js : List Item) (stop : Option Stop) →
      length is + n ≡ room → Leads t c is mid → Piece t n mid js end stop → Piece t room c (is ++ js) end stop
  piece_after room n c mid end is js stop all h k =
      let both : length (is ++ js) ≡ length is + length js = length-append is js in
      let later = ends_later (length is) n (length js) end stop k.ends in
      record {
        leads = leads_on c mid end is js h k.leads;
        within = omega (arith, both, k.within);
        ends = subst (λ (m : ℕ). EndsWell t m (length (is ++ js)) end stop) all
            (subst (λ (m : ℕ). EndsWell t (length is + n) m end stop) (sym both) later);
      }

  -- a piece after one step
  pub piece_next : (n : ℕ) (c mid end : Configuration) (step : Step) (js : List Item) (stop : Option Stop) →
      StepTo t c step mid → Piece t n mid js end stop →
      Piece t (suc n) c (record { at = c.clock; step = step } ∷ js) end stop
  piece_next n c mid end step js stop h k =
      piece_after (suc n) n c mid end (record { at = c.clock; step = step } ∷ []) js stop (omega arith)
      (refl, (mid, h, refl)) k
