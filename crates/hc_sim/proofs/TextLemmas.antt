-- The lines of the steps from an index on.
use Rattle.std.proofs.Common.{◌≡◌, ℕ, ◌+◌, ◌<◌, ◌≤◌, false, List, [], ◌++◌, length, get_or, drop, Some, None, refl, sym, ap, ◌∙◌}
use Rattle.std.proofs.lemmas.List.{at_drop_more, drop_all}
use Rattle.hc_rational.specs.Words.{Rational}
use Rattle.hc_term.specs.declared.system.System.{System}
use Rattle.hc_term.specs.declared.run.Step.{Step}
use Rattle.hc_term.specs.declared.run.Step.TheVariants.{Silent, Comm, Delay}
use Rattle.hc_term.specs.declared.run.Item.{Item}
use Rattle.hc_term.specs.TraceText.{line_of_step, lines}
use Rattle.hc_trace.specs.Visible.{is_visible}

-- the line of the step at the index i, and those from the next index on
pub lines_next : (sys : System) (items : List Item) (i : ℕ) (item : Item) → i < length items → item ≡ get_or items i item →
    lines sys (drop i items) ≡ line_of_step sys item.at item.step ++ lines sys (drop (i + 1) items)
lines_next sys items i item some is_item =
    at_drop_more (λ is. lines sys is) items i item some
    ∙ ap (λ (j : Item). line_of_step sys j.at j.step ++ lines sys (drop (i + 1) items)) (sym is_item)

-- behind the last step there is none
pub lines_end : (sys : System) (items : List Item) (i : ℕ) → length items ≤ i → lines sys (drop i items) ≡ []
lines_end sys items i none = ap (λ (js : List Item). lines sys js) (drop_all i items none)

-- a step that isn't visible has no line
pub hidden : (sys : System) (at : Rational) (step : Step) → is_visible step ≡ false → line_of_step sys at step ≡ []
hidden sys at (Silent p None) e = refl
hidden sys at (Silent p (Some v)) e = cc
hidden sys at (Comm c v) e = cc
hidden sys at (Delay d) e = cc
