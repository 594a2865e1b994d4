-- What the branches of an arrived process send: of each that sends the value, and its slope.
use Rattle.std.specs.Prelude.{ℕ, ◌+◌, List, [], ◌∷◌, ◌++◌}
use Rattle.hc_term.specs.declared.expr.Expr.{Expr}
use Rattle.hc_term.specs.declared.stmt.Io.{Io}
use Rattle.hc_term.specs.declared.stmt.Io.TheVariants.{Send, Receive}
use Rattle.hc_term.specs.declared.stmt.Rate.{Rate}
use Rattle.hc_cast.specs.declared.stmt.CStmt.{CStmt}
use Rattle.hc_cstep.specs.Stands.{value_of, slope_of, first_scratch}
use Rattle.hc_cstep.specs.Words.{move, clear}
use Rattle.hc_cstep.specs.Parts.{Parts}

-- the block of branch g, where it sends, before those of the others
abbrev pub sent_by : (ℕ → Expr → List CStmt) → ℕ → Io → List (List CStmt) → List (List CStmt)
sent_by one g (Send channel value) others = one g value ∷ others
sent_by one g (Receive channel variable) others = others

-- one block for each branch that sends; the first is number g
abbrev pub all_sent : (ℕ → Expr → List CStmt) → ℕ → List Io → List (List CStmt)
all_sent one g [] = []
all_sent one g (io ∷ ios) = sent_by one g io (all_sent one (g + 1) ios)

-- where nothing moves: fr_move(p, 192 + g, p, 320); fr_set(p, 256 + g, 0, 1); behind the value
abbrev pub sends_value : Parts → ℕ → ℕ → Expr → List CStmt
sends_value c p g value = c.value value ++ move p (value_of g) first_scratch ∷ clear p (slope_of g) ∷ []

-- along a line: fr_move(p, 192 + g, p, 320); fr_move(p, 256 + g, p, 321); behind value and slope
abbrev pub sends_line : Parts → ℕ → List Rate → ℕ → Expr → List CStmt
sends_line c p rates g value = c.line rates value ++ move p (value_of g) first_scratch ∷ move p (slope_of g) (first_scratch + 1) ∷ []
