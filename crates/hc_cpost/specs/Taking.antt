-- The C of taking over, written down: what has become of process p since it posted, or that it is at its end.
use Rattle.std.specs.Prelude.{ℕ, zero, suc, ◌+◌, ◌*◌, List, [], ◌∷◌, ◌++◌, map, slice_set, slice_index_or, pos, Some, None, codes}
use Rattle.hc_rational.specs.Words.{Rational, zero_ℚ}
use Rattle.hc_code.specs.declared.code.Way.{Way}
use Rattle.hc_code.specs.declared.code.Instr.{Instr}
use Rattle.hc_code.specs.declared.code.Instr.TheVariants as instr
use Rattle.hc_cast.specs.declared.expr.CExpr.{CExpr}
use Rattle.hc_cast.specs.declared.stmt.CStmt.{CStmt}
use Rattle.hc_cast.specs.declared.stmt.CCase.{CCase}
use Rattle.hc_cast.specs.declared.stmt.CStmt.TheVariants.{Set, Switch}
use Rattle.hc_clogic.specs.Cases.{cases_from}
use Rattle.hc_cbuild.specs.Written.{number, local, element, first_of, less, either, above_zero, call, if_then}
use Rattle.hc_cthreads.specs.Bodies.{v_done}
use Rattle.hc_cstep.specs.Locals.{v_place, v_mark, v_bounded}
use Rattle.hc_csection.specs.Words.{ways_of}
use Rattle.hc_cpost.specs.Parts.{own_registers}

-- ---- registers

-- these registers of process p's part of the common row come to the own row
abbrev pub fetched : ℕ → List Rational → List ℕ → List Rational → List Rational
fetched p common [] row = row
fetched p common (d ∷ ds) row = fetched p common ds (slice_set row d (slice_index_or common (p * 320 + d) zero_ℚ))

-- with the clock
abbrev pub taken : ℕ → ℕ → List Rational → List Rational → List Rational
taken p n common row = slice_set (fetched p common (own_registers n) row) 64 (slice_index_or common 64 zero_ℚ)

-- fr_move(p, d, 64, 320 p + d);
abbrev pub fetch : ℕ → ℕ → CStmt
fetch p d = call (codes "fr_move") (number p ∷ number d ∷ number 64 ∷ number (p * 320 + d) ∷ [])

abbrev pub fetches : ℕ → List ℕ → List CStmt
fetches p ds = map (λ d. fetch p d) ds

-- fr_move(p, 64, 64, 64);
abbrev pub fetch_clock : ℕ → CStmt
fetch_clock p = call (codes "fr_move") (number p ∷ number 64 ∷ number 64 ∷ number 64 ∷ [])

-- ---- where it has met

abbrev pub met_of : ℕ → CExpr
met_of p = element (codes "a_met") (number p)

-- v_place = next;
abbrev pub follower : ℕ → List CStmt
follower next = Set v_place (number next) ∷ []

-- a case for each way, the first of number `from`
abbrev pub follow_cases : ℕ → List Way → List CCase
follow_cases from ways = cases_from (λ (g : ℕ) (w : Way). follower w.next) from ways

-- switch (a_met[p]) { case g + 1: v_place = the follower of branch g; .. }
abbrev pub follows : ℕ → List Way → CStmt
follows p ways = Switch (met_of p) (follow_cases 1 ways) []

abbrev pub take_case : ℕ → Instr → List CStmt
take_case p (instr.Meet ways) = follows p ways ∷ []
take_case p (instr.Evolve rates domain ways next) = follows p ways ∷ []
take_case p i = []

-- the first place is `from`
abbrev pub take_cases : ℕ → ℕ → List Instr → List CCase
take_cases p from code = cases_from (λ (place : ℕ) (i : Instr). take_case p i) from code

-- v_mark = 0; v_bounded = 0; switch (v_place) { .. }
abbrev pub goes_again : ℕ → List Instr → List CStmt
goes_again p code =
    Set v_mark (number 0)
    ∷ Set v_bounded (number 0)
    ∷ Switch (local v_place) (take_cases p 0 code) []
    ∷ []

-- ---- the whole

-- v_done = 0 < a_stop[0] || 1 < a_phase[p];
abbrev pub sets_done : ℕ → CStmt
sets_done p = Set v_done (either (above_zero (first_of (codes "a_stop"))) (less (number 1) (element (codes "a_phase") (number p))))

abbrev pub take_parts : ℕ → ℕ → List Instr → List CStmt
take_parts p n code = fetches p (own_registers n) ++ (fetch_clock p ∷ if_then (above_zero (met_of p)) (goes_again p code) ∷ [])

-- of n variables and this code
abbrev pub take_code : ℕ → ℕ → List Instr → List CStmt
take_code p n code = sets_done p ∷ if_then (less (local v_done) (number 1)) (take_parts p n code) ∷ []
