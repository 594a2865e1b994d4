-- The law of end moments, in the words of private code: for every domain of the profile.
use Rattle.std.specs.Prelude.{◌≡◌, ℕ, ◌+◌, ◌*◌, true, List, length, take, IsTrue}
use Rattle.hc_term.specs.declared.expr.Cond.{Cond}
use Rattle.hc_term.specs.Value.{Store}
use Rattle.hc_term.specs.Motion.{Rates}
use Rattle.hc_term.specs.EndMoment.{is_domain}
use Rattle.hc_term.specs.Profile.{is_cond, nodes_in}
use Rattle.hc_cast.specs.declared.stmt.CStmt.{CStmt}
use Rattle.hc_cast.specs.declared.program.CProgram.{CProgram}
use Rattle.hc_cmach.specs.State.{width}
use Rattle.hc_cstep.specs.Locals.{Mine, Base}
use Rattle.hc_cstep.specs.Parts.{AreRates, EndMoments}
use Rattle.hc_cvalue.specs.Laws.{steps_for}
use Rattle.hc_cvalue.specs.Lines.{line_code}
use Rattle.hc_cend.specs.Places.{Places}
use Rattle.hc_cend.specs.Lining.{compared}
use Rattle.hc_cend.specs.Ending.{end_code}

-- the registers for n comparisons, behind the one with the answer
abbrev pub places : ℕ → Places
places n = record {
  zero = 321;
  at = 322;
  slope = 322 + n;
  crossing = 322 + 2 * n;
  moment = 322 + 3 * n;
  best = 323 + 3 * n;
  sign = 324 + 3 * n;
  truth = 324 + 4 * n;
}

-- the code of the end moment of a domain, where these variables evolve
abbrev pub ends : ℕ → Rates → Cond → List CStmt
ends p pattern c = end_code (line_code p pattern) p (places (length (compared c))) c

-- machine steps that are enough for a domain of so many nodes: four a node and one more for the line of a side
abbrev pub enough_for : ℕ → ℕ
enough_for nodes = nodes * (2 * steps_for nodes + 14) + (nodes + 1) * (24 * nodes + 36) + 17

-- in a thread that has the locals of the search among those of its scratch
abbrev pub EndMomentsLaw : CProgram → ℕ → Base → ℕ → ℕ → Type 0
EndMomentsLaw g p b vars room =
    (m : Mine) (s : Store) (pattern r : Rates) (c : Cond) → m.ok ≡ true → length m.row ≡ width → length m.others ≡ room → take vars m.row ≡ s →
    length pattern ≡ vars → AreRates pattern r m.row → IsTrue (is_cond vars c) → IsTrue (is_domain pattern c) →
    EndMoments g p (enough_for (nodes_in c)) b (ends p pattern c) m s r c
