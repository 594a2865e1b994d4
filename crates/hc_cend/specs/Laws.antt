-- That generated C finds the end moment.
use Rattle.std.specs.Prelude.{◌≡◌, ◌≤◌, ◌<◌, ℕ, List}
use Rattle.hc_term.specs.declared.expr.Cond.{Cond}
use Rattle.hc_term.specs.Value.{Store}
use Rattle.hc_term.specs.Motion.{Rates}
use Rattle.hc_term.specs.EndMoment.{end_moment, domain_fits}
use Rattle.hc_cast.specs.declared.program.CProgram.{CProgram}
use Rattle.hc_cmach.specs.State.{Word}
use Rattle.hc_cstep.specs.Locals.{Base}
use Rattle.hc_cend.specs.Searching.{search_names}
use Rattle.hc_cend.specs.Law.{EndMomentsLaw}
use Rattle.hc_cend.specs.Candidates.{gaps, numbered, found, all_fit}

-- The least candidate at which the condition fails is its end moment.
abbrev pub FindsEndMoment : Type 0
FindsEndMoment = (c : Cond) (s : Store) (r : Rates) → found (numbered c) (gaps s r c) ≡ end_moment s r c

-- The working values of its comparisons are those that must fit.
abbrev pub FitsAsItMust : Type 0
FitsAsItMust = (c : Cond) (s : Store) (r : Rates) → all_fit (gaps s r c) ≡ domain_fits s r c

-- The code of a domain finds its end moment, in every thread that has the locals of the search.
abbrev pub FindsItInC : Type 0
FindsItInC =
    (g : CProgram) (p : ℕ) (b : Base) (more : List Word) (vars room : ℕ) → p < 64 → b.scratch ≡ search_names more → vars ≤ 64 → 8 ≤ room → EndMomentsLaw g p b vars room
