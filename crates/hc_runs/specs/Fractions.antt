-- Where all numbers are fractions: those of a source, and those of a configuration.
use Rattle.std.specs.Prelude.{Bool, true, ◌&&◌, List}
use Rattle.std.specs.List.{list_all}
use Rattle.hc_rational.specs.Words.{Rational, fits}
use Rattle.hc_term.specs.declared.expr.Expr.{Expr, fold-Expr}
use Rattle.hc_term.specs.declared.expr.Expr.TheOpen.{Expr-F}
use Rattle.hc_term.specs.declared.expr.Cond.TheOpen.{Cond-F}
use Rattle.hc_term.specs.declared.stmt.Io.{Io}
use Rattle.hc_term.specs.declared.stmt.Io.TheVariants as io
use Rattle.hc_term.specs.declared.stmt.Stmt.{Stmt, fold-Stmt}
use Rattle.hc_term.specs.declared.stmt.Stmt.TheOpen.{Stmt-F, Branch-F}
use Rattle.hc_term.specs.declared.task.Task.{Task}
use Rattle.hc_term.specs.declared.run.Step.{Step}
use Rattle.hc_term.specs.declared.run.Step.TheVariants.{Silent, Comm, Delay}
use Rattle.hc_term.specs.declared.run.Item.{Item}
use Rattle.hc_term.specs.declared.post.Post.{Post}
use Rattle.hc_term.specs.declared.post.Moving.{Moving}
use Rattle.hc_term.specs.declared.post.Offer.{Offer}
use Rattle.hc_term.specs.declared.post.Offer.TheVariants.{Send, Receive}
use Rattle.hc_term.specs.declared.model.Mark.{Mark}
use Rattle.hc_term.specs.declared.model.Mark.TheVariants.{Going, Arrived}
use Rattle.hc_term.specs.declared.model.ProcessState.{ProcessState}
use Rattle.hc_term.specs.EndMoment.{fits_if}
use Rattle.hc_term.specs.Offers.{post}

-- ---- the numbers of a source

abbrev pub number_layer : Expr-F Bool → Bool
number_layer (Expr-F.Number q) = fits q
number_layer (Expr-F.Variable x) = true
number_layer (Expr-F.Neg a) = a
number_layer (Expr-F.Binary op a b) = a && b

-- whether all numbers of an expression are fractions
abbrev pub numbers : Expr → Bool
numbers e = fold-Expr Bool number_layer e

abbrev pub number_test_layer : Cond-F Bool → Bool
number_test_layer Cond-F.True = true
number_test_layer Cond-F.False = true
number_test_layer (Cond-F.Compare how a b) = numbers a && numbers b
number_test_layer (Cond-F.Not c) = c
number_test_layer (Cond-F.And b c) = b && c
number_test_layer (Cond-F.Or b c) = b && c

abbrev pub numbers_sent : Io → Bool
numbers_sent (io.Send channel value) = numbers value
numbers_sent (io.Receive channel variable) = true

abbrev pub number_stmt_layer : Stmt-F Bool Bool → Bool
number_stmt_layer (Stmt-F.Assign x e) = numbers e
number_stmt_layer (Stmt-F.Wait e) = numbers e
number_stmt_layer (Stmt-F.Log e) = numbers e
number_stmt_layer (Stmt-F.Io io) = numbers_sent io
number_stmt_layer (Stmt-F.If test first second) = list_all (λ b. b) first && list_all (λ b. b) second
number_stmt_layer (Stmt-F.Pick left right) = list_all (λ b. b) left && list_all (λ b. b) right
number_stmt_layer (Stmt-F.Forever body) = list_all (λ b. b) body
number_stmt_layer (Stmt-F.Loop test body) = list_all (λ b. b) body
number_stmt_layer (Stmt-F.Choice branches) = list_all (λ b. b) branches
number_stmt_layer (Stmt-F.Evolve rates domain branches) = list_all (λ r. numbers r.value) rates && list_all (λ b. b) branches
number_stmt_layer _ = true

abbrev pub number_branch_layer : Branch-F Bool Bool → Bool
number_branch_layer b = numbers_sent b.io && list_all (λ r. r) b.body

-- whether all numbers of what a statement sets, sends, logs, waits and evolves by are fractions
abbrev pub numbers_in : Stmt → Bool
numbers_in s = fold-Stmt Bool Bool number_stmt_layer number_branch_layer s

abbrev pub all_numbers : List Stmt → Bool
all_numbers ss = list_all numbers_in ss

abbrev pub task_numbers : Task → Bool
task_numbers t = list_all (λ p. all_numbers p.body) t.system.processes

-- ---- the numbers of a configuration

abbrev pub is_moving_fraction : Moving → Bool
is_moving_fraction m = fits m.at && fits m.rate

abbrev pub is_offer_fraction : Offer → Bool
is_offer_fraction (Send channel at slope) = fits at && fits slope
is_offer_fraction (Receive channel) = true

abbrev pub shows_fractions : Post → Bool
shows_fractions p = fits_if p.bound && fits_if p.due && list_all is_moving_fraction p.moving && list_all is_offer_fraction p.offers

abbrev pub is_mark_fraction : Mark → Bool
is_mark_fraction Going = true
is_mark_fraction (Arrived left) = fits left

-- the values of the variables, what is left to wait, and all that a process shows
abbrev pub has_fractions : Rational → ProcessState → Bool
has_fractions clock q = list_all fits q.store && is_mark_fraction q.mark && shows_fractions (post clock q)

-- ---- the numbers of a run

-- what is logged, the value that passes, or the time that passes
abbrev pub is_step_fraction : Step → Bool
is_step_fraction (Silent process logged) = fits_if logged
is_step_fraction (Comm channel value) = fits value
is_step_fraction (Delay by) = fits by

abbrev pub is_item_fraction : Item → Bool
is_item_fraction i = fits i.at && is_step_fraction i.step
