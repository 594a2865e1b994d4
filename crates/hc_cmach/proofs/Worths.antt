-- What each form of an expression is worth, and what each form of a statement opens to: one equation for each.
use Rattle.std.specs.Prelude.{◌≡◌, ℤ, neg_ℤ, Option, Ok}
use Rattle.std.proofs.Common.{rules}
use Rattle.hc_cast.specs.declared.expr.COp.{COp}
use Rattle.hc_cast.specs.declared.expr.CExpr.{CExpr, the_lemmas}
use Rattle.hc_cast.specs.declared.expr.CExpr.TheVariants as e
use Rattle.hc_cast.specs.declared.stmt.CStmt.TheVariants as a
use Rattle.hc_cast.specs.declared.program.CProgram.{CProgram}
use Rattle.hc_cmach.specs.State.{Word, Frame, local_in, Shared}
use Rattle.hc_cmach.proofs.Named.{callees}
use Rattle.hc_cmach.specs.Expression.{worth, element, negated, inverted, combined, written}

module _ (g : CProgram) (f : Frame) (seen : Option Shared) where
  pub worth-Number : (z : ℤ) → worth g f seen (e.Number z) ≡ Ok z
  worth-Number z = search (rules, the_lemmas)

  pub worth-Local : (x : Word) → worth g f seen (e.Local x) ≡ Ok (local_in f x)
  worth-Local x = search (rules, the_lemmas)

  pub worth-Element : (a : Word) (i : CExpr) → worth g f seen (e.Element a i) ≡ element g seen a (worth g f seen i)
  worth-Element a i = search (rules, the_lemmas)

  pub worth-Neg : (a : CExpr) → worth g f seen (e.Neg a) ≡ negated (worth g f seen a)
  worth-Neg a = search (rules, the_lemmas)

  pub worth-Not : (a : CExpr) → worth g f seen (e.Not a) ≡ inverted (worth g f seen a)
  worth-Not a = search (rules, the_lemmas)

  pub worth-Binary : (op : COp) (a b : CExpr) → worth g f seen (e.Binary op a b) ≡ combined op (worth g f seen a) (worth g f seen b)
  worth-Binary op a b = search (rules, the_lemmas)

pub written-Number : (z : ℤ) → written (e.Number z) ≡ z
written-Number z = search (rules, the_lemmas)

pub written-Neg : (a : CExpr) → written (e.Neg a) ≡ neg_ℤ (written a)
written-Neg a = search (rules, the_lemmas)

pub ruleset worths = (worth-Number, worth-Local, worth-Element, worth-Neg, worth-Not, worth-Binary, written-Number, written-Neg)

pub ruleset outs = (a.outs-Set, a.outs-Store, a.outs-Call, a.outs-If, a.outs-While, a.outs-Switch, a.outs-Return)

-- all that a step of straight code is computed with
pub ruleset forms = (worths, outs, callees)
