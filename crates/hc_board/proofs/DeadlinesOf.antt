-- The deadlines of posts of which one is replaced.
use Rattle.std.proofs.Common.{◌≡◌, ◌<◌, ℕ, Bool, true, false, if◌then◌else◌, List, [], length, replicate, get_or, Contains, Option, Some, None, sym, ap, subst, ◌∙◌, inl, inr, arith}
use Rattle.std.proofs.Math.ListN.{set}
use Rattle.std.proofs.lemmas.Bool.{cases_eq}
use Rattle.std.proofs.lemmas.List.{get_or-set_same, get_or-set_other, get_or_default}
use Rattle.hc_rational.specs.Words.{Rational}
use Rattle.hc_term.specs.declared.post.Post.{Post}
use Rattle.hc_term.specs.Offers.{going_post}
use Rattle.hc_term.specs.Process.{is_due}
use Rattle.hc_term.specs.Moved.{less_by, moved_post}
use Rattle.hc_board.specs.declared.deadlines.Deadline.{Deadline}
use Rattle.hc_board.specs.MeetingBoard.{shown}
use Rattle.hc_board.specs.Deadlines.{HasDue, IsSet, AreDeadlinesOf}
use Rattle.hc_board.proofs.IndexOf.{always}

-- all are going
pub none_due : (n : ℕ) → AreDeadlinesOf [] (replicate n going_post)
none_due n = record {
  kept = record {
    ordered = λ i j d less within. absurd (omega (arith, within));
    single = λ i j d less within. absurd (omega (arith, within));
    within = λ k d within. absurd (omega (arith, within));
  };
  each = λ d. (
    λ c. let within = c.1 in absurd (omega (arith, within)),
    λ e. let none : None ≡ Some d.due = sym (ap (λ (p : Post). p.due) (always n d.process going_post)) ∙ e in absurd (cc),
  );
}

-- a process has the deadline that its post says
pub has_due : (ds : List Deadline) (ps : List Post) (p : ℕ) (d : Post) → p < length ps → AreDeadlinesOf ds ps → HasDue p (get_or ps p d).due ds
has_due ds ps p d there t q =
    let same : (shown ps p).due ≡ (get_or ps p d).due = ap (λ (x : Post). x.due) (get_or_default ps p going_post d there) in
    let each = t.each (record { process = p; due = q }) in
    (λ c. sym same ∙ each.0 c, λ e. each.1 (same ∙ e))

module _ (ds : List Deadline) (ps : List Post) (p : ℕ) (q : Post) (there : p < length ps) (t : AreDeadlinesOf ds ps) where
  -- the new post has the due that is set
  pub due_set : (new : List Deadline) → IsSet p q.due ds new → AreDeadlinesOf new (set ps p q)
  due_set new s = record {
    kept = s.kept;
    each = λ d. elim (cases_eq d.process p) [
      | inl same ↦
          let here : (shown (set ps p q) d.process).due ≡ q.due =
          ap (λ (k : ℕ). (shown (set ps p q) k).due) same ∙ ap (λ (x : Post). x.due) (get_or-set_same ps p q going_post there) in (
            λ c. here ∙ (s.here d.due).0 (subst (λ (k : ℕ). Contains new (record { process = k; due = d.due })) same c),
            λ e. subst (λ (k : ℕ). Contains new (record { process = k; due = d.due })) (sym same) ((s.here d.due).1 (sym here ∙ e)),
          )
      | inr apart ↦
          let other : (shown (set ps p q) d.process).due ≡ (shown ps d.process).due =
          ap (λ (x : Post). x.due) (get_or-set_other ps p d.process q going_post apart) in (
            λ c. other ∙ (t.each d).0 ((s.others d apart).0 c),
            λ e. (s.others d apart).1 ((t.each d).1 (sym other ∙ e)),
          )
    ];
  }

  -- it has the due that the old one had
  pub due_stays : q.due ≡ (shown ps p).due → AreDeadlinesOf ds (set ps p q)
  due_stays e = record {
    kept = t.kept;
    each = λ d.
        let same : (shown (set ps p q) d.process).due ≡ (shown ps d.process).due =
        elim (cases_eq d.process p) [
          | inl is ↦
              ap (λ (k : ℕ). (shown (set ps p q) k).due) is ∙ ap (λ (x : Post). x.due) (get_or-set_same ps p q going_post there) ∙ e
              ∙ ap (λ (k : ℕ). (shown ps k).due) (sym is)
          | inr apart ↦ ap (λ (x : Post). x.due) (get_or-set_other ps p d.process q going_post apart)
        ] in
        (λ c. same ∙ (t.each d).0 c, λ h. (t.each d).1 (sym same ∙ h));
  }

-- the same, of an equal post
pub due_set_by : (ds new : List Deadline) (ps : List Post) (p : ℕ) (q r : Post) → p < length ps → AreDeadlinesOf ds ps → IsSet p q.due ds new → r ≡ q →
    AreDeadlinesOf new (set ps p r)
due_set_by ds new ps p q r there t s same =
    subst (λ (x : Post). AreDeadlinesOf new (set ps p x)) (sym same) (due_set ds ps p q there t new s)

-- ---- a delay moves one post

-- where the bound runs out there is no deadline any more, and else the same
over_due : (d : Rational) (p : Post) → is_due (less_by d p.bound) ≡ true → (moved_post d p).due ≡ None
over_due d p e = ap (λ (b : Bool). if b then None else p.due) e

else_due : (d : Rational) (p : Post) → is_due (less_by d p.bound) ≡ false → (moved_post d p).due ≡ p.due
else_due d p e = ap (λ (b : Bool). if b then None else p.due) e

module _ (ds : List Deadline) (ps : List Post) (p : ℕ) (d : Rational) (e q : Post) (over : Bool) (there : p < length ps) (t : AreDeadlinesOf ds ps)
    (moved : q ≡ moved_post d (get_or ps p e)) (told : over ≡ is_due (less_by d (get_or ps p e).bound)) where
  pub due_over : (new : List Deadline) → over ≡ true → IsSet p None ds new → AreDeadlinesOf new (set ps p q)
  due_over new is s =
      let none : q.due ≡ None = ap (λ (x : Post). x.due) moved ∙ over_due d (get_or ps p e) (sym told ∙ is) in
      due_set ds ps p q there t new (subst (λ (o : Option Rational). IsSet p o ds new) (sym none) s)

  pub due_else : over ≡ false → AreDeadlinesOf ds (set ps p q)
  due_else is =
      due_stays ds ps p q there t
      (ap (λ (x : Post). x.due) moved ∙ else_due d (get_or ps p e) (sym told ∙ is) ∙ ap (λ (x : Post). x.due) (get_or_default ps p e going_post there))
