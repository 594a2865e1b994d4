-- The private steps of a thread, in the words of its pieces.
use Rattle.std.specs.Prelude.{◌≡◌, ◌≤◌, ◌+◌, ℕ, suc, List, [], ◌∷◌, length, ℤ, pos}
use Rattle.std.proofs.Common.{refl, sym, ap, ◌∙◌, subst, arith}
use Rattle.hc_limits.specs.Limits.{most_steps}
use Rattle.hc_rational.specs.Words.{Rational}
use Rattle.hc_term.specs.declared.task.Task.{Task}
use Rattle.hc_term.specs.declared.model.ProcessState.{ProcessState}
use Rattle.hc_cast.specs.declared.stmt.CStmt.{CStmt}
use Rattle.hc_cast.specs.declared.stmt.CStmt.TheVariants.{Set}
use Rattle.hc_cast.specs.declared.program.CProgram.{CProgram}
use Rattle.hc_cmach.proofs.Worths.{forms}
use Rattle.hc_clogic.specs.Runs.{Runs}
use Rattle.hc_clogic.proofs.Runs.{runs_on, runs_straight}
use Rattle.hc_cthreads.specs.Bodies.{Pieces, v_done}
use Rattle.hc_cthreads.specs.Scenes.{stretch}
use Rattle.hc_cthreads.specs.Views.{own_view, local_value}
use Rattle.hc_cthreads.specs.Pieces.{BodyWords, Stretches}
use Rattle.hc_cthreads.specs.Reports.{body_words}
use Rattle.hc_cstep.specs.Locals.{Mine, v_most}
use Rattle.hc_csection.specs.Values.{values_of}
use Rattle.hc_cstep.specs.Stands.{StandsFor}
use Rattle.hc_cbuild.specs.Written.{number}
use Rattle.hc_csection.specs.Words.{Codes, thread_names, variables, room, IsHead, section_words}
use Rattle.hc_csection.specs.PrivateLaw.{IsStretch, PrivateLaw, stretch_of}
use Rattle.hc_csection.specs.Pieces.{pieces_of}
use Rattle.hc_csection.proofs.Locals.{local_values, values_are, done_is}

-- a list of at least two
pub record Parted {A : Type 0} (xs : List A) (n : ℕ) : Type 0 where
  pub first : A
  pub second : A
  pub more : List A
  pub is : xs ≡ first ∷ second ∷ more
  pub spare : length more ≡ n

pub parted : {A : Type 0} → (xs : List A) (n : ℕ) → length xs ≡ suc (suc n) → Parted xs n
parted {A} [] n e = absurd (omega (arith, e))
parted {A} (x ∷ []) n e = absurd (omega (arith, e))
parted {A} (x ∷ y ∷ more) n e = record { first = x; second = y; more = more; is = refl; spare = omega (arith, e) }

module _ (g : CProgram) (k : Codes) (t : Task) (p : ℕ) (private show take' : List CStmt) (law : PrivateLaw g k t p private) where
  abbrev b : Pieces
  b = pieces_of k t p (stretch_of t private) show take'

  abbrev words : BodyWords
  words = body_words (section_words k t)

  module _ (clock : Rational) (q : ProcessState) (row : List Rational) (values : List ℤ) (h : IsHead k t p clock q row values) where
    abbrev begun : Mine
    begun = record h.mine { row = row; most = t.limit; others = pos 0 ∷ h.x ∷ h.more }

    begun_stands : StandsFor (k.table p) (variables t p) (room k p) clock begun q
    begun_stands = record {
      at_place = h.stands.at_place;
      wide = h.stands.wide;
      spare = sym (ap (λ (zs : List ℤ). length zs) h.locals.others) ∙ h.stands.spare;
      same_store = h.stands.same_store;
      same_clock = h.stands.same_clock;
      same_choices = h.stands.same_choices;
      same_mark = h.stands.same_mark;
      shows = h.stands.shows;
    }

    done : IsStretch g k t p clock private begun (stretch t p clock q)
    done = law clock begun q begun_stands (let limit : t.limit ≤ most_steps = t.in_range.1 in omega (arith, limit))

    sets : Runs g p 1 (Set v_most (number t.limit) ∷ []) (own_view (thread_names k p) row (local_values h.mine (pos 0) h.x h.more))
        (own_view (thread_names k p) row (values_of begun))
    sets = runs_straight g p 1 _ _ _ (λ rest target gives below. simp forms)

    values_is : values ≡ local_values h.mine (pos 0) h.x h.more
    values_is = values_are h.mine (pos 0) h.x h.more values h.locals

    pub stretches : Stretches g t words p b clock q row values
    stretches =
        let d = done in
        let two = parted d.then.others (length (k.scratch p)) d.stands.spare in
        record {
          goes_on = ap (λ (zs : List ℤ). local_value (thread_names k p) zs v_done) values_is ∙ done_is k p h.mine (pos 0) h.x h.more;
          new_row = d.then.row;
          new_values = values_of d.then;
          size = 1 + d.size;
          runs =
              subst
              (
              λ (zs : List ℤ). Runs g p (1 + d.size) (stretch_of t private) (own_view (thread_names k p) row zs) (own_view (thread_names k p) d.then.row (values_of d.then))
              )
              (sym values_is)
              (
              runs_on g p 1 d.size (Set v_most (number t.limit) ∷ []) private (own_view (thread_names k p) row (local_values h.mine (pos 0) h.x h.more))
              (own_view (thread_names k p) row (values_of begun)) (own_view (thread_names k p) d.then.row (values_of d.then)) sets d.runs
              );
          locked =
              record {
                mine = d.then;
                done = two.first;
                x = two.second;
                more = two.more;
                locals = record { is = refl; others = two.is };
                stands = d.stands;
                counted = d.counted;
                ended = d.ended;
                logged = d.logged;
              };
        }
