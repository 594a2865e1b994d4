-- The test whether to wait, in the words of a thread's pieces.
use Rattle.std.specs.Prelude.{◌≡◌, ◌<◌, ℕ, Bool, true, false, not, ◌&&◌, nat_lt, List, ◌∷◌, length, slice_get, ℤ, Option, Some}
use Rattle.std.proofs.Common.{refl, sym, ap, ◌∙◌, subst, arith}
use Rattle.std.proofs.lemmas.Bool.{ltb-true}
use Rattle.hc_rational.specs.Words.{Rational}
use Rattle.hc_term.specs.declared.task.Task.{Task}
use Rattle.hc_term.specs.declared.post.Post.{Post}
use Rattle.hc_cast.specs.declared.stmt.CStmt.{CStmt}
use Rattle.hc_cast.specs.declared.program.CProgram.{CProgram}
use Rattle.hc_cmach.specs.State.{Shared}
use Rattle.hc_cmach.specs.Line.{Line}
use Rattle.hc_cmach.specs.Expression.{int_of}
use Rattle.hc_cmach.proofs.Worths.{forms}
use Rattle.hc_clogic.specs.Runs.{View, Runs}
use Rattle.hc_cthreads.specs.Bodies.{Pieces, v_x}
use Rattle.hc_cthreads.specs.Scenes.{Scene, called_by, over_by}
use Rattle.hc_cthreads.specs.Views.{owner_view}
use Rattle.hc_cthreads.specs.Pieces.{BodyWords, is_idle, Tests}
use Rattle.hc_cthreads.specs.Reports.{body_words}
use Rattle.hc_cstep.specs.Locals.{Mine}
use Rattle.hc_cbuild.specs.Written.{number}
use Rattle.hc_core_c.specs.Twin.{Board64, nth, able}
use Rattle.hc_core_c.specs.Owner.{core, shared_of}
use Rattle.hc_csection.specs.Words.{Codes, thread_names, processes, channels, IsShared, IsHalted, IsMet, IsKept, section_words}
use Rattle.hc_csection.specs.Entering.{idle}
use Rattle.hc_csection.specs.Code.{HasSections, idle_test}
use Rattle.hc_csection.specs.Pieces.{pieces_of}
use Rattle.hc_csection.proofs.Locals.{local_values, with_others, values_are, locals_are, sets_x, x_is, finds_others}
use Rattle.hc_csection.proofs.Idle.{call_idle}
use Rattle.hc_csection.proofs.Reading.{idle_is}

module _ (g : CProgram) (k : Codes) (t : Task) (p : ℕ) (sections : HasSections g (processes t) (channels t)) (low : p < processes t) where
  -- the owner runs the test over a board
  idle_runs : (row : List Rational) (mine : Mine) (done x : ℤ) (more values : List ℤ) (b : Board64) → values ≡ local_values mine done x more → (lines : List Line) (wakes : List ℕ) →
      Runs g p 5 (idle_test p) (owner_view (thread_names k p) row values (shared_of b) lines wakes)
      (owner_view (thread_names k p) row (local_values mine done (int_of (idle b p)) more) (shared_of b) lines wakes)
  idle_runs row mine done x more values b is lines wakes =
      let c : Board64 = record b { lines = lines; wakes = wakes } in
      let v : View = core row (thread_names k p) values c in
      subst (λ (zs : List ℤ). Runs g p 5 (idle_test p) v (core row (thread_names k p) zs c)) (sets_x k p mine done x (int_of (idle b p)) more v refl is)
      (call_idle g p (processes t) (channels t) sections row p low (thread_names k p) values c (Some v_x) (number p) (λ rest target gives. simp forms))

  abbrev words : BodyWords
  words = body_words (section_words k t)

  module _ (stretch show take : List CStmt) where
    abbrev b : Pieces
    b = pieces_of k t p stretch show take

    idle_shown : (s : Scene) (m : Shared) (sh : IsShared t s.at s.posts (length s.items) m) (x : Post) → slice_get s.posts p ≡ Some x → idle sh.board p ≡ is_idle s p
    idle_shown s m sh x at =
        idle_is t s.at s.posts (length s.items) m sh p x at
        ∙ ap (λ (o : Option Post). not (called_by o) && not (over_by o)) (sym at)

    pub tests : (s : Scene) (m : Shared) (row : List Rational) (values : List ℤ) → IsShared t s.at s.posts (length s.items) m → IsMet k t p s.at s.posts m row values →
        Tests g t words p b m row values (is_idle s p) (IsMet k t p s.at s.posts m)
    tests s m row values sh h =
        let z = int_of (idle sh.board p) in
        let new : Mine = with_others h.mine (h.done ∷ z ∷ h.more) in
        let zs : List ℤ = local_values h.mine h.done z h.more in
        record {
          new_row = row;
          new_values = zs;
          size = 5;
          runs =
              λ lines wakes.
              subst (λ (n : Shared). Runs g p 5 (idle_test p) (owner_view (thread_names k p) row values n lines wakes) (owner_view (thread_names k p) row zs n lines wakes)) (sym sh.is)
              (idle_runs row h.mine h.done h.x h.more values sh.board (values_are h.mine h.done h.x h.more values h.locals) lines wakes);
          tells = x_is k p h.mine h.done z h.more ∙ ap int_of (idle_shown s m sh h.shows h.at_post);
          after =
              record {
                mine = new;
                done = h.done;
                x = z;
                more = h.more;
                locals = locals_are h.mine h.done z h.more;
                spare = h.spare;
                wide = h.wide;
                q = h.q;
                shows = h.shows;
                number = h.number;
                at_process = h.at_process;
                at_post = h.at_post;
                met = h.met;
                choices = h.choices;
                finds = finds_others (k.table p) (k.code p) s.at.clock h.mine (h.done ∷ z ∷ h.more) row h.number h.q h.shows h.finds;
              };
        }

    stopped_idle : (x : Board64) → 0 < x.stop → idle x p ≡ false
    stopped_idle x more = by (nat_lt x.stop 1) refl
      where
        by : (is : Bool) → nat_lt x.stop 1 ≡ is → idle x p ≡ false
        by true e = absurd (let less = ltb-true x.stop 1 e in omega (arith, less, more))
        by false e = ap (λ (z : Bool). (z && not (able x p)) && nat_lt (nth x.phase p) 2) e

    pub tests_halted : (m : Shared) (row : List Rational) (values : List ℤ) → IsHalted m → IsKept row values → Tests g t words p b m row values false IsKept
    tests_halted m row values halted h =
        let x = halted.board in
        let z = int_of (idle x p) in
        let zs : List ℤ = local_values h.mine h.done z h.more in
        record {
          new_row = row;
          new_values = zs;
          size = 5;
          runs =
              λ lines wakes.
              subst (λ (n : Shared). Runs g p 5 (idle_test p) (owner_view (thread_names k p) row values n lines wakes) (owner_view (thread_names k p) row zs n lines wakes)) (sym halted.is)
              (idle_runs row h.mine h.done h.x h.more values x (values_are h.mine h.done h.x h.more values h.locals) lines wakes);
          tells = x_is k p h.mine h.done z h.more ∙ ap int_of (stopped_idle x halted.stopped);
          after = record { mine = with_others h.mine (h.done ∷ z ∷ h.more); done = h.done; x = z; more = h.more; locals = locals_are h.mine h.done z h.more };
        }
