-- What processes show at their opening, and where the state of one of them changes.
use Rattle.std.proofs.Common.{◌≡◌, refl, ap, ap₂, ℕ, zero, suc, true, ◌&&◌, nat_le, List, [], ◌∷◌, map, length, replicate, slice_set, arith}
use Rattle.std.specs.List.{list_all}
use Rattle.std.proofs.lemmas.Bool.{and_parts, leb-true}
use Rattle.hc_limits.specs.Limits.{most_variables}
use Rattle.hc_rational.specs.Words.{Rational}
use Rattle.hc_term.specs.declared.stmt.Stmt.{Stmt}
use Rattle.hc_term.specs.declared.system.Process.{Process}
use Rattle.hc_term.specs.declared.post.Post.{Post}
use Rattle.hc_term.specs.declared.model.Mark.TheVariants.{Going}
use Rattle.hc_term.specs.declared.model.ProcessState.{ProcessState}
use Rattle.hc_term.specs.declared.model.Configuration.{Configuration}
use Rattle.hc_term.specs.Value.{Store}
use Rattle.hc_term.specs.Rules.{is_stmt, is_process}
use Rattle.hc_term.specs.Offers.{going_post, post}
use Rattle.hc_term.specs.Step.{opening_of, posts, replaced}

-- ---- where one changes

pub set_shown : (clock : Rational) (qs : List ProcessState) (p : ℕ) (q : ProcessState) →
    map (post clock) (slice_set qs p q) ≡ slice_set (map (post clock) qs) p (post clock q)
set_shown clock [] p q = refl
set_shown clock (r ∷ qs) zero q = refl
set_shown clock (r ∷ qs) (suc p) q = ap (λ (l : List Post). post clock r ∷ l) (set_shown clock qs p q)

pub replaced_shown : (c : Configuration) (p : ℕ) (q : ProcessState) →
    posts (replaced c p q) ≡ slice_set (posts c) p (post c.clock q)
replaced_shown c p q = set_shown c.clock c.processes p q

-- ---- at the opening: each process has a statement, so all are going

body_shows : (clock : Rational) (s : Store) (body : List Stmt) → nat_le 1 (length body) ≡ true →
    post clock (record { todo = body; store = s; choices = 0; mark = Going }) ≡ going_post
body_shows clock s [] h = absurd (omega (arith, leb-true 1 0 h))
body_shows clock s (head ∷ rest) h = refl

pub all_going : (clock : Rational) (channels : ℕ) (ps : List Process) → list_all (is_process channels) ps ≡ true →
    map (post clock) (map opening_of ps) ≡ replicate (length ps) going_post
all_going clock channels [] h = refl
all_going clock channels (p ∷ ps) h =
    let n = length p.variables in
    let parts = and_parts (is_process channels p) (list_all (is_process channels) ps) h in
    let few = (and_parts (nat_le n most_variables && nat_le 1 (length p.body)) (list_all (is_stmt channels n) p.body) parts.0).0 in
    let some = (and_parts (nat_le n most_variables) (nat_le 1 (length p.body)) few).1 in
    ap₂ (λ (q : Post) (qs : List Post). q ∷ qs) (body_shows clock (opening_of p).store p.body some) (all_going clock channels ps parts.1)
