-- What a process shows that goes on or arrives at an instruction is what the definition has for a list that the instruction agrees with.
use Rattle.std.proofs.Common.{◌≡◌, refl, sym, ap, ap₂, subst, ◌∙◌, true, false, List, [], ◌∷◌, Option, None}
use Rattle.std.proofs.lemmas.Bool.{false≢true}
use Rattle.hc_rational.specs.Words.{Rational}
use Rattle.hc_term.specs.declared.stmt.Stmt.{Stmt, out-Stmt}
use Rattle.hc_term.specs.declared.stmt.Stmt.TheOpen.{Stmt-F}
use Rattle.hc_term.specs.declared.stmt.Branch.{Branch}
use Rattle.hc_term.specs.declared.stmt.Io.{Io}
use Rattle.hc_term.specs.declared.post.Post.{Post}
use Rattle.hc_term.specs.declared.post.Phase.TheVariants as phase
use Rattle.hc_term.specs.declared.post.Offer.{Offer}
use Rattle.hc_term.specs.declared.model.Mark.TheVariants.{Going, Arrived}
use Rattle.hc_term.specs.Value.{Store}
use Rattle.hc_term.specs.Process.{Layer, bound_here, bound_at}
use Rattle.hc_term.specs.Offers.{offer_of, offers_of, offers_here, moving_of, moving_here, due_of, post_at}
use Rattle.hc_term.specs.Motion.{Rates, rates_in}
use Rattle.hc_term.specs.EndMoment.{end_moment}
use Rattle.hc_code.specs.declared.code.Way.{Way}
use Rattle.hc_code.specs.declared.code.Instr.{Instr}
use Rattle.hc_code.specs.Stands.{Table, AgreesHere, WaysAgree, Agrees}
use Rattle.hc_step.specs.Taking.{phase_of}
use Rattle.hc_step.specs.Arriving.{is_stay, left_at, plain_post, arrived_post, offers_before, offers_in, post_of}

-- ---- going on

still_going : (t : Table) (i : Instr) (head : Stmt) (rest : List Stmt) (l : Layer) → AgreesHere t i head rest l → phase_of i ≡ phase.Going
still_going t i head rest Stmt-F.Skip h = ap phase_of h.1
still_going t i head rest (Stmt-F.Assign x e) h = ap phase_of h.1
still_going t i head rest (Stmt-F.Log e) h = ap phase_of h.1
still_going t i head rest (Stmt-F.Wait e) h = ap phase_of h.1
still_going t i head rest (Stmt-F.If c first second) h = ap phase_of h.2
still_going t i head rest (Stmt-F.Loop c body) h = ap phase_of h.2
still_going t i head rest (Stmt-F.Pick left right) h = ap phase_of h.2
still_going t i head rest (Stmt-F.Forever body) h = ap phase_of h.1
still_going t i head rest (Stmt-F.Io io) h = ap phase_of h.1
still_going t i head rest (Stmt-F.Choice bs) h = ap phase_of h.1
still_going t i head rest (Stmt-F.Evolve rates c bs) h = ap phase_of h.2

-- a process that comes to an instruction is going, and has ended exactly where its list is empty
pub going_shows : (t : Table) (clock : Rational) (s : Store) (b : Option Rational) (i : Instr) (todo : List Stmt) → Agrees t i todo →
    plain_post (phase_of i) ≡ post_at clock s b Going todo
going_shows t clock s b i [] h = ap (λ (j : Instr). plain_post (phase_of j)) h
going_shows t clock s b i (head ∷ rest) h = ap plain_post (still_going t i head rest (out-Stmt head) h)

-- ---- arriving

pub ways_offer : (t : Table) (s : Store) (r : Rates) (rest : List Stmt) (ways : List Way) (bs : List Branch) → WaysAgree t rest ways bs →
    offers_in s r ways ≡ offers_of s r bs
ways_offer t s r rest [] [] h = refl
ways_offer t s r rest [] (b ∷ bs) h = absurd h
ways_offer t s r rest (w ∷ ws) [] h = absurd h
ways_offer t s r rest (w ∷ ws) (b ∷ bs) h =
    ap₂ (λ (o : Offer) (os : List Offer). o ∷ os) (ap (λ (io : Io). offer_of s r io) h.0) (ways_offer t s r rest ws bs h.2)

-- what a process shows that has arrived at a statement
abbrev pub post_here : Rational → Store → Rational → Layer → Post
post_here clock s left l = record {
  phase = phase.Arrived;
  bound = bound_here s left l;
  due = due_of clock (bound_here s left l);
  moving = moving_here s l;
  offers = offers_here s (bound_here s left l) l;
}

-- no process arrives at another instruction
pub never : {A : Type 0} (i j : Instr) → i ≡ j → is_stay j ≡ false → is_stay i ≡ true → A
never i j e k u = absurd (false≢true (sym k ∙ (ap is_stay (sym e) ∙ u)))

module _ (t : Table) (clock : Rational) (s : Store) (i : Instr) where
  abbrev Shows : Layer → Instr → Type 0
  Shows l j = post_of clock s j ≡ post_here clock s (left_at s j) l

  arrived_here : (head : Stmt) (rest : List Stmt) (l : Layer) → AgreesHere t i head rest l → is_stay i ≡ true → Shows l i
  arrived_here head rest Stmt-F.Skip h m = never i _ h.1 refl m
  arrived_here head rest (Stmt-F.Assign x e) h m = never i _ h.1 refl m
  arrived_here head rest (Stmt-F.Log e) h m = never i _ h.1 refl m
  arrived_here head rest (Stmt-F.Wait e) h m = subst (Shows (Stmt-F.Wait e)) (sym h.1) refl
  arrived_here head rest (Stmt-F.If c first second) h m = never i _ h.2 refl m
  arrived_here head rest (Stmt-F.Loop c body) h m = never i _ h.2 refl m
  arrived_here head rest (Stmt-F.Pick first second) h m = never i _ h.2 refl m
  arrived_here head rest (Stmt-F.Forever body) h m = never i _ h.1 refl m
  arrived_here head rest (Stmt-F.Io io) h m = subst (Shows (Stmt-F.Io io)) (sym h.1) refl
  arrived_here head rest (Stmt-F.Choice bs) h m =
      subst (Shows (Stmt-F.Choice bs)) (sym h.1) (ap (arrived_post clock None []) (ways_offer t s [] rest h.0 bs h.2))
  arrived_here head rest (Stmt-F.Evolve rates c bs) h m =
      let r = rates_in rates s in
      let b = end_moment s r c in
      subst (Shows (Stmt-F.Evolve rates c bs)) (sym h.2)
      (ap (λ (os : List Offer). arrived_post clock b (moving_of s rates) (offers_before b os)) (ways_offer t s r rest h.0 bs h.3))

  pub arrived_shows : (todo : List Stmt) → Agrees t i todo → is_stay i ≡ true →
      post_of clock s i ≡ post_at clock s (bound_at s (Arrived (left_at s i)) todo) (Arrived (left_at s i)) todo
  arrived_shows [] h m = never i _ h refl m
  arrived_shows (head ∷ rest) h m = arrived_here head rest (out-Stmt head) h m
