-- What fits and what an answer says of it.
use Rattle.std.proofs.Common.{◌≡◌, refl, sym, ap, ap₂, ◌∙◌, ℕ, Bool, true, false, List, [], Option, Some, None, Result, Ok, Err}
use Rattle.std.specs.Prelude.{OnOk}
use Rattle.hc_rational.specs.Words.{Rational, zero_ℚ, greater}
use Rattle.hc_term.specs.declared.expr.Expr.{Expr}
use Rattle.hc_term.specs.declared.expr.Cond.{Cond}
use Rattle.hc_term.specs.declared.stmt.Io.{Io}
use Rattle.hc_term.specs.declared.stmt.Io.TheVariants as io
use Rattle.hc_term.specs.declared.post.Post.{Post}
use Rattle.hc_term.specs.declared.post.Moving.{Moving}
use Rattle.hc_term.specs.declared.post.Offer.TheVariants as offer
use Rattle.hc_term.specs.declared.post.Phase.TheVariants as phase
use Rattle.hc_term.specs.Value.{Store, val, is_fitting}
use Rattle.hc_term.specs.Motion.{Rates, line}
use Rattle.hc_term.specs.Evaluated.{if_fitting}
use Rattle.hc_term.specs.Offers.{offer_of, due_of}
use Rattle.hc_term.specs.Silent.{sent_fits}
use Rattle.hc_code.specs.declared.code.Way.{Way}
use Rattle.hc_runs.proofs.Level.{level}
use Rattle.hc_runs.proofs.ValuesFit.{at_is}
use Rattle.hc_step.specs.Arriving.{plain_post, arrived_post, with_course}

-- an answer is what was asked for, and all fits
pub answer_is : {A : Type 0} (b : Bool) (a wanted : A) → Ok a ≡ if_fitting b wanted → a ≡ wanted
answer_is true a wanted h = cc
answer_is false a wanted h = cc

pub answer_fits : {A : Type 0} (b : Bool) (a wanted : A) → Ok a ≡ if_fitting b wanted → b ≡ true
answer_fits true a wanted h = refl
answer_fits false a wanted h = cc

pub from_ok : {A E P : Type 0} (r : Result A E) (a : A) → r ≡ Ok a → OnOk r P → P
from_ok (Ok b) a e h = h
from_ok (Err x) a e h = cc

pub on_ok : {A E P Q : Type 0} (r : Result A E) → (P → Q) → OnOk r P → OnOk r Q
on_ok (Ok a) f h = f h
on_ok (Err e) f h = h

-- ---- plain communications: where nothing evolves, a line is level

plain_by : (s : Store) (c : ℕ) (e : Expr) (b : Bool) (at : Rational) → Ok at ≡ if_fitting b (val s e) →
    Ok (offer.Send c at zero_ℚ) ≡ if_fitting b (offer.Send c (line s [] e).at (line s [] e).slope)
plain_by s c e true at h =
    let same : at ≡ val s e = cc in
    ap Ok (ap₂ (λ (a m : Rational). offer.Send c a m) (same ∙ sym (at_is s [] e)) (sym (level s e)))
plain_by s c e false at h = cc

pub plain_send : (s : Store) (i : Io) (c : ℕ) (e : Expr) (at zero : Rational) → i ≡ io.Send c e → Ok at ≡ if_fitting (is_fitting s e) (val s e) → zero ≡ zero_ℚ →
    Ok (offer.Send c at zero) ≡ if_fitting (sent_fits s i) (offer_of s [] i)
plain_send s i c e at zero h k z =
    ap (λ (m : Rational). Ok (offer.Send c at m)) z ∙ plain_by s c e (is_fitting s e) at k
    ∙ ap (λ (j : Io). if_fitting (sent_fits s j) (offer_of s [] j)) (sym h)

-- ---- waits

abbrev waiting : Post → Option Rational → Rational → Post
waiting p due bound = record { phase = p.phase; bound = Some bound; due = due; moving = p.moving; offers = p.offers }

pub wait_shown : (clock value left zero bound : Rational) (due : Option Rational) (p : Post) (fit_value fit_due : Bool) →
    p ≡ plain_post phase.Arrived → zero ≡ zero_ℚ → Ok left ≡ if_fitting fit_value value → bound ≡ greater zero left →
    Ok due ≡ if_fitting fit_due (due_of clock (Some bound)) → waiting p due bound ≡ arrived_post clock (Some (greater zero_ℚ value)) [] []
wait_shown clock value left zero bound due p fit_value fit_due shown z l b d =
    let bound_is : bound ≡ greater zero_ℚ value = b ∙ ap₂ greater z (answer_is fit_value left value l) in
    let due_is : due ≡ due_of clock (Some (greater zero_ℚ value)) = answer_is fit_due due (due_of clock (Some bound)) d ∙ ap (λ (r : Rational). due_of clock (Some r)) bound_is in
    ap (λ (q : Post). waiting q due bound) shown ∙ ap₂ (waiting (plain_post phase.Arrived)) due_is bound_is

-- ---- evolutions

pub shows_course : (clock : Rational) (s : Store) (speeds r : Rates) (c : Cond) (ways : List Way) (p : Post) (moving wanted : List Moving) → speeds ≡ r →
    p ≡ plain_post phase.Arrived → moving ≡ wanted →
    with_course clock s speeds c ways (record p { moving = moving }) ≡ with_course clock s r c ways (arrived_post clock None wanted [])
shows_course clock s speeds r c ways p moving wanted h k m =
    ap (λ (q : Rates). with_course clock s q c ways (record p { moving = moving })) h
    ∙ ap₂ (λ (p : Post) (ms : List Moving). with_course clock s r c ways (record p { moving = ms })) k m
