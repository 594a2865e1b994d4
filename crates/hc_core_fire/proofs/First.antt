-- A board of zeros stands for processes that are all going: the state in which a run of the C begins.
use Rattle.std.specs.Prelude.{◌≡◌, ◌<◌, ◌≤◌, ◌+◌, ◌*◌, ◌^◌, ℕ, zero, suc, Bool, true, false, not, replicate, slice_get, Some}
use Rattle.std.specs.List.{list_all, count_by}
use Rattle.std.proofs.Common.{refl, sym, ◌∙◌, subst, arith}
use Rattle.std.proofs.lemmas.Bool.{and_from}
use Rattle.std.proofs.lemmas.Option.{same_Some, slice_get_within}
use Rattle.std.proofs.lemmas.List.{length-replicate}
use Rattle.std.proofs.lemmas.List.Sums.{sum_by-cons}
use Rattle.hc_rational.specs.Words.{Rational, ◌≤ℚ◌}
use Rattle.hc_term.specs.declared.post.Post.{Post}
use Rattle.hc_term.specs.Offers.{going_post}
use Rattle.hc_term.specs.Together.{is_offer, offered, is_on_both, ArePaired}
use Rattle.hc_core_c.specs.Twin.{Board64, register}
use Rattle.hc_core_facts.specs.Standing.{StandsFor, Shows, KeepsPost, code_from}
use Rattle.hc_core_fire.specs.First.{all_going, IsFirst}
use Rattle.hc_core_fire.proofs.Keeping.{keeps_going}

going_there : (P k : ℕ) (q : Post) → slice_get (all_going P) k ≡ Some q → q ≡ going_post
going_there zero k q e = absurd cc
going_there (suc P) zero q e = sym (same_Some going_post q e)
going_there (suc P) (suc k) q e = going_there P k q e

no_code : (sending : Bool) (c p P : ℕ) → code_from sending c p (all_going P) ≡ 0
no_code sending c p zero = refl
no_code sending c p (suc P) = no_code sending c (p + 1) P

no_offer : (sending : Bool) (c P : ℕ) → offered sending c (all_going P) ≡ 0
no_offer sending c zero = refl
no_offer sending c (suc P) =
    let sum = sum_by-cons (λ (x : Post). count_by (is_offer sending c) x.offers) going_post (all_going P) in
    omega (arith, sum, no_offer sending c P)

all_same : (test : Post → Bool) (P : ℕ) → test going_post ≡ true → list_all test (all_going P) ≡ true
all_same test zero e = refl
all_same test (suc P) e = and_from (test going_post) (list_all test (all_going P)) e (all_same test P e)

paired_first : (C P : ℕ) → ArePaired C (all_going P)
paired_first C P = record {
  in_range = all_same _ P refl;
  once = λ sending c low. omega (arith, no_offer sending c P);
  apart = λ c low. all_same (λ q. not (is_on_both c q)) P refl;
  bounds = all_same _ P refl;
}

shows_first : (P C : ℕ) (b : Board64) → IsFirst P C b → (k : ℕ) → k < P → Shows b k going_post
shows_first P C b h k low = record {
  phase = h.phase k low;
  bounded = h.bounded k low;
  bound = tt;
  moves = λ i less. h.moves (k * 64 + i) (omega (arith, low, less));
  moving = λ j m at. absurd cc;
  offers = λ g o at. absurd cc;
}

pub first_stands : (P C : ℕ) (b : Board64) (horizon : Rational) → IsFirst P C b → P ≤ 64 → register b 67 ≡ horizon → register b 64 ≤ℚ horizon → b.steps ≤ b.limit →
    b.limit < 2 ^ 31 → StandsFor P C b (all_going P) (register b 64) horizon b.steps b.limit
first_stands P C b horizon h most end in_time in_limit small = record {
  places = h.places;
  processes = length-replicate P going_post;
  most = most;
  now = refl;
  end = end;
  counted = refl;
  at_most = refl;
  each =
      λ k q at.
      (
      let low : k < P = subst (λ n. k < n) (length-replicate P going_post) (slice_get_within (all_going P) k q at) in
      subst (Shows b k) (sym (going_there P k q at)) (shows_first P C b h k low)
      );
  send = λ c low. h.send c low ∙ sym (no_code true c 0 P);
  receive = λ c low. h.receive c low ∙ sym (no_code false c 0 P);
  keeps = λ k q at. subst (KeepsPost (register b 64)) (sym (going_there P k q at)) (keeps_going (register b 64));
  paired = paired_first C P;
  into = h.into;
  in_time = in_time;
  in_limit = in_limit;
  small = small;
}
