-- What all posts offer together: a channel is offered by users of it alone, of which a system has one for each direction.
use Rattle.std.proofs.Common.{◌≡◌, refl, sym, ap, ◌∙◌, subst, ℕ, ◌≤◌, ◌<◌, Bool, true, false, cond, not, ◌&&◌, List, [], ◌∷◌, map, length, count_by, Option, Some, None, arith}
use Rattle.std.specs.List.{list_all, list_any}
use Rattle.std.proofs.lemmas.Bool.{true≢false, and_parts, and_from, not-true, leb-true}
use Rattle.std.proofs.lemmas.List.Sums.{sum_by-cons}
use Rattle.std.proofs.lemmas.List.Folds.{list_all-map}
use Rattle.hc_rational.specs.Words.{Rational, zero_ℚ}
use Rattle.hc_term.specs.Moved.{IsWithin}
use Rattle.hc_term.specs.declared.system.Process.{Process}
use Rattle.hc_term.specs.declared.task.Task.{Task}
use Rattle.hc_term.specs.declared.post.Post.{Post}
use Rattle.hc_term.specs.declared.model.ProcessState.{ProcessState}
use Rattle.hc_term.specs.Process.{bound}
use Rattle.hc_term.specs.Offers.{post}
use Rattle.hc_term.specs.Rules.{is_user, is_joined}
use Rattle.hc_term.proofs.Reached as reached
use Rattle.hc_term.proofs.Handed.{offered-used}
use Rattle.hc_term.specs.Together.{is_offer, offered, is_on_both, not_past}
use Rattle.hc_runs.specs.Laws.{PostsArePaired}
use Rattle.hc_runs.proofs.Basics.{neither_of}
use Rattle.hc_runs.proofs.Bounds.{not_negative}
use Rattle.hc_runs.proofs.Moving.{bound_not_past}
use Rattle.hc_runs.proofs.Resting.{shown_bound}
use Rattle.hc_runs.proofs.Parts.{IsPart, part_ruled, AreParts, reached_keeps, ruled_profile, all_pass}
use Rattle.hc_runs.proofs.Guarded.{count-none, is_in_range, guarded}

module _ (channels : ℕ) (clock : Rational) where
  abbrev shown : List ProcessState → List Post
  shown qs = map (post clock) qs

  -- ---- channels in range

  part_in_range : (b : Process) (q : ProcessState) → IsPart channels b q → list_all (is_in_range channels) (post clock q).offers ≡ true
  part_in_range b q k = (guarded channels (length b.variables) clock q (part_ruled channels b q k)).in_range

  all_in_range : (bodies : List Process) (qs : List ProcessState) → AreParts channels bodies qs →
      list_all (λ (p : Post). list_all (is_in_range channels) p.offers) (shown qs) ≡ true
  all_in_range bodies qs k =
      list_all-map (λ (p : Post). list_all (is_in_range channels) p.offers) (post clock) qs
      ∙ all_pass channels (λ (q : ProcessState). list_all (is_in_range channels) (post clock q).offers) part_in_range bodies qs k

  -- ---- one direction

  module _ (sending : Bool) (c : ℕ) where
    offers_use : (b : Process) (q : ProcessState) → IsPart channels b q → list_any (is_offer sending c) (post clock q).offers ≡ true → is_user sending c b ≡ true
    offers_use b q k e = k.uses.kept sending c (offered-used sending c clock q e)

    abbrev of_post : Post → ℕ
    of_post p = count_by (is_offer sending c) p.offers

    at_most_users : (b : Process) (q : ProcessState) → IsPart channels b q → of_post (post clock q) ≤ cond (is_user sending c b) 1 0
    at_most_users b q k = by_offer (list_any (is_offer sending c) (post clock q).offers) refl where
      by_offer : (o : Bool) → list_any (is_offer sending c) (post clock q).offers ≡ o → of_post (post clock q) ≤ cond (is_user sending c b) 1 0
      by_offer true e =
          subst (λ (u : Bool). of_post (post clock q) ≤ cond u 1 0) (sym (offers_use b q k e))
          ((guarded channels (length b.variables) clock q (part_ruled channels b q k)).once sending c)
      by_offer false e = omega (arith, count-none (is_offer sending c) (post clock q).offers e)

    no_more_than_users : (bodies : List Process) (qs : List ProcessState) → AreParts channels bodies qs → offered sending c (shown qs) ≤ count_by (is_user sending c) bodies
    no_more_than_users bodies [] k = omega arith
    no_more_than_users [] (q ∷ qs) k = absurd k
    no_more_than_users (b ∷ bodies) (q ∷ qs) k =
        omega (
          arith,
          sum_by-cons of_post (post clock q) (shown qs),
          sum_by-cons (λ (p : Process). cond (is_user sending c p) 1 0) b bodies,
          at_most_users b q k.0,
          no_more_than_users bodies qs k.1,
        )

  -- ---- both directions

  not_both : (x y u v : Bool) → (x ≡ true → u ≡ true) → (y ≡ true → v ≡ true) → (u && v) ≡ false → not (x && y) ≡ true
  not_both true true u v h k none = absurd (true≢false (sym (and_from u v (h refl) (k refl)) ∙ none))
  not_both true false u v h k none = refl
  not_both false y u v h k none = refl

  all_apart : (c : ℕ) (bodies : List Process) (qs : List ProcessState) → AreParts channels bodies qs →
      list_any (λ (p : Process). is_user true c p && is_user false c p) bodies ≡ false → list_all (λ (p : Post). not (is_on_both c p)) (shown qs) ≡ true
  all_apart c bodies [] k none = refl
  all_apart c [] (q ∷ qs) k none = absurd k
  all_apart c (b ∷ bodies) (q ∷ qs) k none =
      let parts = neither_of (is_user true c b && is_user false c b) (list_any (λ (p : Process). is_user true c p && is_user false c p) bodies) none in
      let os = (post clock q).offers in
      and_from (not (is_on_both c (post clock q))) (list_all (λ (p : Post). not (is_on_both c p)) (shown qs))
      (not_both (list_any (is_offer true c) os) (list_any (is_offer false c) os) (is_user true c b) (is_user false c b) (offers_use true c b q k.0) (offers_use false c b q k.0) parts.0)
      (all_apart c bodies qs k.1 parts.1)

  -- ---- bounds

  within_not_past : (o : Option Rational) → IsWithin zero_ℚ o → not_past o ≡ true
  within_not_past None h = refl
  within_not_past (Some b) h = not_negative b h

  part_not_past : (b : Process) (q : ProcessState) → IsPart channels b q → not_past (post clock q).bound ≡ true
  part_not_past b q k =
      let from_zero = bound_not_past q (ruled_profile channels (length b.variables) q (part_ruled channels b q k)) in
      ap not_past (shown_bound clock q) ∙ within_not_past (bound q) from_zero

  all_not_past : (bodies : List Process) (qs : List ProcessState) → AreParts channels bodies qs → list_all (λ (p : Post). not_past p.bound) (shown qs) ≡ true
  all_not_past bodies qs k =
      list_all-map (λ (p : Post). not_past p.bound) (post clock) qs ∙ all_pass channels (λ (q : ProcessState). not_past (post clock q).bound) part_not_past bodies qs k

-- ---- the law

module _ (t : Task) (c : ℕ) (below : c < length t.system.channels) where
  abbrev bodies : List Process
  bodies = t.system.processes

  joined : is_joined bodies c ≡ true
  joined = reached.joined t c below

  users_once : (sending : Bool) → count_by (is_user sending c) bodies ≤ 1
  users_once true = leb-true _ 1 (and_parts _ _ (and_parts _ _ joined).0).0
  users_once false = leb-true _ 1 (and_parts _ _ (and_parts _ _ joined).0).1

  none_both : list_any (λ (p : Process). is_user true c p && is_user false c p) bodies ≡ false
  none_both = not-true _ (and_parts _ _ joined).1

pub posts_are_paired : PostsArePaired
posts_are_paired t items c run =
    let n = length t.system.channels in
    let bodies = t.system.processes in
    let k = reached_keeps t items c run in
    record {
      in_range = all_in_range n c.clock bodies c.processes k;
      once = λ sending channel below. omega (arith, no_more_than_users n c.clock sending channel bodies c.processes k, users_once t channel below sending);
      apart = λ channel below. all_apart n c.clock channel bodies c.processes k (none_both t channel below);
      bounds = all_not_past n c.clock bodies c.processes k;
    }
