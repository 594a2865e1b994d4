-- Members in the states of their processes.
use Rattle.std.proofs.Common.{◌≡◌, ◌≢◌, refl, sym, ap, subst, ◌∙◌, ℕ, zero, suc, List, [], ◌∷◌, map, length, slice_get, slice_set, Some, ◌⊎◌, inl, inr, arith}
use Rattle.hc_rational.specs.Words.{Rational}
use Rattle.hc_term.specs.declared.post.Post.{Post}
use Rattle.hc_term.specs.declared.model.ProcessState.{ProcessState}
use Rattle.hc_term.specs.Offers.{post}
use Rattle.hc_runs.proofs.Basics.{length-set}
use Rattle.hc_member.specs.declared.member.Member.{Member}
use Rattle.hc_member.specs.States.{IsIn, AllIn}
use Rattle.hc_member.proofs.Places.{is_set}

-- one member changes with its process
pub all_but_one : (clock : Rational) (ms : List Member) (qs : List ProcessState) (p : ℕ) (m : Member) (q : ProcessState) →
    AllIn clock ms qs → IsIn p clock m q → AllIn clock (slice_set ms p m) (slice_set qs p q)
all_but_one clock ms qs p m q all here = record {
  counted = length-set ms p m ∙ all.counted ∙ sym (length-set qs p q);
  each = λ k n r at there. by_place k n r (is_set ms p k m n at) (is_set qs p k q r there);
} where
  by_place : (k : ℕ) (n : Member) (r : ProcessState) →
      ((k ≡ p) × (m ≡ n)) ⊎ ((k ≢ p) × (slice_get ms k ≡ Some n)) →
      ((k ≡ p) × (q ≡ r)) ⊎ ((k ≢ p) × (slice_get qs k ≡ Some r)) → IsIn k clock n r
  by_place k n r (inl h) (inl i) =
      subst (λ (x : ℕ). IsIn x clock n r) (sym h.0)
      (subst (λ (x : Member). IsIn p clock x r) h.1 (subst (λ (x : ProcessState). IsIn p clock m x) i.1 here))
  by_place k n r (inl h) (inr i) = absurd (i.0 h.0)
  by_place k n r (inr h) (inl i) = absurd (h.0 i.0)
  by_place k n r (inr h) (inr i) = all.each k n r h.1 i.1

-- what they show
pub record ShowSame (clock : Rational) (ms : List Member) (qs : List ProcessState) : Type 0 where
  pub counted : length ms ≡ length qs
  pub each : (p : ℕ) (m : Member) (q : ProcessState) → slice_get ms p ≡ Some m → slice_get qs p ≡ Some q → m.local.post ≡ post clock q

same_posts : (clock : Rational) (ms : List Member) (qs : List ProcessState) → ShowSame clock ms qs →
    map (λ (m : Member). m.local.post) ms ≡ map (post clock) qs
same_posts clock [] [] h = refl
same_posts clock [] (q ∷ qs) h = let wrong = h.counted in cc
same_posts clock (m ∷ ms) [] h = let wrong = h.counted in cc
same_posts clock (m ∷ ms) (q ∷ qs) h =
    let rest = same_posts clock ms qs (record { counted = later h.counted; each = λ p n r at there. h.each (suc p) n r at there }) in
    ap (λ (x : Post). x ∷ map (λ (m : Member). m.local.post) ms) (h.each zero m q refl refl) ∙ ap (λ (l : List Post). post clock q ∷ l) rest
  where
    later : suc (length ms) ≡ suc (length qs) → length ms ≡ length qs
    later e = omega (arith, e)

pub members_show : (clock : Rational) (ms : List Member) (qs : List ProcessState) → AllIn clock ms qs →
    map (λ (m : Member). m.local.post) ms ≡ map (post clock) qs
members_show clock ms qs all =
    same_posts clock ms qs (record { counted = all.counted; each = λ p m q at there. (all.each p m q at there).stands.same_post })
