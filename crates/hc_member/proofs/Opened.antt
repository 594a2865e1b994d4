-- Members that are opened one after another, and what they are in then.
use Rattle.std.proofs.Common.{◌≡◌, ◌<◌, refl, sym, ap, subst, ◌∙◌, ℕ, zero, suc, ◌+◌, List, [], ◌∷◌, ◌++◌, map, length, take, slice_get, Some, ◌⊎◌, inl, inr, arith, length-append}
use Rattle.std.proofs.Math.ListN.{get_or}
use Rattle.std.proofs.lemmas.List.{take_more, length-take-le, length-map}
use Rattle.hc_rational.specs.Words.{Rational}
use Rattle.hc_term.specs.declared.system.Process.{Process}
use Rattle.hc_term.specs.declared.model.ProcessState.{ProcessState}
use Rattle.hc_term.specs.Step.{opening_of}
use Rattle.hc_member.specs.declared.member.Member.{Member}
use Rattle.hc_member.specs.States.{IsIn, AllIn, AllOpen}
use Rattle.hc_member.proofs.Places.{beside, mapped_at}

-- what stands at place k after x was put behind: x behind all, and before it what stood there
pub is_pushed : {A : Type 0} (xs : List A) (k : ℕ) (x y : A) → slice_get (xs ++ x ∷ []) k ≡ Some y →
    ((k ≡ length xs) × (x ≡ y)) ⊎ ((k < length xs) × (slice_get xs k ≡ Some y))
is_pushed [] zero x y e = inl (refl, cc)
is_pushed [] (suc k) x y e = cc
is_pushed (z ∷ zs) zero x y e = inr (omega arith, e)
is_pushed (z ∷ zs) (suc k) x y e = later (is_pushed zs k x y e) where
  later : ((k ≡ length zs) × (x ≡ y)) ⊎ ((k < length zs) × (slice_get zs k ≡ Some y)) →
      ((suc k ≡ suc (length zs)) × (x ≡ y)) ⊎ ((suc k < suc (length zs)) × (slice_get zs k ≡ Some y))
  later (inl h) = inl (ap suc h.0, h.1)
  later (inr h) = inr (omega (arith, h.0), h.1)

-- one process more
all_open-push : (ps : List Process) (ms : List Member) (p : Process) (m : Member) → AllOpen ps ms →
    ((clock : Rational) → IsIn (length ms) clock m (opening_of p)) → AllOpen (ps ++ p ∷ []) (ms ++ m ∷ [])
all_open-push ps ms p m all is = record {
  counted = length-append ms (m ∷ []) ∙ ap (λ (n : ℕ). n + 1) all.counted ∙ sym (length-append ps (p ∷ []));
  each = λ n r q clock at there. by_place n r q clock (is_pushed ms n m r at) (is_pushed ps n p q there);
} where
  by_place : (n : ℕ) (r : Member) (q : Process) (clock : Rational) →
      ((n ≡ length ms) × (m ≡ r)) ⊎ ((n < length ms) × (slice_get ms n ≡ Some r)) →
      ((n ≡ length ps) × (p ≡ q)) ⊎ ((n < length ps) × (slice_get ps n ≡ Some q)) → IsIn n clock r (opening_of q)
  by_place n r q clock (inl h) (inl i) =
      subst (λ (k : ℕ). IsIn k clock r (opening_of q)) (sym h.0)
      (subst (λ (x : Member). IsIn (length ms) clock x (opening_of q)) h.1
      (subst (λ (x : Process). IsIn (length ms) clock m (opening_of x)) i.1 (is clock)))
  by_place n r q clock (inl h) (inr i) = absurd (omega (arith, h.0, i.0, all.counted))
  by_place n r q clock (inr h) (inl i) = absurd (omega (arith, h.0, i.0, all.counted))
  by_place n r q clock (inr h) (inr i) = all.each n r q clock h.1 i.1

pub open_more : (ps : List Process) (ms : List Member) (n : ℕ) (p : Process) (m : Member) → n < length ps → p ≡ get_or ps n p →
    AllOpen (take n ps) ms → ((clock : Rational) → IsIn n clock m (opening_of p)) → AllOpen (take (n + 1) ps) (ms ++ m ∷ [])
open_more ps ms n p m within there all is =
    let many : length ms ≡ n = all.counted ∙ length-take-le n ps (omega arith) in
    subst (λ (l : List Process). AllOpen l (ms ++ m ∷ []))
    (sym (take_more ps n p within ∙ ap (λ (q : Process). take n ps ++ q ∷ []) (sym there)))
    (all_open-push (take n ps) ms p m all (λ clock. subst (λ (k : ℕ). IsIn k clock m (opening_of p)) (sym many) (is clock)))

-- members that are opened are in the states of the opening
pub opened_in : (clock : Rational) (ps : List Process) (ms : List Member) → AllOpen ps ms → AllIn clock ms (map opening_of ps)
opened_in clock ps ms all = record {
  counted = all.counted ∙ sym (length-map ps opening_of);
  each = λ k m q at there. by_place k m q at there;
} where
  by_place : (k : ℕ) (m : Member) (q : ProcessState) → slice_get ms k ≡ Some m → slice_get (map opening_of ps) k ≡ Some q → IsIn k clock m q
  by_place k m q at there =
      let p = beside ms ps k m all.counted at in
      let to : Some (opening_of p.0) ≡ Some q = sym (mapped_at opening_of ps k p.0 p.1) ∙ there in
      let same : opening_of p.0 ≡ q = cc in
      subst (λ (x : ProcessState). IsIn k clock m x) same (all.each k m p.0 clock at p.1)
