-- What the index tells of those who want a silent step.
use Rattle.std.proofs.Common.{◌≡◌, ◌<◌, ◌≤◌, ℕ, zero, suc, ◌+◌, Bool, true, false, ◌==◌, if◌then◌else◌, List, [], ◌∷◌, length, Option, Some, None, IfSome, IfNone, refl, sym, ap, ◌∙◌, arith}
use Rattle.std.proofs.lemmas.Nat.Bits.{bit_at-zero}
use Rattle.hc_limits.specs.Limits.{most_processes}
use Rattle.hc_term.specs.declared.post.Post.{Post}
use Rattle.hc_board.specs.declared.index.Index.{Index}
use Rattle.hc_board.specs.Able.{shows_able, least_from}
use Rattle.hc_board.specs.Bits.{has, IsLeast}
use Rattle.hc_board.specs.Index.{IsIndexOf}

-- the first that wants a step, behind others that want none
first_able : (ps : List Post) (n k : ℕ) → shows_able ps k ≡ true → ((i : ℕ) → i < k → shows_able ps i ≡ false) → least_from n ps ≡ Some (n + k)
first_able [] n k e h = cc
first_able (p ∷ ps) n zero e h =
    let same : n ≡ n + 0 = omega arith in
    ap (λ (b : Bool). if b then Some n else least_from (n + 1) ps) e ∙ ap (λ (m : ℕ). Some m) same
first_able (p ∷ ps) n (suc k) e h =
    let next : n + 1 + k ≡ n + suc k = omega arith in
    ap (λ (b : Bool). if b then Some n else least_from (n + 1) ps) (h 0 (omega arith))
    ∙ first_able ps (n + 1) k e (λ i less. h (suc i) (omega (arith, less))) ∙ ap (λ (m : ℕ). Some m) next

none_able : (ps : List Post) (n : ℕ) → ((i : ℕ) → i < length ps → shows_able ps i ≡ false) → least_from n ps ≡ None
none_able [] n h = refl
none_able (p ∷ ps) n h =
    ap (λ (b : Bool). if b then Some n else least_from (n + 1) ps) (h 0 (omega arith))
    ∙ none_able ps (n + 1) (λ i less. h (suc i) (omega (arith, less)))

module _ (o : Index) (ps : List Post) (t : IsIndexOf o ps) (within : length ps ≤ most_processes) where
  pub least_is_able : (k : ℕ) → IsLeast 64 (has o.able) k → Some k ≡ least_from 0 ps
  least_is_able k l =
      let there = l.there in
      let same : 0 + k ≡ k = omega arith in
      sym (first_able ps 0 k (sym (t.able k there) ∙ l.member) (λ i less. sym (t.able i (omega (arith, there, less))) ∙ l.first i less)
      ∙ ap (λ (n : ℕ). Some n) same)

  pub none_is_able : o.able ≡ 0 → None ≡ least_from 0 ps
  none_is_able e =
      sym (none_able ps 0 (λ i less. sym (t.able i (omega (arith, less, within))) ∙ ap (λ (w : ℕ). has w i) e ∙ ap (λ (n : ℕ). n == 1) (bit_at-zero i)))

  pub least_told : (found : Option ℕ) → IfSome found (λ k. IsLeast 64 (has o.able) k) → IfNone found (o.able ≡ 0) → found ≡ least_from 0 ps
  least_told (Some k) some none = least_is_able k some
  least_told None some none = none_is_able none
