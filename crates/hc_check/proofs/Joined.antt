-- Where nothing is found, each channel has at most one sender and one receiver, and these differ.
use Rattle.std.proofs.Common.{◌≡◌, refl, ap, ap₂, sym, subst, ◌∙◌, arith, ℕ, suc, zero, ◌+◌, ◌<◌, ◌≤◌, nat_le, Bool, true, false, not, cond, ◌&&◌, ◌||◌, IsTrue, List, [], ◌∷◌, ◌++◌, map, flat_map, length}
use Rattle.std.specs.Prelude.{count_by}
use Rattle.std.specs.List.{list_any}
use Rattle.std.proofs.lemmas.Bool.{le-leb, and_from}
use Rattle.std.proofs.lemmas.List.Sums.{sum_by-cons}
use Rattle.hc_term.specs.Rules.{is_user, is_joined, all_below}
use Rattle.hc_modules.specs.declared.flat.FlatProcess.{FlatProcess}
use Rattle.hc_modules.proofs.Induction.{Each}
use Rattle.hc_modules.proofs.Nothing.{left_empty, right_empty, unmapped_empty, each_empty}
use Rattle.hc_finds.specs.declared.stop.CheckStop.TheVariants as stop
use Rattle.hc_finds.specs.Limits.{channels_of}
use Rattle.hc_finds.specs.Uses.{Use, uses_of, self_channels, shared_ends}
use Rattle.hc_finds.specs.Refusals.{refusals, bad_ends}
use Rattle.hc_check.specs.Numbered.{process_over}
use Rattle.hc_check.proofs.FromRefusals.{good_ends}
use Rattle.hc_check.proofs.SameUses.{is_use_at, same_user}
use Rattle.hc_check.proofs.GoodEnds.{one_end, not_both}

-- where no find is at the ends of channels
module _ (uss : List (List Use)) (none : bad_ends uss ≡ []) where
  first_two : map stop.SelfChannel (flat_map self_channels uss) ++ map stop.TwoSenders (shared_ends true uss) ≡ []
  first_two =
      left_empty (map stop.SelfChannel (flat_map self_channels uss) ++ map stop.TwoSenders (shared_ends true uss))
      (map stop.TwoReceivers (shared_ends false uss)) none

  none_on_both : Each (λ us. self_channels us ≡ []) uss
  none_on_both =
      each_empty self_channels uss
      (unmapped_empty stop.SelfChannel (flat_map self_channels uss)
      (left_empty (map stop.SelfChannel (flat_map self_channels uss)) (map stop.TwoSenders (shared_ends true uss)) first_two))

  one_sender : shared_ends true uss ≡ []
  one_sender =
      unmapped_empty stop.TwoSenders (shared_ends true uss)
      (right_empty (map stop.SelfChannel (flat_map self_channels uss)) (map stop.TwoSenders (shared_ends true uss)) first_two)

  one_receiver : shared_ends false uss ≡ []
  one_receiver =
      unmapped_empty stop.TwoReceivers (shared_ends false uss)
      (right_empty (map stop.SelfChannel (flat_map self_channels uss) ++ map stop.TwoSenders (shared_ends true uss))
      (map stop.TwoReceivers (shared_ends false uss)) none)

-- counts and tests over elements that are made of others
same_count : {X Y Z : Type 0} (p : Y → Bool) (f : X → Y) (q : Z → Bool) (g : X → Z) → ((x : X) → p (f x) ≡ q (g x)) → (xs : List X)
    → count_by p (map f xs) ≡ count_by q (map g xs)
same_count p f q g same [] = refl
same_count p f q g same (x ∷ xs) =
    sum_by-cons (λ y. cond (p y) 1 0) (f x) (map f xs)
    ∙ ap₂ (λ b n. cond b 1 0 + n) (same x) (same_count p f q g same xs)
    ∙ sym (sum_by-cons (λ z. cond (q z) 1 0) (g x) (map g xs))

same_any : {X Y Z : Type 0} (p : Y → Bool) (f : X → Y) (q : Z → Bool) (g : X → Z) → ((x : X) → p (f x) ≡ q (g x)) → (xs : List X)
    → list_any p (map f xs) ≡ list_any q (map g xs)
same_any p f q g same [] = refl
same_any p f q g same (x ∷ xs) = ap₂ (λ b c. b || c) (same x) (same_any p f q g same xs)

all_from : (n : ℕ) (f : ℕ → Bool) → ((k : ℕ) → k < n → IsTrue (f k)) → IsTrue (all_below n f)
all_from zero f h = refl
all_from (suc n) f h = and_from (all_below n f) (f n) (all_from n f (λ k l. h k (omega arith))) (h n (omega arith))

module _ (ps : List FlatProcess) (none : refusals ps ≡ []) where
  ends : bad_ends (map uses_of ps) ≡ []
  ends = good_ends ps none

  module _ (k : ℕ) (below : k < length (channels_of ps)) where
    one_user : (s : Bool) → shared_ends s (map uses_of ps) ≡ []
        → IsTrue (nat_le (count_by (is_user s k) (map (process_over (channels_of ps)) ps)) 1)
    one_user s e =
        let same : count_by (is_user s k) (map (process_over (channels_of ps)) ps)
        ≡ count_by (λ us. list_any (is_use_at (channels_of ps) k s) us) (map uses_of ps) =
        same_count (is_user s k) (process_over (channels_of ps)) (λ us. list_any (is_use_at (channels_of ps) k s) us) uses_of
        (same_user (channels_of ps) k s) ps in
        let most = one_end (channels_of ps) k below s (map uses_of ps) e in
        le-leb (count_by (is_user s k) (map (process_over (channels_of ps)) ps)) 1 (subst (λ n. n ≤ 1) (sym same) most)

    different : IsTrue (not (list_any (λ p. is_user true k p && is_user false k p) (map (process_over (channels_of ps)) ps)))
    different =
        ap not
        (same_any (λ p. is_user true k p && is_user false k p) (process_over (channels_of ps))
        (λ us. list_any (is_use_at (channels_of ps) k true) us && list_any (is_use_at (channels_of ps) k false) us) uses_of
        (λ p. ap₂ (λ a b. a && b) (same_user (channels_of ps) k true p) (same_user (channels_of ps) k false p)) ps
        ∙ not_both (channels_of ps) k below (map uses_of ps) (none_on_both (map uses_of ps) ends))

    joined_at : IsTrue (is_joined (map (process_over (channels_of ps)) ps) k)
    joined_at =
        let all = map (process_over (channels_of ps)) ps in
        let senders = nat_le (count_by (is_user true k) all) 1 in
        let receivers = nat_le (count_by (is_user false k) all) 1 in
        and_from (senders && receivers) (not (list_any (λ p. is_user true k p && is_user false k p) all))
        (and_from senders receivers (one_user true (one_sender (map uses_of ps) ends)) (one_user false (one_receiver (map uses_of ps) ends)))
        different

pub joined : (ps : List FlatProcess) → refusals ps ≡ []
    → IsTrue (all_below (length (channels_of ps)) (is_joined (map (process_over (channels_of ps)) ps)))
joined ps none =
    all_from (length (channels_of ps)) (is_joined (map (process_over (channels_of ps)) ps)) (joined_at ps none)
