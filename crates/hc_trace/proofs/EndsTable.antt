-- What stands in the table of channel ends.
use Rattle.std.proofs.Common.{◌≡◌, ℕ, ◌+◌, ◌<◌, ◌≤◌, Bool, List, [], ◌∷◌, ◌++◌, length, map, Option, Some, None, refl, sym, ap, ◌∙◌, rules, arith}
use Rattle.std.specs.Prelude.{IfSome, slice_index_or}
use Rattle.std.specs.List.{range_with_len}
use Rattle.std.proofs.lemmas.List.FromFn.{get_or-map-range_with_len, length-map-range_with_len, map-range_with_len_more}
use Rattle.hc_term.specs.declared.system.Process.{Process}
use Rattle.hc_term.specs.declared.system.System.{System}
use Rattle.hc_term.specs.Ends.{user_from}
use Rattle.hc_trace.proofs.WrittenTrace.{user_within}

-- the channels of a system are few
pub few_channels : (sys : System) → length sys.channels ≤ 256
few_channels sys = let kept = sys.kept in search rules

-- one channel more
pub one_more : {X : Type 0} (f : ℕ → X) (old new : List X) (n : ℕ) (x : X) → old ≡ map f (range_with_len 0 n) → new ≡ old ++ x ∷ [] → x ≡ f n →
    new ≡ map f (range_with_len 0 (n + 1))
one_more f old new n x is pushed same =
    pushed ∙ ap (λ xs. xs ++ x ∷ []) is ∙ ap (λ y. map f (range_with_len 0 n) ++ y ∷ []) same ∙ sym (map-range_with_len_more f 0 n n (omega arith))

-- so many rows stand in the table
pub row_count : {X : Type 0} (f : ℕ → X) (n : ℕ) (rows : List X) → rows ≡ map f (range_with_len 0 n) → length rows ≡ n
row_count f n rows is = ap (λ xs. length xs) is ∙ length-map-range_with_len f 0 n

-- and the one of channel c is what it is to be
pub row_at : (f : ℕ → Option ℕ) (n c : ℕ) (rows : List (Option ℕ)) → rows ≡ map f (range_with_len 0 n) → c < n → slice_index_or rows c None ≡ f c
row_at f n c rows is within = ap (λ xs. slice_index_or xs c None) is ∙ get_or-map-range_with_len f 0 n c c None within (omega arith)

-- the process at an end is one of those
pub end_within : (sending : Bool) (c : ℕ) (ps : List Process) → IfSome (user_from sending c 0 ps) (λ p. p < length ps)
end_within sending c ps = by (user_from sending c 0 ps) refl
  where
    by : (o : Option ℕ) → user_from sending c 0 ps ≡ o → IfSome o (λ p. p < length ps)
    by (Some p) e = omega (arith, user_within sending c 0 ps p e)
    by None e = tt
