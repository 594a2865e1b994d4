-- What the pieces of a tree's code do to its registers of truth.
use Rattle.std.specs.Prelude.{◌≡◌, ℕ, ◌+◌, ◌==◌, nat_lt, Bool, true, false, not, [], ◌∷◌, slice_set, ℤ, pos, Some}
use Rattle.std.specs.Int.{int_signum}
use Rattle.std.proofs.Common.{refl, ap, ◌∙◌}
use Rattle.std.specs.declared.cmp.Ordering.{Ordering}
use Rattle.std.specs.declared.cmp.Ordering.TheVariants as side
use Rattle.hc_rational.specs.Rational.{ratio, quotient, whole}
use Rattle.hc_rational.specs.Gcd.{gcd}
use Rattle.hc_rational.specs.Words.{Rational, rank}
use Rattle.hc_term.specs.declared.expr.Comparison.{Comparison}
use Rattle.hc_term.specs.declared.expr.Comparison.TheVariants.{Less, AtMost, Equal, NotEqual, AtLeast, Greater}
use Rattle.hc_term.specs.Value.{answer}
use Rattle.hc_cast.specs.declared.program.CProgram.{CProgram}
use Rattle.hc_cmach.specs.Expression.{int_of}
use Rattle.hc_cmach.specs.Primitive.{is_literal, rank_number}
use Rattle.hc_clogic.specs.Runs.{View, Runs}
use Rattle.hc_cmach.proofs.Worths.{forms}
use Rattle.hc_clogic.specs.Block.{block}
use Rattle.hc_clogic.proofs.Blocks.{block_runs}
use Rattle.hc_cend.specs.Searching as seen
use Rattle.hc_cend.specs.Searching.{Mine, Around, register}
use Rattle.hc_cend.specs.Places.{Places}
use Rattle.hc_cend.specs.Tree.{truth_of, puts, leaf, turns_over, takes_second}

one_literal : is_literal (pos 1) (pos 1) ≡ true
unfolding gcd
one_literal = refl

pub none_literal : is_literal (pos 0) (pos 1) ≡ true
unfolding gcd
none_literal = refl

pub sign_is : (b : Bool) → int_signum (truth_of b).num ≡ int_of b
unfolding ratio quotient whole gcd
sign_is true = refl
sign_is false = refl

module _ (g : CProgram) (t : ℕ) (low : nat_lt t 65 ≡ true) (not_last : (t == 64) ≡ false) (self : (t == t) ≡ true) (p : Places) (around : Around) where
  abbrev view : Mine → View
  view m = seen.view around m

  -- register d becomes the truth b
  abbrev pub told : Mine → ℕ → Bool → ℤ → Mine
  told m d b x = record m { row = slice_set m.row d (truth_of b); x = x }

  puts_true : (m : Mine) (d : ℕ) → nat_lt d 20480 ≡ true → block g t 1 (view m) (puts t d 1 ∷ []) ≡ Some (view (told m d true m.x))
  puts_true m d there = simp (forms, low, not_last, self, there, one_literal)

  puts_false : (m : Mine) (d : ℕ) → nat_lt d 20480 ≡ true → block g t 1 (view m) (puts t d 0 ∷ []) ≡ Some (view (told m d false m.x))
  puts_false m d there = simp (forms, low, not_last, self, there, none_literal)

  pub puts_runs_true : (m : Mine) (d : ℕ) → nat_lt d 20480 ≡ true → Runs g t 1 (puts t d 1 ∷ []) (view m) (view (told m d true m.x))
  puts_runs_true m d there = block_runs g t 1 _ _ _ (puts_true m d there)

  pub puts_runs_false : (m : Mine) (d : ℕ) → nat_lt d 20480 ≡ true → Runs g t 1 (puts t d 0 ∷ []) (view m) (view (told m d false m.x))
  puts_runs_false m d there = block_runs g t 1 _ _ _ (puts_false m d there)

  -- ---- a comparison, whose sign stands in register s

  leaf_told : (m : Mine) (s d : ℕ) → nat_lt s 20480 ≡ true → nat_lt d 20480 ≡ true → nat_lt p.zero 20480 ≡ true → (how : Comparison) (o : Ordering) →
      rank (register m.row s) (register m.row p.zero) ≡ o → block g t 3 (view m) (leaf t p how s d) ≡ Some (view (told m d (answer how o) (rank_number o)))
  leaf_told m s d h k z Less side.Less e = simp (forms, low, not_last, self, h, k, z, e, one_literal)
  leaf_told m s d h k z Less side.Equal e = simp (forms, low, not_last, self, h, k, z, e, none_literal)
  leaf_told m s d h k z Less side.Greater e = simp (forms, low, not_last, self, h, k, z, e, none_literal)
  leaf_told m s d h k z AtMost side.Less e = simp (forms, low, not_last, self, h, k, z, e, one_literal)
  leaf_told m s d h k z AtMost side.Equal e = simp (forms, low, not_last, self, h, k, z, e, one_literal)
  leaf_told m s d h k z AtMost side.Greater e = simp (forms, low, not_last, self, h, k, z, e, none_literal)
  leaf_told m s d h k z Equal side.Less e = simp (forms, low, not_last, self, h, k, z, e, none_literal)
  leaf_told m s d h k z Equal side.Equal e = simp (forms, low, not_last, self, h, k, z, e, one_literal)
  leaf_told m s d h k z Equal side.Greater e = simp (forms, low, not_last, self, h, k, z, e, none_literal)
  leaf_told m s d h k z NotEqual side.Less e = simp (forms, low, not_last, self, h, k, z, e, one_literal)
  leaf_told m s d h k z NotEqual side.Equal e = simp (forms, low, not_last, self, h, k, z, e, none_literal)
  leaf_told m s d h k z NotEqual side.Greater e = simp (forms, low, not_last, self, h, k, z, e, one_literal)
  leaf_told m s d h k z AtLeast side.Less e = simp (forms, low, not_last, self, h, k, z, e, none_literal)
  leaf_told m s d h k z AtLeast side.Equal e = simp (forms, low, not_last, self, h, k, z, e, one_literal)
  leaf_told m s d h k z AtLeast side.Greater e = simp (forms, low, not_last, self, h, k, z, e, one_literal)
  leaf_told m s d h k z Greater side.Less e = simp (forms, low, not_last, self, h, k, z, e, none_literal)
  leaf_told m s d h k z Greater side.Equal e = simp (forms, low, not_last, self, h, k, z, e, none_literal)
  leaf_told m s d h k z Greater side.Greater e = simp (forms, low, not_last, self, h, k, z, e, one_literal)

  pub leaf_runs : (m : Mine) (s d : ℕ) → nat_lt s 20480 ≡ true → nat_lt d 20480 ≡ true → nat_lt p.zero 20480 ≡ true → (how : Comparison) (o : Ordering) →
      rank (register m.row s) (register m.row p.zero) ≡ o → Runs g t 3 (leaf t p how s d) (view m) (view (told m d (answer how o) (rank_number o)))
  leaf_runs m s d h k z how o e = block_runs g t 3 _ _ _ (leaf_told m s d h k z how o e)

  -- ---- the truth b in register d is turned over

  over_told : (m : Mine) (d : ℕ) → nat_lt d 20480 ≡ true → (b : Bool) → int_signum (register m.row d).num ≡ int_of b →
      block g t 3 (view m) (turns_over t d) ≡ Some (view (told m d (not b) (int_of b)))
  over_told m d h true e = simp (forms, low, not_last, self, h, e, none_literal)
  over_told m d h false e = simp (forms, low, not_last, self, h, e, one_literal)

  pub over_runs : (m : Mine) (d : ℕ) → nat_lt d 20480 ≡ true → (b : Bool) → register m.row d ≡ truth_of b →
      Runs g t 3 (turns_over t d) (view m) (view (told m d (not b) (int_of b)))
  over_runs m d h b e = block_runs g t 3 _ _ _ (over_told m d h b (ap (λ (q : Rational). int_signum q.num) e ∙ sign_is b))

  -- ---- the truth b in register d, and c in the next: the first decides, or the second does

  abbrev pub kept : Mine → ℤ → Mine
  kept m x = record m { x = x }

  abbrev pub second : Mine → ℕ → ℤ → Mine
  second m d x = record m { row = slice_set m.row d (register m.row (d + 1)); x = x }

  both_true : (m : Mine) (d : ℕ) → nat_lt d 20480 ≡ true → nat_lt (d + 1) 20480 ≡ true → int_signum (register m.row d).num ≡ pos 1 →
      block g t 3 (view m) (takes_second t d 1) ≡ Some (view (second m d (pos 1)))
  both_true m d h k e = simp (forms, low, not_last, self, h, k, e)

  both_false : (m : Mine) (d : ℕ) → nat_lt d 20480 ≡ true → int_signum (register m.row d).num ≡ pos 0 →
      block g t 3 (view m) (takes_second t d 1) ≡ Some (view (kept m (pos 0)))
  both_false m d h e = simp (forms, low, not_last, self, h, e)

  one_true : (m : Mine) (d : ℕ) → nat_lt d 20480 ≡ true → int_signum (register m.row d).num ≡ pos 1 →
      block g t 3 (view m) (takes_second t d 0) ≡ Some (view (kept m (pos 1)))
  one_true m d h e = simp (forms, low, not_last, self, h, e)

  one_false : (m : Mine) (d : ℕ) → nat_lt d 20480 ≡ true → nat_lt (d + 1) 20480 ≡ true → int_signum (register m.row d).num ≡ pos 0 →
      block g t 3 (view m) (takes_second t d 0) ≡ Some (view (second m d (pos 0)))
  one_false m d h k e = simp (forms, low, not_last, self, h, k, e)

  abbrev pub after_and : Mine → ℕ → Bool → Mine
  after_and m d true = second m d (pos 1)
  after_and m d false = kept m (pos 0)

  abbrev pub after_or : Mine → ℕ → Bool → Mine
  after_or m d true = kept m (pos 1)
  after_or m d false = second m d (pos 0)

  signed : (m : Mine) (d : ℕ) (b : Bool) → register m.row d ≡ truth_of b → int_signum (register m.row d).num ≡ int_of b
  signed m d b e = ap (λ (q : Rational). int_signum q.num) e ∙ sign_is b

  pub and_runs : (m : Mine) (d : ℕ) → nat_lt d 20480 ≡ true → nat_lt (d + 1) 20480 ≡ true → (b : Bool) → register m.row d ≡ truth_of b →
      Runs g t 3 (takes_second t d 1) (view m) (view (after_and m d b))
  and_runs m d h k true e = block_runs g t 3 _ _ _ (both_true m d h k (signed m d true e))
  and_runs m d h k false e = block_runs g t 3 _ _ _ (both_false m d h (signed m d false e))

  pub or_runs : (m : Mine) (d : ℕ) → nat_lt d 20480 ≡ true → nat_lt (d + 1) 20480 ≡ true → (b : Bool) → register m.row d ≡ truth_of b →
      Runs g t 3 (takes_second t d 0) (view m) (view (after_or m d b))
  or_runs m d h k true e = block_runs g t 3 _ _ _ (one_true m d h (signed m d true e))
  or_runs m d h k false e = block_runs g t 3 _ _ _ (one_false m d h k (signed m d false e))
