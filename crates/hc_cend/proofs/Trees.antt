-- The code of a condition's tree leaves in a register the truth that the condition has where its comparisons lie as their signs say.
use Rattle.std.specs.Prelude.{◌≡◌, ◌<◌, ◌≤◌, ℕ, suc, ◌+◌, ◌==◌, nat_lt, Bool, true, false, not, ◌&&◌, ◌||◌, if◌then◌else◌, List, [], ◌∷◌, ◌++◌, length, slice_set, ℤ, pos}
use Rattle.std.proofs.Common.{refl, ap, ap₂, ◌∙◌, subst, arith}
use Rattle.std.proofs.lemmas.Bool.{ltb-true, ltb-false}
use Rattle.std.proofs.lemmas.List.{length-set}
use Rattle.std.specs.declared.cmp.Ordering.{Ordering}
use Rattle.hc_rational.specs.Words.{Rational, rank}
use Rattle.hc_term.specs.declared.expr.Comparison.{Comparison}
use Rattle.hc_term.specs.Value.{answer}
use Rattle.hc_cast.specs.declared.stmt.CStmt.{CStmt}
use Rattle.hc_cast.specs.declared.program.CProgram.{CProgram}
use Rattle.hc_clogic.specs.Runs.{View, Runs}
use Rattle.hc_clogic.proofs.Runs.{runs_on}
use Rattle.hc_cend.specs.Candidates.{Numbered, from_on}
use Rattle.hc_cend.specs.Searching as seen
use Rattle.hc_cend.specs.Searching.{Mine, Around, register}
use Rattle.hc_cend.specs.Places.{Places}
use Rattle.hc_cend.specs.Tree.{Tree, more, joined, truth_of, puts, leaf, turns_over, takes_second}
use Rattle.hc_cend.proofs.Registers.{Same, same_register, same_set, same_less, set_there}
use Rattle.hc_cend.proofs.Given.{is_there}
use Rattle.hc_cend.proofs.Leaves as leaves

more_left : (n m : ℕ) → n ≤ more n m
more_left n m = by (nat_lt n m) refl
  where
    by : (b : Bool) → nat_lt n m ≡ b → n ≤ (if b then m else n)
    by true e = let less = ltb-true n m e in omega (arith, less)
    by false e = omega arith

more_right : (n m : ℕ) → m ≤ more n m
more_right n m = by (nat_lt n m) refl
  where
    by : (b : Bool) → nat_lt n m ≡ b → m ≤ (if b then m else n)
    by true e = omega arith
    by false e = let le = ltb-false n m e in omega (arith, le)

module _ (g : CProgram) (t : ℕ) (low : nat_lt t 65 ≡ true) (not_last : (t == 64) ≡ false) (self : (t == t) ≡ true) (p : Places) (around : Around) where
  abbrev view : Mine → View
  view m = seen.view around m

  -- in so many steps the statements leave the truth b in register d, and what stands in front of it as it was
  pub record Answers (d : ℕ) (m : Mine) (n : ℕ) (ss : List CStmt) (b : Bool) : Type 0 where
    pub row : List Rational
    pub x : ℤ
    pub runs : Runs g t n ss (view m) (view (record m { row = row; x = x }))
    pub long : length row ≡ length m.row
    pub same : Same d row m.row
    pub truth : register row d ≡ truth_of b

  pub record Works (k : Tree) (c : Numbered) : Type 0 where
    pub sized : k.size ≡ c.size
    pub some : 1 ≤ k.deep
    pub does : (m : Mine) (s d : ℕ) (f : ℕ → Ordering) → length m.row ≡ 20480 → p.zero < d → s + k.size ≤ d → d + k.deep ≤ 20480 →
        ((j : ℕ) → j < k.size → rank (register m.row (s + j)) (register m.row p.zero) ≡ f j) → Answers d m k.steps (k.code s d) (c.judged f)

  -- ---- one truth stored

  stored : (d : ℕ) (m : Mine) (n : ℕ) (ss : List CStmt) (b : Bool) (x : ℤ) → length m.row ≡ 20480 → d < 20480 →
      Runs g t n ss (view m) (view (leaves.told g t low not_last self p around m d b x)) → Answers d m n ss b
  stored d m n ss b x wide less h = record {
    row = slice_set m.row d (truth_of b);
    x = x;
    runs = h;
    long = length-set m.row d (truth_of b);
    same = same_set d m.row m.row d (truth_of b) refl (omega arith);
    truth = set_there m.row d (truth_of b) (omega (arith, less, wide));
  }

  pub true_works : Works (record { size = 0; deep = 1; steps = 1; code = λ s d. puts t d 1 ∷ [] }) (record { size = 0; judged = λ f. true })
  true_works = record {
    sized = refl;
    some = omega arith;
    does =
        λ m s d f wide behind room fits signs.
        let less : d < 20480 = omega (arith, fits) in
        stored d m 1 (puts t d 1 ∷ []) true m.x wide less (leaves.puts_runs_true g t low not_last self p around m d (is_there d less));
  }

  pub false_works : Works (record { size = 0; deep = 1; steps = 1; code = λ s d. puts t d 0 ∷ [] }) (record { size = 0; judged = λ f. false })
  false_works = record {
    sized = refl;
    some = omega arith;
    does =
        λ m s d f wide behind room fits signs.
        let less : d < 20480 = omega (arith, fits) in
        stored d m 1 (puts t d 0 ∷ []) false m.x wide less (leaves.puts_runs_false g t low not_last self p around m d (is_there d less));
  }

  pub leaf_works : (how : Comparison) →
      Works (record { size = 1; deep = 1; steps = 3; code = λ s d. leaf t p how s d }) (record { size = 1; judged = λ f. answer how (f 0) })
  leaf_works how = record {
    sized = refl;
    some = omega arith;
    does =
        λ m s d f wide behind room fits signs.
        let less : d < 20480 = omega (arith, fits) in
        let sign : s < 20480 = omega (arith, room, less) in
        let zero : p.zero < 20480 = omega (arith, behind, less) in
        let first : s + 0 ≡ s = omega arith in
        let lies : rank (register m.row s) (register m.row p.zero) ≡ f 0 =
        subst (λ (i : ℕ). rank (register m.row i) (register m.row p.zero) ≡ f 0) first (signs 0 (omega arith)) in
        stored d m 3 (leaf t p how s d) (answer how (f 0)) _ wide less
        (leaves.leaf_runs g t low not_last self p around m s d (is_there s sign) (is_there d less) (is_there p.zero zero) how (f 0) lies);
  }

  -- ---- turned over

  pub over_works : (k : Tree) (c : Numbered) → Works k c →
      Works (record { size = k.size; deep = k.deep; steps = k.steps + 3; code = λ s d. k.code s d ++ turns_over t d })
      (record { size = c.size; judged = λ f. not (c.judged f) })
  over_works k c w = record {
    sized = w.sized;
    some = w.some;
    does =
        λ m s d f wide behind room fits signs.
        let h = w.does m s d f wide behind room fits signs in
        let mid = record m { row = h.row; x = h.x } in
        let less : d < 20480 = omega (arith, fits, w.some) in
        let over =
        stored d mid 3 (turns_over t d) (not (c.judged f)) _ (h.long ∙ wide) less
        (leaves.over_runs g t low not_last self p around mid d (is_there d less) (c.judged f) h.truth) in
        record {
          row = over.row;
          x = over.x;
          runs = runs_on g t k.steps 3 (k.code s d) (turns_over t d) (view m) (view mid) (view (record mid { row = over.row; x = over.x })) h.runs over.runs;
          long = over.long ∙ h.long;
          same = over.same ∙ h.same;
          truth = over.truth;
        };
  }

  -- ---- two joined

  abbrev Joins : ℕ → (Bool → Bool → Bool) → Type 0
  Joins n op =
      (m : Mine) (d : ℕ) (b c : Bool) → length m.row ≡ 20480 → d + 1 < 20480 → register m.row d ≡ truth_of b → register m.row (d + 1) ≡ truth_of c →
      Answers d m 3 (takes_second t d n) (op b c)

  kept : (d : ℕ) (m : Mine) (ss : List CStmt) (b : Bool) (x : ℤ) → register m.row d ≡ truth_of b →
      Runs g t 3 ss (view m) (view (leaves.kept g t low not_last self p around m x)) → Answers d m 3 ss b
  kept d m ss b x e h = record { row = m.row; x = x; runs = h; long = refl; same = refl; truth = e }

  second : (d : ℕ) (m : Mine) (ss : List CStmt) (b : Bool) (x : ℤ) → length m.row ≡ 20480 → d < 20480 → register m.row (d + 1) ≡ truth_of b →
      Runs g t 3 ss (view m) (view (leaves.second g t low not_last self p around m d x)) → Answers d m 3 ss b
  second d m ss b x wide less e h = record {
    row = slice_set m.row d (register m.row (d + 1));
    x = x;
    runs = h;
    long = length-set m.row d (register m.row (d + 1));
    same = same_set d m.row m.row d (register m.row (d + 1)) refl (omega arith);
    truth = set_there m.row d (register m.row (d + 1)) (omega (arith, less, wide)) ∙ e;
  }

  pub and_joins : Joins 1 (λ b c. b && c)
  and_joins m d true c wide less e f =
      let here : d < 20480 = omega (arith, less) in
      second d m (takes_second t d 1) c (pos 1) wide here f (leaves.and_runs g t low not_last self p around m d (is_there d here) (is_there (d + 1) less) true e)
  and_joins m d false c wide less e f =
      let here : d < 20480 = omega (arith, less) in
      kept d m (takes_second t d 1) false (pos 0) e (leaves.and_runs g t low not_last self p around m d (is_there d here) (is_there (d + 1) less) false e)

  pub or_joins : Joins 0 (λ b c. b || c)
  or_joins m d true c wide less e f =
      let here : d < 20480 = omega (arith, less) in
      kept d m (takes_second t d 0) true (pos 1) e (leaves.or_runs g t low not_last self p around m d (is_there d here) (is_there (d + 1) less) true e)
  or_joins m d false c wide less e f =
      let here : d < 20480 = omega (arith, less) in
      second d m (takes_second t d 0) c (pos 0) wide here f (leaves.or_runs g t low not_last self p around m d (is_there d here) (is_there (d + 1) less) false e)

  -- the code of both parts, and what joins them
  module _ (n : ℕ) (op : Bool → Bool → Bool) (joins : Joins n op) (k l : Tree) (b c : Numbered) (u : Works k b) (v : Works l c)
      (m : Mine) (s d : ℕ) (f : ℕ → Ordering) (wide : length m.row ≡ 20480) (behind : p.zero < d) (room : s + (k.size + l.size) ≤ d)
      (fits : d + more k.deep (suc l.deep) ≤ 20480)
      (signs : (j : ℕ) → j < k.size + l.size → rank (register m.row (s + j)) (register m.row p.zero) ≡ f j) where
    first : Answers d m k.steps (k.code s d) (b.judged f)
    first =
        u.does m s d f wide behind (omega (arith, room)) (omega (arith, fits, more_left k.deep (suc l.deep)))
        (λ j less. signs j (omega (arith, less)))

    abbrev mid : Mine
    mid = record m { row = first.row; x = first.x }

    -- the signs of the second part still stand
    still : (j : ℕ) → j < l.size → rank (register first.row (s + k.size + j)) (register first.row p.zero) ≡ from_on b.size f j
    still j less =
        let at : s + k.size + j ≡ s + (k.size + j) = omega arith in
        let number : k.size + j ≡ b.size + j = ap (λ (i : ℕ). i + j) u.sized in
        ap₂ rank
        (ap (register first.row) at ∙ same_register d first.row m.row first.same (s + (k.size + j)) (omega (arith, room, less)))
        (same_register d first.row m.row first.same p.zero behind)
        ∙ signs (k.size + j) (omega (arith, less))
        ∙ ap f number

    other : Answers (d + 1) mid l.steps (l.code (s + k.size) (d + 1)) (c.judged (from_on b.size f))
    other =
        v.does mid (s + k.size) (d + 1) (from_on b.size f) (first.long ∙ wide) (omega (arith, behind)) (omega (arith, room))
        (omega (arith, fits, more_right k.deep (suc l.deep))) still

    abbrev last : Mine
    last = record mid { row = other.row; x = other.x }

    answers : Answers d m (k.steps + (l.steps + 3)) (k.code s d ++ (l.code (s + k.size) (d + 1) ++ takes_second t d n)) (op (b.judged f) (c.judged (from_on b.size f)))
    answers =
        let less : d + 1 < 20480 = omega (arith, fits, more_right k.deep (suc l.deep), v.some) in
        let near : register other.row d ≡ truth_of (b.judged f) =
        same_register (d + 1) other.row first.row other.same d (omega arith) ∙ first.truth in
        let h = joins last d (b.judged f) (c.judged (from_on b.size f)) (other.long ∙ first.long ∙ wide) less near other.truth in
        let end = view (record last { row = h.row; x = h.x }) in
        record {
          row = h.row;
          x = h.x;
          runs =
              runs_on g t k.steps (l.steps + 3) (k.code s d) (l.code (s + k.size) (d + 1) ++ takes_second t d n) (view m) (view mid) end first.runs
              (runs_on g t l.steps 3 (l.code (s + k.size) (d + 1)) (takes_second t d n) (view mid) (view last) end other.runs h.runs);
          long = h.long ∙ other.long ∙ first.long;
          same = h.same ∙ same_less d (d + 1) other.row first.row (omega arith) other.same ∙ first.same;
          truth = h.truth;
        }

  pub joined_works : (n : ℕ) (op : Bool → Bool → Bool) → Joins n op → (k l : Tree) (b c : Numbered) → Works k b → Works l c →
      Works (joined t n k l) (record { size = b.size + c.size; judged = λ f. op (b.judged f) (c.judged (from_on b.size f)) })
  joined_works n op joins k l b c u v = record {
    sized = ap₂ (λ (i j : ℕ). i + j) u.sized v.sized;
    some = omega (arith, u.some, more_left k.deep (suc l.deep));
    does = λ m s d f wide behind room fits signs. answers n op joins k l b c u v m s d f wide behind room fits signs;
  }
