-- The code of an end moment has at most six statements for each node of the domain, and 67 more.
use Rattle.std.specs.Prelude.{◌≡◌, ◌≤◌, ℕ, suc, ◌+◌, ◌*◌, List, [], ◌∷◌, ◌++◌, map, length}
use Rattle.std.proofs.Common.{ap, ◌∙◌, arith}
use Rattle.hc_term.specs.declared.expr.Expr.{Expr}
use Rattle.hc_term.specs.declared.expr.Comparison.{Comparison}
use Rattle.hc_term.specs.declared.expr.Cond.{Cond}
use Rattle.hc_term.specs.declared.expr.Cond.TheOpen.{Cond-F}
use Rattle.hc_term.specs.declared.expr.Cond.TheVariants as plain
use Rattle.hc_term.specs.declared.expr.Cond.TheViews as seen
use Rattle.hc_term.specs.Motion.{Rates}
use Rattle.hc_term.specs.Profile.{nodes, nodes_in_layer, nodes_in}
use Rattle.hc_cast.specs.declared.stmt.CStmt.{CStmt}
use Rattle.hc_cvalue.specs.Lines.{line_code}
use Rattle.hc_cvalue.proofs.CondForms as forms
use Rattle.hc_cend.specs.Places.{Places}
use Rattle.hc_cend.specs.Written.{number, is_number, all_signs}
use Rattle.hc_cend.specs.Tree.{Tree, joined, tree_layer, tree, leaf, turns_over, takes_second}
use Rattle.hc_cend.specs.Search.{set, moves, is_below, notes, point, trial, chooses, betters, keeps, tries, goes_on, candidate, search}
use Rattle.hc_cend.specs.Preparing.{crossings}
use Rattle.hc_cend.specs.Lining.{Compared, compared_layer, compared, guard, subtracts, gap_code, gaps_code}
use Rattle.hc_cend.specs.Ending.{starts, finds, crosses_and_finds, end_code}
use Rattle.hc_cend.specs.Law.{places}
use Rattle.hc_cend.specs.Size.{EndIsShort}
use Rattle.hc_cstep.specs.Size.{total, size, sizes}
use Rattle.hc_cstep.proofs.Sizes.{sizes-append}
use Rattle.hc_cend.proofs.StatementSizes.{sized, size-When, size-While}
use Rattle.hc_cend.proofs.LineSize.{line_short}
use Rattle.hc_cstep.specs.Locals.{v_ok, v_truth}
use Rattle.hc_cvalue.proofs.Heights.{low_height}
use Rattle.hc_cend.specs.Searching.{v_i, v_after, v_x, v_j, v_turn, v_fails}

guard_size : (ss : List CStmt) → size (guard ss) ≡ 1 + sizes ss
guard_size ss = let one = size-When (is_number v_ok 1) ss in omega (arith, one)

-- ---- the lines

abbrev gap_size : Compared → ℕ
gap_size q = 6 + 4 * (nodes q.left + nodes q.right)

abbrev gap_sizes : List Compared → ℕ
gap_sizes qs = total (map gap_size qs)

gap_sizes-append : (qs rs : List Compared) → gap_sizes (qs ++ rs) ≡ gap_sizes qs + gap_sizes rs
gap_sizes-append [] rs = omega arith
gap_sizes-append (q ∷ qs) rs = let more = gap_sizes-append qs rs in omega (arith, more)

module _ (t : ℕ) (pattern : Rates) (p : Places) where
  gap_short : (i : ℕ) (q : Compared) → sizes (gap_code (line_code t pattern) t p i q) ≤ 6 + 4 * (nodes q.left + nodes q.right)
  gap_short i q =
      let left = line_short t pattern q.left p.crossing in
      let right = line_short t pattern q.right (p.crossing + 2) in
      let one = guard_size (line_code t pattern p.crossing q.left) in
      let two = guard_size (line_code t pattern (p.crossing + 2) q.right) in
      let three : size (guard (subtracts t (p.at + i) p.crossing (p.crossing + 2))) ≡ 2 = simp sized in
      let four : size (guard (subtracts t (p.slope + i) (p.crossing + 1) (p.crossing + 3))) ≡ 2 = simp sized in
      omega (arith, left, right, one, two, three, four)

  gaps_short : (qs : List Compared) (i : ℕ) → sizes (gaps_code (line_code t pattern) t p i qs) ≤ gap_sizes qs
  gaps_short [] i = omega arith
  gaps_short (q ∷ qs) i =
      let first = gap_short i q in
      let more = gaps_short qs (suc i) in
      let parts = sizes-append (gap_code (line_code t pattern) t p i q) (gaps_code (line_code t pattern) t p (suc i) qs) in
      omega (arith, first, more, parts)

  -- ---- lines and tree together

  abbrev IsShort : Cond → Type 0
  IsShort c = (s d : ℕ) → gap_sizes (compared c) + sizes ((tree t p c).code s d) ≤ 6 * nodes_in c

  always : (e : Cond) → e ≡ plain.True → IsShort e
  always e h s d =
      let k = ap (λ (x : Tree). sizes (x.code s d)) (forms.fold-True Tree (tree_layer t p) e h) in
      let n = forms.fold-True ℕ nodes_in_layer e h in
      let q = ap gap_sizes (forms.fold-True (List Compared) compared_layer e h) in
      let one : sizes ((tree_layer t p Cond-F.True).code s d) ≡ 1 = simp sized in
      omega (arith, k, n, q, one)

  never : (e : Cond) → e ≡ plain.False → IsShort e
  never e h s d =
      let k = ap (λ (x : Tree). sizes (x.code s d)) (forms.fold-False Tree (tree_layer t p) e h) in
      let n = forms.fold-False ℕ nodes_in_layer e h in
      let q = ap gap_sizes (forms.fold-False (List Compared) compared_layer e h) in
      let one : sizes ((tree_layer t p Cond-F.False).code s d) ≡ 1 = simp sized in
      omega (arith, k, n, q, one)

  comparison : (e : Cond) (how : Comparison) (a b : Expr) → e ≡ plain.Compare how a b → IsShort e
  comparison e how a b h s d =
      let k = ap (λ (x : Tree). sizes (x.code s d)) (forms.fold-Compare Tree (tree_layer t p) e how a b h) in
      let n = forms.fold-Compare ℕ nodes_in_layer e how a b h in
      let q = ap gap_sizes (forms.fold-Compare (List Compared) compared_layer e how a b h) in
      let four : sizes (leaf t p how s d) ≡ 4 = simp sized in
      let left = low_height a in
      let right = low_height b in
      omega (arith, k, n, q, four, left, right)

  negated : (e a : Cond) → e ≡ seen.Not a → IsShort a → IsShort e
  negated e a h i s d =
      let k = ap (λ (x : Tree). sizes (x.code s d)) (forms.fold-Not Tree (tree_layer t p) e a h) in
      let n = forms.fold-Not ℕ nodes_in_layer e a h in
      let q = ap gap_sizes (forms.fold-Not (List Compared) compared_layer e a h) in
      let four : sizes (turns_over t d) ≡ 4 = simp sized in
      let parts = sizes-append ((tree t p a).code s d) (turns_over t d) in
      let first = i s d in
      omega (arith, k, n, q, four, parts, first)

  -- both `&&` and `||`
  both : (e a b : Cond) (x : ℕ) → tree t p e ≡ joined t x (tree t p a) (tree t p b) → nodes_in e ≡ 1 + nodes_in a + nodes_in b → compared e ≡ compared a ++ compared b →
      IsShort a → IsShort b → IsShort e
  both e a b x h n q i j s d =
      let k = ap (λ (y : Tree). sizes (y.code s d)) h in
      let r = ap gap_sizes q ∙ gap_sizes-append (compared a) (compared b) in
      let left = (tree t p a).code s d in
      let right = (tree t p b).code (s + (tree t p a).size) (d + 1) in
      let three : sizes (takes_second t d x) ≡ 3 = simp sized in
      let parts = sizes-append left (right ++ takes_second t d x) in
      let others = sizes-append right (takes_second t d x) in
      let first = i s d in
      let second = j (s + (tree t p a).size) (d + 1) in
      omega (arith, k, n, r, three, parts, others, first, second)

  short : (c : Cond) → IsShort c
  short =
      forms.by_form IsShort
      (record {
        always = always;
        never = never;
        comparison = comparison;
        negated = negated;
        conjoined =
            λ e a b h.
            both e a b 1 (forms.fold-And Tree (tree_layer t p) e a b h) (forms.fold-And ℕ nodes_in_layer e a b h) (forms.fold-And (List Compared) compared_layer e a b h);
        disjoined =
            λ e a b h.
            both e a b 0 (forms.fold-Or Tree (tree_layer t p) e a b h) (forms.fold-Or ℕ nodes_in_layer e a b h) (forms.fold-Or (List Compared) compared_layer e a b h);
      })

  -- ---- the search

  module _ (n : ℕ) (c : Cond) where
    abbrev judges : List CStmt
    judges = (tree t p c).code p.sign p.truth

    point_is : sizes (point t p n c) ≡ 21 + sizes judges
    point_is =
        let signs_is : sizes (all_signs t p n) ≡ 15 = simp sized in
        let notes_is : sizes (notes t p) ≡ 5 = simp sized in
        let one : size (set v_i 0) ≡ 1 = simp sized in
        let parts = sizes-append (all_signs t p n) (judges ++ notes t p) in
        let others = sizes-append judges (notes t p) in
        omega (arith, signs_is, notes_is, one, parts, others)

    trial_is : sizes (trial t p n c) ≡ 25 + sizes judges
    trial_is =
        let loop = size-While (is_below v_turn 2) (point t p n c) in
        let first : size (set v_fails 0) ≡ 1 = simp sized in
        let second : size (set v_after 0) ≡ 1 = simp sized in
        let third : size (set v_turn 0) ≡ 1 = simp sized in
        omega (arith, loop, first, second, third, point_is)

    tries_is : sizes (tries t p n c) ≡ 29 + sizes judges
    tries_is =
        let either = size-When (is_number v_x 1) (trial t p n c ++ keeps t p) in
        let parts = sizes-append (trial t p n c) (keeps t p) in
        let keeps_is : sizes (keeps t p) ≡ 3 = simp sized in
        omega (arith, either, parts, keeps_is, trial_is)

    candidate_is : sizes (candidate t p n c) ≡ 43 + sizes judges
    candidate_is =
        let chooses_is : sizes (chooses t p) ≡ 9 = simp sized in
        let betters_is : sizes (betters t p) ≡ 3 = simp sized in
        let goes_is : sizes goes_on ≡ 2 = simp sized in
        let one = sizes-append (chooses t p) (betters t p ++ (tries t p n c ++ goes_on)) in
        let two = sizes-append (betters t p) (tries t p n c ++ goes_on) in
        let three = sizes-append (tries t p n c) goes_on in
        omega (arith, chooses_is, betters_is, goes_is, one, two, three, tries_is)

    search_is : sizes (search t p n c) ≡ 47 + sizes judges
    search_is =
        let loop = size-While (is_below v_j (n + 1)) (candidate t p n c) in
        let first : size (set v_truth 0) ≡ 1 = simp sized in
        let second : size (set v_i 0) ≡ 1 = simp sized in
        let third : size (set v_j 0) ≡ 1 = simp sized in
        omega (arith, loop, first, second, third, candidate_is)

    -- ---- the whole

    behind_is : sizes (crosses_and_finds t p n c) ≡ 66 + sizes judges
    behind_is =
        let starts_is : sizes (starts t p) ≡ 8 = simp sized in
        let crossings_is : sizes (crossings t p n) ≡ 9 = simp sized in
        let move : sizes (moves t 320 (number p.best) ∷ []) ≡ 1 = simp sized in
        let inner = guard_size (finds t p n c) in
        let one = sizes-append (search t p n c) (moves t 320 (number p.best) ∷ []) in
        let two = sizes-append (starts t p) (crossings t p n ++ guard (finds t p n c) ∷ []) in
        let three = sizes-append (crossings t p n) (guard (finds t p n c) ∷ []) in
        omega (arith, starts_is, crossings_is, move, inner, one, two, three, search_is)

  pub end_short : (c : Cond) → sizes (end_code (line_code t pattern) t p c) ≤ 6 * nodes_in c + 67
  end_short c =
      let n = length (compared c) in
      let lines = gaps_short (compared c) 0 in
      let both' = short c p.sign p.truth in
      let outer = guard_size (crosses_and_finds t p n c) in
      let behind = behind_is n c in
      let parts = sizes-append (gaps_code (line_code t pattern) t p 0 (compared c)) (guard (crosses_and_finds t p n c) ∷ []) in
      omega (arith, lines, both', outer, behind, parts)

pub is_short : EndIsShort
is_short p pattern c = end_short p pattern (places (length (compared c))) c
