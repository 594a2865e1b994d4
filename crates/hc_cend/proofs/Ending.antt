-- From the lines on: the crossings, the search, and what was found into the first register of the scratch.
use Rattle.std.specs.Prelude.{◌≡◌, ◌<◌, ℕ, ◌+◌, ◌==◌, nat_lt, Bool, true, false, ◌&&◌, List, [], ◌∷◌, ◌++◌, length, slice_get, slice_set, ℤ, pos, Option, Some, None}
use Rattle.std.proofs.Common.{refl, sym, ◌∙◌, arith}
use Rattle.std.proofs.lemmas.List.{length-set, get_or-set_other}
use Rattle.hc_rational.specs.Words.{Rational, zero_ℚ, ratio}
use Rattle.hc_term.specs.Motion.{Line}
use Rattle.hc_term.specs.declared.expr.Cond.{Cond}
use Rattle.hc_cast.specs.declared.program.CProgram.{CProgram}
use Rattle.hc_cmach.specs.Expression.{int_of}
use Rattle.hc_clogic.specs.Runs.{View, Runs}
use Rattle.hc_clogic.proofs.Runs.{runs_on, runs_longer}
use Rattle.hc_cmach.proofs.Worths.{forms}
use Rattle.hc_clogic.specs.Loops.{rounds}
use Rattle.hc_clogic.specs.Block.{block}
use Rattle.hc_clogic.proofs.Blocks.{block_runs}
use Rattle.hc_cstep.specs.Locals as private
use Rattle.hc_cstep.specs.Locals.{Base}
use Rattle.hc_cstep.specs.Parts.{MomentIs}
use Rattle.hc_cend.specs.Candidates.{numbered, found}
use Rattle.hc_cend.specs.Searching as seen
use Rattle.hc_cend.specs.Searching.{Mine, Around, register, search_names}
use Rattle.hc_cend.specs.Places.{Places, AreApart, IsLined, IsGiven}
use Rattle.hc_cend.specs.Written.{number}
use Rattle.hc_cend.specs.Tree.{tree}
use Rattle.hc_cend.specs.Search.{moves, search}
use Rattle.hc_cend.specs.Preparing.{crossings}
use Rattle.hc_cend.specs.Lining.{guard}
use Rattle.hc_cend.specs.Ending.{starts, finds, crosses_and_finds}
use Rattle.hc_cend.proofs.Registers.{Same, same_set, same_less, set_there}
use Rattle.hc_cend.proofs.Given.{is_there}
use Rattle.hc_cend.proofs.Leaves.{none_literal}
use Rattle.hc_cend.proofs.Choosing.{zero_written}
use Rattle.hc_cend.proofs.Trying.{BestIs}
use Rattle.hc_cend.proofs.Guards as guards
use Rattle.hc_cend.proofs.Crossings.{crossings_fit}
use Rattle.hc_cend.proofs.Crossings as crossings'
use Rattle.hc_cend.proofs.Searches as searches

module _ (g : CProgram) (t : ℕ) (low : nat_lt t 65 ≡ true) (not_last : (t == 64) ≡ false) (self : (t == t) ≡ true) (p : Places) (around : Around)
    (c : Cond) (ls : List Line) (apart : AreApart 320 p (length ls) (tree t p c).deep) (sized : (tree t p c).size ≡ length ls) where
  abbrev base : Base
  base = record { shared = around.base.shared; scratch = search_names around.more; lines = around.base.lines; wakes = around.base.wakes }

  abbrev whole : Mine → private.Mine
  whole m =
      record around.fixed {
        row = m.row;
        ok = m.ok;
        truth = m.truth;
        others = around.done ∷ m.x ∷ pos m.i ∷ int_of m.after ∷ m.y ∷ pos m.j ∷ pos m.turn ∷ int_of m.fails ∷ around.kept;
      }

  abbrev view : Mine → View
  view m = seen.view around m

  -- ---- the search, begun where all crossings fit

  abbrev find_steps : ℕ
  find_steps = searches.search_steps g t low not_last self p around 320 c ls apart sized + 1

  pub record Finds (m : Mine) (n : ℕ) : Type 0 where
    pub end : Mine
    pub runs : Runs g t n (finds t p (length ls) c) (view m) (view (record end { ok = m.ok }))
    pub long : length end.row ≡ length m.row
    pub same : Same 320 end.row m.row
    pub finds_it : MomentIs end.truth end.row (found (numbered c) ls)

  moves_told : (m : Mine) → nat_lt p.best 20480 ≡ true →
      block g t 1 (view m) (moves t 320 (number p.best) ∷ []) ≡ Some (view (record m { row = slice_set m.row 320 (register m.row p.best) }))
  moves_told m h = simp (forms, low, not_last, self, h)

  moment_is : (row : List Rational) (truth : Bool) (o : Option Rational) → length row ≡ 20480 → BestIs p row truth o →
      MomentIs truth (slice_set row 320 (register row p.best)) o
  moment_is row truth None wide h = h
  moment_is row truth (Some d) wide h = (h.0, set_there row 320 (register row p.best) (omega (arith, wide)) ∙ h.1)

  found_runs : (m : Mine) → IsGiven p ls m.row → Finds m find_steps
  found_runs m given =
      let k = searches.searched g t low not_last self p around 320 c ls apart sized m given in
      let w = k.end in
      let mid = record m { row = w.row; truth = w.truth; i = w.i; x = w.x; y = w.y; after = w.after; turn = w.turn; fails = w.fails; j = w.j } in
      let best : p.best < 20480 = omega (arith, apart.sign, apart.truth, apart.end) in
      let last = block_runs g t 1 _ _ _ (moves_told mid (is_there p.best best)) in
      let end = record mid { row = slice_set w.row 320 (register w.row p.best) } in
      record {
        end = end;
        runs =
            runs_on g t (searches.search_steps g t low not_last self p around 320 c ls apart sized) 1 (search t p (length ls) c) (moves t 320 (number p.best) ∷ [])
            (view m) (view mid) (view end) k.runs last;
        long = length-set w.row 320 (register w.row p.best) ∙ k.long;
        same =
            same_set 320 w.row m.row 320 (register w.row p.best)
            (same_less 320 p.moment w.row m.row (omega (arith, apart.zero, apart.at, apart.slope, apart.crossing, apart.moment)) k.same) (omega arith);
        finds_it = moment_is w.row w.truth (found (numbered c) ls) (k.long ∙ given.wide) k.finds;
      }

  -- ---- where they may not fit

  pub record Ends (m : Mine) (n : ℕ) (fit : Bool) : Type 0 where
    pub end : Mine
    pub runs : Runs g t n (crossings t p (length ls) ++ guard (finds t p (length ls) c) ∷ []) (view m) (view (record end { ok = fit }))
    pub long : length end.row ≡ length m.row
    pub same : Same 320 end.row m.row
    pub finds_it : fit ≡ true → MomentIs end.truth end.row (found (numbered c) ls)

  abbrev end_steps : ℕ
  end_steps = (1 + rounds 7 (length ls)) + (1 + find_steps)

  module _ (m : Mine) (lined : IsLined p ls m.row) where
    abbrev Crossed : Type 0
    Crossed = crossings'.Crossed g t low not_last self p around 320 (tree t p c).deep ls apart m lined

    module _ (k : Crossed) where
      abbrev mid : Mine
      mid = record m { row = k.row; ok = m.ok && crossings_fit ls; i = k.i; x = k.x; y = k.y }

      -- behind the crossings
      abbrev Behind : Type 0
      Behind =
          (end : Mine) × (Runs g t (1 + find_steps) (guard (finds t p (length ls) c) ∷ []) (view mid) (view (record end { ok = mid.ok })))
          × (length end.row ≡ length k.row) × Same 320 end.row k.row
          × (mid.ok ≡ true → MomentIs end.truth end.row (found (numbered c) ls))

      behind : (o : Bool) → mid.ok ≡ o → Behind
      behind false off = (
        mid,
        runs_longer g t 1 (1 + find_steps) (guard (finds t p (length ls) c) ∷ []) (view mid) (view mid) (omega arith)
            (block_runs g t 1 _ _ _ (guards.off_told g t low not_last self base (whole mid) (finds t p (length ls) c) off)),
        refl,
        refl,
        λ e. absurd (let no : false ≡ true = sym off ∙ e in cc),
      )
      behind true on =
          let h = found_runs mid (k.gives on) in (
            h.end,
            guards.on_runs g t low not_last self base (whole mid) find_steps (finds t p (length ls) c) (whole (record h.end { ok = mid.ok })) on h.runs,
            h.long,
            h.same,
            λ e. h.finds_it,
          )

      ends_as : Behind → Ends m end_steps (m.ok && crossings_fit ls)
      ends_as h = record {
        end = h.0;
        runs =
            runs_on g t (1 + rounds 7 (length ls)) (1 + find_steps) (crossings t p (length ls)) (guard (finds t p (length ls) c) ∷ [])
            (view m) (view mid) (view (record h.0 { ok = mid.ok })) k.runs h.1;
        long = h.2 ∙ k.long;
        same = h.3 ∙ same_less 320 p.crossing k.row m.row (omega (arith, apart.zero, apart.at, apart.slope, apart.crossing)) k.same;
        finds_it = h.4;
      }

    ends_run : Ends m end_steps (m.ok && crossings_fit ls)
    ends_run =
        let k = crossings'.crossed g t low not_last self p around 320 (tree t p c).deep ls apart m lined in
        ends_as k (behind k (m.ok && crossings_fit ls) refl)

  -- ---- begun

  abbrev begun : Mine
  begun = record {
    row = slice_set around.fixed.row p.zero (ratio (pos 0) (pos 1));
    ok = around.fixed.ok;
    truth = around.fixed.truth;
    i = 0;
    after = false;
    x = pos 0;
    y = pos 0;
    j = 0;
    turn = 0;
    fails = false;
  }

  -- whatever the locals of the search held
  abbrev pub before : ℤ → ℤ → ℤ → ℤ → ℤ → ℤ → ℤ → private.Mine
  before z1 z2 z3 z4 z5 z6 z7 = record around.fixed { others = around.done ∷ z1 ∷ z2 ∷ z3 ∷ z4 ∷ z5 ∷ z6 ∷ z7 ∷ around.kept }

  starts_told : (z1 z2 z3 z4 z5 z6 z7 : ℤ) → nat_lt p.zero 20480 ≡ true →
      block g t 8 (private.view base (before z1 z2 z3 z4 z5 z6 z7)) (starts t p) ≡ Some (view begun)
  starts_told z1 z2 z3 z4 z5 z6 z7 h = simp (forms, low, not_last, self, h, none_literal)

  -- the lines that the registers hold
  pub record HoldLines (row : List Rational) : Type 0 where
    pub wide : length row ≡ 20480
    pub values : (i : ℕ) (l : Line) → slice_get ls i ≡ Some l → register row (p.at + i) ≡ l.at
    pub slopes : (i : ℕ) (l : Line) → slice_get ls i ≡ Some l → register row (p.slope + i) ≡ l.slope

  zero_room : p.zero < 20480
  zero_room = omega (arith, apart.at, apart.slope, apart.crossing, apart.moment, apart.best, apart.sign, apart.truth, apart.end)

  lined_by : HoldLines around.fixed.row → IsLined p ls begun.row
  lined_by h =
      let zero = ratio (pos 0) (pos 1) in
      record {
        wide = length-set around.fixed.row p.zero zero ∙ h.wide;
        zero = set_there around.fixed.row p.zero zero (omega (arith, h.wide, zero_room)) ∙ zero_written;
        values =
            λ i l e. get_or-set_other around.fixed.row p.zero (p.at + i) zero zero_ℚ (λ same. omega (arith, same, apart.at)) ∙ h.values i l e;
        slopes =
            λ i l e. get_or-set_other around.fixed.row p.zero (p.slope + i) zero zero_ℚ (λ same. omega (arith, same, apart.at, apart.slope)) ∙ h.slopes i l e;
      }

  abbrev pub whole_steps : ℕ
  whole_steps = 8 + end_steps

  pub record Comes (u : private.Mine) (n : ℕ) (fit : Bool) : Type 0 where
    pub end : Mine
    pub runs : Runs g t n (crosses_and_finds t p (length ls) c) (private.view base u) (view (record end { ok = fit }))
    pub long : length end.row ≡ length u.row
    pub same : Same 320 end.row u.row
    pub finds_it : fit ≡ true → MomentIs end.truth end.row (found (numbered c) ls)

  pub comes : (z1 z2 z3 z4 z5 z6 z7 : ℤ) → HoldLines around.fixed.row → Comes (before z1 z2 z3 z4 z5 z6 z7) whole_steps (around.fixed.ok && crossings_fit ls)
  comes z1 z2 z3 z4 z5 z6 z7 h =
      let k = ends_run begun (lined_by h) in
      let u = before z1 z2 z3 z4 z5 z6 z7 in
      record {
        end = k.end;
        runs =
            runs_on g t 8 end_steps (starts t p) (crossings t p (length ls) ++ guard (finds t p (length ls) c) ∷ []) (private.view base u) (view begun)
            (view (record k.end { ok = around.fixed.ok && crossings_fit ls }))
            (block_runs g t 8 _ _ _ (starts_told z1 z2 z3 z4 z5 z6 z7 (is_there p.zero zero_room))) k.runs;
        long = k.long ∙ length-set around.fixed.row p.zero (ratio (pos 0) (pos 1));
        same = k.same ∙ same_set 320 around.fixed.row around.fixed.row p.zero (ratio (pos 0) (pos 1)) refl apart.zero;
        finds_it = k.finds_it;
      }
