-- What stands behind code that a going process runs before it arrives: registers from some number on, and scratch, may have changed.
use Rattle.std.specs.Prelude.{◌≡◌, ◌≤◌, ◌<◌, ℕ, ◌+◌, Bool, true, false, ◌&&◌, List, [], ◌∷◌, ◌++◌, length, take, pos, ℤ, None}
use Rattle.std.proofs.Common.{refl, sym, ap, ◌∙◌, arith}
use Rattle.std.proofs.lemmas.Bool.{false≢true}
use Rattle.std.proofs.lemmas.List.{get_or-take, take-take}
use Rattle.hc_rational.specs.Words.{Rational, zero_ℚ}
use Rattle.hc_cast.specs.declared.stmt.CStmt.{CStmt}
use Rattle.hc_cast.specs.declared.program.CProgram.{CProgram}
use Rattle.hc_cmach.specs.State.{width}
use Rattle.hc_clogic.specs.Runs.{Runs}
use Rattle.hc_clogic.proofs.Runs.{runs_none, runs_on, runs_longer, if_runs}
use Rattle.hc_cmach.proofs.Worths.{forms}
use Rattle.hc_cstep.specs.Locals.{Mine, Base, view, v_ok}
use Rattle.hc_cstep.specs.Stands.{register, the_clock, first_scratch}
use Rattle.hc_cstep.specs.Words.{is, guarded, each}
use Rattle.hc_cstep.specs.Parts.{Evaluates}

-- ---- registers below some number

pub same_below : (from : ℕ) (xs ys : List Rational) (i : ℕ) → i < from → take from xs ≡ take from ys → register xs i ≡ register ys i
same_below from xs ys i less same =
    sym (get_or-take from xs i zero_ℚ less) ∙ ap (λ (l : List Rational). register l i) same ∙ get_or-take from ys i zero_ℚ less

pub fewer_same : (few from : ℕ) (xs ys : List Rational) → few ≤ from → take from xs ≡ take from ys → take few xs ≡ take few ys
fewer_same few from xs ys less same = sym (take-take few from xs less) ∙ ap (λ (l : List Rational). take few l) same ∙ take-take few from ys less

-- ---- before

-- all fits so far, and the store and the clock are these
pub record Ready (vars room : ℕ) (clock : Rational) (s : List Rational) (m : Mine) : Type 0 where
  pub on : m.ok ≡ true
  pub wide : length m.row ≡ width
  pub spare : length m.others ≡ room
  pub same_store : take vars m.row ≡ s
  pub now : register m.row the_clock ≡ clock

-- ---- behind

abbrev pub after : Mine → List Rational → Bool → Bool → List ℤ → Mine
after m row ok truth others = record m { row = row; ok = ok; truth = truth; others = others }

-- registers below `from` are as they were, and where all fits, row and truth are such
pub record Prepares (g : CProgram) (p n : ℕ) (b : Base) (from : ℕ) (ss : List CStmt) (m : Mine) (fitting : Bool) (Such : List Rational → Bool → Type 0) : Type 0 where
  pub row : List Rational
  pub truth : Bool
  pub others : List ℤ
  pub runs : Runs g p n ss (view b m) (view b (after m row fitting truth others))
  pub wide : length row ≡ length m.row
  pub kept : length others ≡ length m.others
  pub low : take from row ≡ take from m.row
  pub such : fitting ≡ true → Such row truth

pub still_ready : (vars room : ℕ) (clock : Rational) (s : List Rational) (m : Mine) (from : ℕ) (row : List Rational) (truth : Bool) (others : List ℤ) → vars ≤ 64 → 65 ≤ from →
    Ready vars room clock s m → length row ≡ length m.row → length others ≡ length m.others → take from row ≡ take from m.row → Ready vars room clock s (after m row true truth others)
still_ready vars room clock s m from row truth others few high r wide kept low = record {
  on = refl;
  wide = wide ∙ r.wide;
  spare = kept ∙ r.spare;
  same_store = fewer_same vars from row m.row (omega (arith, few, high)) low ∙ r.same_store;
  now = same_below from row m.row the_clock (omega (arith, high)) low ∙ r.now;
}

module _ (g : CProgram) (p : ℕ) (b : Base) where
  -- ---- guarded blocks

  guarded_runs : (n : ℕ) (ss : List CStmt) (m w : Mine) → m.ok ≡ true → Runs g p n ss (view b m) (view b w) → Runs g p (1 + n) (guarded ss ∷ []) (view b m) (view b w)
  guarded_runs n ss m w on r = if_runs g p n (is v_ok 1) ss None (view b m) (view b w) (pos 1) (λ rest target gives. simp (forms, on)) r

  skip_runs : (ss : List CStmt) (m : Mine) → m.ok ≡ false → Runs g p 1 (guarded ss ∷ []) (view b m) (view b m)
  skip_runs ss m off = if_runs g p 0 (is v_ok 1) ss None (view b m) (view b m) (pos 0) (λ rest target gives. simp (forms, off)) (runs_none g p (view b m))

  skips : (blocks : List (List CStmt)) (m : Mine) → m.ok ≡ false → Runs g p (length blocks) (each blocks) (view b m) (view b m)
  skips [] m off = runs_none g p (view b m)
  skips (ss ∷ blocks) m off =
      let less : 1 + length blocks ≤ length (ss ∷ blocks) = omega arith in
      runs_longer g p (1 + length blocks) (length (ss ∷ blocks)) (each (ss ∷ blocks)) (view b m) (view b m) less
      (runs_on g p 1 (length blocks) (guarded ss ∷ []) (each blocks) (view b m) (view b m) (view b m) (skip_runs ss m off) (skips blocks m off))

  -- nothing to do
  pub prepares_none : (from : ℕ) (m : Mine) (Such : List Rational → Bool → Type 0) → m.ok ≡ true → Such m.row m.truth → Prepares g p 0 b from [] m true Such
  prepares_none from m Such on such = record {
    row = m.row;
    truth = m.truth;
    others = m.others;
    runs = by m.ok on;
    wide = refl;
    kept = refl;
    low = refl;
    such = λ h. such;
  }
    where
      by : (x : Bool) → x ≡ true → Runs g p 0 [] (view b (record m { ok = x })) (view b (after m m.row true m.truth m.others))
      by true e = runs_none g p (view b (after m m.row true m.truth m.others))
      by false e = absurd (false≢true e)

  pub prepares_longer : (n k from : ℕ) (ss : List CStmt) (m : Mine) (x : Bool) (Such : List Rational → Bool → Type 0) → n ≤ k → Prepares g p n b from ss m x Such →
      Prepares g p k b from ss m x Such
  prepares_longer n k from ss m x Such less r = record {
    row = r.row;
    truth = r.truth;
    others = r.others;
    runs = runs_longer g p n k ss (view b m) (view b (after m r.row x r.truth r.others)) less r.runs;
    wide = r.wide;
    kept = r.kept;
    low = r.low;
    such = r.such;
  }

  -- fewer registers are known to keep, and of the row something else is said
  pub prepares_so : (n from least : ℕ) (ss : List CStmt) (m : Mine) (x : Bool) (Such Other : List Rational → Bool → Type 0) → least ≤ from → (r : Prepares g p n b from ss m x Such) →
      (take from r.row ≡ take from m.row → Such r.row r.truth → Other r.row r.truth) → Prepares g p n b least ss m x Other
  prepares_so n from least ss m x Such Other less r f = record {
    row = r.row;
    truth = r.truth;
    others = r.others;
    runs = r.runs;
    wide = r.wide;
    kept = r.kept;
    low = fewer_same least from r.row m.row less r.low;
    such = λ h. f r.low (r.such h);
  }

  -- a block behind a guard
  pub prepares_guarded : (n from : ℕ) (ss : List CStmt) (m : Mine) (x : Bool) (Such : List Rational → Bool → Type 0) → m.ok ≡ true → Prepares g p n b from ss m x Such →
      Prepares g p (1 + n) b from (each (ss ∷ [])) m x Such
  prepares_guarded n from ss m x Such on r = record {
    row = r.row;
    truth = r.truth;
    others = r.others;
    runs = guarded_runs n ss m (after m r.row x r.truth r.others) on r.runs;
    wide = r.wide;
    kept = r.kept;
    low = r.low;
    such = r.such;
  }

  -- further statements that need not be guarded
  pub prepares_more : (n k from : ℕ) (ss rs : List CStmt) (m : Mine) (x : Bool) (Such Other : List Rational → Bool → Type 0) → (a : Prepares g p n b from ss m x Such) →
      Prepares g p k b from rs (after m a.row x a.truth a.others) x Other → Prepares g p (n + k) b from (ss ++ rs) m x Other
  prepares_more n k from ss rs m x Such Other a r = record {
    row = r.row;
    truth = r.truth;
    others = r.others;
    runs = runs_on g p n k ss rs (view b m) (view b (after m a.row x a.truth a.others)) (view b (after m r.row x r.truth r.others)) a.runs r.runs;
    wide = r.wide ∙ a.wide;
    kept = r.kept ∙ a.kept;
    low = r.low ∙ a.low;
    such = r.such;
  }

  -- guarded blocks behind
  pub then_each : (n k from : ℕ) (ss : List CStmt) (blocks : List (List CStmt)) (m : Mine) (x y : Bool) (Such Other : List Rational → Bool → Type 0) → length blocks ≤ k →
      (a : Prepares g p n b from ss m x Such) → (x ≡ true → Prepares g p k b from (each blocks) (after m a.row true a.truth a.others) y Other) →
      Prepares g p (n + k) b from (ss ++ each blocks) m (x && y) Other
  then_each n k from ss blocks m true y Such Other short a f =
      let r = f refl in record {
        row = r.row;
        truth = r.truth;
        others = r.others;
        runs = runs_on g p n k ss (each blocks) (view b m) (view b (after m a.row true a.truth a.others)) (view b (after m r.row y r.truth r.others)) a.runs r.runs;
        wide = r.wide ∙ a.wide;
        kept = r.kept ∙ a.kept;
        low = r.low ∙ a.low;
        such = r.such;
      }
  then_each n k from ss blocks m false y Such Other short a f =
      let w = after m a.row false a.truth a.others in record {
        row = a.row;
        truth = a.truth;
        others = a.others;
        runs =
            runs_on g p n k ss (each blocks) (view b m) (view b w) (view b w) a.runs
            (runs_longer g p (length blocks) k (each blocks) (view b w) (view b w) short (skips blocks w refl));
        wide = a.wide;
        kept = a.kept;
        low = a.low;
        such = λ h. absurd (false≢true h);
      }

  -- code that changed scratch alone
  pub prepares_scratch : (n : ℕ) (ss : List CStmt) (m : Mine) (x : Bool) (Such : List Rational → Bool → Type 0) → (d : Evaluates g p n b ss m x) → (x ≡ true → Such d.row d.truth) →
      Prepares g p n b first_scratch ss m x Such
  prepares_scratch n ss m x Such d f =
      record { row = d.row; truth = d.truth; others = d.others; runs = d.runs; wide = d.wide; kept = d.kept; low = d.low; such = f }
