-- Once horizon and limit are set, the board is the one of which the words speak.
use Rattle.std.specs.Prelude.{◌≡◌, ℕ, List, length, slice_set, slice_index_or, pos, unsigned_abs}
use Rattle.std.proofs.Common.{refl, sym, ap, ap₂, ◌∙◌, subst, arith}
use Rattle.std.proofs.lemmas.List.{set-get_or, get_or-set_same}
use Rattle.hc_rational.specs.Words.{Rational, zero_ℚ}
use Rattle.hc_term.specs.declared.task.Task.{Task}
use Rattle.hc_term.specs.declared.post.Post.{Post}
use Rattle.hc_term.specs.declared.model.Configuration.{Configuration}
use Rattle.hc_cmach.specs.State.{Shared}
use Rattle.hc_core_c.specs.Twin.{Board64, register}
use Rattle.hc_core_c.specs.Owner.{shared_of}
use Rattle.hc_core_facts.specs.Standing.{StandsFor}
use Rattle.hc_csection.specs.Words.{processes, channels, IsShared, IsSet, element, the_limit, the_self, the_horizon, set_board}

same_pos : (a b : ℕ) → pos a ≡ pos b → a ≡ b
same_pos a b h = ap unsigned_abs h

-- ---- what is set, on a board

pub record IsSetBoard (t : Task) (p : ℕ) (b : Board64) : Type 0 where
  pub horizon : register b the_horizon ≡ t.horizon
  pub limit : b.limit ≡ t.limit
  pub self : b.self ≡ p

pub set_is : (t : Task) (p : ℕ) (m : Shared) (b : Board64) → m ≡ shared_of b → IsSet t p m → IsSetBoard t p b
set_is t p m b is h = record {
  horizon = subst (λ (z : Shared). slice_index_or z.row the_horizon zero_ℚ ≡ t.horizon) is h.horizon;
  limit = same_pos b.limit t.limit (subst (λ (z : Shared). element z the_limit 0 ≡ pos t.limit) is h.limit);
  self = same_pos b.self p (subst (λ (z : Shared). element z the_self 0 ≡ pos p) is h.self);
}

pub is_set : (t : Task) (p : ℕ) (b : Board64) → IsSetBoard t p b → IsSet t p (shared_of b)
is_set t p b h = record { horizon = h.horizon; limit = ap pos h.limit; self = ap pos h.self }

-- then the words speak of the board itself
pub set_same : (t : Task) (p : ℕ) (b : Board64) → IsSetBoard t p b → set_board t b ≡ b
set_same t p b h =
    let row : slice_set b.row the_horizon t.horizon ≡ b.row =
    ap (λ (v : Rational). slice_set b.row the_horizon v) (sym h.horizon) ∙ set-get_or b.row the_horizon zero_ℚ in
    ap₂ (λ (r : List Rational) (n : ℕ). record b { row = r; limit = n }) row (sym h.limit)

abbrev pub BoardStands : Task → Configuration → List Post → ℕ → Board64 → Type 0
BoardStands t c ps n b = StandsFor (processes t) (channels t) b ps c.clock t.horizon n t.limit

pub board_stands : (t : Task) (p : ℕ) (c : Configuration) (ps : List Post) (n : ℕ) (m : Shared) (s : IsShared t c ps n m) → IsSet t p m → BoardStands t c ps n s.board
board_stands t p c ps n m s h = subst (BoardStands t c ps n) (set_same t p s.board (set_is t p m s.board s.is h)) s.stands

pub stands_set : (t : Task) (p : ℕ) (c : Configuration) (ps : List Post) (n : ℕ) (b : Board64) → IsSetBoard t p b → BoardStands t c ps n b → BoardStands t c ps n (set_board t b)
stands_set t p c ps n b h k = subst (BoardStands t c ps n) (sym (set_same t p b h)) k

-- the board that is set, and for which thread
abbrev pub set_for : Task → ℕ → Board64 → Board64
set_for t p b = record b { row = slice_set b.row the_horizon t.horizon; limit = t.limit; self = p }

pub set_for_is : (t : Task) (p : ℕ) (b : Board64) → length b.row ≡ 20480 → IsSetBoard t p (set_for t p b)
set_for_is t p b wide = record {
  horizon = get_or-set_same b.row the_horizon t.horizon zero_ℚ (omega (arith, wide));
  limit = refl;
  self = refl;
}
