-- The limits of a source, and walking along a text.
use Rattle.std.proofs.Common.{◌≡◌, ◌<◌, ℕ, ◌+◌, Bool, true, false, cond, [], ◌∷◌, Option, Some, None, refl, ap, ap₂, sym, subst, arith}
use Rattle.std.specs.Prelude.{nat_le}
use Rattle.std.proofs.lemmas.Bool.Decides.{nat_tests}
use Rattle.hc_grammar.specs.Texts as texts
use Rattle.hc_grammar.specs.Texts.{Read, Did}
use Rattle.hc_grammar.specs.Reader.{Within}
use Rattle.hc_ast.specs.declared.role.Role.{Role}
use Rattle.hc_ast.specs.declared.role.Role.TheVariants as r
use Rattle.hc_ast.specs.declared.role.Mark.{Mark}
use Rattle.hc_ast.specs.declared.role.Mark.TheVariants as m
use Rattle.hc_ast.specs.Leaves.{Spelled}
use Rattle.hc_ast.specs.declared.flaw.Flaw.{Flaw}
use Rattle.hc_ast.specs.declared.flaw.Flaw.TheVariants.{TooDeep, TooManyNodes}
use Rattle.hc_ast.specs.Counts.{Counts, after_token, after_mark, beyond, reader}
use Rattle.hc_print.proofs.Phrases.{IsFit}
use Rattle.hc_print.proofs.Sound.{IsSound, AllSound}
use Rattle.hc_print.proofs.Walking.{Room, open_behind, nodes_behind, open_at, nodes_at, Walks}

abbrev pub at_counts : ℕ → ℕ → Counts
at_counts d n = record { open_items = d; nodes = n }

-- a test on a limit
below : (most n : ℕ) → n < most → nat_le most n ≡ false
below most n h = grind (arith, nat_tests)

-- a refusal where a number has reached its limit
abbrev limit : Bool → Flaw → Option Flaw → Option Flaw
limit reached flaw next = cond reached (Some flaw) next

passes : (reached : Bool) (flaw : Flaw) (next : Option Flaw) → reached ≡ false → next ≡ None → limit reached flaw next ≡ None
passes true flaw next e f = absurd (cc)
passes false flaw next e f = f

passed : (reached : Bool) (flaw : Flaw) (next : Option Flaw) → limit reached flaw next ≡ None → (reached ≡ false) × (next ≡ None)
passed true flaw next e = absurd (cc)
passed false flaw next e = (refl, e)

under : (most n : ℕ) → nat_le most n ≡ false → n < most
under most n h = grind (arith, nat_tests)

none_beyond : (role : Role) (d n : ℕ) → Room role d n → beyond role (at_counts d n) ≡ None
none_beyond r.Prefix d n (i, j) =
    passes (nat_le 64 d) TooDeep (limit (nat_le 200 n) TooManyNodes None) (below 64 d i)
    (passes (nat_le 200 n) TooManyNodes None (below 200 n j) refl)
none_beyond r.Begin d n i = passes (nat_le 64 d) TooDeep None (below 64 d i) refl
none_beyond r.Open d n i = passes (nat_le 64 d) TooDeep None (below 64 d i) refl
none_beyond r.Leaf d n j = passes (nat_le 200 n) TooManyNodes None (below 200 n j) refl
none_beyond r.Operator d n j = passes (nat_le 200 n) TooManyNodes None (below 200 n j) refl
none_beyond r.Plain d n j = refl
none_beyond r.Keep d n j = refl
none_beyond r.Close d n j = refl

has_room : (role : Role) (d n : ℕ) → beyond role (at_counts d n) ≡ None → Room role d n
has_room r.Prefix d n e =
    let p = passed (nat_le 64 d) TooDeep (limit (nat_le 200 n) TooManyNodes None) e in
    (under 64 d p.0, under 200 n (passed (nat_le 200 n) TooManyNodes None p.1).0)
has_room r.Begin d n e = under 64 d (passed (nat_le 64 d) TooDeep None e).0
has_room r.Open d n e = under 64 d (passed (nat_le 64 d) TooDeep None e).0
has_room r.Leaf d n e = under 200 n (passed (nat_le 200 n) TooManyNodes None e).0
has_room r.Operator d n e = under 200 n (passed (nat_le 200 n) TooManyNodes None e).0
has_room r.Plain d n e = tt
has_room r.Keep d n e = tt
has_room r.Close d n e = tt

-- the counts behind a token and behind a mark
counts_behind : (role : Role) (d n : ℕ)
    → after_token role (at_counts d n) ≡ at_counts (open_behind role d) (nodes_behind role n)
counts_behind r.Prefix d n = refl
counts_behind r.Begin d n = ap (at_counts (d + 1)) (omega arith)
counts_behind r.Open d n = ap (at_counts (d + 1)) (omega arith)
counts_behind r.Leaf d n = ap (λ e. at_counts e (n + 1)) (omega arith)
counts_behind r.Operator d n = ap (λ e. at_counts e (n + 1)) (omega arith)
counts_behind r.Plain d n = ap₂ at_counts (omega arith) (omega arith)
counts_behind r.Keep d n = ap₂ at_counts (omega arith) (omega arith)
counts_behind r.Close d n = refl

counts_at : (b : Mark) (d n : ℕ) → after_mark b (at_counts d n) ≡ at_counts (open_at b d) (nodes_at b n)
counts_at m.Negate d n = refl
counts_at m.Not d n = refl
counts_at m.Fresh d n = refl
counts_at _ d n = refl

-- what walks along a text whose tokens are fit is within the limits
pub within_limits : (w : Spelled) (d n : ℕ) → Walks IsFit w d n → Within reader w (at_counts d n)
within_limits [] d n h = tt
within_limits (Read t role ∷ w) d n (fit, room, h) = (
  fit,
  none_beyond role d n room,
  let P : Counts → Type 0 = λ c. Within reader w c in
      subst P (sym (counts_behind role d n)) (within_limits w (open_behind role d) (nodes_behind role n) h),
)
within_limits (Did b ∷ w) d n h =
    let P : Counts → Type 0 = λ c. Within reader w c in
    subst P (sym (counts_at b d n)) (within_limits w (open_at b d) (nodes_at b n) h)

-- and what is within the limits walks along it, where its tokens are those of a text
pub walks_along : (w : Spelled) (d n : ℕ) → AllSound (texts.tokens_of w) → Within reader w (at_counts d n) → Walks IsSound w d n
walks_along [] d n s h = tt
walks_along (Read t role ∷ w) d n (sound, s) (fit, room, h) =
    let P : Counts → Type 0 = λ c. Within reader w c in (
      sound,
      has_room role d n room,
      walks_along w (open_behind role d) (nodes_behind role n) s (subst P (counts_behind role d n) h),
    )
walks_along (Did b ∷ w) d n s h =
    let P : Counts → Type 0 = λ c. Within reader w c in
    walks_along w (open_at b d) (nodes_at b n) s (subst P (counts_at b d n) h)
