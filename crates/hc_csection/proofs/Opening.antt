-- At the opening the shared part, all zero, stands for that of the task.
use Rattle.std.specs.Prelude.{◌≡◌, ◌≢◌, ◌≤◌, ◌+◌, ◌*◌, ℕ, zero, suc, max, Bool, true, false, ◌&&◌, nat_le, List, [], ◌∷◌, map, length, replicate, slice_get, slice_index_or, ℤ, pos, Option, Some, None}
use Rattle.std.specs.List.{list_all}
use Rattle.std.proofs.Common.{refl, sym, ap, ap₂, ◌∙◌, subst, arith, true≢false}
use Rattle.std.proofs.lemmas.Bool.{and_parts, leb-true}
use Rattle.std.proofs.lemmas.List.{length-replicate, length-set, get_or-set_same}
use Rattle.std.proofs.lemmas.Option.{same_Some}
use Rattle.hc_limits.specs.Limits.{most_steps, most_variables}
use Rattle.hc_rational.specs.Words.{Rational, zero_ℚ}
use Rattle.hc_rational.proofs.RankLaws.{is_positive_is}
use Rattle.hc_term.specs.declared.stmt.Stmt.{Stmt}
use Rattle.hc_term.specs.declared.system.Process.{Process}
use Rattle.hc_term.specs.declared.task.Task.{Task}
use Rattle.hc_term.specs.declared.post.Post.{Post}
use Rattle.hc_term.specs.declared.model.ProcessState.{ProcessState}
use Rattle.hc_term.specs.Offers.{post, going_post}
use Rattle.hc_term.specs.Posts.{receives_on}
use Rattle.hc_term.specs.Rules.{is_stmt, is_process}
use Rattle.hc_term.specs.Together.{ArePaired}
use Rattle.hc_term.specs.declared.model.Mark.TheVariants.{Going}
use Rattle.hc_rational.proofs.OrderLaws.{≤ℚ-from_<ℚ}
use Rattle.hc_term.specs.Step.{opening, opening_of, posts}
use Rattle.hc_runs.proofs.Parts.{all_processes}
use Rattle.hc_runs.proofs.Paired.{posts_are_paired}
use Rattle.hc_cast.specs.declared.program.CArray.{CArray}
use Rattle.hc_cast.specs.declared.program.CProgram.{CProgram}
use Rattle.hc_cmach.specs.State.{Shared, empty_row, zeros, opening_shared}
use Rattle.hc_cthreads.proofs.Beginning.{all_shown}
use Rattle.hc_core_c.specs.Twin.{Board64, nth, variable}
use Rattle.hc_core_c.specs.Code.{core_arrays}
use Rattle.hc_core_c.specs.Owner.{shared_of, ints, Has, Sane}
use Rattle.hc_core_facts.specs.Standing.{code_from, KeepsPost, HasPlaces, Shows, StandsFor}
use Rattle.hc_csection.specs.Words.{processes, channels, IsShared, set_board, the_horizon}
use Rattle.hc_csection.proofs.Reading.{set_register}

-- ---- lists of one element

abbrev nones : ℕ → List ℕ
nones n = replicate n 0

none_there : (n i : ℕ) → nth (replicate n 0) i ≡ 0
none_there zero i = refl
none_there (suc n) zero = refl
none_there (suc n) (suc i) = none_there n i

zero_there : (n i : ℕ) → slice_index_or (replicate n zero_ℚ) i zero_ℚ ≡ zero_ℚ
zero_there zero i = refl
zero_there (suc n) zero = refl
zero_there (suc n) (suc i) = zero_there n i

ints_none : (n : ℕ) → ints (replicate n 0) ≡ replicate n (pos 0)
ints_none zero = refl
ints_none (suc n) = ap (λ (zs : List ℤ). pos 0 ∷ zs) (ints_none n)

pub zeros_is : (n : ℕ) → zeros n ≡ replicate n (pos 0)
unfolding zeros
zeros_is n = refl

pub row_is : empty_row ≡ replicate 20480 zero_ℚ
unfolding empty_row
row_is = refl

array_is : (n : ℕ) → zeros n ≡ ints (replicate n 0)
array_is n = zeros_is n ∙ sym (ints_none n)

-- ---- the board

abbrev board_of : ℕ → ℕ → Board64
board_of P C = record {
  row = empty_row;
  phase = replicate P 0;
  bounded = replicate P 0;
  moves = replicate (P * 64) 0;
  send = replicate (max C 1) 0;
  receive = replicate (max C 1) 0;
  into = replicate (max C 1) 0;
  met = replicate P 0;
  steps = 0;
  limit = 0;
  stop = 0;
  self = 0;
  woke = replicate P 0;
  lines = [];
  wakes = [];
}

abbrev arrays_of : List CArray → List (List ℤ)
arrays_of xs = map (λ a. zeros a.length) xs

one_zero : zeros 1 ≡ pos 0 ∷ []
one_zero = zeros_is 1

arrays_are : (P C : ℕ) → arrays_of (core_arrays P C) ≡ (shared_of (board_of P C)).arrays
arrays_are P C =
    let p = array_is P in
    let m = array_is (P * 64) in
    let c = array_is (max C 1) in
    let one = one_zero in
    rw (p, m, c, one) refl

abbrev with_arrays : List (List ℤ) → Shared
with_arrays xs = record { row = empty_row; arrays = xs }

pub shared_is : (g : CProgram) (P C : ℕ) → Has g P C → opening_shared g ≡ shared_of (board_of P C)
shared_is g P C has =
    ap (λ (xs : List (List ℤ)). with_arrays xs) (ap arrays_of has.declared ∙ arrays_are P C)

-- ---- posts

pub body_going : (clock : Rational) (body : List Stmt) (s : List Rational) → nat_le 1 (length body) ≡ true →
    post clock (record { todo = body; store = s; choices = 0; mark = Going }) ≡ going_post
body_going clock [] s h = absurd (omega (arith, leb-true 1 0 h))
body_going clock (head ∷ rest) s h = refl

pub ruled_body : (channels : ℕ) (b : Process) → is_process channels b ≡ true → nat_le 1 (length b.body) ≡ true
ruled_body channels b ruled =
    let n = length b.variables in
    let few = (and_parts (nat_le n most_variables && nat_le 1 (length b.body)) (list_all (is_stmt channels n) b.body) ruled).0 in
    (and_parts (nat_le n most_variables) (nat_le 1 (length b.body)) few).1

all_going : (clock : Rational) (channels : ℕ) (bodies : List Process) → list_all (is_process channels) bodies ≡ true →
    map (post clock) (map opening_of bodies) ≡ replicate (length bodies) going_post
all_going clock channels [] h = refl
all_going clock channels (b ∷ bodies) h =
    let parts = and_parts (is_process channels b) (list_all (is_process channels) bodies) h in
    ap₂ (λ (x : Post) (xs : List Post). x ∷ xs) (body_going clock b.body (opening_of b).store (ruled_body channels b parts.0)) (all_going clock channels bodies parts.1)

pub posts_are : (t : Task) → posts (opening t) ≡ replicate (processes t) going_post
posts_are t = all_going zero_ℚ (length t.system.channels) t.system.processes (all_processes t)

code_none : (sending : Bool) (c p n : ℕ) → code_from sending c p (replicate n going_post) ≡ 0
code_none sending c p zero = refl
code_none sending c p (suc n) = code_none sending c (p + 1) n

one_of : {A : Type 0} → (n k : ℕ) (x y : A) → slice_get (replicate n x) k ≡ Some y → y ≡ x
one_of {A} zero k x y e = absurd (no e)
  where
    no : ◌≡◌ {A = Option A} None (Some y) → ⊥
    no e = cc
one_of {A} (suc n) zero x y e = sym (same_Some x y e)
one_of {A} (suc n) (suc k) x y e = one_of n k x y e

long_none : (n : ℕ) → length (nones n) ≡ n
long_none n = length-replicate n 0

-- ---- it stands

pub register_zero : (a : ℕ) → slice_index_or empty_row a zero_ℚ ≡ zero_ℚ
register_zero a = ap (λ (r : List Rational). slice_index_or r a zero_ℚ) row_is ∙ zero_there 20480 a

pub row_long : length empty_row ≡ 20480
row_long = ap (λ (r : List Rational). length r) row_is ∙ length-replicate 20480 zero_ℚ

going_keeps : (clock : Rational) → KeepsPost clock going_post
going_keeps clock = record {
  shows = (refl, refl, refl);
  bound = tt;
  due = refl;
  silent = λ e. refl;
  variables = λ k m e. absurd cc;
  once = λ j k m n e f same. absurd cc;
  few = omega arith;
}

module _ (t : Task) (few : processes t ≤ 64) where
  abbrev P : ℕ
  P = processes t

  abbrev C : ℕ
  C = channels t

  abbrev b : Board64
  b = board_of P C

  abbrev ps : List Post
  ps = replicate P going_post

  going_shows : (p : ℕ) → Shows (set_board t b) p going_post
  going_shows p = record {
    phase = none_there P p;
    bounded = none_there P p;
    bound = tt;
    moves = λ i less. none_there (P * 64) (p * 64 + i);
    moving = λ k m e. absurd cc;
    offers = λ g o e. absurd cc;
  }

  places_b : HasPlaces P C (set_board t b)
  places_b =
      let l = long_none P in
      let c = long_none (max C 1) in
      let m = long_none (P * 64) in
      record {
        row = length-set empty_row the_horizon t.horizon ∙ row_long;
        phase = omega (arith, l);
        bounded = omega (arith, l);
        moves = omega (arith, m);
        met = omega (arith, l);
        woke = omega (arith, l);
        send = omega (arith, c);
        receive = omega (arith, c);
        into = omega (arith, c);
      }

  stands_b : StandsFor P C (set_board t b) ps zero_ℚ t.horizon 0 t.limit
  stands_b = record {
    places = places_b;
    processes = length-replicate P going_post;
    most = few;
    now = set_register t b 64 apart ∙ register_zero 64;
    end = get_or-set_same empty_row the_horizon t.horizon zero_ℚ (omega (arith, row_long));
    counted = refl;
    at_most = refl;
    each = λ p q e. subst (Shows (set_board t b) p) (sym (one_of P p going_post q e)) (going_shows p);
    send = λ c less. none_there (max C 1) c ∙ sym (code_none true c 0 P);
    receive = λ c less. none_there (max C 1) c ∙ sym (code_none false c 0 P);
    keeps = λ p q e. subst (KeepsPost zero_ℚ) (sym (one_of P p going_post q e)) (going_keeps zero_ℚ);
    paired = subst (ArePaired C) (posts_are t) (posts_are_paired t [] (opening t) refl);
    into = λ c. let z = none_there (max C 1) c in omega (arith, z);
    in_time = ≤ℚ-from_<ℚ zero_ℚ t.horizon ((is_positive_is t.horizon).0 t.positive);
    in_limit = omega arith;
    small = let limit : t.limit ≤ most_steps = t.in_range.1 in omega (arith, limit);
  }
    where
      apart : (◌≢◌ {A = ℕ}) 64 67
      apart e = absurd (omega (arith, e))

  sane_b : Sane P b
  sane_b = record {
    sends = λ c. let z = none_there (max C 1) c in omega (arith, z);
    receives = λ c. let z = none_there (max C 1) c in omega (arith, z);
    into = λ c. let z = none_there (max C 1) c in omega (arith, z);
    limit = omega arith;
  }

  store_zero : (bodies : List Process) (p : ℕ) (q : ProcessState) (i : ℕ) → slice_get (map opening_of bodies) p ≡ Some q → slice_index_or q.store i zero_ℚ ≡ zero_ℚ
  store_zero [] p q i e = absurd cc
  store_zero (b ∷ bodies) zero q i e =
      ap (λ (x : ProcessState). slice_index_or x.store i zero_ℚ) (sym (same_Some (opening_of b) q e)) ∙ zero_there (length b.variables) i
  store_zero (b ∷ bodies) (suc p) q i e = store_zero bodies p q i e

  pub opening_shared_stands : (m : Shared) → m ≡ shared_of b → IsShared t (opening t) (posts (opening t)) 0 m
  opening_shared_stands m is = record {
    board = b;
    is = is;
    goes_on = refl;
    stands = subst (λ (xs : List Post). StandsFor P C (set_board t b) xs zero_ℚ t.horizon 0 t.limit) (sym (posts_are t)) stands_b;
    sane = sane_b;
    variables_are = λ p i q at less. register_zero (variable p i) ∙ sym (store_zero t.system.processes p q i at);
    intos =
        λ p c q x at there h.
        (
        let going : x ≡ going_post = one_of P p going_post x (ap (λ (xs : List Post). slice_get xs p) (sym (posts_are t)) ∙ there) in
        absurd (true≢false (sym h ∙ ap (λ (y : Post). receives_on c y.offers) going))
        );
    shown = all_shown zero_ℚ (opening t).processes;
    reached = record { items = []; leads = refl };
  }
