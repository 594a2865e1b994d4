-- When a text is within the limits wherever another one is: the same tokens in the same roles, with fewer open items.
use Rattle.std.proofs.Common.{◌≡◌, ◌≤◌, ℕ, ◌+◌, ◌-◌, Bool, true, false, cond, ◌&&◌, not, ◌∷◌, Option, Some, None, is_none, refl, ap, sym, ◌∙◌, subst, arith}
use Rattle.std.specs.Prelude.{nat_le}
use Rattle.std.specs.Option.{option_map}
use Rattle.std.proofs.lemmas.Bool.Decides.{nat_tests}
use Rattle.hc_grammar.specs.Texts.{Read, Did}
use Rattle.hc_grammar.specs.Reader.{Within}
use Rattle.hc_ctoken.specs.declared.token.Lexeme.{Lexeme}
use Rattle.hc_ctoken.specs.declared.token.Lexeme.TheVariants as lex
use Rattle.hc_ctoken.specs.declared.token.Token.{Token}
use Rattle.hc_cgrammar.specs.declared.flaw.Flaw.{Flaw}
use Rattle.hc_cgrammar.specs.declared.flaw.Flaw.TheVariants as wrong
use Rattle.hc_cgrammar.specs.declared.role.Role.{Role}
use Rattle.hc_cgrammar.specs.declared.role.Role.TheVariants as r
use Rattle.hc_cgrammar.specs.declared.role.Mark.{Mark}
use Rattle.hc_cgrammar.specs.declared.role.Mark.TheVariants as m
use Rattle.hc_cgrammar.specs.Leaves.{Spelled}
use Rattle.hc_cgrammar.specs.State.{Call, Strings, State}
use Rattle.hc_cgrammar.specs.Walk.{called, call_of, opens, closes, items_after, items_behind, call_after, call_behind, threads_after, listed_after, strings_after, is_length_next, after_token, after_mark}
use Rattle.hc_cgrammar.specs.Rules.{unfit, is_full, is_too_deep, breaks_rule, judged, gives, reader}

-- what of a state most tokens leave as it is
pub record Frame : Type 0 where
  pub at_length : Bool
  pub strings : Strings
  pub threads : ℕ
  pub listed : ℕ

-- a state with this frame and so many open items
abbrev pub at : Frame → ℕ → State → State
at a d s = record {
  open_items = d;
  nodes = s.nodes;
  shape = s.shape;
  at_length = a.at_length;
  arrays = s.arrays;
  strings = a.strings;
  functions = s.functions;
  owner = s.owner;
  locals = s.locals;
  returned = s.returned;
  call = s.call;
  cases = s.cases;
  threads = a.threads;
  listed = a.listed;
}

-- no length of an array comes next
abbrev pub calm : Frame → Frame
calm a = record { at_length = false; strings = a.strings; threads = a.threads; listed = a.listed }

-- the frame behind a token
abbrev pub frame_after : Role → Lexeme → Frame → Frame
frame_after role l a = record {
  at_length = is_length_next role;
  strings = strings_after role l a.strings;
  threads = threads_after role a.threads;
  listed = listed_after role a.listed;
}

-- v' is within the limits wherever v is, where at least k items fewer are open, and at least m are
pub record Follows (k m : ℕ) (a : Frame) (v v' : Spelled) : Type 0 where
  pub run : (s : State) (d e : ℕ) → m ≤ d → d + k ≤ e → Within reader v (at a e s) → Within reader v' (at a d s)

-- ---- a token

unfit_same : (l : Lexeme) (a : Frame) (d e : ℕ) (s : State) → unfit l (at a e s) ≡ unfit l (at a d s)
unfit_same lex.LongWord a d e s = refl
unfit_same lex.LargeNumber a d e s = refl
unfit_same (lex.Number n) a d e s = refl
unfit_same (lex.Padded n) a d e s = refl
unfit_same _ a d e s = refl

called_same : (l : Lexeme) (a : Frame) (d e : ℕ) (s : State) → called l (at a e s) ≡ called l (at a d s)
called_same (lex.Primitive p) a d e s = refl
called_same (lex.Function w) a d e s = refl
called_same _ a d e s = refl

full_same : (role : Role) (a : Frame) (d e : ℕ) (s : State) → is_full role (at a e s) ≡ is_full role (at a d s)
full_same r.DeclareArray a d e s = refl
full_same _ a d e s = refl

rule_same : (role : Role) (l : Lexeme) (a : Frame) (d e : ℕ) (s : State)
    → breaks_rule role l (at a e s) ≡ breaks_rule role l (at a d s)
rule_same r.Callee l a d e s = ap (λ o. is_none o) (called_same l a d e s)
rule_same r.GivingCallee l a d e s = ap (λ o. not (gives o)) (called_same l a d e s)
rule_same _ l a d e s = refl

call_same : (role : Role) (l : Lexeme) (a : Frame) (d e : ℕ) (s : State)
    → call_after role l (at a e s) ≡ call_after role l (at a d s)
call_same r.Callee l a d e s = ap (λ o. option_map (call_of l) o) (called_same l a d e s)
call_same r.GivingCallee l a d e s = ap (λ o. option_map (call_of l) o) (called_same l a d e s)
call_same _ l a d e s = refl

-- a refusal where a test holds
abbrev pub refused : Bool → Flaw → Option Flaw → Option Flaw
refused b flaw next = cond b (Some flaw) next

pub passes : (b : Bool) (flaw : Flaw) (next : Option Flaw) → b ≡ false → next ≡ None → refused b flaw next ≡ None
passes true flaw next e f = absurd (cc)
passes false flaw next e f = f

pub passed : (b : Bool) (flaw : Flaw) (next : Option Flaw) → refused b flaw next ≡ None → (b ≡ false) × (next ≡ None)
passed true flaw next e = absurd (cc)
passed false flaw next e = (refl, e)

-- with fewer open items there is room where there was
less_deep : (b : Bool) (d e : ℕ) → d ≤ e → b && nat_le 64 e ≡ false → b && nat_le 64 d ≡ false
less_deep true d e h f = let big : nat_le 64 e ≡ false = f in grind (arith, nat_tests)
less_deep false d e h f = refl

-- what is wrong with a token in its role: its three tests
pub judged_parts : (role : Role) (l : Lexeme) (s : State) → judged role l s ≡ None
    → (is_full role s ≡ false) × (is_too_deep role s ≡ false) × (breaks_rule role l s ≡ false)
judged_parts role l s h =
    let p = passed (is_full role s) wrong.Limit _ h in
    let q = passed (is_too_deep role s) wrong.TooDeep _ p.1 in
    (p.0, q.0, (passed (breaks_rule role l s) wrong.Names None q.1).0)

judged_from : (role : Role) (l : Lexeme) (s : State) → is_full role s ≡ false → is_too_deep role s ≡ false
    → breaks_rule role l s ≡ false → judged role l s ≡ None
judged_from role l s f g h =
    passes (is_full role s) wrong.Limit _ f (passes (is_too_deep role s) wrong.TooDeep _ g
    (passes (breaks_rule role l s) wrong.Names None h refl))

judged_less : (role : Role) (l : Lexeme) (a : Frame) (d e : ℕ) (s : State) → d ≤ e → judged role l (at a e s) ≡ None
    → judged role l (at a d s) ≡ None
judged_less role l a d e s h j =
    let p = judged_parts role l (at a e s) j in
    judged_from role l (at a d s) (sym (full_same role a d e s) ∙ p.0) (less_deep (opens role) d e h p.1)
    (sym (rule_same role l a d e s) ∙ p.2)

-- the state behind a token, where fewer items are open
with_call : Role → Lexeme → Frame → ℕ → ℕ → State → Option Call → State
with_call role l a d e s c =
    let t = after_token role l (at a e s) in
    record {
      open_items = items_after role d;
      nodes = t.nodes;
      shape = t.shape;
      at_length = t.at_length;
      arrays = t.arrays;
      strings = t.strings;
      functions = t.functions;
      owner = t.owner;
      locals = t.locals;
      returned = t.returned;
      call = c;
      cases = t.cases;
      threads = t.threads;
      listed = t.listed;
    }

behind_token : (role : Role) (l : Lexeme) (a : Frame) (d e : ℕ) (s : State)
    → at (frame_after role l a) (items_after role d) (after_token role l (at a e s)) ≡ after_token role l (at a d s)
unfolding with_call
behind_token role l a d e s = ap (with_call role l a d e s) (call_same role l a d e s)

-- how the counts of open items go on
abbrev pub Goes : Role → ℕ → ℕ → ℕ → ℕ → Type 0
Goes role k m k' m' =
    (d e : ℕ) → m ≤ d → d + k ≤ e → (m' ≤ items_after role d) × (items_after role d + k' ≤ items_after role e)

pub a_token : (role : Role) (t t' : Token) (l : Lexeme) (k m k' m' : ℕ) (a : Frame) (v v' : Spelled)
    → t.lexeme ≡ l → t'.lexeme ≡ l → Goes role k m k' m' → Follows k' m' (frame_after role l a) v v'
    → Follows k m a (Read t role ∷ v) (Read t' role ∷ v')
a_token role t t' l k m k' m' a v v' is is' goes f = record {
  run = λ s d e i j (fit, good, w).
      let less : d ≤ e = omega (arith, j) in
      let counts = goes d e i j in
      let P : State → Type 0 = λ s. Within reader v' s in
      let W : Lexeme → Type 0 = λ l. Within reader v (after_token role l (at a e s)) in
      let V : Lexeme → Type 0 = λ l. Within reader v' (after_token role l (at a d s)) in
      let fit' : unfit l (at a e s) ≡ false =
      ap (λ l. unfit l (at a e s)) (sym is) ∙ (passed (unfit t.lexeme (at a e s)) wrong.Limit None fit).0 in
      let good' : judged role l (at a e s) ≡ None = ap (λ l. judged role l (at a e s)) (sym is) ∙ good in
      let rest = f.run (after_token role l (at a e s)) (items_after role d) (items_after role e) counts.0 counts.1 (subst W is w) in (
        passes (unfit t'.lexeme (at a d s)) wrong.Limit None
            (ap (λ l. unfit l (at a d s)) is' ∙ sym (unfit_same l a d e s) ∙ fit') refl,
        ap (λ l. judged role l (at a d s)) is' ∙ judged_less role l a d e s less good',
        subst V (sym is') (subst P (behind_token role l a d e s) rest),
      );
}

-- ---- a mark

mark_call : (b : Mark) (a : Frame) (d e : ℕ) (s : State) → call_behind b (at a e s) ≡ call_behind b (at a d s)
mark_call m.Argument a d e s = refl
mark_call _ a d e s = refl

behind_mark : (b : Mark) (a : Frame) (d e : ℕ) (s : State)
    → at a (items_behind b d) (after_mark b (at a e s)) ≡ after_mark b (at a d s)
behind_mark m.Argument a d e s = refl
behind_mark _ a d e s = refl

abbrev pub GoesAt : Mark → ℕ → ℕ → ℕ → ℕ → Type 0
GoesAt b k m k' m' =
    (d e : ℕ) → m ≤ d → d + k ≤ e → (m' ≤ items_behind b d) × (items_behind b d + k' ≤ items_behind b e)

pub a_mark : (b : Mark) (k m k' m' : ℕ) (a : Frame) (v v' : Spelled) → GoesAt b k m k' m' → Follows k' m' a v v'
    → Follows k m a (Did b ∷ v) (Did b ∷ v')
a_mark b k m k' m' a v v' goes f = record {
  run = λ s d e i j w.
      let counts = goes d e i j in
      let P : State → Type 0 = λ s. Within reader v' s in
      subst P (behind_mark b a d e s)
      (f.run (after_mark b (at a e s)) (items_behind b d) (items_behind b e) counts.0 counts.1 w);
}

-- ---- outside of expressions, where no brackets are left out

fewer : (b c : Bool) (d e : ℕ) → d ≤ e → cond b (d + 1) (cond c (d - 1) d) ≤ cond b (e + 1) (cond c (e - 1) e)
fewer true c d e h = omega arith
fewer false true d e h = omega arith
fewer false false d e h = omega arith

pub free_token : (role : Role) (t t' : Token) (l : Lexeme) (a : Frame) (v v' : Spelled) → t.lexeme ≡ l → t'.lexeme ≡ l
    → Follows 0 0 (frame_after role l a) v v' → Follows 0 0 a (Read t role ∷ v) (Read t' role ∷ v')
free_token role t t' l a v v' is is' f =
    a_token role t t' l 0 0 0 0 a v v' is is'
    (λ d e i j. (
      omega arith,
      let h = fewer (opens role) (closes role) d e (omega (arith, j)) in
          omega (arith, h),
    )) f

fewer_behind : (b : Mark) (d e : ℕ) → d ≤ e → items_behind b d ≤ items_behind b e
fewer_behind m.Negate d e h = omega arith
fewer_behind m.Not d e h = omega arith
fewer_behind _ d e h = h

pub free_mark : (b : Mark) (a : Frame) (v v' : Spelled) → Follows 0 0 a v v' → Follows 0 0 a (Did b ∷ v) (Did b ∷ v')
free_mark b a v v' f =
    a_mark b 0 0 0 0 a v v'
    (λ d e i j. (
      omega arith,
      let h = fewer_behind b d e (omega (arith, j)) in
          omega (arith, h),
    )) f

-- ---- brackets that are left out

pub drop_open : (t : Token) (k m : ℕ) (a : Frame) (v v' : Spelled) → Follows (k + 1) m (calm a) v v'
    → Follows k m (calm a) (Read t r.Open ∷ v) v'
drop_open t k m a v v' f = record { run = λ s d e i j (fit, good, w). f.run s d (e + 1) i (omega (arith, j)) w }

pub drop_close : (t : Token) (k m : ℕ) (a : Frame) (v v' : Spelled) → Follows k m (calm a) v v'
    → Follows (k + 1) m (calm a) (Read t r.Close ∷ v) v'
drop_close t k m a v v' f = record { run = λ s d e i j (fit, good, w). f.run s d (e - 1) i (omega (arith, j)) w }

-- ---- what stands behind a part

-- wherever v is within the limits, the rest v' of it is, in some state with this frame
pub record Leads (a b : Frame) (v v' : Spelled) : Type 0 where
  pub run : (s : State) (e : ℕ) → Within reader v (at a e s) → (s' : State) × (e' : ℕ) × Within reader v' (at b e' s')

pub lead_token : (role : Role) (t : Token) (a : Frame) (v : Spelled) → Leads a (frame_after role t.lexeme a) (Read t role ∷ v) v
lead_token role t a v = record {
  run = λ s e (fit, good, w). (after_token role t.lexeme (at a e s), items_after role e, w);
}

pub lead_mark : (b : Mark) (a : Frame) (v : Spelled) → Leads a a (Did b ∷ v) v
lead_mark b a v = record { run = λ s e w. (after_mark b (at a e s), items_behind b e, w) }

pub then_leads : (a b c : Frame) (v u w : Spelled) → Leads a b v u → Leads b c u w → Leads a c v w
then_leads a b c v u w p q = record {
  run = λ s e x. let y = p.run s e x in q.run y.0 y.1 y.2;
}
