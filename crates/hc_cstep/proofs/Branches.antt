-- What ways and branches are: the same communications, what of them must fit, and what they offer.
use Rattle.std.specs.Prelude.{◌≡◌, ◌≤◌, ℕ, Bool, ◌&&◌, nat_le, nat_lt, List, [], ◌∷◌, length, map, IsTrue}
use Rattle.std.specs.List.{list_all}
use Rattle.std.proofs.Common.{refl, sym, ap₂, arith}
use Rattle.std.proofs.lemmas.Bool.{and_parts, and_from, leb-true}
use Rattle.hc_rational.specs.Words.{Rational, zero_ℚ}
use Rattle.hc_term.specs.declared.expr.Expr.{Expr}
use Rattle.hc_term.specs.declared.stmt.Io.{Io}
use Rattle.hc_term.specs.declared.stmt.Io.TheVariants.{Send, Receive}
use Rattle.hc_term.specs.declared.stmt.Stmt.{Stmt}
use Rattle.hc_term.specs.declared.stmt.Branch.{Branch, out-Branch}
use Rattle.hc_term.specs.declared.post.Offer.{Offer}
use Rattle.hc_term.specs.declared.post.Offer.TheVariants as offer
use Rattle.hc_term.specs.Value.{Store, val, is_fitting}
use Rattle.hc_term.specs.Motion.{Rates, line, form}
use Rattle.hc_term.specs.Offers.{offer_of, offers_of}
use Rattle.hc_term.specs.Silent.{sent_fits, branches_fit, guard_fits, guards_fit}
use Rattle.hc_term.specs.Profile.{is_expr, is_io, are_guards, is_same_io, all_apart, ios_in, sends_affine}
use Rattle.hc_code.specs.declared.code.Way.{Way}
use Rattle.hc_code.specs.Kept.{ios_of}
use Rattle.hc_code.specs.Stands.{Table, WaysAgree}
use Rattle.hc_runs.proofs.Level.{level}
use Rattle.hc_runs.proofs.ValuesFit.{at_is}
use Rattle.hc_cstep.specs.Premises.{is_sent}
use Rattle.hc_cstep.proofs.Sends.{offered}

pub ways_are : (t : Table) (rest : List Stmt) (ways : List Way) (branches : List Branch) → WaysAgree t rest ways branches → ios_of ways ≡ ios_in branches
ways_are t rest [] [] h = refl
ways_are t rest [] (b ∷ bs) h = absurd h
ways_are t rest (w ∷ ws) [] h = absurd h
ways_are t rest (w ∷ ws) (b ∷ bs) h = ap₂ (λ (io : Io) (ios : List Io). io ∷ ios) h.0 (ways_are t rest ws bs h.2)

-- ---- what must fit

pub sent_alike : (s : Store) (io : Io) → is_sent (is_fitting s) io ≡ sent_fits s io
sent_alike s (Send channel value) = refl
sent_alike s (Receive channel variable) = refl

pub branches_alike : (s : Store) (bs : List Branch) → list_all (is_sent (is_fitting s)) (ios_in bs) ≡ branches_fit s bs
branches_alike s [] = refl
branches_alike s (b ∷ bs) = ap₂ (λ (x y : Bool). x && y) (sent_alike s (out-Branch b).io) (branches_alike s bs)

guard_alike : (s : Store) (r : Rates) (io : Io) → is_sent (λ (e : Expr). (line s r e).fits_all) io ≡ guard_fits s r io
guard_alike s r (Send channel value) = refl
guard_alike s r (Receive channel variable) = refl

pub guards_alike : (s : Store) (r : Rates) (bs : List Branch) → list_all (is_sent (λ (e : Expr). (line s r e).fits_all)) (ios_in bs) ≡ guards_fit s r bs
guards_alike s r [] = refl
guards_alike s r (b ∷ bs) = ap₂ (λ (x y : Bool). x && y) (guard_alike s r (out-Branch b).io) (guards_alike s r bs)

-- ---- what is offered

-- where nothing moves, a line is level
pub plain_offer : (s : Store) (io : Io) → offered (val s) (λ (e : Expr). zero_ℚ) io ≡ offer_of s [] io
plain_offer s (Send channel value) = ap₂ (λ (a m : Rational). offer.Send channel a m) (sym (at_is s [] value)) (sym (level s value))
plain_offer s (Receive channel variable) = refl

pub plain_offers : (s : Store) (bs : List Branch) → map (offered (val s) (λ (e : Expr). zero_ℚ)) (ios_in bs) ≡ offers_of s [] bs
plain_offers s [] = refl
plain_offers s (b ∷ bs) = ap₂ (λ (o : Offer) (os : List Offer). o ∷ os) (plain_offer s (out-Branch b).io) (plain_offers s bs)

moving_offer : (s : Store) (r : Rates) (io : Io) → offered (λ (e : Expr). (line s r e).at) (λ (e : Expr). (line s r e).slope) io ≡ offer_of s r io
moving_offer s r (Send channel value) = refl
moving_offer s r (Receive channel variable) = refl

pub moving_offers : (s : Store) (r : Rates) (bs : List Branch) → map (offered (λ (e : Expr). (line s r e).at) (λ (e : Expr). (line s r e).slope)) (ios_in bs) ≡ offers_of s r bs
moving_offers s r [] = refl
moving_offers s r (b ∷ bs) = ap₂ (λ (o : Offer) (os : List Offer). o ∷ os) (moving_offer s r (out-Branch b).io) (moving_offers s r bs)

-- ---- what the rules say

pub few_ways : (channels n : ℕ) (ios : List Io) → IsTrue (are_guards channels n ios) → length ios ≤ 32
few_ways channels n ios h =
    let parts = and_parts (nat_le (length ios) 32 && list_all (is_io channels n) ios) (all_apart is_same_io ios) h in
    let less = leb-true (length ios) 32 (and_parts (nat_le (length ios) 32) (list_all (is_io channels n) ios) parts.0).0 in
    omega (arith, less)

pub all_io : (channels n : ℕ) (ios : List Io) → IsTrue (are_guards channels n ios) → IsTrue (list_all (is_io channels n) ios)
all_io channels n ios h =
    let parts = and_parts (nat_le (length ios) 32 && list_all (is_io channels n) ios) (all_apart is_same_io ios) h in
    (and_parts (nat_le (length ios) 32) (list_all (is_io channels n) ios) parts.0).1

-- the values sent are expressions for which there is code
abbrev pub good_value : ℕ → (Expr → Bool) → Expr → Bool
good_value n f e = is_expr n e && f e

sent_good : (channels n : ℕ) (f : Expr → Bool) (io : Io) → IsTrue (is_io channels n io) → IsTrue (is_sent f io) → IsTrue (is_sent (good_value n f) io)
sent_good channels n f (Send channel value) h k = and_from (is_expr n value) (f value) (and_parts (nat_lt channel channels) (is_expr n value) h).1 k
sent_good channels n f (Receive channel variable) h k = refl

pub all_good : (channels n : ℕ) (f : Expr → Bool) (ios : List Io) → IsTrue (list_all (is_io channels n) ios) → IsTrue (list_all (is_sent f) ios) →
    IsTrue (list_all (is_sent (good_value n f)) ios)
all_good channels n f [] h k = refl
all_good channels n f (io ∷ ios) h k =
    let here = and_parts (is_io channels n io) (list_all (is_io channels n) ios) h in
    let there = and_parts (is_sent f io) (list_all (is_sent f) ios) k in
    and_from (is_sent (good_value n f) io) (list_all (is_sent (good_value n f)) ios) (sent_good channels n f io here.0 there.0) (all_good channels n f ios here.1 there.1)

-- affine by a pattern, and there is code for its line
abbrev pub with_line : Rates → (Expr → Bool) → Expr → Bool
with_line pattern f e = (form pattern e).affine && f e

line_good : (pattern : Rates) (f : Expr → Bool) (io : Io) → IsTrue (sends_affine pattern io) → IsTrue (is_sent f io) → IsTrue (is_sent (with_line pattern f) io)
line_good pattern f (Send channel value) h k = and_from (form pattern value).affine (f value) h k
line_good pattern f (Receive channel variable) h k = refl

pub all_lines : (pattern : Rates) (f : Expr → Bool) (ios : List Io) → IsTrue (list_all (sends_affine pattern) ios) → IsTrue (list_all (is_sent f) ios) →
    IsTrue (list_all (is_sent (with_line pattern f)) ios)
all_lines pattern f [] h k = refl
all_lines pattern f (io ∷ ios) h k =
    let here = and_parts (sends_affine pattern io) (list_all (sends_affine pattern) ios) h in
    let there = and_parts (is_sent f io) (list_all (is_sent f) ios) k in
    and_from (is_sent (with_line pattern f) io) (list_all (is_sent (with_line pattern f)) ios) (line_good pattern f io here.0 there.0) (all_lines pattern f ios here.1 there.1)
