-- The table keeps its laws: each is computed.
use Rattle.std.proofs.Common.{◌≡◌, refl, ℕ, true, false, List, [], ◌∷◌, Some}
use Rattle.std.specs.List.{slice_get, list_all}
use Rattle.hc_grammar.specs.Ll1.{fits, IsLl1}
use Rattle.hc_grammar.specs.Ends.{closes_by, EndsBy}
use Rattle.hc_grammar.proofs.Tables.{IsListed, all_listed, good, alike, is_ll1, ends_by}
use Rattle.hc_ctoken.specs.declared.kind.Kind.{Kind}
use Rattle.hc_ctoken.specs.declared.fixed.Fixed.TheVariants as fix
use Rattle.hc_ctoken.specs.declared.kind.Kind.TheVariants as k
use Rattle.hc_ctable.specs.declared.head.Head.{Head}
use Rattle.hc_ctable.specs.declared.head.Head.TheVariants as h
use Rattle.hc_ctable.specs.Table.{number, table, start}

-- all kinds, and all phrases
abbrev pub kinds : List Kind
kinds =
    (k.Fixed fix.Static) ∷ (k.Fixed fix.Int) ∷ (k.Fixed fix.Const) ∷ (k.Fixed fix.Char) ∷ (k.Fixed fix.Void) ∷ (k.Fixed fix.If) ∷ (k.Fixed fix.Else) ∷ (k.Fixed fix.While)
    ∷ (k.Fixed fix.Switch) ∷ (k.Fixed fix.Case) ∷ (k.Fixed fix.Break) ∷ (k.Fixed fix.Default) ∷ (k.Fixed fix.Return) ∷ (k.Fixed fix.ChanName) ∷ (k.Fixed fix.ProcName) ∷ (k.Fixed fix.HcThreads)
    ∷ (k.Fixed fix.Main) ∷ (k.Fixed fix.HcMain) ∷ (k.Fixed fix.BarBar) ∷ (k.Fixed fix.AndAnd) ∷ (k.Fixed fix.LessEqual) ∷ (k.Fixed fix.GreaterEqual) ∷ (k.Fixed fix.EqualEqual) ∷ (k.Fixed fix.NotEqual)
    ∷ (k.Fixed fix.OpenRound) ∷ (k.Fixed fix.CloseRound) ∷ (k.Fixed fix.OpenCurly) ∷ (k.Fixed fix.CloseCurly) ∷ (k.Fixed fix.OpenSquare) ∷ (k.Fixed fix.CloseSquare) ∷ (k.Fixed fix.Less) ∷ (k.Fixed fix.Greater)
    ∷ (k.Fixed fix.Comma) ∷ (k.Fixed fix.Semicolon) ∷ (k.Fixed fix.Colon) ∷ (k.Fixed fix.Equal) ∷ (k.Fixed fix.Exclamation) ∷ (k.Fixed fix.Plus) ∷ (k.Fixed fix.Minus) ∷ (k.Fixed fix.Star)
    ∷ k.Array ∷ k.Function ∷ k.Local ∷ k.Unused ∷ k.Thread ∷ k.Primitive ∷ k.Number ∷ k.Zero
    ∷ k.Text ∷ k.End ∷ k.AnyNumber ∷ k.AnyLocal ∷ k.LongWord ∷ k.LargeNumber ∷ k.Padded ∷ k.Other ∷ []

abbrev pub heads : List Head
heads =
    h.Unit ∷ h.Channels ∷ h.Processes ∷ h.Functions ∷ h.Kinded ∷ h.Voided ∷ h.Threads ∷ h.Starred
    ∷ h.Listed ∷ h.Parameters ∷ h.MoreParameters ∷ h.Locals ∷ h.Statements ∷ h.Else ∷ h.Cases ∷ h.Value
    ∷ h.Returned ∷ h.Arguments ∷ h.MoreArguments ∷ h.Or ∷ h.Ors ∷ h.And ∷ h.Ands ∷ h.Compared
    ∷ h.Compare ∷ h.Sum ∷ h.Sums ∷ h.Product ∷ h.Products ∷ h.Unary ∷ []

abbrev head_number : Head → ℕ
head_number h.Unit = 0
head_number h.Channels = 1
head_number h.Processes = 2
head_number h.Functions = 3
head_number h.Kinded = 4
head_number h.Voided = 5
head_number h.Threads = 6
head_number h.Starred = 7
head_number h.Listed = 8
head_number h.Parameters = 9
head_number h.MoreParameters = 10
head_number h.Locals = 11
head_number h.Statements = 12
head_number h.Else = 13
head_number h.Cases = 14
head_number h.Value = 15
head_number h.Returned = 16
head_number h.Arguments = 17
head_number h.MoreArguments = 18
head_number h.Or = 19
head_number h.Ors = 20
head_number h.And = 21
head_number h.Ands = 22
head_number h.Compared = 23
head_number h.Compare = 24
head_number h.Sum = 25
head_number h.Sums = 26
head_number h.Product = 27
head_number h.Products = 28
head_number h.Unary = 29

-- where a kind stands among them
abbrev pub place : Kind → ℕ
place (k.Fixed one) = number one
place k.Array = 40
place k.Function = 41
place k.Local = 42
place k.Unused = 43
place k.Thread = 44
place k.Primitive = 45
place k.Number = 46
place k.Zero = 47
place k.Text = 48
place k.End = 49
place k.AnyNumber = 50
place k.AnyLocal = 51
place k.LongWord = 52
place k.LargeNumber = 53
place k.Padded = 54
place k.Other = 55

pub kind_at : (kind : Kind) → slice_get kinds (place kind) ≡ Some kind
kind_at (k.Fixed fix.Static) = refl
kind_at _ = refl

head_at : (head : Head) → slice_get heads (head_number head) ≡ Some head
head_at h.Unit = refl
head_at _ = refl

pub kinds_listed : IsListed kinds
kinds_listed = record { number = place; at = kind_at }

pub heads_listed : IsListed heads
heads_listed = record { number = head_number; at = head_at }

all_good : list_all (good table k.End kinds) heads ≡ true
all_good = refl

all_alike : list_all (alike table k.End kinds) kinds ≡ true
all_alike = refl

all_start : list_all (λ kind. fits table start kind false) kinds ≡ true
all_start = refl

pub ll1 : IsLl1 table
ll1 = is_ll1 table k.End kinds heads kinds_listed heads_listed all_good

pub ends : EndsBy table k.End
ends = ends_by table k.End kinds heads kinds_listed heads_listed all_good all_alike

pub start_fits : (kind : Kind) → fits table start kind false ≡ true
start_fits = all_listed kinds_listed (λ kind. fits table start kind false) all_start

pub start_closes : closes_by table k.End start ≡ true
start_closes = refl
