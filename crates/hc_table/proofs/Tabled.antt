-- The table keeps its laws: each is computed.
use Rattle.std.proofs.Common.{◌≡◌, refl, ℕ, true, false, List, [], ◌∷◌, Some}
use Rattle.std.specs.List.{slice_get, list_all}
use Rattle.hc_grammar.specs.Ll1.{fits, IsLl1}
use Rattle.hc_grammar.specs.Ends.{closes_by, EndsBy}
use Rattle.hc_grammar.proofs.Tables.{IsListed, all_listed, good, alike, is_ll1, ends_by}
use Rattle.hc_token.specs.declared.kind.Kind.{Kind}
use Rattle.hc_token.specs.declared.fixed.Fixed.TheVariants as fix
use Rattle.hc_token.specs.declared.kind.Kind.TheVariants as k
use Rattle.hc_table.specs.declared.head.Head.{Head}
use Rattle.hc_table.specs.declared.head.Head.TheVariants as h
use Rattle.hc_table.specs.Table.{number, table, start}

-- all kinds, and all phrases
abbrev pub kinds : List Kind
kinds =
    (k.Fixed fix.Module) ∷ (k.Fixed fix.EndModule) ∷ (k.Fixed fix.Begin) ∷ (k.Fixed fix.EndBody) ∷ (k.Fixed fix.System) ∷ (k.Fixed fix.EndSystem) ∷ (k.Fixed fix.Ch) ∷ (k.Fixed fix.Val)
    ∷ (k.Fixed fix.Skip) ∷ (k.Fixed fix.Wait) ∷ (k.Fixed fix.Log) ∷ (k.Fixed fix.If) ∷ (k.Fixed fix.Then) ∷ (k.Fixed fix.Else) ∷ (k.Fixed fix.EndIf) ∷ (k.Fixed fix.True)
    ∷ (k.Fixed fix.False) ∷ (k.Fixed fix.Arrow) ∷ (k.Fixed fix.ColonEqual) ∷ (k.Fixed fix.BarBar) ∷ (k.Fixed fix.BarGreater) ∷ (k.Fixed fix.PlusPlus) ∷ (k.Fixed fix.StarStar) ∷ (k.Fixed fix.EmptySquare)
    ∷ (k.Fixed fix.AndAnd) ∷ (k.Fixed fix.LessEqual) ∷ (k.Fixed fix.GreaterEqual) ∷ (k.Fixed fix.EqualEqual) ∷ (k.Fixed fix.NotEqual) ∷ (k.Fixed fix.OpenRound) ∷ (k.Fixed fix.CloseRound) ∷ (k.Fixed fix.OpenCurly)
    ∷ (k.Fixed fix.CloseCurly) ∷ (k.Fixed fix.OpenSquare) ∷ (k.Fixed fix.CloseSquare) ∷ (k.Fixed fix.Less) ∷ (k.Fixed fix.Greater) ∷ (k.Fixed fix.Comma) ∷ (k.Fixed fix.Semicolon) ∷ (k.Fixed fix.Colon)
    ∷ (k.Fixed fix.Equal) ∷ (k.Fixed fix.And) ∷ (k.Fixed fix.Exclamation) ∷ (k.Fixed fix.Question) ∷ (k.Fixed fix.Plus) ∷ (k.Fixed fix.Minus) ∷ (k.Fixed fix.Star) ∷ (k.Fixed fix.Slash)
    ∷ k.Name ∷ k.Rate ∷ k.Number ∷ k.End ∷ k.LongWord ∷ k.LargeNumber ∷ k.Other ∷ []

abbrev pub heads : List Head
heads =
    h.Source ∷ h.Params ∷ h.MoreParams ∷ h.Param ∷ h.Process ∷ h.ProcessBody ∷ h.Processes ∷ h.Arguments
    ∷ h.MoreArguments ∷ h.Seq ∷ h.Stmt ∷ h.Named ∷ h.Else ∷ h.After ∷ h.Branch ∷ h.Meet
    ∷ h.Branches ∷ h.Rate ∷ h.Rates ∷ h.Interrupt ∷ h.More ∷ h.Expr ∷ h.Sums ∷ h.Term
    ∷ h.Products ∷ h.Factor ∷ h.Cond ∷ h.Ors ∷ h.Both ∷ h.Ands ∷ h.One ∷ h.Compare ∷ []

abbrev head_number : Head → ℕ
head_number h.Source = 0
head_number h.Params = 1
head_number h.MoreParams = 2
head_number h.Param = 3
head_number h.Process = 4
head_number h.ProcessBody = 5
head_number h.Processes = 6
head_number h.Arguments = 7
head_number h.MoreArguments = 8
head_number h.Seq = 9
head_number h.Stmt = 10
head_number h.Named = 11
head_number h.Else = 12
head_number h.After = 13
head_number h.Branch = 14
head_number h.Meet = 15
head_number h.Branches = 16
head_number h.Rate = 17
head_number h.Rates = 18
head_number h.Interrupt = 19
head_number h.More = 20
head_number h.Expr = 21
head_number h.Sums = 22
head_number h.Term = 23
head_number h.Products = 24
head_number h.Factor = 25
head_number h.Cond = 26
head_number h.Ors = 27
head_number h.Both = 28
head_number h.Ands = 29
head_number h.One = 30
head_number h.Compare = 31

-- where a kind stands among them
abbrev pub place : Kind → ℕ
place (k.Fixed one) = number one
place k.Name = 48
place k.Rate = 49
place k.Number = 50
place k.End = 51
place k.LongWord = 52
place k.LargeNumber = 53
place k.Other = 54

pub kind_at : (kind : Kind) → slice_get kinds (place kind) ≡ Some kind
kind_at (k.Fixed fix.Module) = refl
kind_at _ = refl

head_at : (head : Head) → slice_get heads (head_number head) ≡ Some head
head_at h.Source = refl
head_at _ = refl

pub kinds_listed : IsListed kinds
kinds_listed = record { number = place; at = kind_at }

pub heads_listed : IsListed heads
heads_listed = record { number = head_number; at = head_at }

all_good : list_all (good table k.End kinds) heads ≡ true
all_good = refl

all_alike : list_all (alike table k.End kinds) kinds ≡ true
all_alike = refl

all_start : list_all (λ kind. fits table start kind false) kinds ≡ true
all_start = refl

pub ll1 : IsLl1 table
ll1 = is_ll1 table k.End kinds heads kinds_listed heads_listed all_good

pub ends : EndsBy table k.End
ends = ends_by table k.End kinds heads kinds_listed heads_listed all_good all_alike

pub start_fits : (kind : Kind) → fits table start kind false ≡ true
start_fits = all_listed kinds_listed (λ kind. fits table start kind false) all_start

pub start_closes : closes_by table k.End start ≡ true
start_closes = refl
