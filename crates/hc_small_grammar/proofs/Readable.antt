-- The small language can be read token by token: each law is computed.
use Rattle.std.proofs.Common.{◌≡◌, refl, ℕ, true, false, List, [], ◌∷◌, Some}
use Rattle.std.specs.List.{slice_get, list_all}
use Rattle.hc_grammar.specs.declared.symbol.Symbol.TheVariants as want
use Rattle.hc_grammar.specs.Texts.{Text}
use Rattle.hc_grammar.specs.Derives.{Derives, takes, skips}
use Rattle.hc_grammar.specs.Ll1.{fits}
use Rattle.hc_grammar.specs.Language.{IsReadable}
use Rattle.hc_grammar.proofs.Tables.{IsListed, all_listed, good, alike, is_ll1, ends_by}
use Rattle.hc_small_grammar.specs.declared.letters.Kind.{Kind}
use Rattle.hc_small_grammar.specs.declared.letters.Kind.TheVariants as k
use Rattle.hc_small_grammar.specs.declared.letters.Role.{Role}
use Rattle.hc_small_grammar.specs.declared.letters.Mark.{Mark}
use Rattle.hc_small_grammar.specs.declared.letters.Head.{Head}
use Rattle.hc_small_grammar.specs.declared.letters.Head.TheVariants as h
use Rattle.hc_small_grammar.specs.declared.letters.Token as tok
use Rattle.hc_small_grammar.specs.Table.{Rule, number, same, table, start}
use Rattle.hc_small_grammar.specs.Language.{language}

abbrev kinds : List Kind
kinds =
    k.Let ∷ k.Use ∷ k.Drop ∷ k.Name ∷ k.It ∷ k.AnyName ∷ k.OpenRound ∷ k.CloseRound ∷ k.Semicolon ∷ k.Equal ∷ k.LongWord ∷ k.End ∷ k.Other ∷ []

abbrev heads : List Head
heads = h.Lines ∷ h.First ∷ h.Value ∷ []

kind_at : (kind : Kind) → slice_get kinds (number kind) ≡ Some kind
kind_at k.Let = refl
kind_at _ = refl

kinds_listed : IsListed kinds
kinds_listed = record { number = number; at = kind_at }

abbrev head_number : Head → ℕ
head_number h.Lines = 0
head_number h.First = 1
head_number h.Value = 2

head_at : (head : Head) → slice_get heads (head_number head) ≡ Some head
head_at h.Lines = refl
head_at h.First = refl
head_at h.Value = refl

heads_listed : IsListed heads
heads_listed = record { number = head_number; at = head_at }

all_good : list_all (good table k.End kinds) heads ≡ true
all_good = refl

all_alike : list_all (alike table k.End kinds) kinds ≡ true
all_alike = refl

all_start : list_all (λ kind. fits table start kind false) kinds ≡ true
all_start = refl

-- a token of a kind
abbrev a : Kind → tok.Token
a kind = record { place = record { line = 1; column = 1 }; kind = kind; name = 0 }

a_token : (kind : Kind) → (t : tok.Token) × (same kind t.kind ≡ true)
a_token k.AnyName = (a k.Name, refl)
a_token k.Let = (a k.Let, refl)
a_token kind = (a kind, refl)

a_phrase : (x : Head) (ss : List Rule) (w : Text tok.Token Role Mark) → Derives table (λ (t : tok.Token). t.kind) ss w
    → (v : Text tok.Token Role Mark) × Derives table (λ (t : tok.Token). t.kind) (want.Head x ∷ ss) v
a_phrase h.Lines ss w d = (w, skips refl d)
a_phrase h.First ss w d = (_, skips refl d)
a_phrase h.Value ss w d = (_, takes {t = a k.Name} refl d)

pub readable : IsReadable language
readable = record {
  ll1 = is_ll1 table k.End kinds heads kinds_listed heads_listed all_good;
  examples = record { a_token = a_token; a_phrase = a_phrase };
  start_fits = all_listed kinds_listed (λ kind. fits table start kind false) all_start;
  ends = ends_by table k.End kinds heads kinds_listed heads_listed all_good all_alike;
  start_closes = refl;
  calm = λ b t s. refl;
}
