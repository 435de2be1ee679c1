-- The sheet that the union publishes. For each kind, in order, it has eight fields: the pairs (2 bytes), the trades (2), what
-- buyers pay and what sellers get, in half cents (4, 4; 0 where nothing trades), how many buyers are listed (2), each of them
-- from rank 0 by its number (2) and its bid in cents (4), and the same of the sellers. Listed are the first ranks of each
-- side, one past the pairs, as far as there are so many.
use Rattle.std.specs.Prelude.{ℕ, zero, suc, List, [], ◌∷◌, ◌++◌, length, take}
use Rattle.std.specs.List.{flat_map}
use Rattle.orders.specs.declared.entry.Entry.{Entry}
use Rattle.orders.specs.declared.refusal.Field.{Field}
use Rattle.orders.specs.declared.refusal.Field.TheVariants.{Pairs, Trades, BuyersPrice, SellersPrice, BuyersCount, BuyersRow, SellersCount, SellersRow}
use Rattle.orders.specs.Entries.{kind_row}
use Rattle.ranking.specs.declared.ranked.Side.{Side}
use Rattle.ranking.specs.declared.ranked.Side.TheVariants.{Buyers, Sellers}
use Rattle.ranking.specs.declared.ranked.Ranked.{Ranked}
use Rattle.ranking.specs.Ranks.{own, ranked}
use Rattle.clearing.specs.declared.outcome.Outcome.{Outcome}
use Rattle.clearing.specs.Rule.{trades_in, buyers_pay, sellers_get}
use Rattle.clearing.specs.Kind.{pairs_in, outcome}
use Rattle.sheet.specs.Words.{bytes2, bytes4}

abbrev pub listed_bytes : Ranked → List ℕ
listed_bytes x = bytes2 x.member ++ bytes4 x.cents.0

abbrev pub row_bytes : List Ranked → List ℕ
row_bytes xs = flat_map listed_bytes xs

-- a field of a kind, with its bytes
pub record Printed : Type 0 where
  pub field : Field
  pub bytes : List ℕ

abbrev pub printed : List Printed → List ℕ
printed fields = flat_map (λ f. f.bytes) fields

-- the fields of a kind, from its pairs, its outcome, and the buyers and the sellers that are listed
abbrev pub kind_fields : ℕ → Outcome → List Ranked → List Ranked → List Printed
kind_fields p o buyers sellers =
    record { field = Pairs; bytes = bytes2 p }
    ∷ record { field = Trades; bytes = bytes2 (trades_in o) }
    ∷ record { field = BuyersPrice; bytes = bytes4 (buyers_pay o) }
    ∷ record { field = SellersPrice; bytes = bytes4 (sellers_get o) }
    ∷ record { field = BuyersCount; bytes = bytes2 (length buyers) }
    ∷ record { field = BuyersRow; bytes = row_bytes buyers }
    ∷ record { field = SellersCount; bytes = bytes2 (length sellers) }
    ∷ record { field = SellersRow; bytes = row_bytes sellers }
    ∷ []

unfoldable pub kind_sheet : ℕ → Outcome → List Ranked → List Ranked → List ℕ
kind_sheet p o buyers sellers = printed (kind_fields p o buyers sellers)

-- of a row of entries: listed are the first ranks of each side, one past the pairs
abbrev pub first_ranks : Side → List Entry → List Ranked
first_ranks s row = take (suc (pairs_in own row)) (ranked s own row)

abbrev pub row_fields : List Entry → List Printed
row_fields row = kind_fields (pairs_in own row) (outcome own row) (first_ranks Buyers row) (first_ranks Sellers row)

abbrev pub sheet_of_kind : List Entry → List ℕ
sheet_of_kind row = kind_sheet (pairs_in own row) (outcome own row) (first_ranks Buyers row) (first_ranks Sellers row)

-- of n kinds from kind k on, of M members each, by the codes of their entries
unfoldable pub sheet_from : ℕ → List ℕ → ℕ → ℕ → List ℕ
sheet_from M codes zero k = []
sheet_from M codes (suc n) k = sheet_of_kind (kind_row M codes k) ++ sheet_from M codes n (suc k)

-- THE SHEET of K kinds of M members
abbrev pub sheet_of : ℕ → ℕ → List ℕ → List ℕ
sheet_of K M codes = sheet_from M codes K 0
