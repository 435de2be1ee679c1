-- A kind's part of a sheet, read again from any bytes: twelve bytes of numbers, then the buyers and the sellers, each side's
-- members after their count. Bytes that end too early have no such part.
use Rattle.std.specs.Prelude.{ℕ, ◌+◌, ◌*◌, ◌/◌, Bool, cond, ◌&&◌, List, length, take, drop, Some, None, Option, nat_le, nat_lt}
use Rattle.orders.specs.Words.{word2, word4}
use Rattle.ranking.specs.declared.ranked.Ranked.{Ranked}

-- of bytes that begin with a count of members: whether they are all there, their bytes, and what comes after
abbrev pub has_row : List ℕ → Bool
has_row bs = nat_le (2 + 6 * word2 bs 0) (length bs)

abbrev pub row_in : List ℕ → List ℕ
row_in bs = take (6 * word2 bs 0) (drop 2 bs)

abbrev pub past_row : List ℕ → List ℕ
past_row bs = drop (6 * word2 bs 0) (drop 2 bs)

-- of bytes that begin with a kind: whether it is all there, its buyers and its sellers in bytes, and what comes after
abbrev pub has_kind : List ℕ → Bool
has_kind bs = nat_le 12 (length bs) && (has_row (drop 12 bs) && has_row (past_row (drop 12 bs)))

abbrev pub buyers_in : List ℕ → List ℕ
buyers_in bs = row_in (drop 12 bs)

abbrev pub sellers_in : List ℕ → List ℕ
sellers_in bs = row_in (past_row (drop 12 bs))

abbrev pub past_kind : List ℕ → List ℕ
past_kind bs = past_row (past_row (drop 12 bs))

-- how many members a row in bytes lists, and the member of a rank in it
abbrev pub how_many_listed : List ℕ → ℕ
how_many_listed row = length row / 6

abbrev pub listed_at : List ℕ → ℕ → Ranked
listed_at row rank = record { member = word2 row (6 * rank); cents = record { 0 = word4 row (6 * rank + 2) } }

abbrev pub listed : List ℕ → ℕ → Option Ranked
listed row rank = cond (nat_lt rank (how_many_listed row)) (Some (listed_at row rank)) None
