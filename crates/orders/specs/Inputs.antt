-- The bytes of an evening: kinds (1), members (2), the fund (8), accounts in cents (4 for each member), berths (1 for each
-- member and kind), and then messages to the end. Where the bytes end early, kinds and members are read as 0 and the fund
-- as the largest number, which are all out of range; of accounts and berths those that are there are read.
use Rattle.std.specs.Prelude.{ℕ, zero, suc, ◌*◌, cond, List, [], ◌∷◌, ◌++◌, length, take, drop, nat_le}
use Rattle.orders.specs.Words.{byte_at, word2, word4, word8}

abbrev pub kinds_in : List ℕ → ℕ
kinds_in bs = byte_at bs 0

abbrev pub members_in : List ℕ → ℕ
members_in bs = cond (nat_le 3 (length bs)) (word2 bs 1) 0

abbrev pub fund_in : List ℕ → ℕ
fund_in bs = cond (nat_le 11 (length bs)) (word8 bs 3) 18446744073709551615

abbrev pub accounts_in : List ℕ → List ℕ
accounts_in bs = take (4 * members_in bs) (drop 11 bs)

abbrev pub past_accounts : List ℕ → List ℕ
past_accounts bs = drop (4 * members_in bs) (drop 11 bs)

abbrev pub berths_in : List ℕ → List ℕ
berths_in bs = take (kinds_in bs * members_in bs) (past_accounts bs)

abbrev pub messages_in : List ℕ → List ℕ
messages_in bs = drop (kinds_in bs * members_in bs) (past_accounts bs)

-- the first n of the accounts in bytes, in half cents
abbrev pub half_cents : List ℕ → ℕ → List ℕ
half_cents bs zero = []
half_cents bs (suc n) = half_cents bs n ++ 2 * word4 bs (4 * n) ∷ []
