-- Writing into lent bytes: what is written stands at its place, and all else is as it was. A kind is written if there is
-- room for it and each of its numbers fits its field.
use Rattle.std.specs.Prelude.{ℕ, ◌+◌, ◌*◌, Bool, ◌&&◌, List, ◌++◌, length, take, drop, nat_le, nat_lt}
use Rattle.clearing.specs.declared.outcome.Outcome.{Outcome}
use Rattle.clearing.specs.Rule.{trades_in, buyers_pay, sellers_get}

unfoldable pub written_at : ℕ → List ℕ → List ℕ → List ℕ
written_at at bytes old = take at old ++ (bytes ++ drop (at + length bytes) old)

-- whether the numbers of a kind fit their fields, with so many buyers and sellers listed
abbrev pub fits : ℕ → Outcome → ℕ → ℕ → Bool
fits p o buyers sellers =
    nat_lt p 65536 && (nat_lt (trades_in o) 65536 && (nat_lt (buyers_pay o) 4294967296 && (nat_lt (sellers_get o) 4294967296
    && (nat_lt buyers 65536 && nat_lt sellers 65536))))

-- how many bytes a kind takes
abbrev pub kind_length : ℕ → ℕ → ℕ
kind_length buyers sellers = 16 + 6 * buyers + 6 * sellers

-- whether a kind can be written at a place of so many bytes
abbrev pub writable : ℕ → ℕ → ℕ → Outcome → ℕ → ℕ → Bool
writable size at p o buyers sellers = fits p o buyers sellers && nat_le (at + kind_length buyers sellers) size
