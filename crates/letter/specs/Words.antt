-- The number of four bytes that begins at a place, the lowest byte first.
use Rattle.std.specs.Prelude.{ℕ, List}
use Rattle.orders.specs.Words.{word4}

unfoldable pub number_at : List ℕ → ℕ → ℕ
number_at bs i = word4 bs i
