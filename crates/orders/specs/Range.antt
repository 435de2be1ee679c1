-- A bid or an ask is 1 to 10,000,000 cents.
use Rattle.std.specs.Prelude.{ℕ, Bool, ◌&&◌, nat_le}

abbrev pub in_range : ℕ → Bool
in_range c = nat_le 1 c && nat_le c 10000000
