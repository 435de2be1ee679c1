-- The sort of a message says what it asks for: 0 nothing, 1 a bid, 2 an ask.
use Rattle.std.specs.Prelude.{ℕ, cond, Ok, Err, Result, ◌==◌}
use Rattle.orders.specs.declared.message.Sort.{Sort}
use Rattle.orders.specs.declared.message.Sort.TheVariants.{Nothing, Bid, Ask}
use Rattle.orders.specs.declared.refusal.Refusal.{Refusal}
use Rattle.orders.specs.declared.refusal.Refusal.TheVariants.{NoSort}

abbrev pub sort_of : ℕ → Result Sort Refusal
sort_of n = cond (n == 0) (Ok Nothing) (cond (n == 1) (Ok Bid) (cond (n == 2) (Ok Ask) (Err NoSort)))
