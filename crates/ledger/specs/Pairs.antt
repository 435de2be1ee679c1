-- A rank has a pair where it has a buyer, and a seller who asks at most what the buyer bids.
use Rattle.std.specs.Prelude.{Bool, false, Some, None, Option, nat_le}
use Rattle.ranking.specs.declared.ranked.Ranked.{Ranked}

abbrev pub are_pair : Option Ranked → Option Ranked → Bool
are_pair (Some b) (Some s) = nat_le s.cents.0 b.cents.0
are_pair (Some b) None = false
are_pair None s = false
