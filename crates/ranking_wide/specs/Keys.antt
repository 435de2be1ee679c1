-- A member with its number as one number, so that of two members of a side the one with the lower key comes first: the
-- cents, counted from the best, times 65536, and the member.
use Rattle.std.specs.Prelude.{ℕ, ◌+◌, ◌-◌, ◌*◌, ◌/◌, ◌%◌}
use Rattle.ranking.specs.declared.ranked.Side.{Side}
use Rattle.ranking.specs.declared.ranked.Side.TheVariants.{Buyers, Sellers}
use Rattle.ranking.specs.declared.ranked.Ranked.{Ranked}

abbrev pub worth : Side → ℕ → ℕ
worth Buyers c = 4294967295 - c
worth Sellers c = c

abbrev pub key_of : Side → Ranked → ℕ
key_of s x = worth s x.cents.0 * 65536 + x.member

abbrev pub ranked_of : Side → ℕ → Ranked
ranked_of s k = record { member = k % 65536; cents = record { 0 = worth s (k / 65536) } }
