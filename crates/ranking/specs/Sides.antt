-- The two sides of a kind, and a value for each of them.
use Rattle.ranking.specs.declared.ranked.Side.{Side}
use Rattle.ranking.specs.declared.ranked.Side.TheVariants.{Buyers, Sellers}
use Rattle.ranking.specs.declared.sides.Sides.{Sides}

abbrev pub opposite : Side → Side
opposite Buyers = Sellers
opposite Sellers = Buyers

abbrev pub of_side : {T : Type 0} → Side → Sides T → T
of_side Buyers p = p.buyers
of_side Sellers p = p.sellers

-- the same values but for one side's
abbrev pub with_side : {T : Type 0} → Side → T → Sides T → Sides T
with_side Buyers x p = record { buyers = x; sellers = p.sellers }
with_side Sellers x p = record { buyers = p.buyers; sellers = x }
