-- What a pair by side ends as, where a `&mut` to one side's value is returned.
use Rattle.std.specs.Borrow.{Fml, Lends, MutBor, RattleType}
use Rattle.ranking.specs.contracts.sides.Sides.{the_row}
use Rattle.ranking.specs.declared.ranked.Side.{Side}
use Rattle.ranking.specs.declared.sides.Sides.{Sides}
use Rattle.ranking.specs.Sides.{with_side}

-- once the borrow r ends, the side has the last value written through r
abbrev pub lends_side : (T : RattleType) → MutBor (Sides T.Denot) → Side → MutBor T.Denot → Fml
lends_side T p side r = Lends (the_row T) T p r (λ w. with_side side w p.now)
