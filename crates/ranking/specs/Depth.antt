-- A balanced tree is not deep: with n members and h nodes one below the other at most, (4/3)^h is at most n + 1.
use Rattle.std.specs.Prelude.{◌+◌, ◌*◌, ◌^◌, ◌≤◌}
use Rattle.ranking.specs.Tree.{Tree, size, height}

abbrev pub Shallow : Tree → Type 0
Shallow t = 4 ^ height t ≤ 3 ^ height t * (size t + 1)
