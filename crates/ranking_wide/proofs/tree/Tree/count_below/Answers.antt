use Rattle.std.proofs.Common.{◌≡◌, ◌+◌, ◌^◌, ltb, length, take, count_by, ap, ◌∙◌, arith}
use Rattle.std.proofs.lemmas.List.Sums.{count_by-le-length}
use Rattle.ranking_wide.specs.Leaves.{laid}
use Rattle.ranking_wide.specs.Trees.{leaves_of, keys_of}
use Rattle.ranking_wide.proofs.Counting.{count_front, count_sum, sum_laid}
use Rattle.ranking_wide.proofs.Sounds.{grown_from}
use Rattle.ranking_wide.proofs.tree.Tree.count_below.Goals as goal
use Rattle.ranking_wide.proofs.tree.Tree.count_below.Goals.{After-count_below}

pub count-requires : goal.count-requires
count-requires c =
    let at = c.leaf_of-at.result in
    omega (
      arith,
      sum_laid (take at c.deref.result.now),
      ap (λ ls. length (laid (take at ls))) c.deref.ensures.value,
      count_front (leaves_of c.args.self.now) at,
      c.requires,
    )

sum : (c : After-count_below)
    → c.count.result + c.count_below.result ≡ count_by (λ k. ltb k c.args.key.number) (keys_of c.args.self.now)
sum c =
    let at = c.leaf_of-at.result in
    ap (λ n. n + c.count_below.result)
    (c.count.ensures ∙ sum_laid (take at c.deref.result.now) ∙ ap (λ ls. length (laid (take at ls))) c.deref.ensures.value)
    ∙ ap (λ n. length (laid (take at (leaves_of c.args.self.now))) + n) c.count_below.ensures
    ∙ count_sum (leaves_of c.args.self.now) at c.leaf_of-at.ensures.inside c.index.result.now c.index.ensures (2 ^ 48)
    (grown_from c.args.self.now.grown).spans c.args.key.number c.leaf_of-at.ensures

pub overflow_add-result : goal.overflow_add-result
overflow_add-result c =
    omega (arith, sum c, count_by-le-length (λ k. ltb k c.args.key.number) (keys_of c.args.self.now), c.requires)

pub returns : goal.returns
returns c = sum c
