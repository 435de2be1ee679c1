use Rattle.std.proofs.Common.{ltb, map, length, count_by, ap, ◌∙◌, arith}
use Rattle.ranking.specs.declared.ranked.Ranked.{Ranked}
use Rattle.ranking_wide.specs.declared.tree.Tree.{Tree}
use Rattle.ranking_wide.specs.Books.{listed, tree}
use Rattle.ranking_wide.specs.Keys.{ranked_of}
use Rattle.ranking_wide.specs.Trees.{keys_of}
use Rattle.std.proofs.lemmas.List.Sums.{count_by-le-length}
use Rattle.ranking.specs.Ranks.{before, own}
use Rattle.ranking_wide.proofs.Ordering.{map_count}
use Rattle.ranking_wide.proofs.Booked.{below_all, few_keys}
use Rattle.ranking.specs.Sides.{of_side}
use Rattle.ranking_wide.proofs.book.methods.BookOrderBook.count_before.Goals as goal

pub count_below-requires : goal.count_below-requires
count_below-requires c = omega (arith, few_keys c.args.self.now c.args.side, ap (λ (t : Tree). length (keys_of t)) c.get.ensures)

pub overflow_cast-result : goal.overflow_cast-result
overflow_cast-result c =
    omega (
      arith,
      c.count_below.ensures,
      count_by-le-length (λ k. ltb k c.of.result.number) (keys_of c.get.result.now),
      few_keys c.args.self.now c.args.side,
      ap (λ (t : Tree). length (keys_of t)) c.get.ensures,
    )

pub returns : goal.returns
unfolding listed tree
returns c =
    c.count_below.ensures ∙ ap (λ (t : Tree). count_by (λ k. ltb k c.of.result.number) (keys_of t)) c.get.ensures
    ∙ map_count c.args.side c.of.result.number (keys_of (of_side c.args.side c.args.self.now.trees)) c.of.result.below (below_all c.args.self.now c.args.side)
    ∙ ap (λ (y : Ranked). count_by (λ x. before c.args.side own x y) (map (ranked_of c.args.side) (keys_of (of_side c.args.side c.args.self.now.trees)))) c.of.ensures.back
