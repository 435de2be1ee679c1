use Rattle.std.proofs.Common.{◌≡◌, ◌^◌, true, false, leb, List, length, sym, ap, subst, rules, arith}
use Rattle.std.specs.List.Sorted.{IsPartitionPoint}
use Rattle.std.proofs.lemmas.List.Sorted.{IsPartitionPoint-from_clause}
use Rattle.ranking_wide.specs.declared.leaf.Leaf.{Leaf}
use Rattle.ranking_wide.specs.Leaves.{Spans}
use Rattle.ranking_wide.specs.Trees.{leaves_of}
use Rattle.ranking_wide.proofs.Counting.{found_by, lows_parted, some_low}
use Rattle.ranking_wide.proofs.Sounds.{grown_from}
use Rattle.ranking_wide.proofs.tree.Tree.leaf_of.Goals as goal
use Rattle.ranking_wide.proofs.tree.Tree.leaf_of.Goals.{After-partition_point}

parted : (c : After-partition_point) → IsPartitionPoint (λ (l : Leaf). leb l.low c.args.key.number ≡ true) (λ (l : Leaf). leb l.low c.args.key.number ≡ false)
    (leaves_of c.args.self.now) c.partition_point.result
parted c =
    let e = c.deref.ensures.value in
    subst (λ (ls : List Leaf). IsPartitionPoint (λ (l : Leaf). leb l.low c.args.key.number ≡ true) (λ (l : Leaf). leb l.low c.args.key.number ≡ false) ls c.partition_point.result) e
    (IsPartitionPoint-from_clause (λ (l : Leaf). leb l.low c.args.key.number) c.deref.result.now c.partition_point.result
    c.partition_point.ensures.partitioned
    (lows_parted c.deref.result.now (2 ^ 48) c.args.key.number (subst (λ (ls : List Leaf). Spans ls (2 ^ 48)) (sym e) (grown_from c.args.self.now.grown).spans))
    (λ a r f q. search rules))

pub overflow_sub-result : goal.overflow_sub-result
overflow_sub-result c =
    some_low (leaves_of c.args.self.now) c.args.key.number (2 ^ 48) c.partition_point.result (grown_from c.args.self.now.grown).root c.args.key.below
    (omega (arith, c.partition_point.ensures.bound, ap length c.deref.ensures.value)) (parted c)

pub returns : goal.returns
returns c =
    found_by (leaves_of c.args.self.now) c.args.key.number (2 ^ 48) c.partition_point.result (grown_from c.args.self.now.grown).root c.args.key.below
    (omega (arith, c.partition_point.ensures.bound, ap length c.deref.ensures.value)) (parted c)
