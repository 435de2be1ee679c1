use Rattle.std.proofs.Common.{arith}
use Rattle.ranking.specs.Balance.{inner_of, outer_of}
use Rattle.ranking.proofs.Reps.{slot_rep, some_rep}
use Rattle.ranking.proofs.Lifts
use Rattle.ranking.proofs.Lifts.{held}
use Rattle.ranking.proofs.tree.lift.Goals as goal

pub slice_copy_out-top : goal.slice_copy_out-top
slice_copy_out-top c =
    slot_rep c.args.nodes.now c.args.far c.requires.trees.right c.requires.trees.parts.second c.requires.some

pub weight-requires : goal.weight-requires
weight-requires c =
    slot_rep c.args.nodes.now c.inner-inner.result _
    (Lifts.lift_inner c.args.hand c.requires.trees.parts c.requires.some c.inner-inner.ensures c.outer-outer.ensures)

pub weight-requires-2 : goal.weight-requires-2
weight-requires-2 c =
    slot_rep c.args.nodes.now c.outer-outer.result _
    (Lifts.lift_outer c.args.hand c.requires.trees.parts c.requires.some c.inner-inner.ensures c.outer-outer.ensures)

pub lift_inner-requires : goal.lift_inner-requires
lift_inner-requires c =
    let q = Lifts.lift_test c.args.hand c.requires.trees.parts c.requires.some c.inner-inner.ensures
    c.outer-outer.ensures c.weight.ensures.value c.weight-2.ensures.value in
    record {
      trees = record {
        left = c.requires.trees.left;
        middle = inner_of c.args.hand c.requires.trees.right;
        right = outer_of c.args.hand c.requires.trees.right;
        trio = Lifts.lift_trio c.args.hand c.requires.trees.parts c.requires.some c.inner-inner.ensures
            c.outer-outer.ensures;
      };
      some = some_rep c.args.nodes.now c.inner-inner.result (inner_of c.args.hand c.requires.trees.right)
          (Lifts.lift_inner c.args.hand c.requires.trees.parts c.requires.some c.inner-inner.ensures
          c.outer-outer.ensures) (omega (arith, c.if-weight.true));
    }

pub returns-then-weight : goal.returns-then-weight
returns-then-weight c =
    λ t u p. Lifts.lift_double c.args.hand p c.requires.some c.inner-inner.ensures c.outer-outer.ensures
    c.weight.ensures.value c.weight-2.ensures.value (omega arith)
    (c.lift_inner.ensures t (inner_of c.args.hand u) (outer_of c.args.hand u)
    (Lifts.lift_trio c.args.hand p c.requires.some c.inner-inner.ensures c.outer-outer.ensures))

pub join-requires : goal.join-requires
join-requires c =
    held (Lifts.lift_first c.args.hand c.requires.trees.parts c.requires.some c.inner-inner.ensures c.outer-outer.ensures)

pub join-requires-2 : goal.join-requires-2
join-requires-2 c =
    held (Lifts.lift_second c.args.hand c.requires.trees.parts c.requires.some c.inner-inner.ensures c.outer-outer.ensures
    c.join.auto.nodes c.join.ensures)

pub returns : goal.returns
returns c =
    λ t u p. Lifts.lift_last c.args.hand p c.requires.some c.inner-inner.ensures c.outer-outer.ensures
    c.join.auto.nodes c.join.ensures c.weight.ensures.value c.weight-2.ensures.value (omega arith)
    c.join-2.ensures
