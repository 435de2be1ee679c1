use Rattle.std.proofs.Common.{◌+◌, ◌-◌, sym, refl, ap, ◌∙◌, arith}
use Rattle.ranking.specs.declared.node.Hand.TheVariants.{Left, Right}
use Rattle.ranking.specs.Balance.{left_of, right_of, picked}
use Rattle.ranking.specs.Tree.{at}
use Rattle.ranking.proofs.Reps.{slot_rep, small_rep}
use Rattle.ranking.proofs.Walks.{shrink_down, shrink_less}
use Rattle.ranking.proofs.Lookups.{picked_none, picked_left, picked_here, picked_right, look_size}
use Rattle.ranking.proofs.lookup.member_at.Goals as goal

pub bounds-nodes-slot : goal.bounds-nodes-slot
bounds-nodes-slot c =
    let u = c.loop-slot.invariant.2 c.requires.tree c.requires.stands in
    slot_rep c.args.nodes.now c.loop-slot.slot u.0 u.1.rep c.loop-slot-test.true

pub size_of-before-requires : goal.size_of-before-requires
size_of-before-requires c =
    let u = c.loop-slot.invariant.2 c.requires.tree c.requires.stands in
    slot_rep c.args.nodes.now (at c.args.nodes.now c.loop-slot.slot).left (left_of u.0)
    (shrink_down Left u.1 c.loop-slot-test.true refl).rep

pub loop-slot-smaller-then-left-before : goal.loop-slot-smaller-then-left-before
loop-slot-smaller-then-left-before c =
    let u = c.loop-slot.invariant.2 c.requires.tree c.requires.stands in
    shrink_less Left u.1 c.loop-slot-test.true refl

pub loop-slot-preserved-then-left-before : goal.loop-slot-preserved-then-left-before
loop-slot-preserved-then-left-before c =
    let u = c.loop-slot.invariant.2 c.requires.tree c.requires.stands in
    let d = shrink_down Left u.1 c.loop-slot-test.true refl in (
      small_rep c.args.nodes.now (at c.args.nodes.now c.loop-slot.slot).left (left_of u.0) d.rep,
      c.loop-slot.invariant.1,
      λ t p.
          let v = c.loop-slot.invariant.2 t p in
          let n = c.size_of-before.ensures ∙ look_size v.1 c.loop-slot-test.true in (
            left_of v.0,
            shrink_down Left v.1 c.loop-slot-test.true refl,
            sym (picked_left v.1 c.loop-slot-test.true c.loop-slot.left (omega (arith, n))) ∙ v.2,
          ),
    )

pub returns-then-left-before-2 : goal.returns-then-left-before-2
returns-then-left-before-2 c = λ t p.
    let v = c.loop-slot.invariant.2 t p in
    let n = c.size_of-before.ensures ∙ look_size v.1 c.loop-slot-test.true in
    sym (picked_here v.1 c.loop-slot-test.true c.loop-slot.left (omega (arith, n))) ∙ v.2

pub loop-slot-smaller : goal.loop-slot-smaller
loop-slot-smaller c =
    let u = c.loop-slot.invariant.2 c.requires.tree c.requires.stands in
    shrink_less Right u.1 c.loop-slot-test.true refl

pub loop-slot-preserved : goal.loop-slot-preserved
loop-slot-preserved c =
    let u = c.loop-slot.invariant.2 c.requires.tree c.requires.stands in
    let d = shrink_down Right u.1 c.loop-slot-test.true refl in (
      small_rep c.args.nodes.now (at c.args.nodes.now c.loop-slot.slot).right (right_of u.0) d.rep,
      omega (arith, c.loop-slot.invariant.1),
      λ t p.
          let v = c.loop-slot.invariant.2 t p in
          let n = c.size_of-before.ensures ∙ look_size v.1 c.loop-slot-test.true in (
            right_of v.0,
            shrink_down Right v.1 c.loop-slot-test.true refl,
            ap (λ k. picked (c.loop-slot.left - (k + 1)) (right_of v.0)) n
                ∙ sym (picked_right v.1 c.loop-slot-test.true c.loop-slot.left (omega (arith, n))) ∙ v.2,
          ),
    )

pub returns : goal.returns
returns c = λ t p.
    let v = c.loop-slot.invariant.2 t p in
    sym (picked_none v.1 c.loop-slot-test.false c.loop-slot.left) ∙ v.2
