use Rattle.std.proofs.Common.{◌≡◌, ◌+◌, sym, refl, ◌∙◌, arith}
use Rattle.ranking.specs.declared.node.Hand.TheVariants.{Left, Right}
use Rattle.ranking.specs.Balance.{left_of, right_of, passed}
use Rattle.ranking.specs.Keys.{follows}
use Rattle.ranking.specs.Slots.{Stands}
use Rattle.ranking.specs.Tree.{Tree, at}
use Rattle.ranking.proofs.Reps.{slot_rep, small_rep}
use Rattle.ranking.proofs.Walks.{shrink_down, shrink_less}
use Rattle.ranking.proofs.Lookups.{passed_le, passed_none, passed_right, passed_left, look_size}
use Rattle.ranking.proofs.lookup.count_before.Goals as goal

pub bounds-nodes-slot : goal.bounds-nodes-slot
bounds-nodes-slot c =
    let u = c.loop-slot.invariant.2 c.requires.tree c.requires.stands in
    slot_rep c.args.nodes.now c.loop-slot.slot u.0 u.1.rep c.loop-slot-test.true

pub size_of-requires : goal.size_of-requires
size_of-requires c =
    let u = c.loop-slot.invariant.2 c.requires.tree c.requires.stands in
    slot_rep c.args.nodes.now (at c.args.nodes.now c.loop-slot.slot).left (left_of u.0)
    (shrink_down Left u.1 c.loop-slot-test.true refl).rep

-- what is counted then, with what is yet to be
counted : (c : goal.After-size_of) (t : Tree) → Stands c.args.nodes.now c.args.root t
    → (u : Tree) × Stands c.args.nodes.now (at c.args.nodes.now c.loop-slot.slot).right u
    × (c.loop-slot.count + (c.size_of.result + 1)
    + passed (follows c.args.side c.args.nodes.now c.args.limit) u
    ≡ passed (follows c.args.side c.args.nodes.now c.args.limit) t)
counted c t p =
    let q = follows c.args.side c.args.nodes.now c.args.limit in
    let u = c.loop-slot.invariant.2 t p in
    let e = u.2 in
    let b = passed_right u.1 c.loop-slot-test.true q (sym c.if-comes_before.ensures) in
    let n = c.size_of.ensures ∙ look_size u.1 c.loop-slot-test.true in
    (right_of u.0, shrink_down Right u.1 c.loop-slot-test.true refl, omega (arith, e, b, n))

pub overflow_add-count-then-comes_before : goal.overflow_add-count-then-comes_before
overflow_add-count-then-comes_before c =
    let u = counted c c.requires.tree c.requires.stands in
    omega (
      arith,
      u.2,
      c.requires.stands.fits,
      passed_le (follows c.args.side c.args.nodes.now c.args.limit) c.requires.tree,
    )

pub overflow_add-count : goal.overflow_add-count
overflow_add-count c =
    let u = counted c c.requires.tree c.requires.stands in
    omega (
      arith,
      u.2,
      c.requires.stands.fits,
      passed_le (follows c.args.side c.args.nodes.now c.args.limit) c.requires.tree,
    )

pub loop-slot-smaller-then-comes_before : goal.loop-slot-smaller-then-comes_before
loop-slot-smaller-then-comes_before c =
    let u = c.loop-slot.invariant.2 c.requires.tree c.requires.stands in
    shrink_less Right u.1 c.loop-slot-test.true refl

pub loop-slot-preserved-then-comes_before : goal.loop-slot-preserved-then-comes_before
loop-slot-preserved-then-comes_before c =
    let u = counted c c.requires.tree c.requires.stands in (
      small_rep c.args.nodes.now (at c.args.nodes.now c.loop-slot.slot).right u.0 u.1.rep,
      omega (
        arith,
        u.2,
        c.requires.stands.fits,
        passed_le (follows c.args.side c.args.nodes.now c.args.limit) c.requires.tree,
      ),
      counted c,
    )

pub loop-slot-smaller : goal.loop-slot-smaller
loop-slot-smaller c =
    let u = c.loop-slot.invariant.2 c.requires.tree c.requires.stands in
    shrink_less Left u.1 c.loop-slot-test.true refl

pub loop-slot-preserved : goal.loop-slot-preserved
loop-slot-preserved c =
    let u = c.loop-slot.invariant.2 c.requires.tree c.requires.stands in
    let d = shrink_down Left u.1 c.loop-slot-test.true refl in (
      small_rep c.args.nodes.now (at c.args.nodes.now c.loop-slot.slot).left (left_of u.0) d.rep,
      c.loop-slot.invariant.1,
      λ t p.
          let v = c.loop-slot.invariant.2 t p in
          let e = v.2 in
          let b = passed_left v.1 c.loop-slot-test.true
          (follows c.args.side c.args.nodes.now c.args.limit) (sym c.if-comes_before.ensures) in
          (left_of v.0, shrink_down Left v.1 c.loop-slot-test.true refl, omega (arith, e, b)),
    )

pub returns : goal.returns
returns c = λ t p.
    let u = c.loop-slot.invariant.2 t p in
    omega (arith, u.2, passed_none u.1 c.loop-slot-test.false (follows c.args.side c.args.nodes.now c.args.limit))
