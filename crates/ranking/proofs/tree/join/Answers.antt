use Rattle.std.proofs.Common.{◌+◌, set, ap, arith}
use Rattle.ranking.proofs.Reps.{size_rep, slot_rep, join_became}
use Rattle.ranking.proofs.tree.join.Goals as goal

pub size_of-requires : goal.size_of-requires
size_of-requires c = slot_rep c.args.nodes.now c.args.near c.requires.left c.requires.parts.first

pub size_of-requires-2 : goal.size_of-requires-2
size_of-requires-2 c = slot_rep c.args.nodes.now c.args.far c.requires.right c.requires.parts.second

pub overflow_add-count : goal.overflow_add-count
overflow_add-count c =
    omega (
      arith,
      size_rep c.args.nodes.now c.args.near c.requires.left c.requires.parts.first,
      size_rep c.args.nodes.now c.args.far c.requires.right c.requires.parts.second,
      c.requires.parts.fits,
    )

pub overflow_add-count-2 : goal.overflow_add-count-2
overflow_add-count-2 c =
    omega (
      arith,
      size_rep c.args.nodes.now c.args.near c.requires.left c.requires.parts.first,
      size_rep c.args.nodes.now c.args.far c.requires.right c.requires.parts.second,
      c.requires.parts.fits,
    )

pub returns : goal.returns
returns c =
    λ t u p. join_became c.args.hand c.args.nodes.now
    (set c.args.nodes.now c.args.root c.over.result)
    c.args.root c.args.near c.args.far (c.size_of.result + c.size_of-2.result + 1) t u
    (ap (λ n. set c.args.nodes.now c.args.root n) c.over.ensures)
    (omega (arith, c.size_of.ensures, c.size_of-2.ensures)) p
