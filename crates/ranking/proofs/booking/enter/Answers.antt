use Rattle.std.proofs.Common.{set}
use Rattle.ranking.specs.declared.node.Node.{Node}
use Rattle.ranking.specs.Sound.{side_tree}
use Rattle.ranking.specs.Tree.{at}
use Rattle.ranking.proofs.Bookings.{enter_parts, enter_booked, priced_fresh}
use Rattle.ranking.proofs.booking.enter.Goals as goal

pub insert-root-requires : goal.insert-root-requires
insert-root-requires c =
    let v : Node = record (at c.args.nodes.now c.args.new.member) { cents = c.args.new.cents } in
    record {
      tree = side_tree c.args.side (set c.args.nodes.now c.args.new.member v) c.args.roots;
      parts = enter_parts (priced_fresh c.requires v c.requires.free) c.args.side c.of.ensures;
    }

pub returns : goal.returns
returns c =
    let v : Node = record (at c.args.nodes.now c.args.new.member) { cents = c.args.new.cents } in
    let w = set c.args.nodes.now c.args.new.member v in
    enter_booked c.requires v c.requires.free c.args.side c.insert-root.auto.nodes
    (c.insert-root.ensures (side_tree c.args.side w c.args.roots)
    (enter_parts (priced_fresh c.requires v c.requires.free) c.args.side c.of.ensures))
    c.with.ensures
