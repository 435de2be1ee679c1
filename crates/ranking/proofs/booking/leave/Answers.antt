use Rattle.std.proofs.Common.{refl, ◌∙◌}
use Rattle.ranking.specs.Sound.{side_tree}
use Rattle.ranking.proofs.Bookings.{stands_at, leave_none, leave_one}
use Rattle.ranking.proofs.Reps.{slot_rep, size_rep}
use Rattle.ranking.proofs.booking.leave.Goals as goal

pub size_of-before-requires : goal.size_of-before-requires
size_of-before-requires c =
    slot_rep c.args.nodes.now c.of-root.result _
    (stands_at c.requires.sound c.args.side refl c.of-root.ensures).rep

pub remove-rest-requires : goal.remove-rest-requires
remove-rest-requires c =
    record {
      tree = side_tree c.args.side c.args.nodes.now c.args.roots;
      stands = stands_at c.requires.sound c.args.side refl c.of-root.ensures;
    }

pub size_of-requires : goal.size_of-requires
size_of-requires c =
    slot_rep c.remove-rest.new.nodes c.remove-rest.result _
    (c.remove-rest.ensures _ (stands_at c.requires.sound c.args.side refl c.of-root.ensures)).rep

pub returns-then-size_of-before : goal.returns-then-size_of-before
returns-then-size_of-before c =
    let t = stands_at c.requires.sound c.args.side refl c.of-root.ensures in
    let f = c.remove-rest.ensures (side_tree c.args.side c.args.nodes.now c.args.roots) t in
    leave_none c.requires.sound c.args.side c.args.member c.remove-rest.auto.nodes f
    (c.size_of-before.ensures ∙ size_rep c.args.nodes.now c.of-root.result _ t.rep)
    (c.size_of.ensures ∙ size_rep c.remove-rest.new.nodes c.remove-rest.result _ f.rep)
    c.with.ensures c.if-size_of-before.true

pub returns : goal.returns
returns c =
    let t = stands_at c.requires.sound c.args.side refl c.of-root.ensures in
    let f = c.remove-rest.ensures (side_tree c.args.side c.args.nodes.now c.args.roots) t in
    leave_one c.requires.sound c.args.side c.args.member c.remove-rest.auto.nodes f
    (c.size_of-before.ensures ∙ size_rep c.args.nodes.now c.of-root.result _ t.rep)
    (c.size_of.ensures ∙ size_rep c.remove-rest.new.nodes c.remove-rest.result _ f.rep)
    c.with-2.ensures c.if-size_of-before.false (record { left = 65535; right = 65535; count = 0; cents = record { 0 = 0 } }) refl
