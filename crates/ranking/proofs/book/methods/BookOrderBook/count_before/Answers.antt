use Rattle.std.proofs.Common.{vec_items, ap, ◌∙◌}
use Rattle.ranking.specs.Balance.{passed}
use Rattle.ranking.specs.Books.{listed, tree}
use Rattle.ranking.specs.Keys.{follows}
use Rattle.ranking.specs.Sound.{side_tree}
use Rattle.ranking.proofs.Bookings.{stands_at, counts_before}
use Rattle.ranking.proofs.Sounds.{sound_from}
use Rattle.ranking.proofs.book.methods.BookOrderBook.count_before.Goals as goal

pub count_before-requires : goal.count_before-requires
count_before-requires c =
    let h = sound_from c.args.self.now.sound in
    record { tree = _; stands = stands_at h c.args.side c.deref.ensures.value c.of.ensures }

pub returns : goal.returns
unfolding listed tree
returns c =
    let h = sound_from c.args.self.now.sound in
    c.count_before.ensures _ (stands_at h c.args.side c.deref.ensures.value c.of.ensures)
    ∙ ap (λ ns. passed (follows c.args.side ns c.args.limit)
    (side_tree c.args.side (vec_items c.args.self.now.nodes) c.args.self.now.roots))
    c.deref.ensures.value
    ∙ counts_before h c.args.side c.args.limit
