use Rattle.std.proofs.Common.{Some, ap, ◌∙◌}
use Rattle.ranking_wide.specs.declared.tree.Tree.{Tree}
use Rattle.ranking_wide.specs.Books.{listed, tree}
use Rattle.ranking_wide.specs.Keys.{ranked_of}
use Rattle.ranking_wide.specs.Trees.{keys_of}
use Rattle.std.specs.Option.{option_map}
use Rattle.std.specs.List.{slice_get}
use Rattle.ranking_wide.proofs.Ordering.{map_nth}
use Rattle.ranking.specs.Sides.{of_side}
use Rattle.ranking_wide.proofs.book.methods.BookOrderBook.member_at.Goals as goal

pub returns : goal.returns
unfolding listed tree
returns c =
    ap Some c.ranked.ensures
    ∙ ap (option_map (ranked_of c.args.side))
    (c.in_ok-key.ensures ∙ ap (λ (t : Tree). slice_get (keys_of t) c.args.rank) c.get.ensures)
    ∙ map_nth c.args.side (keys_of (of_side c.args.side c.args.self.now.trees)) c.args.rank

pub returns-in_err-key : goal.returns-in_err-key
unfolding listed tree
returns-in_err-key c =
    c.from_residual.ensures ∙ ap (option_map (ranked_of c.args.side))
    (c.in_err-key.ensures ∙ ap (λ (t : Tree). slice_get (keys_of t) c.args.rank) c.get.ensures)
    ∙ map_nth c.args.side (keys_of (of_side c.args.side c.args.self.now.trees)) c.args.rank
