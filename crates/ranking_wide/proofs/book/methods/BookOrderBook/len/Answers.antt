use Rattle.std.proofs.Common.{ℕ, ◌+◌, ◌*◌, ◌^◌, ◌≤◌, length, sym, ap, ◌∙◌, subst, arith}
use Rattle.ranking_wide.specs.declared.tree.Tree.{Tree}
use Rattle.ranking_wide.specs.Books.{counts, listed, members, tree, way}
use Rattle.ranking_wide.specs.Leaves.{part}
use Rattle.ranking_wide.specs.Keys.{ranked_of}
use Rattle.ranking_wide.specs.Trees.{keys_of, leaves_of}
use Rattle.std.proofs.lemmas.List.{length-map}
use Rattle.ranking_wide.proofs.Ordering.{ordered_keys}
use Rattle.ranking_wide.proofs.Sounds.{grown_from}
use Rattle.ranking_wide.proofs.Spans.{few_each, spans_rise}
use Rattle.ranking_wide.proofs.Standing.{way_short}
use Rattle.ranking_wide.proofs.Booked.{below_all, kept}
use Rattle.ranking.specs.Sides.{of_side}
use Rattle.ranking_wide.proofs.book.methods.BookOrderBook.len.Goals as goal

pub returns : goal.returns
unfolding listed tree counts members
returns c =
    let k = kept c.args.self.now c.args.side in
    let t : Tree = of_side c.args.side c.args.self.now.trees in
    let g = grown_from t.grown in
    record {
      count = c.len.ensures ∙ ap (λ (u : Tree). length (keys_of u)) c.get.ensures ∙ sym (length-map (keys_of t) (ranked_of c.args.side));
      ordered = ordered_keys c.args.side (keys_of t) (below_all c.args.self.now c.args.side) (spans_rise (leaves_of t) (2 ^ 48) g.spans);
      shallow = subst (λ (n : ℕ). 4 ^ way (keys_of t) ≤ 3 ^ way (keys_of t) * (n + 1))
          (sym (c.len.ensures ∙ ap (λ (u : Tree). length (keys_of u)) c.get.ensures)) (way_short (keys_of t));
      shaped = record {
        leaves = few_each (leaves_of t) (2 ^ 48) g.spans;
        root = omega (arith, k.narrow, g.fits, t.leaves.ok.0, c.args.self.now.entries.ok.0, length-map (leaves_of t) (λ l. length (part l)));
      };
    }
