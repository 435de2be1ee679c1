use Rattle.std.proofs.Common.{◌≡◌, ℕ, ◌+◌, ◌*◌, ◌^◌, ◌≤◌, vec_items, sym, ◌∙◌, subst}
use Rattle.std.proofs.lemmas.List.{length-map}
use Rattle.ranking.specs.Books.{listed, tree}
use Rattle.ranking.specs.Keys.{ranked_at}
use Rattle.ranking.specs.Sound.{side_tree}
use Rattle.ranking.specs.Tree.{Tree, size, height, in_order}
use Rattle.ranking.proofs.Bookings.{stands_at, ordered}
use Rattle.ranking.proofs.Depths.{shallow}
use Rattle.ranking.proofs.InOrder.{size_length}
use Rattle.ranking.proofs.Reps.{slot_rep, size_rep}
use Rattle.ranking.proofs.Sounds.{sound_from}
use Rattle.ranking.proofs.book.methods.BookOrderBook.len.Goals as goal

pub size_of-requires : goal.size_of-requires
size_of-requires c =
    let t = stands_at (sound_from c.args.self.now.sound) c.args.side c.deref.ensures.value c.of.ensures in
    slot_rep c.deref.result.now c.of.result _ t.rep

sized : (c : goal.After-size_of)
    → c.size_of.result ≡ size (side_tree c.args.side (vec_items c.args.self.now.nodes) c.args.self.now.roots)
sized c =
    let t = stands_at (sound_from c.args.self.now.sound) c.args.side c.deref.ensures.value c.of.ensures in
    c.size_of.ensures ∙ size_rep c.deref.result.now c.of.result _ t.rep

pub returns : goal.returns
unfolding listed tree
returns c =
    let h = sound_from c.args.self.now.sound in
    let k = h.sides c.args.side in
    let t : Tree = side_tree c.args.side (vec_items c.args.self.now.nodes) c.args.self.now.roots in
    record {
      count = sized c ∙ size_length t ∙ sym (length-map (in_order t) (ranked_at (vec_items c.args.self.now.nodes)));
      ordered = ordered c.args.side (vec_items c.args.self.now.nodes) (in_order t) k.sorted;
      shallow = subst (λ (n : ℕ). 4 ^ height t ≤ 3 ^ height t * (n + 1)) (sym (sized c)) (shallow t k.even);
      shaped = tt;
    }
