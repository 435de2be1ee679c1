use Rattle.std.proofs.Common.{vec_items, sym, refl, ap, ◌∙◌}
use Rattle.std.proofs.lemmas.Option.{slice_get_past, slice_get_read}
use Rattle.ranking.specs.Kinds.{book_of, book_list, book_number}
use Rattle.ranking.specs.Lists.{has, less}
use Rattle.ranking.specs.Sides.{opposite}
use Rattle.ranking.proofs.AllKinds.{told_this, told_rest, told_same}
use Rattle.ranking.proofs.index.Index.take_out.Goals as goal

pub returns : goal.returns
unfolding book_of
returns g c =
    let t = g.B.OrderBook in
    let bs = vec_items c.args.self.now.books in
    let k = c.args.kind in
    let b = c.in-Some.book.now in
    let e = slice_get_read bs _ k b refl c.in-Some.ensures.item.3.0 c.in-Some.ensures.value in
    record {
      answer = c.take_out.ensures.answer ∙ ap (λ o. has c.args.member (book_list t.listed c.args.side o)) (sym e);
      this = told_this (book_list t.listed c.args.side) bs k b c.take_out.new.self e (less c.args.member) c.take_out.ensures.this;
      other = told_this (book_list t.listed (opposite c.args.side)) bs k b c.take_out.new.self e (λ xs. xs) c.take_out.ensures.other;
      rest = λ j s. told_rest (book_list t.listed s) bs k b c.take_out.new.self e j;
      size = told_same (book_number t.members) bs k b c.take_out.new.self e c.take_out.ensures.size;
    }

pub returns-in_default : goal.returns-in_default
unfolding book_of
returns-in_default g c =
    let t = g.B.OrderBook in
    let e = slice_get_past (vec_items c.args.self.now.books) c.args.kind c.in_default.ensures.item.3 in
    record {
      answer = ap (λ o. has c.args.member (book_list t.listed c.args.side o)) (sym e);
      this = ap (book_list t.listed c.args.side) e ∙ ap (λ o. less c.args.member (book_list t.listed c.args.side o)) (sym e);
      other = refl;
      rest = λ k s d. refl;
      size = λ k. refl;
    }
