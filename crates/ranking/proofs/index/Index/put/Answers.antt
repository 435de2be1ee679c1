use Rattle.std.proofs.Common.{cond, vec_items, sym, refl, ap, ◌∙◌, arith}
use Rattle.std.proofs.lemmas.Option.{slice_get_past, slice_get_read}
use Rattle.ranking.specs.Books.{ranked_as}
use Rattle.ranking.specs.Kinds.{book_of, book_list, book_number, fresh_of}
use Rattle.ranking.specs.Sides.{opposite}
use Rattle.ranking.specs.Ranks.{insert, own}
use Rattle.ranking.proofs.Bookings.{answer_past}
use Rattle.ranking.proofs.AllKinds.{told_this, told_rest, told_same}
use Rattle.ranking.proofs.index.Index.put.Goals as goal

pub returns-in-Some : goal.returns-in-Some
unfolding book_of
returns-in-Some g c =
    let t = g.B.OrderBook in
    let bs = vec_items c.args.self.now.books in
    let k = c.args.kind in
    let b = c.in-Some.book.now in
    let e = slice_get_read bs _ k b refl c.in-Some.ensures.item.3.0 c.in-Some.ensures.value in
    record {
      answer = c.put.ensures.answer
          ∙ ap (λ o. fresh_of (book_number t.members o) (λ s. book_list t.listed s o) c.args.member) (sym e);
      this = told_this (book_list t.listed c.args.side) bs k b c.put.new.self e
          (λ xs. cond c.put.result (insert c.args.side own (ranked_as c.args.member c.args.cents) xs) xs)
          c.put.ensures.this;
      other = told_this (book_list t.listed (opposite c.args.side)) bs k b c.put.new.self e (λ xs. xs) c.put.ensures.other;
      rest = λ j s. told_rest (book_list t.listed s) bs k b c.put.new.self e j;
      size = told_same (book_number t.members) bs k b c.put.new.self e c.put.ensures.size;
    }

pub returns-in-None-clause-answer : goal.returns-in-None-clause-answer
unfolding book_of
returns-in-None-clause-answer g c =
    let e = slice_get_past (vec_items c.args.self.now.books) c.args.kind c.in-None.ensures.item.3 in
    answer_past c.args.member (book_number g.B.OrderBook.members (book_of c.args.kind c.args.self.now)) _
    (omega (arith, ap (book_number g.B.OrderBook.members) e))
