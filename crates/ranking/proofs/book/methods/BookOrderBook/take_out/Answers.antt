use Rattle.std.proofs.Common.{ltb, length, refl, ap, ◌∙◌, arith}
use Rattle.std.proofs.lemmas.List.{with_items_is}
use Rattle.ranking.specs.Books.{listed, tree, members}
use Rattle.ranking.specs.Lists.{less}
use Rattle.ranking.proofs.Bookings.{past_none, sound_as, booked_as, less_shorter}
use Rattle.ranking.proofs.Sounds.{sound_from}
use Rattle.ranking.proofs.book.methods.BookOrderBook.take_out.Goals as goal

pub returns-then-member-len : goal.returns-then-member-len
unfolding members listed tree
returns-then-member-len c =
    let p = past_none (sound_from c.args.self.now.sound) c.args.side c.args.member
    (omega (arith, c.if-member-len.true, c.len.ensures, c.args.self.now.nodes.ok.0)) in
    record { answer = p.0; this = p.1; other = refl; size = refl }

pub leave-self-requires-clause-sound : goal.leave-self-requires-clause-sound
leave-self-requires-clause-sound c = sound_as (sound_from c.args.self.now.sound) c.deref_mut.ensures.value

pub returns : goal.returns
unfolding members listed tree
returns c =
    let b = booked_as (less c.args.member) c.leave-self.ensures
    c.deref_mut.ensures.value
    (with_items_is c.args.self.now.nodes c.leave-self.new.nodes
    (c.leave-self.auto.nodes ∙ c.deref_mut.ensures.len)) in
    record {
      answer = ap (λ n. ltb n c.len-before.result) (c.len-2.ensures.count ∙ ap length b.this)
          ∙ ap (ltb (length (less c.args.member (listed c.args.side c.args.self.now)))) c.len-before.ensures.count
          ∙ less_shorter c.args.member (listed c.args.side c.args.self.now);
      this = b.this;
      other = b.other;
      size = refl;
    }
