use Rattle.std.proofs.Common.{◌≡◌, vec_len, sym, refl, ap, ◌∙◌, arith}
use Rattle.std.proofs.lemmas.List.{with_items_is}
use Rattle.ranking.specs.Books.{listed, tree, members, ranked_as}
use Rattle.ranking.specs.Ranks.{insert, own}
use Rattle.ranking.specs.Tree.{at, blank}
use Rattle.ranking.proofs.Bookings.{answer_past, answer_there, answer_fresh, fresh_so, fresh_not, sound_as, booked_as}
use Rattle.ranking.proofs.Sounds.{sound_from}
use Rattle.ranking.proofs.book.methods.BookOrderBook.put.Goals as goal

pub returns-in_default-clause-answer : goal.returns-in_default-clause-answer
unfolding members
returns-in_default-clause-answer c =
    answer_past c.args.member (vec_len c.args.self.now.nodes) _
    (omega (arith, c.in_default.ensures.lookup.3, c.deref.ensures.len))

pub returns-then-node-ne0-clause-answer : goal.returns-then-node-ne0-clause-answer
unfolding members listed tree
returns-then-node-ne0-clause-answer c =
    let e : c.in-Some.node.now ≡ at c.deref.result.now c.args.member = c.in-Some.ensures.lookup.4 (omega arith) blank in
    answer_there _ _ _ (fresh_not (sound_from c.args.self.now.sound) c.args.member
    (λ z. c.if-node-ne0.true (ap (λ n. n.count) e ∙ ap (λ ns. (at ns c.args.member).count) c.deref.ensures.value ∙ z)))

pub enter-self-requires : goal.enter-self-requires
enter-self-requires c =
    let e : c.in-Some.node.now ≡ at c.deref.result.now c.args.member = c.in-Some.ensures.lookup.4 (omega arith) blank in
    record {
      sound = sound_as (sound_from c.args.self.now.sound) c.deref_mut.ensures.value;
      within = omega (arith, c.in-Some.ensures.lookup.3.0, c.deref.ensures.len, c.deref_mut.ensures.len);
      free = ap (λ ns. (at ns c.args.member).count) (c.deref_mut.ensures.value ∙ sym c.deref.ensures.value)
          ∙ sym (ap (λ n. n.count) e) ∙ c.if-node-ne0.false;
    }

pub returns : goal.returns
unfolding members listed tree
returns c =
    let b = booked_as (insert c.args.side own (ranked_as c.args.member c.args.cents)) c.enter-self.ensures
    c.deref_mut.ensures.value
    (with_items_is c.args.self.now.nodes c.enter-self.new.nodes
    (c.enter-self.auto.nodes ∙ c.deref_mut.ensures.len)) in
    let e : c.in-Some.node.now ≡ at c.deref.result.now c.args.member = c.in-Some.ensures.lookup.4 (omega arith) blank in
    record {
      answer = answer_fresh c.args.member (vec_len c.args.self.now.nodes) _
          (omega (arith, c.in-Some.ensures.lookup.3.0, c.deref.ensures.len))
          (fresh_so (sound_from c.args.self.now.sound) c.args.member
          (ap (λ ns. (at ns c.args.member).count) (sym c.deref.ensures.value)
          ∙ sym (ap (λ n. n.count) e) ∙ c.if-node-ne0.false));
      this = b.this;
      other = b.other;
      size = refl;
    }
