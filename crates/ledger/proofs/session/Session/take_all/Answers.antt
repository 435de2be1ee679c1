use Rattle.std.proofs.Common.{◌≡◌, ◌+◌, ◌-◌, [], length, take, drop, set, sym, ap, ◌∙◌, subst, inl, inr, arith}
use Rattle.std.proofs.lemmas.Bool.{cases_lt}
use Rattle.std.proofs.lemmas.List.{take_at, drop_at}
use Rattle.std.specs.Iterator.Adapters.{enumerate_source, enumerate_count, take_source, take_count}
use Rattle.std.specs.Slice.Iter.{chunks_rest}
use Rattle.orders.specs.declared.evening.Open.{Open}
use Rattle.orders.specs.Lent.{held, judged, answer, held_after}
use Rattle.orders.specs.Running.{messages}
use Rattle.orders.proofs.Ends.{ended}
use Rattle.orders.proofs.Runs.{Leads, leads_more, same_loans, messages_none, messages_done}
use Rattle.ledger.specs.Indexed.{Indexed}
use Rattle.ledger.proofs.session.Session.take_all.Goals as goal

pub loop-place-preserved : goal.loop-place-preserved
loop-place-preserved c =
    let K = c.args.self.open.extent.kinds in
    let M = c.args.self.open.extent.members in
    let was = c.loop-place.invariant in
    let t = c.take-in-loop-place.ensures in
    let s = c.in-Some.ensures.steps in
    let i = enumerate_count c.loop-place.place-iterator in
    let h = held c.loop-place.books in
    let m = c.in-Some.message.now in
    let rest = chunks_rest (take_source (enumerate_source c.loop-place.place-iterator)) in
    let after = chunks_rest (take_source (enumerate_source c.next.new.self)) in
    let more : Leads K M (held c.args.books.now) (held c.take-in-loop-place.new.books) c.args.bytes.now after c.args.answers.now
    (set c.loop-place.answers i c.take-in-loop-place.result.1) (i + 1) =
    leads_more K M (held c.args.books.now) h c.args.bytes.now rest c.args.answers.now c.loop-place.answers i was.leads
    c.loop-place.auto.answers (held c.take-in-loop-place.new.books) (length m) m after c.take-in-loop-place.result.1
    (omega (arith, was.places, s.0.1)) s.0.0.1.2 (omega (arith, s.0.0.1.1, was.pieces))
    (sym (ap (take (length m)) s.0.0.1.0 ∙ take_at m after (length m) (λ x. length m)))
    (sym (ap (drop (length m)) s.0.0.1.0 ∙ drop_at m after (length m) (λ x. length m)))
    (t.answer ∙ ap (λ (o : Open). answer (judged o.extent.kinds o.extent.members h m)) was.same_open)
    (t.after ∙ ap (λ (o : Open). held_after o.extent.kinds o.extent.members h m) was.same_open) in
    record {
      pieces = s.0.0.0 ∙ was.pieces;
      places = omega (arith, was.places, s.0.1, s.2);
      same_open = t.«open» ∙ was.same_open;
      leads = rw (s.1, s.2) more;
      lent = same_loans c.args.books.now c.loop-place.books c.take-in-loop-place.new.books was.lent t.lent;
      indexed = λ x.
          subst
          (λ (o : Open).
          Indexed o.extent.kinds o.extent.members c.loop-place.books.entries.now c.loop-place.self.index
          → Indexed o.extent.kinds o.extent.members c.take-in-loop-place.new.books.entries.now c.take-in-loop-place.result.0.index)
          was.same_open t.indexed (was.indexed x);
    }

pub returns : goal.returns
returns c =
    let K = c.args.self.open.extent.kinds in
    let M = c.args.self.open.extent.members in
    let was = c.loop-place.invariant in
    let n = length c.args.answers.now in
    let i = enumerate_count c.loop-place.place-iterator in
    let left = take_count (enumerate_source c.loop-place.place-iterator) in
    let rest = chunks_rest (take_source (enumerate_source c.loop-place.place-iterator)) in
    let none : messages (n - i) rest ≡ [] =
    elim (cases_lt 0 left) [
      | inl l ↦ messages_none (n - i) rest (c.in-None.ensures.steps.0 l).1.0
      | inr l ↦ messages_done n i rest (omega (arith, was.places, l))
    ] in
    let e =
    ended K M (held c.args.books.now) (held c.loop-place.books) c.args.bytes.now rest c.args.answers.now c.loop-place.answers i
    was.leads c.loop-place.auto.answers (omega (arith, was.places)) none in
    record {
      «open» = was.same_open;
      after = e.after;
      answers = e.answers;
      alone = e.alone;
      sound = e.sound;
      indexed = was.indexed;
      lent = was.lent;
    }
