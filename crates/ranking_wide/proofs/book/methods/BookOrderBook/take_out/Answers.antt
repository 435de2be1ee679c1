use Rattle.std.proofs.Common.{◌≡◌, ◌<◌, length, get_or, vec_items, Some, sym, refl, ap, ◌∙◌, subst, arith}
use Rattle.ranking_wide.specs.declared.tree.Tree.{Tree}
use Rattle.ranking_wide.specs.Books.{listed, members, tree}
use Rattle.ranking_wide.specs.Trees.{Held, keys_of}
use Rattle.std.proofs.lemmas.List.{get_or_past, get_or_read}
use Rattle.orders.specs.declared.entry.Entry.TheVariants.{Nothing}
use Rattle.ranking.specs.Sides.{of_side}
use Rattle.ranking_wide.specs.Leaves.{without}
use Rattle.ranking_wide.specs.Sound.{mark, mark_on}
use Rattle.ranking.specs.Ranks.{on_side}
use Rattle.ranking_wide.proofs.Standing.{has_on, mark_nothing, off_list, there_on}
use Rattle.ranking_wide.proofs.Booked.{kept, listed_other, listed_take, sound_take}
use Rattle.ranking_wide.proofs.book.methods.BookOrderBook.take_out.Goals as goal
use Rattle.ranking_wide.proofs.book.methods.BookOrderBook.take_out.Goals.{After-take_out, In-Some}

pub returns-then-slot-len : goal.returns-then-slot-len
unfolding members listed tree
returns-then-slot-len c =
    let z = get_or_past (vec_items c.args.self.now.entries) c.args.member Nothing (omega (arith, c.if-slot-len.true, c.len.ensures, c.args.self.now.entries.ok.0)) in
    let g = off_list c.args.side (of_side c.args.side c.args.self.now.trees) (vec_items c.args.self.now.entries) (kept c.args.self.now c.args.side) c.args.member (ap (mark_on c.args.side) z ∙ mark_nothing c.args.side) in
    record { answer = g.0; this = g.1; other = refl; size = refl }

pub returns-in_default : goal.returns-in_default
unfolding members listed tree
returns-in_default c =
    let p : c.args.member < length (vec_items c.args.self.now.entries) = omega (arith, c.if-slot-len.false, c.len.ensures, c.args.self.now.entries.ok.0) in
    let r = get_or_read (vec_items c.args.self.now.entries) c.args.member c.index.result.now p c.index.ensures Nothing in
    let z = ap mark (ap (on_side c.args.side) (sym r) ∙ sym c.in_default.ensures) in
    let g = off_list c.args.side (of_side c.args.side c.args.self.now.trees) (vec_items c.args.self.now.entries) (kept c.args.self.now c.args.side) c.args.member z in
    record { answer = g.0; this = g.1; other = refl; size = refl }

-- the number that the member had on the side
stood : (c : In-Some) → (c.args.member < length (vec_items c.args.self.now.entries))
    × (on_side c.args.side (get_or (vec_items c.args.self.now.entries) c.args.member Nothing) ≡ Some c.in-Some.cents)
stood c =
    let p : c.args.member < length (vec_items c.args.self.now.entries) = omega (arith, c.if-slot-len.false, c.len.ensures, c.args.self.now.entries.ok.0) in (
      p,
      ap (on_side c.args.side) (sym (get_or_read (vec_items c.args.self.now.entries) c.args.member c.index.result.now p c.index.ensures Nothing))
          ∙ sym c.in-Some.ensures,
    )

-- what the tree of the side has come to hold
held : (c : After-take_out) → Held (of_side c.args.side c.args.self.now.trees) c.take_out.new.self
    (without c.of-key.result.number (keys_of (of_side c.args.side c.args.self.now.trees)))
held c = subst (λ (t : Tree). Held t c.take_out.new.self (without c.of-key.result.number (keys_of t))) c.get_mut.ensures.value c.take_out.ensures

pub invariant_of-self : goal.invariant_of-self
invariant_of-self c =
    let n = stood (goal.at.invariant_of-self c).In-Some in
    record {
      sound =
          ∣ sound_take c.args.self.now c.args.side c.args.member c.of-key.result.number c.in-Some.cents n.0 c.of-key.ensures.back
          c.take_out.new.self n.1 c.of-key.result.below (held (goal.at.invariant_of-self c).After-take_out) ∣₁;
    }

pub returns : goal.returns
unfolding members listed tree
returns c =
    let n = stood (goal.at.returns c).In-Some in
    record {
      answer = sym (has_on c.args.side (of_side c.args.side c.args.self.now.trees) (vec_items c.args.self.now.entries) (kept c.args.self.now c.args.side) c.args.member
          ∙ there_on c.args.side (get_or (vec_items c.args.self.now.entries) c.args.member Nothing) c.in-Some.cents n.1);
      this = listed_take c.args.self.now c.args.side c.args.member c.of-key.result.number c.in-Some.cents n.0 c.of-key.ensures.back
          c.take_out.new.self n.1 c.of-key.result.below (held (goal.at.returns c).After-take_out);
      other = listed_other c.args.self.now c.args.side c.take_out.new.self;
      size = refl;
    }
