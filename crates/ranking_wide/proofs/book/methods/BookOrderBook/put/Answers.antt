use Rattle.std.proofs.Common.{◌≡◌, ◌<◌, ◌||◌, map, length, get_or, set, vec_items, vec_len, sym, refl, ap, ◌∙◌, subst, arith}
use Rattle.ranking.specs.declared.ranked.Side.TheVariants.{Buyers, Sellers}
use Rattle.ranking_wide.specs.declared.tree.Tree.{Tree}
use Rattle.ranking_wide.specs.Books.{listed, members, tree}
use Rattle.ranking_wide.specs.Keys.{ranked_of}
use Rattle.ranking_wide.specs.Trees.{Held, keys_of, Roomy}
use Rattle.std.proofs.lemmas.List.{get_or_read}
use Rattle.std.proofs.lemmas.Bool.{or_from}
use Rattle.orders.specs.declared.entry.Entry.{Entry}
use Rattle.orders.specs.declared.entry.Entry.TheVariants.{Nothing}
use Rattle.ranking.specs.Lists.{has}
use Rattle.ranking.specs.Sides.{of_side, with_side}
use Rattle.ranking_wide.specs.Leaves.{placed}
use Rattle.std.specs.List.{AllByRecursion}
use Rattle.ranking_wide.specs.Sound.{is_on, Sound}
use Rattle.ranking.proofs.Bookings.{answer_fresh, answer_past, answer_there}
use Rattle.ranking_wide.proofs.Standing.{has_on, on_one}
use Rattle.ranking_wide.proofs.Booked.{kept, listed_other, listed_put, ready, sound_put}
use Rattle.ranking_wide.proofs.book.methods.BookOrderBook.put.Goals as goal
use Rattle.ranking_wide.proofs.book.methods.BookOrderBook.put.Goals.{After-put, In-Nothing}

pub returns-then-slot-len-clause-answer : goal.returns-then-slot-len-clause-answer
unfolding members
returns-then-slot-len-clause-answer c =
    answer_past c.args.member (vec_len c.args.self.now.entries) _ (omega (arith, c.len.ensures, c.if-slot-len.true))

pub returns-in_default : goal.returns-in_default
unfolding members listed tree
returns-in_default c =
    let p : c.args.member < length (vec_items c.args.self.now.entries) = omega (arith, c.if-slot-len.false, c.len.ensures, c.args.self.now.entries.ok.0) in
    let r = get_or_read (vec_items c.args.self.now.entries) c.args.member c.index.result.now p c.index.ensures Nothing in
    record {
      answer = answer_there c.args.member (vec_len c.args.self.now.entries) _
          (ap (λ x. x || has c.args.member (map (ranked_of Sellers) (keys_of c.args.self.now.trees.sellers)))
          (has_on Buyers c.args.self.now.trees.buyers (vec_items c.args.self.now.entries) (kept c.args.self.now Buyers) c.args.member)
          ∙ ap (λ x. is_on Buyers (get_or (vec_items c.args.self.now.entries) c.args.member Nothing) || x)
          (has_on Sellers c.args.self.now.trees.sellers (vec_items c.args.self.now.entries) (kept c.args.self.now Sellers) c.args.member)
          ∙ on_one (get_or (vec_items c.args.self.now.entries) c.args.member Nothing) (λ g. c.in_default.not-Nothing (r ∙ g)));
      this = refl;
      other = refl;
      size = refl;
    }

-- the entry that the member had
nothing : (c : In-Nothing) → (c.args.member < length (vec_items c.args.self.now.entries))
    × (get_or (vec_items c.args.self.now.entries) c.args.member Nothing ≡ Nothing)
nothing c =
    let p : c.args.member < length (vec_items c.args.self.now.entries) = omega (arith, c.if-slot-len.false, c.len.ensures, c.args.self.now.entries.ok.0) in
    (p, sym (get_or_read (vec_items c.args.self.now.entries) c.args.member c.index.result.now p c.index.ensures Nothing) ∙ c.in-Nothing.is)

-- what the tree of the side has come to hold
held : (c : After-put) → Held (of_side c.args.side c.args.self.now.trees) c.put.new.self
    (placed c.of-key.result.number (keys_of (of_side c.args.side c.args.self.now.trees)))
held c = subst (λ (t : Tree). Held t c.put.new.self (placed c.of-key.result.number (keys_of t))) c.get_mut.ensures.value c.put.ensures

pub put-requires : goal.put-requires
put-requires c =
    let n = nothing (goal.at.put-requires c).In-Nothing in
    let g = ready c.args.self.now c.args.side c.args.member c.of-key.result.number c.args.cents n.0 c.of-key.ensures.back n.1 in
    let e = sym c.get_mut.ensures.value in
    record {
      room = subst Roomy e g.0;
      new = subst (λ (t : Tree). AllByRecursion (λ k. k ≡ c.of-key.result.number → ⊥) (keys_of t)) e g.1;
    }

pub invariant_of-self : goal.invariant_of-self
invariant_of-self c =
    let n = nothing (goal.at.invariant_of-self c).In-Nothing in
    record {
      sound =
          ∣ subst (λ (e : Entry). Sound (with_side c.args.side c.put.new.self c.args.self.now.trees) (set (vec_items c.args.self.now.entries) c.args.member e)) (sym c.entry_on.ensures)
          (sound_put c.args.self.now c.args.side c.args.member c.of-key.result.number c.args.cents n.0 c.of-key.ensures.back
          c.put.new.self n.1 (held (goal.at.invariant_of-self c).After-put)) ∣₁;
    }

pub returns : goal.returns
unfolding members listed tree
returns c =
    let n = nothing (goal.at.returns c).In-Nothing in
    record {
      answer = answer_fresh c.args.member (vec_len c.args.self.now.entries) _ (omega (arith, c.len.ensures, c.if-slot-len.false))
          (or_from _ _
          (has_on Buyers c.args.self.now.trees.buyers (vec_items c.args.self.now.entries) (kept c.args.self.now Buyers) c.args.member ∙ ap (is_on Buyers) n.1)
          (has_on Sellers c.args.self.now.trees.sellers (vec_items c.args.self.now.entries) (kept c.args.self.now Sellers) c.args.member ∙ ap (is_on Sellers) n.1));
      this = listed_put c.args.self.now c.args.side c.args.member c.of-key.result.number c.args.cents n.0 c.of-key.ensures.back
          c.put.new.self c.of-key.result.below (held (goal.at.returns c).After-put);
      other = listed_other c.args.self.now c.args.side c.put.new.self;
      size = refl;
    }
