-- The numbers of a line that follows are in bounds.
use Rattle.std.proofs.Common.{◌≡◌, ℕ, ◌≤◌, Bool, true, false, cond, Some, None, Option, refl, ap, ◌∙◌, arith}
use Rattle.std.proofs.lemmas.Bool.{and_parts, and_from, cond_both, eqb-true, eq-eqb}
use Rattle.std.proofs.lemmas.Bool.Decides.{nat_tests}
use Rattle.orders.specs.declared.money.Cents.{Cents}
use Rattle.orders.specs.declared.money.HalfCents.{HalfCents}
use Rattle.orders.specs.Range.{in_range}
use Rattle.ranking.specs.declared.ranked.Side.{Side}
use Rattle.ranking.specs.declared.ranked.Side.TheVariants.{Buyers, Sellers}
use Rattle.clearing.specs.Rule.{half_cents}
use Rattle.letter.specs.declared.line.Line.{Line}
use Rattle.letter.specs.declared.line.Pair.{Pair}
use Rattle.letter.specs.declared.tie.Tie.{Tie}
use Rattle.letter.specs.Lines.{price_in}
use Rattle.letter.specs.Following.{of_side, number_or_none, trades, price_of, served, due, same_price, can_stand, follows}

most_or_none : (n : ℕ) → number_or_none n ≡ true → n ≤ 10000000
most_or_none n h = grind (arith, nat_tests)

most_in_range : (n : ℕ) → in_range n ≡ true → n ≤ 10000000
most_in_range n h = grind (arith, nat_tests)

pub record Bounded (l : Line) : Type 0 where
  pub cents : l.cents.0 ≤ 10000000
  pub last_bid : l.last.bid.0 ≤ 10000000
  pub last_ask : l.last.ask.0 ≤ 10000000
  pub next_bid : l.next.bid.0 ≤ 10000000
  pub next_ask : l.next.ask.0 ≤ 10000000
  pub price : price_in l.price ≤ 20000000

-- a price said is the price due
pub same_price_is : (x y : Option HalfCents) → same_price x y ≡ true → x ≡ y
same_price_is None None h = refl
same_price_is None (Some y) h = absurd cc
same_price_is (Some x) None h = absurd cc
same_price_is (Some x) (Some y) h = ap (λ n. Some (half_cents n)) (eqb-true x.0 y.0 h)

pub price_same : (x : Option HalfCents) → same_price x x ≡ true
price_same None = refl
price_same (Some x) = eq-eqb x.0 x.0 refl

side_most : (s : Side) (p : Pair) → p.bid.0 ≤ 10000000 → p.ask.0 ≤ 10000000 → of_side s p ≤ 10000000
side_most Buyers p b a = b
side_most Sellers p b a = a

price_most : (s : Side) (last next : Pair) → last.bid.0 ≤ 10000000 → last.ask.0 ≤ 10000000 → next.bid.0 ≤ 10000000 →
    next.ask.0 ≤ 10000000 → price_of s last next ≤ 20000000
price_most s last next lb la nb na =
    cond_both (served last next) _ _ (λ n. n ≤ 20000000) (λ _. omega arith) (λ _. omega (arith, side_most s last lb la))

due_most : (t : Bool) (n : ℕ) → n ≤ 20000000 → price_in (cond t (Some (record { 0 = n })) None) ≤ 20000000
due_most true n h = h
due_most false n h = omega arith

-- what a line that follows says, in facts
pub stands_well : (l : Line) → follows l ≡ true → can_stand l.side l.cents.0 l.last l.next l.tie ≡ true
unfolding follows
stands_well l h = (and_parts _ _ h).0

pub price_is_due : (l : Line) → follows l ≡ true → l.price ≡ due l.side l.cents.0 l.last l.next l.tie
unfolding follows
price_is_due l h = same_price_is _ _ (and_parts _ _ h).1

pub follows_from : (l : Line) → can_stand l.side l.cents.0 l.last l.next l.tie ≡ true →
    l.price ≡ due l.side l.cents.0 l.last l.next l.tie → follows l ≡ true
unfolding follows
follows_from l s e =
    let d = due l.side l.cents.0 l.last l.next l.tie in
    and_from _ _ s (ap (λ p. same_price p d) e ∙ price_same d)

pub bounded : (l : Line) → follows l ≡ true → Bounded l
bounded l h =
    let s = and_parts _ _ (stands_well l h) in
    let p = and_parts _ _ (and_parts _ _ s.1).0 in
    let q = and_parts _ _ p.0 in
    let r = and_parts _ _ (and_parts _ _ p.1).0 in
    let lb = most_or_none _ q.0 in
    let la = most_or_none _ q.1 in
    let nb = most_or_none _ r.0 in
    let na = most_or_none _ r.1 in
    record {
      cents = most_in_range _ s.0;
      last_bid = lb;
      last_ask = la;
      next_bid = nb;
      next_ask = na;
      price = rw (price_is_due l h) (due_most (trades l.side l.cents.0 l.last l.next l.tie) _ (price_most l.side l.last l.next lb la nb na));
    }

-- a line is its parts
abbrev pub parts : ℕ → Side → Cents → Option HalfCents → Pair → Pair → Tie → Line
parts k s c x l n w = record { kind = k; side = s; cents = c; price = x; last = l; next = n; tie = w }

pub same_line : (k : ℕ) (s : Side) (c : Cents) {x x' : Option HalfCents} {l l' n n' : Pair} {w w' : Tie} → x ≡ x' → l ≡ l' → n ≡ n' →
    w ≡ w' → parts k s c x l n w ≡ parts k s c x' l' n' w'
same_line k s c e f g h = cc
