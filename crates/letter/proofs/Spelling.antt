-- A line's bytes are read as the line, and bytes that are read as a line are its bytes.
use Rattle.std.proofs.Common.{◌≡◌, ℕ, eqb, List, [], ◌∷◌, ◌++◌, length, drop, Some, None, Option, sym, refl, ap, ◌∙◌, inl, inr, append_assoc, arith}
use Rattle.std.proofs.lemmas.List.{drop_more, drop_all}
use Rattle.std.proofs.lemmas.Option.{none-some, same_Some}
use Rattle.std.proofs.lemmas.Bool.Decides.{nat_tests}
use Rattle.std.proofs.lemmas.Bool.{cases_Bool, eqb-true, eq-eqb, cond-true, cond-false}
use Rattle.orders.specs.declared.money.HalfCents.{HalfCents}
use Rattle.orders.specs.Words.{byte_at}
use Rattle.ranking.specs.declared.ranked.Side.{Side}
use Rattle.ranking.specs.declared.ranked.Side.TheVariants.{Buyers, Sellers}
use Rattle.letter.specs.declared.line.Line.{Line}
use Rattle.letter.specs.declared.tie.Tie.{Tie}
use Rattle.letter.specs.declared.tie.Tie.TheVariants.{NoTie, Before, At, After}
use Rattle.sheet.specs.Words.{bytes4}
use Rattle.letter.specs.Words.{number_at}
use Rattle.letter.specs.Lines.{side_byte, traded_byte, price_in, tie_byte, side_in, trade_in, tie_in, line_bytes, line_with, line_in}
use Rattle.letter.proofs.Digits.{Bytes, front4, number_of_bytes}
use Rattle.letter.proofs.Bounds.{Bounded}

pub length_line : (l : Line) → length (line_bytes l) ≡ 28
unfolding line_bytes bytes4
length_line l = refl

-- the words of a line
side_read : (n : ℕ) (s : Side) → side_in n ≡ Some s → side_byte s ≡ n
side_read n Buyers h = grind (arith, nat_tests)
side_read n Sellers h = grind (arith, nat_tests)

side_written : (s : Side) → side_in (side_byte s) ≡ Some s
side_written Buyers = refl
side_written Sellers = refl

tie_read : (n : ℕ) (w : Tie) → tie_in n ≡ Some w → tie_byte w ≡ n
tie_read n NoTie h = grind (arith, nat_tests)
tie_read n Before h = grind (arith, nat_tests)
tie_read n At h = grind (arith, nat_tests)
tie_read n After h = grind (arith, nat_tests)

tie_written : (w : Tie) → tie_in (tie_byte w) ≡ Some w
tie_written NoTie = refl
tie_written Before = refl
tie_written At = refl
tie_written After = refl

trade_read : (n m : ℕ) (t : Option HalfCents) → trade_in n m ≡ Some t → (traded_byte t ≡ n) × (price_in t ≡ m)
trade_read n m None h = (grind (arith, nat_tests), grind (arith, nat_tests))
trade_read n m (Some p) h = (grind (arith, nat_tests), grind (arith, nat_tests))

trade_written : (t : Option HalfCents) (m : ℕ) → price_in t ≡ m → trade_in (traded_byte t) m ≡ Some t
trade_written None m e = ap (λ n. trade_in 0 n) (sym e)
trade_written (Some p) m e = ap (λ n. trade_in 1 n) (sym e)

-- what was read, where a line was
pub record Read (bs : List ℕ) (l : Line) : Type 0 where
  pub kind : l.kind ≡ byte_at bs 0
  pub side : side_in (byte_at bs 1) ≡ Some l.side
  pub cents : l.cents.0 ≡ number_at bs 2
  pub price : trade_in (byte_at bs 6) (number_at bs 7) ≡ Some l.price
  pub last_bid : l.last.bid.0 ≡ number_at bs 11
  pub last_ask : l.last.ask.0 ≡ number_at bs 15
  pub next_bid : l.next.bid.0 ≡ number_at bs 19
  pub next_ask : l.next.ask.0 ≡ number_at bs 23
  pub tie : tie_in (byte_at bs 27) ≡ Some l.tie

read_with : (bs : List ℕ) (l : Line) (s : Option Side) (t : Option (Option HalfCents)) (w : Option Tie) →
    side_in (byte_at bs 1) ≡ s → trade_in (byte_at bs 6) (number_at bs 7) ≡ t → tie_in (byte_at bs 27) ≡ w →
    line_with bs s t w ≡ Some l → Read bs l
read_with bs l None t w es et ew h = absurd (none-some l h)
read_with bs l (Some s) None w es et ew h = absurd (none-some l h)
read_with bs l (Some s) (Some t) None es et ew h = absurd (none-some l h)
read_with bs l (Some s) (Some t) (Some w) es et ew h =
    let e = same_Some _ l h in
    record {
      kind = ap (λ (x : Line). x.kind) (sym e);
      side = es ∙ ap (λ (x : Line). Some x.side) e;
      cents = ap (λ (x : Line). x.cents.0) (sym e);
      price = et ∙ ap (λ (x : Line). Some x.price) e;
      last_bid = ap (λ (x : Line). x.last.bid.0) (sym e);
      last_ask = ap (λ (x : Line). x.last.ask.0) (sym e);
      next_bid = ap (λ (x : Line). x.next.bid.0) (sym e);
      next_ask = ap (λ (x : Line). x.next.ask.0) (sym e);
      tie = ew ∙ ap (λ (x : Line). Some x.tie) e;
    }

read : (bs : List ℕ) (l : Line) → line_in bs ≡ Some l → (length bs ≡ 28) × Read bs l
unfolding line_in
read bs l h =
    elim (cases_Bool (eqb (length bs) 28)) [
      | inl e ↦ (eqb-true _ _ e, read_with bs l _ _ _ refl refl refl (sym (cond-true _ _ _ e) ∙ h))
      | inr e ↦ absurd (none-some l (sym (cond-false _ _ _ e) ∙ h))
    ]

pub read_again : (bs : List ℕ) (l : Line) → Bytes bs → line_in bs ≡ Some l → line_bytes l ≡ bs
unfolding line_bytes
read_again bs l b h =
    let p = read bs l h in
    let n = p.0 in
    let r = p.1 in
    let t = trade_read (byte_at bs 6) (number_at bs 7) l.price r.price in
    let s : side_byte l.side ≡ byte_at bs 1 = side_read _ _ r.side in
    let w : tie_byte l.tie ≡ byte_at bs 27 = tie_read _ _ r.tie in
    let d0 : drop 0 bs ≡ byte_at bs 0 ∷ drop 1 bs = drop_more bs 0 0 (omega arith) in
    let d1 : drop 1 bs ≡ byte_at bs 1 ∷ drop 2 bs = drop_more bs 1 0 (omega arith) in
    let d2 : bytes4 (number_at bs 2) ++ drop 6 bs ≡ drop 2 bs = front4 bs 2 b (omega arith) in
    let d6 : drop 6 bs ≡ byte_at bs 6 ∷ drop 7 bs = drop_more bs 6 0 (omega arith) in
    let d7 : bytes4 (number_at bs 7) ++ drop 11 bs ≡ drop 7 bs = front4 bs 7 b (omega arith) in
    let d11 : bytes4 (number_at bs 11) ++ drop 15 bs ≡ drop 11 bs = front4 bs 11 b (omega arith) in
    let d15 : bytes4 (number_at bs 15) ++ drop 19 bs ≡ drop 15 bs = front4 bs 15 b (omega arith) in
    let d19 : bytes4 (number_at bs 19) ++ drop 23 bs ≡ drop 19 bs = front4 bs 19 b (omega arith) in
    let d23 : bytes4 (number_at bs 23) ++ drop 27 bs ≡ drop 23 bs = front4 bs 23 b (omega arith) in
    let d27 : drop 27 bs ≡ byte_at bs 27 ∷ drop 28 bs = drop_more bs 27 0 (omega arith) in
    let d28 : drop 28 bs ≡ [] = drop_all 28 bs (omega arith) in
    simp append_assoc (cc (t.0, t.1, r.kind, r.cents, r.last_bid, r.last_ask, r.next_bid, r.next_ask))

abbrev made : ℕ → Side → ℕ → Option HalfCents → ℕ → ℕ → ℕ → ℕ → Tie → Line
made k s c t lb la nb na w =
    record {
      kind = k;
      side = s;
      cents = record { 0 = c };
      price = t;
      last = record { bid = record { 0 = lb }; ask = record { 0 = la } };
      next = record { bid = record { 0 = nb }; ask = record { 0 = na } };
      tie = w;
    }

-- a line by its words, each known or not
pub by_words : (bs : List ℕ) {s : Option Side} {t : Option (Option HalfCents)} {w : Option Tie} → length bs ≡ 28 →
    side_in (byte_at bs 1) ≡ s → trade_in (byte_at bs 6) (number_at bs 7) ≡ t → tie_in (byte_at bs 27) ≡ w →
    line_in bs ≡ line_with bs s t w
unfolding line_in
by_words bs {s} {t} {w} n e f g =
    cond-true _ _ _ (eq-eqb (length bs) 28 n)
    ∙ ap (λ x. line_with bs x (trade_in (byte_at bs 6) (number_at bs 7)) (tie_in (byte_at bs 27))) e
    ∙ ap (λ x. line_with bs s x (tie_in (byte_at bs 27))) f
    ∙ ap (λ x. line_with bs s t x) g

pub no_trade : (bs : List ℕ) (s : Option Side) (w : Option Tie) → line_with bs s None w ≡ None
no_trade bs None w = refl
no_trade bs (Some s) w = refl

pub no_tie : (bs : List ℕ) (s : Option Side) (t : Option (Option HalfCents)) → line_with bs s t None ≡ None
no_tie bs None t = refl
no_tie bs (Some s) None = refl
no_tie bs (Some s) (Some t) = refl

-- a trade that is neither told nor denied
pub trade_unknown : (n m : ℕ) → (n ≡ 1 → ⊥) → (n ≡ 0 → m ≡ 0 → ⊥) → trade_in n m ≡ None
trade_unknown n m h k = grind (arith, nat_tests)

known : (bs : List ℕ) (l : Line) → length bs ≡ 28 → Read bs l → line_in bs ≡ Some l
known bs l n r =
    let at : ℕ → ℕ = λ i. number_at bs i in
    by_words bs n r.side r.price r.tie
    ∙ sym
    (ap (λ k. Some (made k l.side l.cents.0 l.price l.last.bid.0 l.last.ask.0 l.next.bid.0 l.next.ask.0 l.tie)) r.kind
    ∙ ap (λ c. Some (made (byte_at bs 0) l.side c l.price l.last.bid.0 l.last.ask.0 l.next.bid.0 l.next.ask.0 l.tie)) r.cents
    ∙ ap (λ c. Some (made (byte_at bs 0) l.side (at 2) l.price c l.last.ask.0 l.next.bid.0 l.next.ask.0 l.tie)) r.last_bid
    ∙ ap (λ c. Some (made (byte_at bs 0) l.side (at 2) l.price (at 11) c l.next.bid.0 l.next.ask.0 l.tie)) r.last_ask
    ∙ ap (λ c. Some (made (byte_at bs 0) l.side (at 2) l.price (at 11) (at 15) c l.next.ask.0 l.tie)) r.next_bid
    ∙ ap (λ c. Some (made (byte_at bs 0) l.side (at 2) l.price (at 11) (at 15) (at 19) c l.tie)) r.next_ask)

-- a line in bounds is read from its bytes
pub written_read : (l : Line) → Bounded l → line_in (line_bytes l) ≡ Some l
unfolding line_bytes bytes4 number_at
written_read l b =
    known (line_bytes l) l refl (record {
      kind = refl;
      side = side_written l.side;
      cents = sym (number_of_bytes l.cents.0 (omega (arith, b.cents)));
      price = trade_written l.price _ (sym (number_of_bytes (price_in l.price) (omega (arith, b.price))));
      last_bid = sym (number_of_bytes l.last.bid.0 (omega (arith, b.last_bid)));
      last_ask = sym (number_of_bytes l.last.ask.0 (omega (arith, b.last_ask)));
      next_bid = sym (number_of_bytes l.next.bid.0 (omega (arith, b.next_bid)));
      next_ask = sym (number_of_bytes l.next.ask.0 (omega (arith, b.next_ask)));
      tie = tie_written l.tie;
    })
