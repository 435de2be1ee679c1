-- The same over rows of entries, and over whole letters.
use Rattle.std.proofs.Common.{◌≡◌, ℕ, zero, suc, ◌*◌, ◌<◌, Bool, true, false, cond, ltb, List, length, get_or, take, drop, Some, None, Option, sym, refl, ap, ◌∙◌, arith}
use Rattle.std.specs.List.{AllByRecursion}
use Rattle.std.proofs.lemmas.List.{get_or-map, length-map, get_or-take}
use Rattle.std.proofs.lemmas.Option.{cond_some}
use Rattle.std.proofs.ByRecursion.{All-get_or, All-append}
use Rattle.std.proofs.lemmas.Bool.Decides.{nat_tests}
use Rattle.orders.specs.declared.money.Cents.{Cents}
use Rattle.orders.specs.declared.money.HalfCents.{HalfCents}
use Rattle.orders.specs.declared.entry.Entry.{Entry}
use Rattle.orders.specs.declared.entry.Entry.TheVariants.{Nothing, Bid, Ask}
use Rattle.orders.specs.Entries.{entry_of, row_of, kind_row}
use Rattle.orders.specs.Range.{in_range}
use Rattle.ranking.specs.declared.ranked.Side.{Side}
use Rattle.ranking.specs.declared.ranked.Side.TheVariants.{Buyers, Sellers}
use Rattle.ranking.specs.declared.ranked.Ranked.{Ranked}
use Rattle.ranking.specs.Ranks.{own, on_side, ranked}
use Rattle.clearing.specs.Rule.{cents_of, pairs, cleared, trades_in, price_of}
use Rattle.clearing.specs.Kind.{number, standing, rank, pairs_in, outcome}
use Rattle.clearing.proofs.Sides.{other}
use Rattle.clearing.proofs.Settling.{bids_of, asks_of, pairs_are, clears}
use Rattle.clearing.proofs.Pairing.{cents_at, length_cents}
use Rattle.clearing.proofs.Rows.{InRow, ranked_falls, ranked_in_row}
use Rattle.clearing.proofs.Standing.{member_there, placed_at}
use Rattle.clearing.proofs.FirstRanks.{only_the_first}
use Rattle.letter.specs.declared.line.Line.{Line}
use Rattle.letter.specs.Following.{due, can_stand, follows}
use Rattle.letter.specs.Letters.{pair_at, last_pair, last_of, next_of, tie_of, traded_at, line_of, entry_lines, kind_lines, lines_from}
use Rattle.letter.specs.Statements.{RowRanged, trades_on, price_on, ByRule, IsOfRow, FirstRanksSuffice}
use Rattle.letter.proofs.Bounds.{price_is_due, follows_from}
use Rattle.letter.proofs.Beside.{nobody, own_apart}
use Rattle.letter.proofs.Told.{Ranged, Lists, last_by, next_by, Said, said_cleared}

entry_ranged : (s : Side) (n : ℕ) (c : Cents) → on_side s (entry_of n) ≡ Some c → in_range c.0 ≡ true
entry_ranged Buyers n c h = grind (arith, nat_tests)
entry_ranged Sellers n c h = grind (arith, nat_tests)

pub codes_ranged : (ns : List ℕ) → RowRanged (row_of ns)
codes_ranged ns s i c h =
    let l : i < length ns = omega (arith, member_there s (row_of ns) i c h, length-map ns entry_of) in
    entry_ranged s (get_or ns i 0) c (ap (on_side s) (sym (get_or-map entry_of ns i 0 Nothing l)) ∙ h)

ranked_ranged : (s : Side) (row : List Entry) → RowRanged row → Ranged (cents_of (ranked s own row))
ranked_ranged s row h k l =
    let m : k < length (ranked s own row) = omega (arith, length_cents (ranked s own row)) in
    let x : Ranked = get_or (ranked s own row) k nobody in
    ap in_range (cents_at (ranked s own row) k nobody m)
    ∙ h s x.member x.cents (All-get_or (InRow s row) (ranked s own row) k nobody m (ranked_in_row s own row)).1

-- of a member's entry in a row
module _ (row : List Entry) (rr : RowRanged row) (s : Side) (i : ℕ) (c : Cents) (h : number s row i ≡ Some c) where
  abbrev mine : List ℕ
  mine = cents_of (ranked s own row)

  abbrev theirs : List ℕ
  theirs = cents_of (ranked (other s) own row)

  abbrev place : ℕ
  place = rank s own row (standing i c)

  lists : Lists s mine theirs place c.0
  lists =
      let p = placed_at s own row (own_apart row) i c h nobody in
      record {
        own_falls = ranked_falls s own row;
        other_falls = ranked_falls (other s) own row;
        own_ranged = ranked_ranged s row rr;
        other_ranged = ranked_ranged (other s) row rr;
        placed = omega (arith, p.0, length_cents (ranked s own row));
        number = cents_at (ranked s own row) place nobody p.0 ∙ ap (λ (x : Ranked). x.cents.0) p.1;
      }

  said : Said s mine theirs place c.0 (pairs (bids_of s mine theirs) (asks_of s mine theirs))
      (trades_in (cleared (bids_of s mine theirs) (asks_of s mine theirs)))
      (price_of s (cleared (bids_of s mine theirs) (asks_of s mine theirs)))
      (last_by s mine theirs (pairs (bids_of s mine theirs) (asks_of s mine theirs)))
      (next_by s mine theirs (pairs (bids_of s mine theirs) (asks_of s mine theirs)))
  said = said_cleared s mine theirs place c.0 lists _ _ _ (pairs_are s mine theirs) (clears s mine theirs)

-- the last pair by sides is the last pair
pub last_buyers : (bs as' : List ℕ) (p : ℕ) → last_by Buyers bs as' p ≡ last_pair bs as' p
last_buyers bs as' zero = refl
last_buyers bs as' (suc n) = refl

pub last_sellers : (bs as' : List ℕ) (p : ℕ) → last_by Sellers as' bs p ≡ last_pair bs as' p
last_sellers bs as' zero = refl
last_sellers bs as' (suc n) = refl

-- what is said of a row
abbrev SaidOfRow : Side → List Entry → ℕ → Cents → Type 0
SaidOfRow s row i c =
    (can_stand s c.0 (last_of row) (next_of row) (tie_of s row i c) ≡ true)
    × (due s c.0 (last_of row) (next_of row) (tie_of s row i c) ≡ traded_at s row i c)

said_of_row : (row : List Entry) → RowRanged row → (s : Side) (i : ℕ) (c : Cents) → number s row i ≡ Some c → SaidOfRow s row i c
said_of_row row rr Buyers i c h =
    let q = said row rr Buyers i c h in
    let l = last_buyers (mine row rr Buyers i c h) (theirs row rr Buyers i c h) (pairs_in own row) in
    (cc (q.0, l), cc (q.1, l))
said_of_row row rr Sellers i c h =
    let q = said row rr Sellers i c h in
    let l = last_sellers (theirs row rr Sellers i c h) (mine row rr Sellers i c h) (pairs_in own row) in
    (cc (q.0, l), cc (q.1, l))

pub line_follows : (row : List Entry) → RowRanged row → (s : Side) (k i : ℕ) (c : Cents) → number s row i ≡ Some c →
    follows (line_of s k row i c) ≡ true
line_follows row rr s k i c h =
    let q = said_of_row row rr s i c h in
    follows_from (line_of s k row i c) q.0 (sym q.1)

-- the lines of a letter
entry_follows : (k : ℕ) (row : List Entry) → RowRanged row → (i : ℕ) (e : Entry) → get_or row i Nothing ≡ e →
    AllByRecursion (λ l. follows l ≡ true) (entry_lines k row i e)
entry_follows k row rr i Nothing h = tt
entry_follows k row rr i (Bid c) h = (line_follows row rr Buyers k i c (ap (on_side Buyers) h), tt)
entry_follows k row rr i (Ask c) h = (line_follows row rr Sellers k i c (ap (on_side Sellers) h), tt)

pub lines_follow : (M : ℕ) (codes : List ℕ) (i n k : ℕ) → AllByRecursion (λ l. follows l ≡ true) (lines_from M codes i n k)
unfolding lines_from
lines_follow M codes i zero k = tt
lines_follow M codes i (suc n) k =
    All-append _ (kind_lines k M codes i) (lines_from M codes i n (suc k))
    (entry_follows k (kind_row M codes k) (codes_ranged (take M (drop (k * M) codes))) i _ refl) (lines_follow M codes i n (suc k))

-- what a member relies on
untraded_cond : (t : Bool) (π : HalfCents) → cond t (Some π) None ≡ None → t ≡ false
untraded_cond true π h = absurd cc
untraded_cond false π h = refl

-- a member's trade in the words of the rule
trades_is : (s : Side) (row : List Entry) (i : ℕ) (c : Cents) → number s row i ≡ Some c →
    trades_on s row i ≡ ltb (rank s own row (standing i c)) (trades_in (outcome own row))
trades_is Buyers row i c h = rw h
trades_is Sellers row i c h = rw h

price_is : (s : Side) (row : List Entry) → price_on s row ≡ price_of s (outcome own row)
price_is Buyers row = refl
price_is Sellers row = refl

by_rule : (s : Side) (row : List Entry) (i : ℕ) (c : Cents) → number s row i ≡ Some c → (p : Option HalfCents) →
    p ≡ traded_at s row i c → ByRule s row i p
by_rule s row i c h p e =
    record {
      traded = λ π f.
          let q = cond_some _ _ π (sym e ∙ f) in
          (trades_is s row i c h ∙ q.0, ap (λ (x : HalfCents). x.0) (sym q.1) ∙ sym (price_is s row));
      not_traded = λ f. trades_is s row i c h ∙ untraded_cond _ _ (sym e ∙ f);
    }

pub price_of_row : (row : List Entry) → RowRanged row → (i : ℕ) (l : Line) → follows l ≡ true → IsOfRow l row i →
    l.price ≡ traded_at l.side row i l.cents
price_of_row row rr i l f o =
    let q = said_of_row row rr l.side i l.cents o.entry in
    cc (price_is_due l f, o.last, o.next, o.tie, q.1)

pub relied : (row : List Entry) → RowRanged row → (i : ℕ) (l : Line) → follows l ≡ true → IsOfRow l row i →
    ByRule l.side row i l.price
relied row rr i l f o = by_rule l.side row i l.cents o.entry l.price (price_of_row row rr i l f o)

-- the first ranks suffice
pair_take : (n k : ℕ) (bs as' : List ℕ) → k < n → pair_at (take n bs) (take n as') k ≡ pair_at bs as' k
pair_take n k bs as' l = cc (get_or-take n bs k 0 l, get_or-take n as' k 0 l)

last_take : (n p : ℕ) (bs as' : List ℕ) → p < n → last_pair (take n bs) (take n as') p ≡ last_pair bs as' p
last_take n zero bs as' l = refl
last_take n (suc k) bs as' l = pair_take n k bs as' (omega arith)

pub first_ranks_suffice : FirstRanksSuffice
first_ranks_suffice bs as' n l =
    let e = (only_the_first bs as' n l).0 in (
      ap (last_pair (take n bs) (take n as')) e ∙ last_take n (pairs bs as') bs as' l,
      ap (pair_at (take n bs) (take n as')) e ∙ pair_take n (pairs bs as') bs as' l,
    )
