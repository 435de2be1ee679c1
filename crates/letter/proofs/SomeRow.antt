-- A line that follows is the line of a member in some row of entries: own numbers first, in the order of ranks, and then the
-- other side's.
use Rattle.std.proofs.Common.{◌≡◌, ℕ, zero, suc, ◌+◌, ◌<◌, ◌≤◌, true, ◌⊎◌, List, [], ◌∷◌, ◌++◌, length, get_or, Some, None, sym, refl, ap, ◌∙◌, subst, inl, inr, zero-add, arith}
use Rattle.std.proofs.ByRecursion.{All-get_or}
use Rattle.std.proofs.lemmas.List.{append-nil}
use Rattle.std.proofs.lemmas.Bool.{cases_lt, cases_order, and_parts, or_cases, not-true, eqb-true, eqb-false, cond-true}
use Rattle.std.proofs.lemmas.Bool.Decides.{nat_tests}
use Rattle.orders.specs.declared.money.Cents.{Cents}
use Rattle.orders.specs.declared.entry.Entry.{Entry}
use Rattle.orders.specs.declared.entry.Entry.TheVariants.{Nothing}
use Rattle.orders.specs.Range.{in_range}
use Rattle.ranking.specs.declared.ranked.Side.{Side}
use Rattle.ranking.specs.declared.ranked.Side.TheVariants.{Buyers, Sellers}
use Rattle.ranking.specs.declared.ranked.Ranked.{Ranked}
use Rattle.ranking.specs.Ranks.{own, before, insert, on_side, entered, ranked_from, ranked}
use Rattle.clearing.specs.Rule.{cents_of, at_rank, pairs}
use Rattle.clearing.specs.Kind.{number, standing, rank, pairs_in, bids, asks}
use Rattle.clearing.proofs.Sides.{other, Good, good_refl, good_same, good_trans}
use Rattle.clearing.proofs.Critical.{Pairs}
use Rattle.clearing.proofs.Settling.{bids_of, asks_of, pairs_are}
use Rattle.clearing.proofs.Rows.{InRow, ranked_in_row, entry, stands}
use Rattle.clearing.proofs.Standing.{rank_at}
use Rattle.letter.specs.declared.line.Line.{Line}
use Rattle.letter.specs.declared.line.Pair.{Pair}
use Rattle.letter.specs.declared.tie.Tie.{Tie}
use Rattle.letter.specs.declared.tie.Tie.TheVariants.{NoTie, Before, At, After}
use Rattle.letter.specs.Following.{of_side, possible, ahead, behind, tie_holds, follows}
use Rattle.letter.specs.Letters.{pair_at, last_pair, last_of, next_of, tie_word, tie_of}
use Rattle.letter.specs.Statements.{RowRanged, IsOfRow, OfSomeRow, PossibleLines}
use Rattle.letter.proofs.Bounds.{stands_well, same_line}
use Rattle.letter.proofs.Positions.{least, sided, AfterIt, NoPair, OrNone, no_tie, tied}
use Rattle.letter.proofs.Beside.{nobody, own_apart}
use Rattle.letter.proofs.Told.{Ranged, last_by, next_by}
use Rattle.letter.proofs.Evenings.{line_follows, price_of_row, last_buyers, last_sellers}

-- ROWS WITH KNOWN RANKS

-- each is no worse than the next
abbrev Chain : Side → List ℕ → Type 0
Chain s [] = Unit {0}
Chain s (x ∷ []) = Unit {0}
Chain s (x ∷ y ∷ xs) = Good s x y × Chain s (y ∷ xs)

abbrev stand : Side → List ℕ → List Entry
stand s [] = []
stand s (x ∷ xs) = entry s (record { 0 = x }) ∷ stand s xs

abbrev numbered : ℕ → List ℕ → List Ranked
numbered m [] = []
numbered m (x ∷ xs) = standing m (record { 0 = x }) ∷ numbered (suc m) xs

cents_numbered : (m : ℕ) (xs : List ℕ) → cents_of (numbered m xs) ≡ xs
cents_numbered m [] = refl
cents_numbered m (x ∷ xs) = ap (λ r. x ∷ r) (cents_numbered (suc m) xs)

not_there : (s : Side) (x : ℕ) → on_side s (entry (other s) (record { 0 = x })) ≡ None
not_there Buyers x = refl
not_there Sellers x = refl

not_here : (s : Side) (x : ℕ) → on_side (other s) (entry s (record { 0 = x })) ≡ None
not_here Buyers x = refl
not_here Sellers x = refl

comes_first : (s : Side) (m x y : ℕ) → Good s x y → before s own (standing m (record { 0 = x })) (standing (suc m) (record { 0 = y })) ≡ true
comes_first Buyers m x y g = grind (arith, nat_tests)
comes_first Sellers m x y g = grind (arith, nat_tests)

in_front : (s : Side) (m x : ℕ) (xs : List ℕ) → Chain s (x ∷ xs) →
    insert s own (standing m (record { 0 = x })) (numbered (suc m) xs) ≡ numbered m (x ∷ xs)
unfolding insert
in_front s m x [] c = refl
in_front s m x (y ∷ xs) c = cond-true _ _ _ (comes_first s m x y c.0)

chain_tail : (s : Side) (x : ℕ) (xs : List ℕ) → Chain s (x ∷ xs) → Chain s xs
chain_tail s x [] c = tt
chain_tail s x (y ∷ xs) c = c.1

nobody_else : (s : Side) (m : ℕ) (ys : List ℕ) → ranked_from s own m (stand (other s) ys) ≡ []
unfolding ranked_from
nobody_else s m [] = refl
nobody_else s m (y ∷ ys) =
    ap (λ o. entered s own m o (ranked_from s own (suc m) (stand (other s) ys))) (not_there s y) ∙ nobody_else s (suc m) ys

ranked_own : (s : Side) (m : ℕ) (xs : List ℕ) (rest : List Entry) → Chain s xs → ((n : ℕ) → ranked_from s own n rest ≡ []) →
    ranked_from s own m (stand s xs ++ rest) ≡ numbered m xs
unfolding ranked_from
ranked_own s m [] rest c h = h m
ranked_own s m (x ∷ xs) rest c h =
    ap (λ o. entered s own m o (ranked_from s own (suc m) (stand s xs ++ rest))) (stands s (record { 0 = x }))
    ∙ ap (insert s own (standing m (record { 0 = x }))) (ranked_own s (suc m) xs rest (chain_tail s x xs c) h)
    ∙ in_front s m x xs c

nobody_at_all : (s : Side) (n : ℕ) → ranked_from s own n [] ≡ []
unfolding ranked_from
nobody_at_all s n = refl

ranked_others : (s : Side) (m : ℕ) (xs ys : List ℕ) → Chain (other s) ys →
    ranked_from (other s) own m (stand s xs ++ stand (other s) ys) ≡ numbered (m + length xs) ys
unfolding ranked_from
ranked_others s m [] ys c =
    ap (ranked_from (other s) own m) (sym (append-nil (stand (other s) ys)))
    ∙ ranked_own (other s) m ys [] c (nobody_at_all (other s))
    ∙ ap (λ n. numbered n ys) (omega arith)
ranked_others s m (x ∷ xs) ys c =
    ap (λ o. entered (other s) own m o (ranked_from (other s) own (suc m) (stand s xs ++ stand (other s) ys))) (not_here s x)
    ∙ ranked_others s (suc m) xs ys c
    ∙ ap (λ n. numbered n ys) (omega arith)

-- the number of pairs is one
one_count : (s : Side) (xs ys : List ℕ) (p q : ℕ) → Pairs s xs ys p → Pairs s xs ys q → p ≡ q
one_count s xs ys p q a b =
    elim (cases_order p q) [
      | inl e ↦ e
      | inr o ↦ elim o [
        | inl l ↦ absurd (a.stop (omega (arith, b.own)) (omega (arith, b.other)) (b.pair p l))
        | inr l ↦ absurd (b.stop (omega (arith, a.own)) (omega (arith, a.other)) (a.pair q l))
      ]
    ]

-- what a row has to be
record Witness (s : Side) (c L P N Q : ℕ) (w : Tie) : Type 0 where
  xs : List ℕ
  ys : List ℕ
  j : ℕ
  p : ℕ
  own_chain : Chain s xs
  other_chain : Chain (other s) ys
  own_ranged : Ranged xs
  other_ranged : Ranged ys
  there : j < length xs
  mine : at_rank xs j ≡ c
  paired : Pairs s xs ys p
  last : last_by s xs ys p ≡ sided s L P
  next : next_by s xs ys p ≡ sided s N Q
  tie : tie_word c j L p ≡ w

at_numbered : (m : ℕ) (xs : List ℕ) (j : ℕ) → j < length xs → get_or (numbered m xs) j nobody ≡ standing (m + j) (record { 0 = at_rank xs j })
at_numbered m [] j l = absurd (omega arith)
at_numbered m (x ∷ xs) zero l = ap (λ n. standing n (record { 0 = x })) (omega arith)
at_numbered m (x ∷ xs) (suc j) l =
    at_numbered (suc m) xs j (omega arith) ∙ ap (λ n. standing n (record { 0 = at_rank xs j })) (omega arith)

length_numbered : (m : ℕ) (xs : List ℕ) → length (numbered m xs) ≡ length xs
length_numbered m [] = refl
length_numbered m (x ∷ xs) = ap suc (length_numbered (suc m) xs)

-- entries that stand on a side with a number in range
stand_ranged : (s : Side) (xs : List ℕ) → Ranged xs → (t : Side) (i : ℕ) (c : Cents) → number t (stand s xs) i ≡ Some c → in_range c.0 ≡ true
stand_ranged s [] r t i c h = absurd (nothing_there t c h)
  where
    nothing_there : (t : Side) (c : Cents) → on_side t Nothing ≡ Some c → ⊥
    nothing_there Buyers c h = cc
    nothing_there Sellers c h = cc
stand_ranged s (x ∷ xs) r t zero c h = ap (λ (y : Cents). in_range y.0) (sym (own_number s t x c h)) ∙ r 0 (omega arith)
  where
    own_number : (s t : Side) (x : ℕ) (c : Cents) → on_side t (entry s (record { 0 = x })) ≡ Some c → record { 0 = x } ≡ c
    own_number Buyers Buyers x c h = cc
    own_number Buyers Sellers x c h = absurd cc
    own_number Sellers Buyers x c h = absurd cc
    own_number Sellers Sellers x c h = cc
stand_ranged s (x ∷ xs) r t (suc i) c h = stand_ranged s xs (λ k l. r (suc k) (omega arith)) t i c h

both_ranged : (s : Side) (xs ys : List ℕ) → Ranged xs → Ranged ys → RowRanged (stand s xs ++ stand (other s) ys)
both_ranged s [] ys a b t i c h = stand_ranged (other s) ys b t i c h
both_ranged s (x ∷ xs) ys a b t zero c h = stand_ranged s (x ∷ []) (λ k l. a_first k l) t 0 c h
  where
    a_first : (k : ℕ) → k < 1 → in_range (at_rank (x ∷ []) k) ≡ true
    a_first zero l = a 0 (omega arith)
    a_first (suc k) l = absurd (omega arith)
both_ranged s (x ∷ xs) ys a b t (suc i) c h = both_ranged s xs ys (λ k l. a (suc k) (omega arith)) b t i c h

sided_of : (s : Side) (p : Pair) → sided s (of_side s p) (of_side (other s) p) ≡ p
sided_of Buyers p = refl
sided_of Sellers p = refl

bids_of_row : (s : Side) (row : List Entry) (xs ys : List ℕ) → cents_of (ranked s own row) ≡ xs → cents_of (ranked (other s) own row) ≡ ys →
    (bids own row ≡ bids_of s xs ys) × (asks own row ≡ asks_of s xs ys)
bids_of_row Buyers row xs ys e f = (e, f)
bids_of_row Sellers row xs ys e f = (f, e)

last_sided : (s : Side) (xs ys : List ℕ) (p : ℕ) → last_pair (bids_of s xs ys) (asks_of s xs ys) p ≡ last_by s xs ys p
last_sided Buyers xs ys p = sym (last_buyers xs ys p)
last_sided Sellers xs ys p = sym (last_sellers ys xs p)

next_sided : (s : Side) (xs ys : List ℕ) (p : ℕ) → pair_at (bids_of s xs ys) (asks_of s xs ys) p ≡ next_by s xs ys p
next_sided Buyers xs ys p = refl
next_sided Sellers xs ys p = refl

module _ (l : Line) (f : follows l ≡ true) where
  abbrev s : Side
  s = l.side

  module _ (w : Witness s l.cents.0 (of_side s l.last) (of_side (other s) l.last) (of_side s l.next) (of_side (other s) l.next) l.tie) where
    abbrev row : List Entry
    row = stand s w.xs ++ stand (other s) w.ys

    own_list : ranked s own row ≡ numbered 0 w.xs
    unfolding ranked
    own_list = ranked_own s 0 w.xs (stand (other s) w.ys) w.own_chain (λ n. nobody_else s n w.ys)

    others_list : ranked (other s) own row ≡ numbered (0 + length w.xs) w.ys
    unfolding ranked
    others_list = ranked_others s 0 w.xs w.ys w.other_chain

    sides : (bids own row ≡ bids_of s w.xs w.ys) × (asks own row ≡ asks_of s w.xs w.ys)
    sides =
        bids_of_row s row w.xs w.ys (ap cents_of own_list ∙ cents_numbered 0 w.xs)
        (ap cents_of others_list ∙ cents_numbered _ w.ys)

    count : pairs_in own row ≡ w.p
    count =
        ap (λ b. pairs b (asks own row)) sides.0 ∙ ap (pairs (bids_of s w.xs w.ys)) sides.1
        ∙ one_count s w.xs w.ys _ _ (pairs_are s w.xs w.ys) w.paired

    last_is : last_of row ≡ l.last
    last_is = cc (count, sides.0, sides.1, last_sided s w.xs w.ys w.p, w.last, sided_of s l.last)

    next_is : next_of row ≡ l.next
    next_is = cc (count, sides.0, sides.1, next_sided s w.xs w.ys w.p, w.next, sided_of s l.next)

    mine_is : get_or (ranked s own row) w.j nobody ≡ standing w.j l.cents
    mine_is =
        ap (λ r. get_or r w.j nobody) own_list
        ∙ at_numbered 0 w.xs w.j w.there
        ∙ ap (λ n. standing n (record { 0 = at_rank w.xs w.j })) (zero-add w.j)
        ∙ ap (λ n. standing w.j (record { 0 = n })) w.mine

    in_list : w.j < length (ranked s own row)
    in_list = omega (arith, ap length own_list, length_numbered 0 w.xs, w.there)

    entry_is : number s row w.j ≡ Some l.cents
    entry_is =
        subst (λ y. number s row y.member ≡ Some y.cents) mine_is
        (All-get_or (InRow s row) (ranked s own row) w.j nobody in_list (ranked_in_row s own row)).1

    place_is : rank s own row (standing w.j l.cents) ≡ w.j
    place_is = ap (rank s own row) (sym mine_is) ∙ rank_at s own row (own_apart row) w.j nobody in_list

    tie_is : tie_of s row w.j l.cents ≡ l.tie
    tie_is = cc (place_is, last_is, count, w.tie)

    of_row : IsOfRow l row w.j
    of_row = record { entry = entry_is; last = sym last_is; next = sym next_is; tie = sym tie_is }

    some_row : OfSomeRow l
    some_row =
        let rr = both_ranged s w.xs w.ys w.own_ranged w.other_ranged in
        record {
          row = row;
          ranged = rr;
          member = w.j;
          entry = entry_is;
          line = same_line l.kind s l.cents (sym (price_of_row row rr w.j l f of_row)) last_is next_is tie_is;
        }

-- FROM WHAT FOLLOWS TO A ROW

-- a number, if it is there
abbrev if_there : ℕ → List ℕ
if_there zero = []
if_there (suc n) = suc n ∷ []

at_if_there : (n : ℕ) → at_rank (if_there n) 0 ≡ n
at_if_there zero = refl
at_if_there (suc n) = refl

length_if_there : (n : ℕ) → 0 < length (if_there n) → 1 ≤ n
length_if_there zero h = absurd (omega arith)
length_if_there (suc n) h = omega arith

chain_if_there : (s : Side) (x n : ℕ) → AfterIt s x n → Chain s (x ∷ if_there n)
chain_if_there s x zero h = tt
chain_if_there s x (suc n) (inl e) = absurd (omega arith)
chain_if_there s x (suc n) (inr h) = (h.1, tt)

ranged_none : Ranged []
ranged_none k l = absurd (omega arith)

ranged_more : (x : ℕ) (xs : List ℕ) → in_range x ≡ true → Ranged xs → Ranged (x ∷ xs)
ranged_more x xs h r zero l = h
ranged_more x xs h r (suc k) l = r k (omega arith)

ranged_if_there : (n : ℕ) → OrNone n → Ranged (if_there n)
ranged_if_there zero h = ranged_none
ranged_if_there (suc n) (inl e) = absurd (omega arith)
ranged_if_there (suc n) (inr h) = ranged_more (suc n) [] h ranged_none

-- the numbers that a line may have, as facts
record Numbers (s : Side) (L P N Q : ℕ) : Type 0 where
  own_next : OrNone N
  other_next : OrNone Q
  no_pair : NoPair s N Q

record Last (s : Side) (L P N Q : ℕ) : Type 0 where
  own : in_range L ≡ true
  other_own : in_range P ≡ true
  meet : Good s L P
  own_after : AfterIt s L N
  other_after : AfterIt (other s) P Q

number_cases : (n : ℕ) → (n ≡ 0) ⊎ (1 ≤ n)
number_cases n = elim (cases_lt 0 n) [ inl l ↦ inr l | inr l ↦ inl (omega arith) ]

next_in_range : (s : Side) (L P N Q : ℕ) → possible (sided s L P) (sided s N Q) ≡ true → 1 ≤ N → in_range N ≡ true
next_in_range Buyers L P N Q h n = grind (arith, nat_tests)
next_in_range Sellers L P N Q h n = grind (arith, nat_tests)

next_after : (s : Side) (L P N Q : ℕ) → possible (sided s L P) (sided s N Q) ≡ true → 1 ≤ L → 1 ≤ N → Good s L N
next_after Buyers L P N Q h l n = grind (arith, nat_tests)
next_after Sellers L P N Q h l n = grind (arith, nat_tests)

no_last : (s : Side) (L P N Q : ℕ) → possible (sided s L P) (sided s N Q) ≡ true → L ≡ 0 → P ≡ 0
no_last Buyers L P N Q h e = grind (arith, nat_tests)
no_last Sellers L P N Q h e = grind (arith, nat_tests)

numbers : (s : Side) (L P N Q : ℕ) → possible (sided s L P) (sided s N Q) ≡ true → Numbers s L P N Q
numbers Buyers L P N Q h = record { own_next = grind (arith, nat_tests); other_next = grind (arith, nat_tests); no_pair = grind (arith, nat_tests) }
numbers Sellers L P N Q h = record { own_next = grind (arith, nat_tests); other_next = grind (arith, nat_tests); no_pair = grind (arith, nat_tests) }

last_facts : (s : Side) (L P N Q : ℕ) → possible (sided s L P) (sided s N Q) ≡ true → 1 ≤ L → Last s L P N Q
last_facts Buyers L P N Q h l = record { own = grind (arith, nat_tests); other_own = grind (arith, nat_tests); meet = grind (arith, nat_tests); own_after = grind (arith, nat_tests); other_after = grind (arith, nat_tests) }
last_facts Sellers L P N Q h l = record { own = grind (arith, nat_tests); other_own = grind (arith, nat_tests); meet = grind (arith, nat_tests); own_after = grind (arith, nat_tests); other_after = grind (arith, nat_tests) }

stops : (s : Side) (N Q a b : ℕ) → a ≡ N → b ≡ Q → NoPair s N Q → 1 ≤ N → 1 ≤ Q → Good s a b → ⊥
stops s N Q a b e f (inl z) n q g = omega arith
stops s N Q a b e f (inr (inl z)) n q g = omega arith
stops Buyers N Q a b e f (inr (inr z)) n q g = omega arith
stops Sellers N Q a b e f (inr (inr z)) n q g = omega arith

sided_same : (s : Side) (x x' y y' : ℕ) → x ≡ x' → y ≡ y' → sided s x y ≡ sided s x' y'
sided_same s x x' y y' e f = ap (λ n. sided s n y) e ∙ ap (sided s x') f

module _ (s : Side) (c L P N Q : ℕ) (hc : in_range c ≡ true) (nums : Numbers s L P N Q) where
  -- before the last pair: with one more pair
  ahead_row : (w : Tie) → Last s L P N Q → Good s c L → tie_word c 0 L 2 ≡ w → Witness s c L P N Q w
  ahead_row w a g t =
      record {
        xs = c ∷ L ∷ if_there N;
        ys = P ∷ P ∷ if_there Q;
        j = 0;
        p = 2;
        own_chain = (g, chain_if_there s L N a.own_after);
        other_chain = (good_refl (other s) P, chain_if_there (other s) P Q a.other_after);
        own_ranged = ranged_more c (L ∷ if_there N) hc (ranged_more L (if_there N) a.own (ranged_if_there N nums.own_next));
        other_ranged = ranged_more P (P ∷ if_there Q) a.other_own (ranged_more P (if_there Q) a.other_own (ranged_if_there Q nums.other_next));
        there = omega arith;
        mine = refl;
        paired = record {
          own = omega arith;
          other = omega arith;
          pair = two_pairs;
          stop = λ l m h.
              stops s N Q _ _ (at_if_there N) (at_if_there Q) nums.no_pair (length_if_there N (omega arith))
              (length_if_there Q (omega arith)) h;
        };
        last = refl;
        next = sided_same s _ _ _ _ (at_if_there N) (at_if_there Q);
        tie = t;
      }
    where
      two_pairs : (k : ℕ) → k < 2 → Good s (at_rank (c ∷ L ∷ if_there N) k) (at_rank (P ∷ P ∷ if_there Q) k)
      two_pairs zero l = good_trans s c L P g a.meet
      two_pairs (suc zero) l = a.meet
      two_pairs (suc (suc k)) l = absurd (omega arith)

  -- in the last pair
  at_row : (w : Tie) → Last s L P N Q → c ≡ L → tie_word c 0 L 1 ≡ w → Witness s c L P N Q w
  at_row w a e t =
      record {
        xs = c ∷ if_there N;
        ys = P ∷ if_there Q;
        j = 0;
        p = 1;
        own_chain = chain_if_there s c N (subst (λ x. AfterIt s x N) (sym e) a.own_after);
        other_chain = chain_if_there (other s) P Q a.other_after;
        own_ranged = ranged_more c (if_there N) hc (ranged_if_there N nums.own_next);
        other_ranged = ranged_more P (if_there Q) a.other_own (ranged_if_there Q nums.other_next);
        there = omega arith;
        mine = refl;
        paired = record {
          own = omega arith;
          other = omega arith;
          pair = one_pair;
          stop = λ l m h.
              stops s N Q _ _ (at_if_there N) (at_if_there Q) nums.no_pair (length_if_there N (omega arith))
              (length_if_there Q (omega arith)) h;
        };
        last = sided_same s _ _ _ _ e refl;
        next = sided_same s _ _ _ _ (at_if_there N) (at_if_there Q);
        tie = t;
      }
    where
      one_pair : (k : ℕ) → k < 1 → Good s (at_rank (c ∷ if_there N) k) (at_rank (P ∷ if_there Q) k)
      one_pair zero l = subst (λ x. Good s x P) (sym e) a.meet
      one_pair (suc k) l = absurd (omega arith)

  -- after the last pair
  behind_row : (w : Tie) → Last s L P N Q → 1 ≤ N → Good s L N → Good s N c → in_range N ≡ true → tie_word c 2 L 1 ≡ w →
      Witness s c L P N Q w
  behind_row w a n g h hn t =
      record {
        xs = L ∷ N ∷ c ∷ [];
        ys = P ∷ if_there Q;
        j = 2;
        p = 1;
        own_chain = (g, (h, tt));
        other_chain = chain_if_there (other s) P Q a.other_after;
        own_ranged = ranged_more L (N ∷ c ∷ []) a.own (ranged_more N (c ∷ []) hn (ranged_more c [] hc ranged_none));
        other_ranged = ranged_more P (if_there Q) a.other_own (ranged_if_there Q nums.other_next);
        there = omega arith;
        mine = refl;
        paired = record {
          own = omega arith;
          other = omega arith;
          pair = one_pair;
          stop = λ l m x. stops s N Q _ _ refl (at_if_there Q) nums.no_pair n (length_if_there Q (omega arith)) x;
        };
        last = refl;
        next = sided_same s _ _ _ _ refl (at_if_there Q);
        tie = t;
      }
    where
      one_pair : (k : ℕ) → k < 1 → Good s (at_rank (L ∷ N ∷ c ∷ []) k) (at_rank (P ∷ if_there Q) k)
      one_pair zero l = a.meet
      one_pair (suc k) l = absurd (omega arith)

  -- without a pair
  alone_row : (w : Tie) → L ≡ 0 → P ≡ 0 → 1 ≤ N → Good s N c → in_range N ≡ true → tie_word c 1 L 0 ≡ w → Witness s c L P N Q w
  alone_row w e f n h hn t =
      record {
        xs = N ∷ c ∷ [];
        ys = if_there Q;
        j = 1;
        p = 0;
        own_chain = (h, tt);
        other_chain = alone_chain Q;
        own_ranged = ranged_more N (c ∷ []) hn (ranged_more c [] hc ranged_none);
        other_ranged = ranged_if_there Q nums.other_next;
        there = omega arith;
        mine = refl;
        paired = record {
          own = omega arith;
          other = omega arith;
          pair = λ k l. absurd (omega arith);
          stop = λ l m x. stops s N Q _ _ refl (at_if_there Q) nums.no_pair n (length_if_there Q m) x;
        };
        last = sided_same s _ _ _ _ (sym e) (sym f);
        next = sided_same s _ _ _ _ refl (at_if_there Q);
        tie = t;
      }
    where
      alone_chain : (q : ℕ) → Chain (other s) (if_there q)
      alone_chain zero = tt
      alone_chain (suc q) = tt

-- where a member stands by its word on a tie
module _ (s : Side) (c L P N Q : ℕ) where
  ahead_good : (s : Side) → ahead s c (sided s L P) ≡ true → (1 ≤ L) × Good s c L
  ahead_good Buyers h = (grind (arith, nat_tests), grind (arith, nat_tests))
  ahead_good Sellers h = (grind (arith, nat_tests), grind (arith, nat_tests))

  behind_good : (s : Side) → behind s c (sided s N Q) ≡ true → (1 ≤ N) × Good s N c
  behind_good Buyers h = (grind (arith, nat_tests), grind (arith, nat_tests))
  behind_good Sellers h = (grind (arith, nat_tests), grind (arith, nat_tests))

  own_in : (s : Side) → of_side s (sided s L P) ≡ L
  own_in Buyers = refl
  own_in Sellers = refl

  witness : (w : Tie) → in_range c ≡ true → possible (sided s L P) (sided s N Q) ≡ true →
      tie_holds s c (sided s L P) (sided s N Q) w ≡ true → Witness s c L P N Q w
  witness NoTie hc hp ht =
      let t = and_parts _ _ ht in
      let d : c ≡ L → ⊥ = λ e. eqb-false c (of_side s (sided s L P)) (not-true _ t.0) (e ∙ sym (own_in s)) in
      let nums = numbers s L P N Q hp in
      elim (or_cases _ _ t.1) [
        | inl a ↦
            let g = ahead_good s a in
            ahead_row s c L P N Q hc nums NoTie (last_facts s L P N Q hp g.0) g.1 (no_tie c 0 L 2 d)
        | inr b ↦
            let g = behind_good s b in
            let hn = next_in_range s L P N Q hp g.0 in
            elim (number_cases L) [
              | inl e ↦ alone_row s c L P N Q hc nums NoTie e (no_last s L P N Q hp e) g.0 g.1 hn (no_tie c 1 L 0 d)
              | inr l ↦
                  behind_row s c L P N Q hc nums NoTie (last_facts s L P N Q hp l) g.0 (next_after s L P N Q hp l g.0) g.1 hn
                  (no_tie c 2 L 1 d)
            ]
      ]
  witness Before hc hp ht =
      let e : c ≡ L = eqb-true _ _ ht ∙ own_in s in
      ahead_row s c L P N Q hc (numbers s L P N Q hp) Before (last_facts s L P N Q hp (omega (arith, least c hc))) (good_same s c c c L (good_refl s c) refl e)
      (tied c 0 L 2 e)
  witness At hc hp ht =
      let e : c ≡ L = eqb-true _ _ ht ∙ own_in s in
      at_row s c L P N Q hc (numbers s L P N Q hp) At (last_facts s L P N Q hp (omega (arith, least c hc))) e (tied c 0 L 1 e)
  witness After hc hp ht =
      let t = and_parts _ _ ht in
      let e : c ≡ L = eqb-true _ _ t.0 ∙ own_in s in
      let g = behind_good s t.1 in
      let l : 1 ≤ L = omega (arith, least c hc) in
      behind_row s c L P N Q hc (numbers s L P N Q hp) After (last_facts s L P N Q hp l) g.0 (next_after s L P N Q hp l g.0) g.1
      (next_in_range s L P N Q hp g.0) (tied c 2 L 1 e)

row_of_line : (l : Line) → follows l ≡ true → OfSomeRow l
row_of_line l f =
    let s = l.side in
    let h = and_parts _ _ (stands_well l f) in
    let k = and_parts _ _ h.1 in
    some_row l f
    (witness s l.cents.0 (of_side s l.last) (of_side (other s) l.last) (of_side s l.next) (of_side (other s) l.next) l.tie
    h.0
    (ap (λ x. possible x (sided s (of_side s l.next) (of_side (other s) l.next))) (sided_of s l.last)
    ∙ ap (possible l.last) (sided_of s l.next) ∙ k.0)
    (ap (λ x. tie_holds s l.cents.0 x (sided s (of_side s l.next) (of_side (other s) l.next)) l.tie) (sided_of s l.last)
    ∙ ap (λ x. tie_holds s l.cents.0 l.last x l.tie) (sided_of s l.next) ∙ k.1))

pub possible_lines : PossibleLines
possible_lines l = (
  row_of_line l,
  λ r. ap follows (sym r.line) ∙ line_follows r.row r.ranged l.side l.kind r.member l.cents r.entry,
)
