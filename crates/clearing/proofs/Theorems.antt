-- The statements, proved.
use Rattle.std.proofs.Common.{◌≡◌, ℕ, ◌*◌, ◌<◌, ◌≤◌, true, false, ltb, ◌⊎◌, List, [], ◌∷◌, set, Some, sym, refl, ap, ◌∙◌, subst, inl, inr, arith}
use Rattle.std.proofs.lemmas.Bool.{lt-ltb, ltb-true, ltb-false, eq-eqb, and_from, or_left, or_right}
use Rattle.orders.specs.declared.money.Cents.{Cents}
use Rattle.orders.specs.declared.entry.Entry.{Entry}
use Rattle.ranking.specs.declared.ranked.Side.{Side}
use Rattle.ranking.specs.declared.ranked.Side.TheVariants.{Buyers, Sellers}
use Rattle.ranking.specs.declared.ranked.Ranked.{Ranked}
use Rattle.ranking.specs.Ranks.{own, insert, on_side, ranked_from, ranked}
use Rattle.clearing.specs.Rule.{cents_of, pairs, cleared, trades_in, price_of}
use Rattle.clearing.specs.Kind.{Apart, bids, asks, outcome, number, standing, rank, trades_with}
use Rattle.clearing.specs.Matching.{Match}
use Rattle.clearing.specs.Evenings.{row_with}
use Rattle.clearing.specs.Statements.{TrueBids, TrueAsks, Promised, PromisedTo, CriticalBid, CriticalAsk, BidMovesNoPrice, AskMovesNoPrice, PaysAtMostBid, GetsAtLeastAsk, Ranks, HigherBidFirst, LowerAskFirst, TieRule, LowerMemberFirst, MoreMayGain, EveningsTold}
use Rattle.clearing.proofs.Sides.{Good}
use Rattle.clearing.proofs.Rows.{entry}
use Rattle.clearing.proofs.OwnNumber.{trading, critical_in_row, true_number, no_loss_with, price_not_own_with}
use Rattle.clearing.proofs.Standing.{member_there, put_back, before_lower_rank, ranks_of}
use Rattle.clearing.proofs.Leftover.{fund_never_pays}

pub critical_bid : CriticalBid
critical_bid tie row a i l = critical_in_row Buyers tie row a i l

pub critical_ask : CriticalAsk
critical_ask tie row a i l = critical_in_row Sellers tie row a i l

pub true_bids : TrueBids
true_bids tie row a i l v w =
    record { best = true_number Buyers tie row a i l v w; no_loss = no_loss_with Buyers tie row a i l v }

pub true_asks : TrueAsks
true_asks tie row a i l v w =
    record { best = true_number Sellers tie row a i l v w; no_loss = no_loss_with Sellers tie row a i l v }

pub bid_moves_no_price : BidMovesNoPrice
bid_moves_no_price tie row a i l v w = price_not_own_with Buyers tie row a i l v w

pub ask_moves_no_price : AskMovesNoPrice
ask_moves_no_price tie row a i l v w = price_not_own_with Sellers tie row a i l v w

-- as the row stands
module _ (s : Side) (tie : ℕ → ℕ) (row : List Entry) (a : Apart tie row) (i : ℕ) (v : Cents) (h : number s row i ≡ Some v) where
  no_loss_of : trading s tie row i ≡ true → Good s (2 * v.0) (price_of s (outcome tie row))
  no_loss_of t =
      subst (λ r. Good s (2 * v.0) (price_of s (outcome tie r))) (put_back s row i v h)
      (no_loss_with s tie row a i (member_there s row i v h) v
      (subst (λ r. trading s tie r i ≡ true) (sym (put_back s row i v h)) t))

  true_number_of : (w : Cents) → trading s tie (set row i (entry s w)) i ≡ true →
      ((trading s tie row i ≡ true) × (price_of s (outcome tie row) ≡ price_of s (outcome tie (set row i (entry s w)))))
      ⊎ ((trading s tie row i ≡ false) × Good s (price_of s (outcome tie (set row i (entry s w)))) (2 * v.0))
  true_number_of w t =
      subst (λ r. ((trading s tie r i ≡ true) × (price_of s (outcome tie r) ≡ price_of s (outcome tie (set row i (entry s w)))))
      ⊎ ((trading s tie r i ≡ false) × Good s (price_of s (outcome tie (set row i (entry s w)))) (2 * v.0)))
      (put_back s row i v h) (true_number s tie row a i (member_there s row i v h) v w t)

  -- who trades, by its rank
  trading_by_rank : trading s tie row i ≡ ltb (rank s tie row (standing i v)) (trades_in (outcome tie row))
  trading_by_rank = ap (trades_with s tie row i) h

  by_rank : (w : Cents) → trading s tie (set row i (entry s w)) i ≡ true →
      ((rank s tie row (standing i v) < trades_in (outcome tie row))
      × (price_of s (outcome tie row) ≡ price_of s (outcome tie (set row i (entry s w)))))
      ⊎ ((trades_in (outcome tie row) ≤ rank s tie row (standing i v))
      × Good s (price_of s (outcome tie (set row i (entry s w)))) (2 * v.0))
  by_rank w t =
      elim (true_number_of w t) [
        | inl u ↦ inl (ltb-true _ _ (sym trading_by_rank ∙ u.0), u.1)
        | inr u ↦ inr (ltb-false _ _ (sym trading_by_rank ∙ u.0), u.1)
      ]

  no_loss_by_rank : rank s tie row (standing i v) < trades_in (outcome tie row) → Good s (2 * v.0) (price_of s (outcome tie row))
  no_loss_by_rank l = no_loss_of (trading_by_rank ∙ lt-ltb _ _ l)

pub pays_at_most_bid : PaysAtMostBid
pays_at_most_bid tie row a i c e = no_loss_of Buyers tie row a i c (ap (on_side Buyers) e)

pub gets_at_least_ask : GetsAtLeastAsk
gets_at_least_ask tie row a i c e = no_loss_of Sellers tie row a i c (ap (on_side Sellers) e)

promised : (tie : ℕ → ℕ) (row : List Entry) → Apart tie row → Promised tie row (outcome tie row)
promised tie row a =
    record {
      best_bid = λ i v w e. by_rank Buyers tie row a i v (ap (on_side Buyers) e) w;
      best_ask = λ i v w e. by_rank Sellers tie row a i v (ap (on_side Sellers) e) w;
      pays_at_most = λ i v e. no_loss_by_rank Buyers tie row a i v (ap (on_side Buyers) e);
      gets_at_least = λ i v e. no_loss_by_rank Sellers tie row a i v (ap (on_side Sellers) e);
      balanced = fund_never_pays (bids tie row) (asks tie row);
    }

pub promised_to : (buying selling : List Ranked) → PromisedTo buying selling (cleared (cents_of buying) (cents_of selling))
promised_to buying selling tie row a eb es =
    subst (Promised tie row)
    (sym (ap (λ l. cleared (cents_of l) (cents_of selling)) eb ∙ ap (λ l. cleared (bids tie row) (cents_of l)) es))
    (promised tie row a)

pub ranks : Ranks
ranks s tie row a = ranks_of s tie row a

pub higher_bid_first : HigherBidFirst
higher_bid_first tie row a i j c d e f l =
    before_lower_rank Buyers tie row a i j c d (ap (on_side Buyers) e) (ap (on_side Buyers) f) (or_left _ _ (lt-ltb _ _ l))

pub lower_ask_first : LowerAskFirst
lower_ask_first tie row a i j c d e f l =
    before_lower_rank Sellers tie row a i j c d (ap (on_side Sellers) e) (ap (on_side Sellers) f) (or_left _ _ (lt-ltb _ _ l))

pub tie_rule : TieRule
tie_rule s tie row a i j c h k l =
    before_lower_rank s tie row a i j c c h k
    (or_right _ _ (and_from _ _ (eq-eqb c.0 c.0 refl) (lt-ltb (tie i) (tie j) l)))

pub lower_member_first : LowerMemberFirst
lower_member_first s row i j c h k l = tie_rule s own row (λ i j _ _ e. e) i j c h k l

pub evenings_told : EveningsTold
unfolding ranked ranked_from insert pairs
evenings_told = refl

pub more_may_gain : MoreMayGain
unfolding ranked ranked_from insert pairs
more_may_gain =
    let row : List Entry = row_with (10 ∷ 4 ∷ []) (3 ∷ 9 ∷ []) in
    let ms : List Match = record { buyer = 0; seller = 3 } ∷ record { buyer = 1; seller = 2 } ∷ [] in (
      row,
      ms,
      record {
        buyers_bid = (refl, (refl, tt));
        sellers_ask = (refl, (refl, tt));
        buyers_once = (((λ e. omega arith), tt), (tt, tt));
        sellers_once = (((λ e. omega arith), tt), (tt, tt));
      },
      (omega arith, (omega arith, tt)),
      omega arith,
    )
