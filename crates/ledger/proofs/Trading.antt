-- One member in one kind: what it pays and gets is by its entry there, and its true number serves it best.
use Rattle.std.proofs.Common.{◌≡◌, ℕ, ◌+◌, ◌-◌, ◌*◌, ◌<◌, ◌≤◌, Bool, true, false, cond, ◌⊎◌, List, length, get_or, set, sym, refl, ap, ◌∙◌, subst, inl, inr, arith}
use Rattle.std.proofs.lemmas.List.{set-get_or, get_or-set_same}
use Rattle.std.proofs.lemmas.Bool.{both_ways}
use Rattle.orders.specs.declared.entry.Entry.{Entry}
use Rattle.orders.specs.declared.entry.Entry.TheVariants.{Nothing, Bid, Ask}
use Rattle.orders.specs.declared.money.Cents.{Cents}
use Rattle.orders.specs.Entries.{bid_in}
use Rattle.orders.specs.Members.{Backed}
use Rattle.ranking.specs.declared.ranked.Side.TheVariants.{Buyers, Sellers}
use Rattle.ranking.specs.Ranks.{own, on_side}
use Rattle.clearing.specs.Kind.{Apart, buys, sells, pays, gets, trades_with}
use Rattle.clearing.proofs.Theorems.{true_bids, true_asks, pays_at_most_bid, gets_at_least_ask}
use Rattle.ledger.specs.Worth.{sort_of, cents_in}

pub apart : (row : List Entry) → Apart own row
apart row i j l k t = t

module _ (row : List Entry) (i : ℕ) where
  -- who has no bid does not buy, and who has no ask does not sell
  nothing_bought : get_or row i Nothing ≡ Nothing → buys own row i ≡ false
  nothing_bought h = ap (λ e. trades_with Buyers own row i (on_side Buyers e)) h

  nothing_sold : get_or row i Nothing ≡ Nothing → sells own row i ≡ false
  nothing_sold h = ap (λ e. trades_with Sellers own row i (on_side Sellers e)) h

  bid_not_sold : (c : Cents) → get_or row i Nothing ≡ Bid c → sells own row i ≡ false
  bid_not_sold c h = ap (λ e. trades_with Sellers own row i (on_side Sellers e)) h

  ask_not_bought : (c : Cents) → get_or row i Nothing ≡ Ask c → buys own row i ≡ false
  ask_not_bought c h = ap (λ e. trades_with Buyers own row i (on_side Buyers e)) h

-- what a trade is to a member: b whether it buys at p, s whether it sells at g
pub record Moves (e : Entry) (b s : Bool) (p g : ℕ) : Type 0 where
  pub covered : cond b p 0 ≤ 2 * bid_in e
  pub no_loss : cond b p 0 + 2 * cents_in e * cond s 1 0 ≤ cond s g 0 + 2 * cents_in e * cond b 1 0
  pub backed : (n : ℕ) → Backed e n → cond s 1 0 ≤ n
  pub counted : (n : ℕ) → Backed e n → n ≤ 255 → (n - cond s 1 0) + cond b 1 0 ≤ 255

none : (b s : Bool) (p g : ℕ) → b ≡ false → s ≡ false → Moves Nothing b s p g
none true s p g x y = absurd (both_ways true x refl)
none false true p g x y = absurd (both_ways true y refl)
none false false p g x y =
    record { covered = omega arith; no_loss = omega arith; backed = λ n h. omega arith; counted = λ n h l. omega arith }

bids : (c : Cents) (b s : Bool) (p g : ℕ) → (b ≡ true → p ≤ 2 * c.0) → s ≡ false → Moves (Bid c) b s p g
bids c b true p g x y = absurd (both_ways true y refl)
bids c true false p g x y =
    let l = x refl in
    record { covered = l; no_loss = omega arith; backed = λ n h. omega arith; counted = λ n h m. omega (arith, h) }
bids c false false p g x y =
    record { covered = omega arith; no_loss = omega arith; backed = λ n h. omega arith; counted = λ n h m. omega arith }

asks : (c : Cents) (b s : Bool) (p g : ℕ) → (s ≡ true → 2 * c.0 ≤ g) → b ≡ false → Moves (Ask c) b s p g
asks c true s p g x y = absurd (both_ways true y refl)
asks c false true p g x y =
    let l = x refl in
    record { covered = omega arith; no_loss = omega arith; backed = λ n h. h; counted = λ n h m. omega arith }
asks c false false p g x y =
    record { covered = omega arith; no_loss = omega arith; backed = λ n h. omega arith; counted = λ n h m. omega arith }

pub moves : (row : List Entry) (i : ℕ) → Moves (get_or row i Nothing) (buys own row i) (sells own row i) (pays own row) (gets own row)
moves row i = go (get_or row i Nothing) refl
  where
    go : (e : Entry) → get_or row i Nothing ≡ e → Moves e (buys own row i) (sells own row i) (pays own row) (gets own row)
    go Nothing h = none _ _ _ _ (nothing_bought row i h) (nothing_sold row i h)
    go (Bid c) h = bids c _ _ _ _ (pays_at_most_bid own row (apart row) i c h) (bid_not_sold row i c h)
    go (Ask c) h = asks c _ _ _ _ (gets_at_least_ask own row (apart row) i c h) (ask_not_bought row i c h)

-- TRUE NUMBERS in one kind. Written as sums, so that nothing is taken from anything: what it got and did not pay, and its
-- berths at its number v, are no less with v than with another number of the same sort.
abbrev pub Better : ℕ → Bool → Bool → ℕ → ℕ → Bool → Bool → ℕ → ℕ → Type 0
Better v b s p g b' s' p' g' =
    cond s' g' 0 + cond b p 0 + (2 * v * cond b' 1 0 + 2 * v * cond s 1 0)
    ≤ cond s g 0 + cond b' p' 0 + (2 * v * cond b 1 0 + 2 * v * cond s' 1 0)

better_bid : (v : ℕ) (b s : Bool) (p g : ℕ) (b' s' : Bool) (p' g' : ℕ) → s ≡ false → s' ≡ false →
    (b' ≡ true → ((b ≡ true) × (p ≡ p')) ⊎ ((b ≡ false) × (2 * v ≤ p'))) → (b ≡ true → p ≤ 2 * v) → Better v b s p g b' s' p' g'
better_bid v b true p g b' s' p' g' x y best l = absurd (both_ways true x refl)
better_bid v b false p g b' true p' g' x y best l = absurd (both_ways true y refl)
better_bid v true false p g true false p' g' x y best l =
    elim (best refl) [ inl e ↦ let z = e.1 in omega arith | inr e ↦ absurd (both_ways true e.0 refl) ]
better_bid v false false p g true false p' g' x y best l =
    elim (best refl) [ inl e ↦ absurd (both_ways false refl e.0) | inr e ↦ let z = e.1 in omega arith ]
better_bid v true false p g false false p' g' x y best l = let z = l refl in omega arith
better_bid v false false p g false false p' g' x y best l = omega arith

better_ask : (v : ℕ) (b s : Bool) (p g : ℕ) (b' s' : Bool) (p' g' : ℕ) → b ≡ false → b' ≡ false →
    (s' ≡ true → ((s ≡ true) × (g ≡ g')) ⊎ ((s ≡ false) × (g' ≤ 2 * v))) → (s ≡ true → 2 * v ≤ g) → Better v b s p g b' s' p' g'
better_ask v true s p g b' s' p' g' x y best l = absurd (both_ways true x refl)
better_ask v false s p g true s' p' g' x y best l = absurd (both_ways true y refl)
better_ask v false true p g false true p' g' x y best l =
    elim (best refl) [ inl e ↦ let z = e.1 in omega arith | inr e ↦ absurd (both_ways true e.0 refl) ]
better_ask v false false p g false true p' g' x y best l =
    elim (best refl) [ inl e ↦ absurd (both_ways false refl e.0) | inr e ↦ let z = e.1 in omega arith ]
better_ask v false true p g false false p' g' x y best l = let z = l refl in omega arith
better_ask v false false p g false false p' g' x y best l = omega arith

-- of two rows that differ in nothing but member i's number
abbrev pub BetterIn : List Entry → List Entry → ℕ → ℕ → Type 0
BetterIn row row' i v =
    Better v (buys own row i) (sells own row i) (pays own row) (gets own row)
    (buys own row' i) (sells own row' i) (pays own row') (gets own row')

module _ (row : List Entry) (i : ℕ) (l : i < length row) where
  same_row : (e : Entry) → get_or row i Nothing ≡ e → set row i e ≡ row
  same_row e h = ap (set row i) (sym h) ∙ set-get_or row i Nothing

  in_set : (e : Entry) → get_or (set row i e) i Nothing ≡ e
  in_set e = get_or-set_same row i e Nothing l

  true_bid : (v w : Cents) → get_or row i Nothing ≡ Bid v → BetterIn row (set row i (Bid w)) i v.0
  true_bid v w h =
      let t = true_bids own row (apart row) i l v w in
      let s : set row i (Bid v) ≡ row = same_row (Bid v) h in
      subst (λ r. BetterIn r (set row i (Bid w)) i v.0) s
      (better_bid v.0 _ _ _ _ _ _ _ _ (bid_not_sold (set row i (Bid v)) i v (in_set (Bid v)))
      (bid_not_sold (set row i (Bid w)) i w (in_set (Bid w))) t.best t.no_loss)

  true_ask : (v w : Cents) → get_or row i Nothing ≡ Ask v → BetterIn row (set row i (Ask w)) i v.0
  true_ask v w h =
      let t = true_asks own row (apart row) i l v w in
      let s : set row i (Ask v) ≡ row = same_row (Ask v) h in
      subst (λ r. BetterIn r (set row i (Ask w)) i v.0) s
      (better_ask v.0 _ _ _ _ _ _ _ _ (ask_not_bought (set row i (Ask v)) i v (in_set (Ask v)))
      (ask_not_bought (set row i (Ask w)) i w (in_set (Ask w))) t.best t.no_loss)

  no_better : (v : ℕ) → BetterIn row row i v
  no_better v = omega arith

  pub true_number : (f : Entry) → sort_of (get_or row i Nothing) ≡ sort_of f → BetterIn row (set row i f) i (cents_in (get_or row i Nothing))
  true_number f same = go (get_or row i Nothing) f refl same
    where
      go : (e d : Entry) → get_or row i Nothing ≡ e → sort_of e ≡ sort_of d → BetterIn row (set row i d) i (cents_in e)
      go Nothing Nothing h s = subst (λ r. BetterIn row r i 0) (sym (same_row Nothing h)) (no_better 0)
      go (Bid v) (Bid w) h s = true_bid v w h
      go (Ask v) (Ask w) h s = true_ask v w h
      go Nothing (Bid w) h s = absurd (omega arith)
      go Nothing (Ask w) h s = absurd (omega arith)
      go (Bid v) Nothing h s = absurd (omega arith)
      go (Bid v) (Ask w) h s = absurd (omega arith)
      go (Ask v) Nothing h s = absurd (omega arith)
      go (Ask v) (Bid w) h s = absurd (omega arith)

pub not_both : (row : List Entry) (i : ℕ) → buys own row i ≡ true → sells own row i ≡ true → ⊥
not_both row i b s = go (get_or row i Nothing) refl
  where
    go : (e : Entry) → get_or row i Nothing ≡ e → ⊥
    go Nothing h = both_ways (buys own row i) (nothing_bought row i h) b
    go (Bid c) h = both_ways (sells own row i) (bid_not_sold row i c h) s
    go (Ask c) h = both_ways (buys own row i) (ask_not_bought row i c h) b

-- who buys has room to count one berth more
pub room_to_buy : (row : List Entry) (i n : ℕ) → buys own row i ≡ true → Backed (get_or row i Nothing) n → n < 255
room_to_buy row i n b h = go (get_or row i Nothing) refl h
  where
    go : (e : Entry) → get_or row i Nothing ≡ e → Backed e n → n < 255
    go Nothing f g = absurd (both_ways (buys own row i) (nothing_bought row i f) b)
    go (Bid c) f g = g
    go (Ask c) f g = absurd (both_ways (buys own row i) (ask_not_bought row i c f) b)
