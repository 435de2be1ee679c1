-- The ranked lists of a row in which one member's entry is another.
use Rattle.std.proofs.Common.{◌≡◌, ℕ, ◌<◌, Bool, true, false, cond, not, ◌&&◌, ◌||◌, eqb, ltb, List, [], ◌∷◌, length, get_or, set, Some, None, Option, sym, refl, ap, ◌∙◌, arith}
use Rattle.std.proofs.ByRecursion.{All-weaker}
use Rattle.std.proofs.lemmas.List.{set-get_or, get_or-set_same, length-set}
use Rattle.std.proofs.lemmas.Bool.{eq-eqb, ne_eqb, or_parts, or_from, lt-ltb}
use Rattle.std.specs.List.{AllByRecursion}
use Rattle.orders.specs.declared.entry.Entry.{Entry}
use Rattle.orders.specs.declared.entry.Entry.TheVariants.{Nothing, Bid, Ask}
use Rattle.orders.specs.declared.money.Cents.{Cents}
use Rattle.ranking.specs.Indexes.{Index}
use Rattle.ranking.specs.declared.ranked.Side.{Side}
use Rattle.ranking.specs.declared.ranked.Side.TheVariants.{Buyers, Sellers}
use Rattle.ranking.specs.declared.ranked.Ranked.{Ranked}
use Rattle.ranking.specs.Indexes.{kind_list, kind_members}
use Rattle.ranking.specs.Lists.{has, less}
use Rattle.ranking.specs.Ranks.{before, insert, entered, on_side, own, ranked, side_of}
use Rattle.ranking.specs.Sides.{opposite}
use Rattle.clearing.specs.Kind.{Apart, number}
use Rattle.clearing.proofs.Rows.{InRow, ranked_in_row, ranked_set}
use Rattle.ledger.specs.Indexed.{Lists}

-- no two members have one number
own_apart : (row : List Entry) → Apart own row
own_apart row i j _ _ e = e

-- a list in which no member is m
has_none : (m : ℕ) (xs : List Ranked) → AllByRecursion (λ x. x.member ≡ m → ⊥) xs → has m xs ≡ false
has_none m [] h = refl
has_none m (x ∷ xs) h = or_from (eqb x.member m) (has m xs) (ne_eqb x.member m h.0) (has_none m xs h.1)

less_none : (m : ℕ) (xs : List Ranked) → has m xs ≡ false → less m xs ≡ xs
less_none m [] h = refl
less_none m (x ∷ xs) h =
    let p = or_parts (eqb x.member m) (has m xs) h in
    rw p.0 (ap (λ (ys : List Ranked). x ∷ ys) (less_none m xs p.1))

less_insert : (s : Side) (x : Ranked) (ys : List Ranked) → has x.member ys ≡ false → less x.member (insert s own x ys) ≡ ys
unfolding insert
less_insert s x [] h = rw (eq-eqb x.member x.member refl)
less_insert s x (y ∷ ys) h =
    let p = or_parts (eqb y.member x.member) (has x.member ys) h in
    go (before s own x y) p.0 p.1 (less_insert s x ys p.1)
  where
    go : (t : Bool) → eqb y.member x.member ≡ false → has x.member ys ≡ false → less x.member (insert s own x ys) ≡ ys → less x.member (cond t (x ∷ y ∷ ys) (y ∷ insert s own x ys)) ≡ y ∷ ys
    go true e n r = rw (eq-eqb x.member x.member refl, e) (ap (λ (zs : List Ranked). y ∷ zs) (less_none x.member ys n))
    go false e n r = rw e (ap (λ (zs : List Ranked). y ∷ zs) r)

-- a fact of either side
both_sides : (s : Side) (P : Side → Type 0) → P s → P (opposite s) → (t : Side) → P t
both_sides Buyers P a b Buyers = a
both_sides Buyers P a b Sellers = b
both_sides Sellers P a b Buyers = b
both_sides Sellers P a b Sellers = a

-- an entry stands on one side, and not on the other
on_its_side : (e : Entry) (s : Side) (c : Cents) → Some (s, c) ≡ side_of e → (on_side s e ≡ Some c) × (on_side (opposite s) e ≡ None)
on_its_side Nothing s c h = let z : ◌≡◌ {A = ℕ} 0 1 = cc in absurd (omega arith)
on_its_side (Bid d) s c h =
    let p : ◌≡◌ {A = Side × Cents} (s, c) (Buyers, d) = cc in (
      ap (λ (q : Side × Cents). on_side q.0 (Bid d)) p ∙ ap (λ (q : Side × Cents). Some q.1) (sym p),
      ap (λ (q : Side × Cents). on_side (opposite q.0) (Bid d)) p,
    )
on_its_side (Ask d) s c h =
    let p : ◌≡◌ {A = Side × Cents} (s, c) (Sellers, d) = cc in (
      ap (λ (q : Side × Cents). on_side q.0 (Ask d)) p ∙ ap (λ (q : Side × Cents). Some q.1) (sym p),
      ap (λ (q : Side × Cents). on_side (opposite q.0) (Ask d)) p,
    )

nothing_on : (s : Side) → on_side s Nothing ≡ None
nothing_on Buyers = refl
nothing_on Sellers = refl

none_is_not_some : {A : Type 0} (x : A) → None ≡ Some x → ⊥
none_is_not_some x h = let z : ◌≡◌ {A = ℕ} 0 1 = cc in omega arith

module _ (s : Side) (row : List Entry) (m : ℕ) (l : m < length row) where
  -- who has nothing in a row is not in its lists
  pub not_there : has m (ranked s own (set row m Nothing)) ≡ false
  not_there = has_none m (ranked s own (set row m Nothing)) (All-weaker (InRow s (set row m Nothing)) _ no_entry _ (ranked_in_row s own (set row m Nothing)))
    where
      no_entry : (x : Ranked) → InRow s (set row m Nothing) x → x.member ≡ m → ⊥
      no_entry x h e =
          none_is_not_some x.cents
          (sym (ap (on_side s) (get_or-set_same row m Nothing Nothing l) ∙ nothing_on s)
          ∙ ap (number s (set row m Nothing)) (sym e) ∙ h.1)

  -- the row's list, from the list without the member
  listed_by : ranked s own row ≡ entered s own m (on_side s (get_or row m Nothing)) (ranked s own (set row m Nothing))
  listed_by = ap (ranked s own) (sym (set-get_or row m Nothing)) ∙ ranked_set s own row m (get_or row m Nothing) (own_apart row) l

  -- the list less the member
  pub taken_out : less m (ranked s own row) ≡ ranked s own (set row m Nothing)
  taken_out = ap (less m) listed_by ∙ go (on_side s (get_or row m Nothing))
    where
      go : (o : Option Cents) → less m (entered s own m o (ranked s own (set row m Nothing))) ≡ ranked s own (set row m Nothing)
      go None = less_none m (ranked s own (set row m Nothing)) not_there
      go (Some c) = less_insert s (record { member = m; cents = c }) (ranked s own (set row m Nothing)) not_there

  -- a member that is not on the side
  pub not_on : on_side s (get_or row m Nothing) ≡ None → ranked s own row ≡ ranked s own (set row m Nothing)
  not_on h = listed_by ∙ ap (λ (o : Option Cents). entered s own m o (ranked s own (set row m Nothing))) h

-- what an index holds when an entry has been taken out
pub left : (ix ix' : Index) (k m : ℕ) (e : Entry) (s : Side) (c : Cents) → Some (s, c) ≡ side_of e → kind_list k s ix' ≡ less m (kind_list k s ix) → kind_list k (opposite s) ix' ≡ kind_list k (opposite s) ix → kind_members k ix' ≡ kind_members k ix → (row : List Entry) → m < length row → get_or row m Nothing ≡ e → Lists row k ix → Lists (set row m Nothing) k ix'
left ix ix' k m e s c h this other size row l there w =
    let o = on_its_side e s c h in
    record {
      sides =
          both_sides s (λ t. kind_list k t ix' ≡ ranked t own (set row m Nothing))
          (this ∙ ap (less m) (w.sides s) ∙ taken_out s row m l)
          (other ∙ w.sides (opposite s) ∙ not_on (opposite s) row m l (ap (on_side (opposite s)) there ∙ o.1));
      members = size ∙ w.members ∙ sym (length-set row m Nothing);
    }

-- what an index holds when an entry has been taken in
pub joined : (ix ix' : Index) (k m : ℕ) (e : Entry) (s : Side) (c : Cents) → Some (s, c) ≡ side_of e → (free : Bool) → free ≡ (ltb m (kind_members k ix) && not (has m (kind_list k Buyers ix) || has m (kind_list k Sellers ix))) → kind_list k s ix' ≡ cond free (insert s own (record { member = m; cents = c }) (kind_list k s ix)) (kind_list k s ix) → kind_list k (opposite s) ix' ≡ kind_list k (opposite s) ix → kind_members k ix' ≡ kind_members k ix → (row : List Entry) → m < length row → get_or row m Nothing ≡ Nothing → Lists row k ix → Lists (set row m e) k ix'
joined ix ix' k m e s c h free was this other size row l there w =
    record {
      sides =
          both_sides s (λ t. kind_list k t ix' ≡ ranked t own (set row m e))
          (this ∙ rw is_free (ap (insert s own (record { member = m; cents = c })) (listed s)) ∙ sym (after s ∙ ap (λ (x : Option Cents). entered s own m x (ranked s own (set row m Nothing))) o.0))
          (other ∙ listed (opposite s) ∙ sym (after (opposite s) ∙ ap (λ (x : Option Cents). entered (opposite s) own m x (ranked (opposite s) own (set row m Nothing))) o.1));
      members = size ∙ w.members ∙ sym (length-set row m e);
    }
  where
    o : (on_side s e ≡ Some c) × (on_side (opposite s) e ≡ None)
    o = on_its_side e s c h

    empty : row ≡ set row m Nothing
    empty = sym (set-get_or row m Nothing) ∙ ap (set row m) there

    listed : (t : Side) → kind_list k t ix ≡ ranked t own (set row m Nothing)
    listed t = w.sides t ∙ ap (ranked t own) empty

    after : (t : Side) → ranked t own (set row m e) ≡ entered t own m (on_side t e) (ranked t own (set row m Nothing))
    after t = ranked_set t own row m e (own_apart row) l

    absent : (t : Side) → has m (kind_list k t ix) ≡ false
    absent t = ap (has m) (listed t) ∙ not_there t row m l

    is_free : free ≡ true
    is_free = was ∙ rw (ap (ltb m) w.members ∙ lt-ltb m (length row) l, absent Buyers, absent Sellers)
