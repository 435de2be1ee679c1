-- A side's tree and the members' entries, after a member has come in or gone.
use Rattle.std.proofs.Common.{◌≡◌, ℕ, zero, suc, ◌+◌, ◌*◌, ◌/◌, ◌^◌, ◌<◌, ◌≤◌, Bool, true, false, cond, not, ◌||◌, eqb, ltb, List, [], ◌∷◌, map, length, get_or, set, replicate, Some, count_by, filter, sym, refl, ap, ◌∙◌, subst, inl, inr, arith}
use Rattle.std.specs.List.{AllByRecursion}
use Rattle.std.proofs.ByRecursion.{All-weaker}
use Rattle.std.proofs.lemmas.List.Filters.{length-filter_both}
use Rattle.std.proofs.lemmas.List.{get_or_past, get_or-replicate, get_or-set_other, get_or-set_same, length-replicate, length-set}
use Rattle.std.proofs.lemmas.List.Sums.{count_by-le-length, length-filter, sum_by-cons, sum_by-set}
use Rattle.std.proofs.lemmas.Bool.{cases_eq, cases_lt, cond-true, eq-eqb, lt-ltb, ne_eqb, or_left, or_parts, or_right}
use Rattle.orders.specs.declared.entry.Entry.{Entry}
use Rattle.orders.specs.declared.entry.Entry.TheVariants.{Nothing, Bid, Ask}
use Rattle.orders.specs.declared.money.Cents.{Cents}
use Rattle.ranking.specs.declared.ranked.Side.{Side}
use Rattle.ranking.specs.declared.ranked.Side.TheVariants.{Buyers, Sellers}
use Rattle.ranking.specs.declared.ranked.Ranked.{Ranked}
use Rattle.ranking_wide.specs.declared.tree.Tree.{Tree}
use Rattle.ranking_wide.specs.Books.{way}
use Rattle.ranking_wide.specs.Keys.{ranked_of, worth}
use Rattle.ranking_wide.specs.Leaves.{placed, without}
use Rattle.ranking.specs.Lists.{has, less}
use Rattle.ranking.specs.Ranks.{on_side}
use Rattle.ranking.specs.Sides.{opposite}
use Rattle.ranking_wide.specs.Sound.{entry_on, is_on, Kept, mark, mark_on, member_of}
use Rattle.ranking_wide.specs.Trees.{Held, keys_of, leaves_of, Roomy}
use Rattle.ranking_wide.proofs.Ordering.{has_counted, same_key}
use Rattle.ranking_wide.proofs.Rising.{all_placed, length_placed}
use Rattle.ranking_wide.proofs.Sounds.{grown_from}
use Rattle.ranking_wide.proofs.Spans.{spans_below}

pub mark_nothing : (s : Side) → mark_on s Nothing ≡ 0
mark_nothing Buyers = refl
mark_nothing Sellers = refl

pub mark_this : (s : Side) (c : Cents) → mark_on s (entry_on s c) ≡ suc c.0
mark_this Buyers c = refl
mark_this Sellers c = refl

pub mark_opposite : (s : Side) (c : Cents) → mark_on (opposite s) (entry_on s c) ≡ 0
mark_opposite Buyers c = refl
mark_opposite Sellers c = refl

mark_at : (s : Side) (es : List Entry) (m j : ℕ) (e : Entry) → (j ≡ m → ⊥) → mark_on s (get_or (set es m e) j Nothing) ≡ mark_on s (get_or es j Nothing)
mark_at s es m j e d = ap (mark_on s) (get_or-set_other es m j e Nothing d)

mark_set : (s : Side) (es : List Entry) (m : ℕ) (e : Entry) → m < length es → mark_on s (get_or (set es m e) m Nothing) ≡ mark_on s e
mark_set s es m e p = ap (mark_on s) (get_or-set_same es m e Nothing p)

abbrev bit : Bool → ℕ
bit t = cond t 1 0

abbrev on_bit : ℕ → ℕ
on_bit n = bit (ltb 0 n)

count_by_placed : (p : ℕ → Bool) (k : ℕ) (xs : List ℕ) → count_by p (placed k xs) ≡ cond (p k) 1 0 + count_by p xs
count_by_placed p k [] = sum_by-cons (λ y. cond (p y) 1 0) k []
count_by_placed p k (x ∷ xs) =
    let r = count_by_placed p k xs in
    elim (ltb k x) as (λ t. count_by p (cond t (k ∷ x ∷ xs) (x ∷ placed k xs)) ≡ cond (p k) 1 0 + count_by p (x ∷ xs)) [
      | true ↦ sum_by-cons (λ y. cond (p y) 1 0) k (x ∷ xs)
      | false ↦ omega (arith, sum_by-cons (λ y. cond (p y) 1 0) x (placed k xs), sum_by-cons (λ y. cond (p y) 1 0) x xs, r)
    ]

-- the filter of one member, and of another
count_kept_same : (m : ℕ) (xs : List ℕ) → count_by (λ k. eqb (member_of k) m) (filter (λ k. not (eqb (member_of k) m)) xs) ≡ 0
count_kept_same m [] = refl
count_kept_same m (x ∷ xs) = go (eqb (member_of x) m) refl (count_kept_same m xs)
  where
    go : (t : Bool) → eqb (member_of x) m ≡ t → count_by (λ k. eqb (member_of k) m) (filter (λ k. not (eqb (member_of k) m)) xs) ≡ 0
        → count_by (λ k. eqb (member_of k) m) (cond (not t) (x ∷ filter (λ k. not (eqb (member_of k) m)) xs) (filter (λ k. not (eqb (member_of k) m)) xs)) ≡ 0
    go true e r = r
    go false e r =
        omega (
          arith,
          sum_by-cons (λ y. cond (eqb (member_of y) m) 1 0) x (filter (λ k. not (eqb (member_of k) m)) xs),
          ap bit e,
          r,
        )

count_kept_other : (m n : ℕ) → (n ≡ m → ⊥) → (xs : List ℕ) → count_by (λ k. eqb (member_of k) n) (filter (λ k. not (eqb (member_of k) m)) xs) ≡ count_by (λ k. eqb (member_of k) n) xs
count_kept_other m n d [] = refl
count_kept_other m n d (x ∷ xs) =
    elim (cases_eq (member_of x) m) [
      | inl e ↦ ap (λ t. count_by (λ k. eqb (member_of k) n) (cond (not t) (x ∷ filter (λ k. not (eqb (member_of k) m)) xs) (filter (λ k. not (eqb (member_of k) m)) xs))) (eq-eqb (member_of x) m e)
          ∙ omega (arith, count_kept_other m n d xs, sum_by-cons (λ y. cond (eqb (member_of y) n) 1 0) x xs, ap bit (ne_eqb (member_of x) n (λ z. d (sym z ∙ e))))
      | inr e ↦ ap (λ t. count_by (λ k. eqb (member_of k) n) (cond (not t) (x ∷ filter (λ k. not (eqb (member_of k) m)) xs) (filter (λ k. not (eqb (member_of k) m)) xs))) (ne_eqb (member_of x) m e)
          ∙ omega (arith, count_kept_other m n d xs, sum_by-cons (λ y. cond (eqb (member_of y) n) 1 0) x xs, sum_by-cons (λ y. cond (eqb (member_of y) n) 1 0) x (filter (λ k. not (eqb (member_of k) m)) xs))
    ]

not_not : (t : Bool) → t ≡ not (not t)
not_not true = refl
not_not false = refl

-- a member has another entry, on which the tree does not depend
module _ (s : Side) (t : Tree) (es : List Entry) (m : ℕ) (e : Entry) (h : Kept s t es) (p : m < length es)
    (z : mark_on s e ≡ mark_on s (get_or es m Nothing)) where
  same_mark : (j : ℕ) → mark_on s (get_or (set es m e) j Nothing) ≡ mark_on s (get_or es j Nothing)
  same_mark j =
      elim (cases_eq j m) [
        | inl w ↦ ap (λ i. mark_on s (get_or (set es m e) i Nothing)) w ∙ mark_set s es m e p ∙ z ∙ ap (λ i. mark_on s (get_or es i Nothing)) (sym w)
        | inr d ↦ mark_at s es m j e d
      ]

  pub kept_other : Kept s t (set es m e)
  kept_other =
      record {
        stands = All-weaker _ _ (λ k g. same_mark (member_of k) ∙ g) (keys_of t) h.stands;
        once = λ n. h.once n ∙ ap on_bit (sym (same_mark n));
        many = h.many ∙ omega (arith, sum_by-set (λ x. cond (is_on s x) 1 0) es m e Nothing p, ap on_bit z);
        place = omega (arith, h.place, length-set es m e);
        narrow = omega (arith, h.narrow, length-set es m e);
      }

-- a member comes in
module _ (s : Side) (t : Tree) (es : List Entry) (m k : ℕ) (c : Cents) (h : Kept s t es) (p : m < length es)
    (z : mark_on s (get_or es m Nothing) ≡ 0) (ek : member_of k ≡ m) (ec : worth s (k / 65536) ≡ c.0) where
  other_member : (j : ℕ) → mark_on s (get_or es (member_of j) Nothing) ≡ suc (worth s (j / 65536)) → member_of j ≡ m → ⊥
  other_member j g d = omega (arith, g, ap (λ i. mark_on s (get_or es i Nothing)) d, z)

  pub key_new : AllByRecursion (λ j. j ≡ k → ⊥) (keys_of t)
  key_new = All-weaker _ (λ j. j ≡ k → ⊥) (λ j g d. other_member j g (ap member_of d ∙ ek)) (keys_of t) h.stands

  on_new : count_by (is_on s) (set es m (entry_on s c)) ≡ count_by (is_on s) es + 1
  on_new =
      omega (
        arith,
        sum_by-set (λ x. cond (is_on s x) 1 0) es m (entry_on s c) Nothing p,
        ap on_bit z,
        ap on_bit (mark_this s c),
        cond-true {A = ℕ} (ltb 0 (suc c.0)) 1 0 (lt-ltb 0 (suc c.0) (omega arith)),
      )

  pub roomy : Roomy t
  roomy =
      omega (
        arith,
        h.place,
        h.many,
        on_new,
        count_by-le-length (is_on s) (set es m (entry_on s c)),
        length-set es m (entry_on s c),
      )

  pub kept_put : (u : Tree) → Held t u (placed k (keys_of t)) → Kept s u (set es m (entry_on s c))
  kept_put u w =
      record {
        stands = subst (AllByRecursion (λ j. mark_on s (get_or (set es m (entry_on s c)) (member_of j) Nothing) ≡ suc (worth s (j / 65536)))) (sym w.keys)
            (all_placed (λ j. mark_on s (get_or (set es m (entry_on s c)) (member_of j) Nothing) ≡ suc (worth s (j / 65536))) k (keys_of t)
            (ap (λ i. mark_on s (get_or (set es m (entry_on s c)) i Nothing)) ek ∙ here ∙ ap suc (sym ec))
            (All-weaker _ (λ j. mark_on s (get_or (set es m (entry_on s c)) (member_of j) Nothing) ≡ suc (worth s (j / 65536)))
            (λ j g. mark_at s es m (member_of j) (entry_on s c) (other_member j g) ∙ g) (keys_of t) h.stands));
        once = λ n. ap (count_by (λ j. eqb (member_of j) n)) w.keys ∙ count_by_placed (λ j. eqb (member_of j) n) k (keys_of t) ∙ counted n;
        many = ap length w.keys ∙ length_placed k (keys_of t) ∙ omega (arith, h.many, on_new);
        place = omega (arith, h.place, w.most, length-set es m (entry_on s c));
        narrow = omega (arith, h.narrow, w.most, length-set es m (entry_on s c));
      }
    where
      here : mark_on s (get_or (set es m (entry_on s c)) m Nothing) ≡ suc c.0
      here = mark_set s es m (entry_on s c) p ∙ mark_this s c

      counted : (n : ℕ) → cond (eqb (member_of k) n) 1 0 + count_by (λ j. eqb (member_of j) n) (keys_of t) ≡ cond (is_on s (get_or (set es m (entry_on s c)) n Nothing)) 1 0
      counted n =
          elim (cases_eq n m) [
            | inl w ↦ omega (
              arith,
              ap bit (eq-eqb (member_of k) n (ek ∙ sym w)),
              h.once n,
              ap (λ i. bit (is_on s (get_or es i Nothing))) w,
              ap on_bit z,
              ap (λ i. bit (is_on s (get_or (set es m (entry_on s c)) i Nothing))) w,
              ap on_bit here,
              cond-true {A = ℕ} (ltb 0 (suc c.0)) 1 0 (lt-ltb 0 (suc c.0) (omega arith)),
            )
            | inr d ↦ omega (
              arith,
              ap bit (ne_eqb (member_of k) n (λ g. d (sym g ∙ ek))),
              h.once n,
              ap on_bit (mark_at s es m n (entry_on s c) d),
            )
          ]

-- a member goes
module _ (s : Side) (t : Tree) (es : List Entry) (m k : ℕ) (c : ℕ) (h : Kept s t es) (p : m < length es) (b : k < 2 ^ 48)
    (z : mark_on s (get_or es m Nothing) ≡ suc c) (ek : member_of k ≡ m) (ec : worth s (k / 65536) ≡ c) where
  -- of the keys of the tree it is the member's alone
  only_key : (ks : List ℕ) → AllByRecursion (λ j. j < 2 ^ 48) ks → AllByRecursion (λ j. mark_on s (get_or es (member_of j) Nothing) ≡ suc (worth s (j / 65536))) ks
      → without k ks ≡ filter (λ j. not (eqb (member_of j) m)) ks
  only_key [] g a = refl
  only_key (j ∷ ks) g a =
      ap (λ v. cond (not v) (j ∷ without k ks) (without k ks)) (same a.0 g.0)
      ∙ ap (λ xs. cond (not (eqb (member_of j) m)) (j ∷ xs) xs) (only_key ks g.1 a.1)
    where
      same : mark_on s (get_or es (member_of j) Nothing) ≡ suc (worth s (j / 65536)) → j < 2 ^ 48 → eqb j k ≡ eqb (member_of j) m
      same u q =
          elim (cases_eq (member_of j) m) [
            | inl w ↦ eq-eqb j k (same_key s j k q b (w ∙ sym ek)
                (omega (arith, u, ap (λ i. mark_on s (get_or es i Nothing)) w, z, ec))) ∙ sym (eq-eqb (member_of j) m w)
            | inr d ↦ ne_eqb j k (λ g. d (ap member_of g ∙ ek)) ∙ sym (ne_eqb (member_of j) m d)
          ]

  pub keys_left : (u : Tree) → Held t u (without k (keys_of t)) → keys_of u ≡ filter (λ j. not (eqb (member_of j) m)) (keys_of t)
  keys_left u w = w.keys ∙ only_key (keys_of t) (spans_below (leaves_of t) (2 ^ 48) (grown_from t.grown).spans) h.stands

  pub kept_take : (u : Tree) → Held t u (without k (keys_of t)) → Kept s u (set es m Nothing)
  kept_take u w =
      record {
        stands = subst (AllByRecursion (λ j. mark_on s (get_or (set es m Nothing) (member_of j) Nothing) ≡ suc (worth s (j / 65536)))) (sym (keys_left u w)) (left (keys_of t) h.stands);
        once = λ n. ap (count_by (λ j. eqb (member_of j) n)) (keys_left u w) ∙ counted n;
        many = ap length (keys_left u w) ∙ omega (
          arith,
          length-filter_both (λ j. not (eqb (member_of j) m)) (λ j. eqb (member_of j) m) (λ j. not_not (eqb (member_of j) m)) (keys_of t),
          length-filter (λ j. eqb (member_of j) m) (keys_of t),
          h.once m,
          ap on_bit z,
          cond-true {A = ℕ} (ltb 0 (suc c)) 1 0 (lt-ltb 0 (suc c) (omega arith)),
          h.many,
          sum_by-set (λ x. cond (is_on s x) 1 0) es m Nothing Nothing p,
          ap on_bit (mark_nothing s),
        );
        place = omega (arith, h.place, w.most, length-set es m Nothing);
        narrow = omega (arith, h.narrow, w.most, length-set es m Nothing);
      }
    where
      left : (ks : List ℕ) → AllByRecursion (λ j. mark_on s (get_or es (member_of j) Nothing) ≡ suc (worth s (j / 65536))) ks
          → AllByRecursion (λ j. mark_on s (get_or (set es m Nothing) (member_of j) Nothing) ≡ suc (worth s (j / 65536))) (filter (λ j. not (eqb (member_of j) m)) ks)
      left [] a = tt
      left (j ∷ ks) a =
          elim (cases_eq (member_of j) m) [
            | inl e ↦ subst (AllByRecursion (λ j. mark_on s (get_or (set es m Nothing) (member_of j) Nothing) ≡ suc (worth s (j / 65536))))
                (ap (λ v. cond (not v) (j ∷ filter (λ j. not (eqb (member_of j) m)) ks) (filter (λ j. not (eqb (member_of j) m)) ks)) (sym (eq-eqb (member_of j) m e)))
                (left ks a.1)
            | inr d ↦ subst (AllByRecursion (λ j. mark_on s (get_or (set es m Nothing) (member_of j) Nothing) ≡ suc (worth s (j / 65536))))
                (ap (λ v. cond (not v) (j ∷ filter (λ j. not (eqb (member_of j) m)) ks) (filter (λ j. not (eqb (member_of j) m)) ks)) (sym (ne_eqb (member_of j) m d)))
                (mark_at s es m (member_of j) Nothing d ∙ a.0, left ks a.1)
          ]

      counted : (n : ℕ) → count_by (λ j. eqb (member_of j) n) (filter (λ j. not (eqb (member_of j) m)) (keys_of t)) ≡ cond (is_on s (get_or (set es m Nothing) n Nothing)) 1 0
      counted n =
          elim (cases_eq n m) [
            | inl w ↦ ap (λ i. count_by (λ j. eqb (member_of j) i) (filter (λ j. not (eqb (member_of j) m)) (keys_of t))) w
                ∙ count_kept_same m (keys_of t)
                ∙ sym (ap on_bit (ap (λ i. mark_on s (get_or (set es m Nothing) i Nothing)) w ∙ mark_set s es m Nothing p ∙ mark_nothing s))
            | inr d ↦ count_kept_other m n d (keys_of t) ∙ h.once n ∙ ap on_bit (sym (mark_at s es m n Nothing d))
          ]

-- a fact of either side
pub by_side : (s : Side) (P : Side → Type 0) → P s → P (opposite s) → (o : Side) → P o
by_side Buyers P p q Buyers = p
by_side Buyers P p q Sellers = q
by_side Sellers P p q Buyers = q
by_side Sellers P p q Sellers = p

bit_on : (x : Bool) → ltb 0 (cond x 1 0) ≡ x
bit_on true = refl
bit_on false = refl

-- who is on a side is in its list
pub has_on : (s : Side) (t : Tree) (es : List Entry) → Kept s t es → (m : ℕ)
    → has m (map (ranked_of s) (keys_of t)) ≡ is_on s (get_or es m Nothing)
has_on s t es h m = has_counted s m (keys_of t) ∙ ap (ltb 0) (h.once m) ∙ bit_on (is_on s (get_or es m Nothing))

pub on_one : (e : Entry) → (e ≡ Nothing → ⊥) → (is_on Buyers e || is_on Sellers e) ≡ true
on_one Nothing d = absurd (d refl)
on_one (Bid c) d = or_left (is_on Buyers (Bid c)) (is_on Sellers (Bid c)) (lt-ltb 0 (suc c.0) (omega arith))
on_one (Ask c) d = or_right (is_on Buyers (Ask c)) (is_on Sellers (Ask c)) (lt-ltb 0 (suc c.0) (omega arith))

less_none : (m : ℕ) (xs : List Ranked) → has m xs ≡ false → less m xs ≡ xs
less_none m [] h = refl
less_none m (x ∷ xs) h =
    let p = or_parts (eqb x.member m) (has m xs) h in
    rw p.0 (ap (λ (ys : List Ranked). x ∷ ys) (less_none m xs p.1))

-- who is not on a side
pub off_list : (s : Side) (t : Tree) (es : List Entry) → Kept s t es → (m : ℕ) → mark_on s (get_or es m Nothing) ≡ 0
    → (false ≡ has m (map (ranked_of s) (keys_of t))) × (map (ranked_of s) (keys_of t) ≡ less m (map (ranked_of s) (keys_of t)))
off_list s t es h m z =
    let e : has m (map (ranked_of s) (keys_of t)) ≡ false = has_on s t es h m ∙ ap (ltb 0) z in
    (sym e, sym (less_none m (map (ranked_of s) (keys_of t)) e))

-- a book of members of whom none has anything
nothing_at : (n m : ℕ) → get_or (replicate n Nothing) m Nothing ≡ Nothing
nothing_at n m =
    elim (cases_lt m n) [
      | inl p ↦ get_or-replicate n m Nothing Nothing p
      | inr p ↦ get_or_past (replicate n Nothing) m Nothing (omega (arith, length-replicate n Nothing))
    ]

none_on : (s : Side) (n : ℕ) → count_by (is_on s) (replicate n Nothing) ≡ 0
none_on s zero = refl
none_on s (suc n) =
    sum_by-cons (λ x. cond (is_on s x) 1 0) Nothing (replicate n Nothing)
    ∙ omega (arith, ap on_bit (mark_nothing s), none_on s n)

pub kept_new : (s : Side) (t : Tree) (es : List Entry) (n : ℕ) → es ≡ replicate n Nothing → keys_of t ≡ [] → 2 * n + 33 < 33 * t.most
    → 16 * t.most ≤ n + 32 → Kept s t es
kept_new s t es n e k p q =
    record {
      stands = subst (AllByRecursion (λ j. mark_on s (get_or es (member_of j) Nothing) ≡ suc (worth s (j / 65536)))) (sym k) tt;
      once = λ m. ap (count_by (λ j. eqb (member_of j) m)) k
          ∙ sym (ap on_bit (ap (λ zs. mark_on s (get_or zs m Nothing)) e ∙ ap (mark_on s) (nothing_at n m) ∙ mark_nothing s));
      many = ap length k ∙ sym (ap (count_by (is_on s)) e ∙ none_on s n);
      place = omega (arith, ap length e, length-replicate n Nothing);
      narrow = omega (arith, ap length e, length-replicate n Nothing);
    }

pub some_mark : (s : Side) (e : Entry) (c : Cents) → on_side s e ≡ Some c → (mark_on s e ≡ suc c.0) × (mark_on (opposite s) e ≡ 0)
some_mark Buyers Nothing c g = let z : ◌≡◌ {A = ℕ} 0 1 = cc in absurd (omega arith)
some_mark Buyers (Bid d) c g = (ap mark g, refl)
some_mark Buyers (Ask d) c g = let z : ◌≡◌ {A = ℕ} 0 1 = cc in absurd (omega arith)
some_mark Sellers Nothing c g = let z : ◌≡◌ {A = ℕ} 0 1 = cc in absurd (omega arith)
some_mark Sellers (Bid d) c g = let z : ◌≡◌ {A = ℕ} 0 1 = cc in absurd (omega arith)
some_mark Sellers (Ask d) c g = (ap mark g, refl)

pub way_short : (ks : List ℕ) → 4 ^ way ks ≤ 3 ^ way ks * (length ks + 1)
way_short [] = omega arith
way_short (k ∷ ks) = omega arith

pub there_on : (s : Side) (e : Entry) (c : Cents) → on_side s e ≡ Some c → is_on s e ≡ true
there_on s e c g = ap (ltb 0) (some_mark s e c g).0 ∙ lt-ltb 0 (suc c.0) (omega arith)
