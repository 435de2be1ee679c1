-- What a book's methods leave, from what the functions on its slots leave.
use Rattle.std.proofs.Common.{◌≡◌, ℕ, zero, suc, ◌<◌, ◌≤◌, Bool, true, false, not, ◌&&◌, ◌||◌, eqb, ltb, List, [], ◌∷◌, map, length, set, replicate, Some, count_by, Option, sym, refl, ap, ◌∙◌, subst, inl, inr, arith}
use Rattle.std.specs.Option.{option_map}
use Rattle.std.specs.List.{slice_get, AllByRecursion}
use Rattle.std.proofs.lemmas.Option.{slice_get-map}
use Rattle.std.proofs.lemmas.List.{length-set, length-replicate, get_or-replicate, get_or_past}
use Rattle.std.proofs.lemmas.Bool.{lt-ltb, le-ltb, or_from, or_left, or_right, and_left, and_right, and_from, cases_lt, cases_Bool, cond_both, cond-true, cond-false}
use Rattle.ranking.specs.declared.node.Node.{Node}
use Rattle.ranking.specs.declared.ranked.Side.{Side}
use Rattle.ranking.specs.declared.ranked.Side.TheVariants.{Buyers, Sellers}
use Rattle.ranking.specs.declared.ranked.Ranked.{Ranked}
use Rattle.ranking.specs.declared.sides.Sides.{Sides}
use Rattle.ranking.specs.Ranks.{before, own, insert}
use Rattle.ranking.specs.Tree.{leaf, node, size, at, blank, in_order}
use Rattle.ranking.specs.Balance.{grown, shrunk, passed, picked}
use Rattle.ranking.specs.Books.{Ordered, ranked_as}
use Rattle.ranking.specs.Keys.{ranked_at, precedes, follows, ahead, Sorted}
use Rattle.ranking.specs.Lists.{has, less}
use Rattle.ranking.specs.Sides.{opposite, of_side, with_side}
use Rattle.ranking.specs.Slots.{here, times, Parts, Stands, Became}
use Rattle.ranking.specs.Sound.{side_tree, list_of, Sound, Fresh, Booked}
use Rattle.ranking.proofs.InOrder.{occurs, times_occurs}
use Rattle.ranking.proofs.Counts.{count_rep}
use Rattle.ranking.proofs.Precedence.{before_trans, map_count, map_without}
use Rattle.ranking.proofs.Reps.{here_same, at_set_same, in_rep}
use Rattle.ranking.proofs.Rows.{passed_counts, picked_nth, without_none}
use Rattle.ranking.proofs.Sounds.{Change, side_again, side_stands, changed_list, changed_other_list, changed_sound}
use Rattle.ranking.proofs.Changes.{has_occurs, put_parts, price_change, put_change, listed_put, listed_take, size_take, take_none, take_one}

pub ordered : (s : Side) (ns : List Node) (xs : List ℕ) → Sorted (ahead s ns) xs → Ordered s (map (ranked_at ns) xs)
ordered s ns [] h = tt
ordered s ns (x ∷ xs) h = (among xs h.0, ordered s ns xs h.1)
  where
    among : (ys : List ℕ) → AllByRecursion (λ y. ahead s ns x y ≡ true) ys
        → AllByRecursion (λ y. before s own (ranked_at ns x) y ≡ true) (map (ranked_at ns) ys)
    among [] a = tt
    among (y ∷ ys) a = (a.0, among ys a.1)

pub stands_at : {ns : List Node} {r : Sides ℕ} → Sound ns r → (s : Side) → {ds : List Node} {i : ℕ}
    → ds ≡ ns → i ≡ of_side s r → Stands ds i (side_tree s ns r)
stands_at {ns} {r} h s {ds} {i} ed ei =
    subst (λ (xs : List Node). Stands xs i (side_tree s ns r)) (sym ed)
    (subst (λ (j : ℕ). Stands ns j (side_tree s ns r)) (sym ei) (side_stands h s))

-- the answers of `put`
pub answer_past : (m n : ℕ) (x : Bool) → n ≤ m → false ≡ (ltb m n && x)
answer_past m n x p = sym (and_left (ltb m n) x (le-ltb m n p))

pub answer_there : (m n : ℕ) (x : Bool) → x ≡ true → false ≡ (ltb m n && not x)
answer_there m n x e = sym (and_right (ltb m n) (not x) (ap not e))

pub answer_fresh : (m n : ℕ) (x : Bool) → m < n → x ≡ false → true ≡ (ltb m n && not x)
answer_fresh m n x p e = sym (and_from (ltb m n) (not x) (lt-ltb m n p) (ap not e))

module _ {ns : List Node} {r : Sides ℕ} (h : Sound ns r) (m : ℕ) where
  has_none : (s : Side) → (at ns m).count ≡ 0 → has m (list_of s ns r) ≡ false
  has_none s z =
      has_occurs ns m (in_order (side_tree s ns r))
      ∙ le-ltb 0 (occurs m (in_order (side_tree s ns r)))
      (omega (
        arith,
        times_occurs m (side_tree s ns r),
        count_rep ns (of_side s r) (side_tree s ns r) m (h.sides s).rep z,
      ))

  pub fresh_so : (at ns m).count ≡ 0 → (has m (list_of Buyers ns r) || has m (list_of Sellers ns r)) ≡ false
  fresh_so z = or_from _ _ (has_none Buyers z) (has_none Sellers z)

  pub fresh_not : ((at ns m).count ≡ 0 → ⊥)
      → (has m (list_of Buyers ns r) || has m (list_of Sellers ns r)) ≡ true
  fresh_not d =
      elim (cases_lt 0 (times m (side_tree Buyers ns r))) [
        | inl p ↦ or_left _ _ (there Buyers p)
        | inr p ↦ or_right _ _ (there Sellers (sellers p))
      ]
    where
      there : (s : Side) → 0 < times m (side_tree s ns r) → has m (list_of s ns r) ≡ true
      there s p =
          has_occurs ns m (in_order (side_tree s ns r))
          ∙ lt-ltb 0 (occurs m (in_order (side_tree s ns r))) (omega (arith, times_occurs m (side_tree s ns r)))

      sellers : times m (side_tree Buyers ns r) ≤ 0 → 0 < times m (side_tree Sellers ns r)
      sellers p =
          elim (cases_lt 0 (times m (side_tree Sellers ns r))) [
            | inl q ↦ q
            | inr q ↦ absurd (d ((h.sides Buyers).free m (omega arith)))
          ]

-- a member that there is not
pub past_none : {ns : List Node} {r : Sides ℕ} → Sound ns r → (s : Side) (m : ℕ) → length ns ≤ m
    → (false ≡ has m (list_of s ns r)) × (list_of s ns r ≡ less m (list_of s ns r))
past_none {ns} {r} h s m p =
    let xs = in_order (side_tree s ns r) in
    let z : occurs m xs ≡ 0 = elim (cases_lt 0 (times m (side_tree s ns r))) [
      | inl q ↦ absurd (omega (arith, in_rep ns (of_side s r) (side_tree s ns r) m (h.sides s).rep q))
      | inr q ↦ omega (arith, times_occurs m (side_tree s ns r))
    ] in (
      sym (has_occurs ns m xs ∙ le-ltb 0 (occurs m xs) (omega arith)),
      ap (map (ranked_at ns)) (sym (without_none m xs z)) ∙ map_without s ns m xs,
    )

-- one member more
pub enter_parts : {ns : List Node} {r : Sides ℕ} {m : ℕ} → Fresh ns r m → (s : Side) → {i : ℕ}
    → i ≡ of_side s r → Parts ns m i 65535 (side_tree s ns r) leaf
enter_parts {ns} {r} {m} f s ei =
    subst (λ (j : ℕ). Parts ns m j 65535 (side_tree s ns r) leaf) (sym ei)
    (put_parts f.sound s m f.within f.free)

-- its cents go into its slot first
module _ {ns : List Node} {r : Sides ℕ} {m : ℕ} (p : Fresh ns r m) (v : Node) (z : v.count ≡ 0) where
  price : (s : Side) → Change s ns (set ns m v) r (of_side s r) (side_tree s ns r) (side_tree (opposite s) ns r)
  price s = price_change p.sound s m p.within p.free v z

  pub priced_fresh : Fresh (set ns m v) r m
  priced_fresh =
      record {
        sound = subst (λ (q : Sides ℕ). Sound (set ns m v) q) (side_again Buyers r) (changed_sound (price Buyers));
        within = omega (arith, p.within, length-set ns m v);
        free = ap (λ n. n.count) (at_set_same ns m v p.within) ∙ z;
      }

  priced_list : (s : Side) → list_of s (set ns m v) r ≡ list_of s ns r
  priced_list s = ap (list_of s (set ns m v)) (sym (side_again s r)) ∙ changed_list (price s)

  pub enter_booked : (s : Side) {os : List Node} {j : ℕ} {q : Sides ℕ} → length os ≡ length (set ns m v)
      → Became (set ns m v) os j (grown (precedes s (set ns m v) (ranked_as m v.cents)) m (side_tree s (set ns m v) r))
      (node (side_tree s (set ns m v) r) m leaf)
      → q ≡ with_side s j r → Booked s ns r os q (insert s own (ranked_as m v.cents) (list_of s ns r))
  enter_booked s {os} {j} {q} eo f eq =
      let w = set ns m v in
      let is : ranked_at w m ≡ ranked_as m v.cents = ap (λ n. ranked_as m n.cents) (at_set_same ns m v p.within) in
      let g = subst (λ (x : Ranked). Became w os j (grown (precedes s w x) m (side_tree s w r)) (node (side_tree s w r) m leaf))
      (sym is) f in
      let change = put_change priced_fresh.sound s m priced_fresh.within priced_fresh.free eo g in
      subst (λ (x : Sides ℕ). Booked s ns r os x (insert s own (ranked_as m v.cents) (list_of s ns r))) (sym eq)
      (record {
        sound = changed_sound change;
        this = changed_list change ∙ listed_put priced_fresh.sound s m priced_fresh.within priced_fresh.free
            ∙ ap (λ x. insert s own x (list_of s w r)) is
            ∙ ap (insert s own (ranked_as m v.cents)) (priced_list s);
        other = changed_other_list change ∙ priced_list (opposite s);
      })

-- one member less
leave_booked : {ns : List Node} {r : Sides ℕ} (h : Sound ns r) (s : Side) (m : ℕ) {os : List Node} {j : ℕ} {q : Sides ℕ}
    → Change s ns os r j (shrunk (ahead s ns m) m (side_tree s ns r)) (side_tree (opposite s) ns r)
    → q ≡ with_side s j r → Booked s ns r os q (less m (list_of s ns r))
leave_booked {ns} {r} h s m {os} {j} {q} change eq =
    subst (λ (x : Sides ℕ). Booked s ns r os x (less m (list_of s ns r))) (sym eq)
    (record {
      sound = changed_sound change;
      this = changed_list change ∙ listed_take h s m;
      other = changed_other_list change;
    })

module _ {ns : List Node} {r : Sides ℕ} (h : Sound ns r) (s : Side) (m : ℕ) {os : List Node}
    (eo : length os ≡ length ns) {j : ℕ}
    (f : Became ns os j (shrunk (ahead s ns m) m (side_tree s ns r)) (side_tree s ns r)) {n k : ℕ}
    (en : n ≡ size (side_tree s ns r)) (ek : k ≡ size (shrunk (ahead s ns m) m (side_tree s ns r))) {q : Sides ℕ}
    (eq : q ≡ with_side s j r) where
  pub leave_none : k ≡ n → Booked s ns r os q (less m (list_of s ns r))
  leave_none e = leave_booked h s m (take_none h s m eo f (omega (arith, size_take h s m))) eq

  pub leave_one : (k ≡ n → ⊥) → (v : Node) → v.count ≡ 0 → Booked s ns r (set os m v) q (less m (list_of s ns r))
  leave_one d v z = leave_booked h s m (take_one h s m eo f (omega (arith, size_take h s m)) v z) eq

-- whether a list is shorter without a member
less_le : (m : ℕ) (xs : List Ranked) → length (less m xs) ≤ length xs
less_le m [] = omega arith
less_le m (x ∷ xs) =
    let r = less_le m xs in
    cond_both (not (eqb x.member m)) (x ∷ less m xs) (less m xs) (λ zs. length zs ≤ suc (length xs))
    (λ e. omega arith) (λ e. omega arith)

pub ltb_suc : (a b : ℕ) → ltb a b ≡ ltb (suc a) (suc b)
ltb_suc a b =
    elim (cases_lt a b) [
      | inl p ↦ lt-ltb a b p ∙ sym (lt-ltb (suc a) (suc b) (omega arith))
      | inr p ↦ le-ltb a b p ∙ sym (le-ltb (suc a) (suc b) (omega arith))
    ]

pub less_shorter : (m : ℕ) (xs : List Ranked) → ltb (length (less m xs)) (length xs) ≡ has m xs
less_shorter m [] = le-ltb 0 0 (omega arith)
less_shorter m (x ∷ xs) =
    let r = less_shorter m xs in
    let l = less_le m xs in
    elim (cases_Bool (eqb x.member m)) [
      | inl e ↦ ap (λ zs. ltb (length zs) (suc (length xs)))
          (cond-false (not (eqb x.member m)) (x ∷ less m xs) (less m xs) (ap not e))
          ∙ lt-ltb (length (less m xs)) (suc (length xs)) (omega arith)
          ∙ sym (or_left (eqb x.member m) (has m xs) e)
      | inr e ↦ ap (λ zs. ltb (length zs) (suc (length xs)))
          (cond-true (not (eqb x.member m)) (x ∷ less m xs) (less m xs) (ap not e))
          ∙ sym (ltb_suc (length (less m xs)) (length xs)) ∙ r
          ∙ ap (λ b. b || has m xs) (sym e)
    ]

-- the same of equal lists
pub booked_as : {s : Side} {ds ns os vs : List Node} {r q : Sides ℕ} (F : List Ranked → List Ranked)
    → Booked s ds r os q (F (list_of s ds r)) → ds ≡ ns → vs ≡ os → Booked s ns r vs q (F (list_of s ns r))
booked_as {s} {ds} {ns} {os} {vs} {r} {q} F b ed ev =
    subst (λ (z : List Node). Booked s ns r z q (F (list_of s ns r))) (sym ev)
    (subst (λ (z : List Node). Booked s z r os q (F (list_of s z r))) ed b)

pub sound_as : {ds ns : List Node} {r : Sides ℕ} → Sound ns r → ds ≡ ns → Sound ds r
sound_as {ds} {ns} {r} h ed = subst (λ (z : List Node). Sound z r) (sym ed) h

-- what is asked of a side
pub counts_before : {ns : List Node} {r : Sides ℕ} → Sound ns r → (s : Side) (x : Ranked)
    → passed (follows s ns x) (side_tree s ns r) ≡ count_by (λ y. before s own y x) (list_of s ns r)
counts_before {ns} {r} h s x =
    passed_counts (ahead s ns) (follows s ns x) (λ y z. before_trans s (ranked_at ns y) (ranked_at ns z) x)
    (side_tree s ns r) (h.sides s).sorted
    ∙ map_count s ns (λ y. before s own y x) (in_order (side_tree s ns r))

pub picks_member : (s : Side) (ns : List Node) (r : Sides ℕ) (k : ℕ) {o : Option ℕ}
    → o ≡ picked k (side_tree s ns r) → option_map (ranked_at ns) o ≡ slice_get (list_of s ns r) k
picks_member s ns r k e =
    ap (option_map (ranked_at ns)) (e ∙ picked_nth k (side_tree s ns r)) ∙ sym (slice_get-map (ranked_at ns) (in_order (side_tree s ns r)) k)

nth_in : (xs : List ℕ) (k m : ℕ) → slice_get xs k ≡ Some m → 0 < occurs m xs
nth_in [] k m e = let z : ◌≡◌ {A = ℕ} 0 1 = cc in omega arith
nth_in (x ∷ xs) zero m e = let z : x ≡ m = cc in omega (arith, here_same m, ap (λ j. here m j) z)
nth_in (x ∷ xs) (suc k) m e = omega (arith, nth_in xs k m e)

pub picked_within : {ns : List Node} {r : Sides ℕ} → Sound ns r → (s : Side) (k m : ℕ)
    → Some m ≡ picked k (side_tree s ns r) → m < length ns
picked_within {ns} {r} h s k m e =
    let p = nth_in (in_order (side_tree s ns r)) k m (sym (e ∙ picked_nth k (side_tree s ns r))) in
    omega (
      arith,
      in_rep ns (of_side s r) (side_tree s ns r) m (h.sides s).rep
          (omega (arith, p, times_occurs m (side_tree s ns r))),
    )

-- an empty book
empty_change : (ns : List Node) → length ns ≤ 65535 → ((k : ℕ) → (at ns k).count ≡ 0)
    → Change Buyers ns ns (record { buyers = 65535; sellers = 65535 }) 65535 leaf leaf
empty_change ns few none =
    record {
      few = few;
      rep = refl;
      sorted = tt;
      even = tt;
      other_rep = refl;
      other_sorted = tt;
      other_even = tt;
      apart = λ k. omega arith;
      free = λ k z. none k;
      same = λ k p. refl;
    }

free_at : (n : ℕ) (v : Node) → v.count ≡ 0 → (k : ℕ) → (at (replicate n v) k).count ≡ 0
free_at n v z k =
    elim (cases_lt k n) [
      | inl p ↦ ap (λ x. x.count) (get_or-replicate n k v blank p) ∙ z
      | inr p ↦ ap (λ x. x.count) (get_or_past (replicate n v) k blank (omega (arith, length-replicate n v)))
    ]

module _ (n : ℕ) (small : n < 65536) (v : Node) (z : v.count ≡ 0) {ns : List Node} (en : ns ≡ replicate n v) where
  empty : Change Buyers ns ns (record { buyers = 65535; sellers = 65535 }) 65535 leaf leaf
  empty =
      empty_change ns (omega (arith, ap length en, length-replicate n v))
      (λ k. ap (λ xs. (at xs k).count) en ∙ free_at n v z k)

  pub new_sound : Sound ns (record { buyers = 65535; sellers = 65535 })
  new_sound = changed_sound empty

  pub new_listed : (s : Side) → list_of s ns (record { buyers = 65535; sellers = 65535 }) ≡ []
  new_listed Buyers = changed_list empty
  new_listed Sellers = changed_other_list empty
