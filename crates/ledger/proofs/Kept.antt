-- An order that sets its entry in memory and in the index leaves the index of the entries.
use Rattle.std.proofs.Common.{◌≡◌, ℕ, ◌+◌, ◌-◌, ◌*◌, ◌<◌, ◌≤◌, ◌≢◌, List, length, get_or, take, drop, set, Ok, unwrap_or, sym, refl, ap, ◌∙◌, subst, ⊎_elim, arith}
use Rattle.std.proofs.lemmas.Nat.{mul-add-lt}
use Rattle.std.proofs.lemmas.List.{take-append-drop, set-append_left, take_at, length-set, length-take, length-drop, length-map, length-take-le, drop-set-add, drop-set-lt, take-set-le, map-set, get_or-map, get_or-take, get_or-drop}
use Rattle.std.proofs.lemmas.Bool.{cases_eq, cases_lt}
use Rattle.orders.specs.declared.entry.Entry.{Entry}
use Rattle.orders.specs.declared.entry.Entry.TheVariants.{Nothing}
use Rattle.orders.specs.declared.order.Order.{Order}
use Rattle.orders.specs.Entries.{encoded, entry_of, row_of, kind_row}
use Rattle.orders.specs.Lent.{Held, entry_at, position, judged, entries_after}
use Rattle.orders.specs.Messages.{fields}
use Rattle.orders.specs.Taking.{order_of, committed_with}
use Rattle.orders.proofs.Positions.{judged_ok}
use Rattle.orders.proofs.Rows.{row_within}
use Rattle.orders.proofs.Rulings.{asks_for, coded}
use Rattle.ranking.specs.Indexes.{Index}
use Rattle.ranking.specs.declared.ranked.Side.{Side}
use Rattle.ranking.specs.Indexes.{kind_list, kind_members}
use Rattle.ledger.specs.Indexed.{Lists, Indexed}

take_set_in : (xs : List ℕ) (n m v : ℕ) → m < n → n ≤ length xs → take n (set xs m v) ≡ set (take n xs) m v
take_set_in xs n m v h l =
    let long : length (take n xs) ≡ n = length-take-le n xs l in
    ap (λ (ys : List ℕ). take n (set ys m v)) (sym (take-append-drop n xs))
    ∙ ap (take n) (set-append_left (take n xs) (drop n xs) m v (omega (arith, long)))
    ∙ take_at (set (take n xs) m v) (drop n xs) n (length-set (take n xs) m v ∙ long)

module _ (M k m : ℕ) (codes : List ℕ) (h : m < M) (w : k * M + M ≤ length codes) where
  pub length_row : length (kind_row M codes k) ≡ M
  length_row =
      length-map (take M (drop (k * M) codes)) entry_of
      ∙ length-take-le M (drop (k * M) codes) (simp length-drop (omega arith))

  pub get_or_row : get_or (kind_row M codes k) m Nothing ≡ entry_at M codes m k
  get_or_row =
      get_or-map entry_of (take M (drop (k * M) codes)) m 0 Nothing (simp (length-take, length-drop) (omega arith))
      ∙ ap entry_of (get_or-take M (drop (k * M) codes) m 0 h ∙ get_or-drop (k * M) codes m 0)

  -- the row that is written
  pub row_set : (v : ℕ) → kind_row M (set codes (k * M + m) v) k ≡ set (kind_row M codes k) m (entry_of v)
  row_set v =
      ap row_of
      (ap (take M) (drop-set-add (k * M) codes m v)
      ∙ take_set_in (drop (k * M) codes) M m v h (simp length-drop (omega arith)))
      ∙ map-set entry_of (take M (drop (k * M) codes)) m v

  -- and any other
  pub row_other : (j v : ℕ) → j ≢ k → kind_row M (set codes (k * M + m) v) j ≡ kind_row M codes j
  row_other j v d = ap row_of (⊎_elim above below (cases_lt k j))
    where
      above : k < j → take M (drop (j * M) (set codes (k * M + m) v)) ≡ take M (drop (j * M) codes)
      above l = ap (take M) (drop-set-lt (j * M) codes (k * M + m) v (omega (arith, mul-add-lt k M m j l h)))

      below : j ≤ k → take M (drop (j * M) (set codes (k * M + m) v)) ≡ take M (drop (j * M) codes)
      below l =
          let p : j * M + M ≤ k * M = row_within j k M (k * M) (omega arith) (omega arith) (omega arith) in
          let i : k * M + m ≡ j * M + ((k * M + m) - j * M) = omega arith in
          ap (λ (n : ℕ). take M (drop (j * M) (set codes n v))) i
          ∙ ap (take M) (drop-set-add (j * M) codes ((k * M + m) - j * M) v)
          ∙ take-set-le M (drop (j * M) codes) ((k * M + m) - j * M) v (omega arith)

-- what replacing an entry in an index promises
pub record Replaces (o : Order) (ix ix' : Index) : Type 0 where
  pub row :
      (row : List Entry) → o.member.0 < length row → get_or row o.member.0 Nothing ≡ o.replaced → Lists row o.kind.0 ix
      → Lists (set row o.member.0 o.entry) o.kind.0 ix'
  pub rest : (k : ℕ) (s : Side) → (k ≡ o.kind.0 → ⊥) → kind_list k s ix' ≡ kind_list k s ix
  pub size : (k : ℕ) → kind_members k ix' ≡ kind_members k ix

module _ (K M : ℕ) (h : Held) (ix ix' : Index) (was : Indexed K M h.entries ix) where
  abbrev After : Order → Type 0
  After o = Replaces o ix ix' → Indexed K M (entries_after M h.entries (Ok o)) ix'

  -- of an order whose entry is read again as it was written
  order_after : (o : Order) → o.member.0 < M → o.kind.0 < K → K * M ≤ length h.entries → o.replaced ≡ entry_at M h.entries o.member.0 o.kind.0 → entry_of (unwrap_or (encoded o.entry) 0) ≡ o.entry → After o
  order_after o inside exists long had read r j l = ⊎_elim this other (cases_eq j o.kind.0)
    where
      i : ℕ
      i = o.member.0

      k : ℕ
      k = o.kind.0

      code : ℕ
      code = unwrap_or (encoded o.entry) 0

      within : k * M + M ≤ length h.entries
      within = row_within k K M (length h.entries) (omega (arith, inside)) exists long

      Goal : Type 0
      Goal = Lists (kind_row M (set h.entries (k * M + i) code) j) j ix'

      row : List Entry
      row = kind_row M h.entries k

      written : Lists (set row i o.entry) k ix'
      written =
          r.row row (omega (arith, inside, length_row M k i h.entries inside within))
          (get_or_row M k i h.entries inside within ∙ sym had) (was k exists)

      this : j ≡ k → Goal
      this q =
          subst (λ (n : ℕ). Lists (kind_row M (set h.entries (k * M + i) code) n) n ix') (sym q)
          (subst (λ (x : List Entry). Lists x k ix')
          (ap (set row i) (sym read) ∙ sym (row_set M k i h.entries inside within code)) written)

      other : (j ≡ k → ⊥) → Goal
      other d =
          subst (λ (x : List Entry). Lists x j ix') (sym (row_other M k i h.entries inside within j code d))
          (record {
            sides = λ s. r.rest j s d ∙ (was j l).sides s;
            members = r.size j ∙ (was j l).members;
          })

  pub indexed_after : (m : List ℕ) (o : Order) → judged K M h m ≡ Ok o → After o
  indexed_after m o j =
      let b = judged_ok K M h m o j in
      let p = position K M h (fields m).member in
      let e = b.rule.entry in
      subst After (sym b.rule.same)
      (order_after (order_of p (fields m) e (committed_with p (fields m).kind e)) b.rule.member b.rule.kind
      b.fits.entries refl
      (coded (fields m).sort (fields m).cents e (asks_for (fields m).sort (fields m).cents e b.rule.asks)))
