-- What a message does to each member's position: to its own member's what an order leaves, to any other's nothing.
use Rattle.std.proofs.Common.{◌≡◌, ℕ, ◌+◌, ◌*◌, ◌/◌, ◌%◌, ◌<◌, Bool, true, false, cond, ◌||◌, eqb, ltb, ◌≢◌, List, length, get_or, set, Some, None, Ok, Err, Option, Result, unwrap_or, sym, refl, ap, ◌∙◌, ⊎_elim, arith}
use Rattle.std.proofs.lemmas.Nat.{mul-add-lt, mod-mul-add, div-mul-add}
use Rattle.std.proofs.lemmas.List.{get_or-set_same, get_or-set_other}
use Rattle.std.proofs.lemmas.Bool.{eqb-true, eq-eqb, ne_eqb, ltb-false, and_parts, and_from, or_parts, cases_eq, both_ways}
use Rattle.orders.specs.declared.entry.Entry.{Entry}
use Rattle.orders.specs.declared.order.Order.{Order}
use Rattle.orders.specs.declared.refusal.Part.{Part}
use Rattle.orders.specs.declared.refusal.Part.TheVariants.{Entries, Accounts, Berths}
use Rattle.orders.specs.declared.refusal.Refusal.{Refusal}
use Rattle.orders.specs.declared.refusal.Refusal.TheVariants.{Length, Short}
use Rattle.orders.specs.Entries.{encoded, entry_of}
use Rattle.orders.specs.Words.{word2}
use Rattle.orders.specs.Messages.{fields, message_of}
use Rattle.orders.specs.Taking.{Position, and_then, ruling}
use Rattle.orders.specs.Lent.{Held, Fits, lacking, entry_at, position, unless_short, judged, entries_after, numbers_after, committed_after, held_after}
use Rattle.orders.specs.Members.{is_of, with_entry, moved}
use Rattle.orders.proofs.Rulings.{Ordered, ordered, ok_cond, ok_and_then, err_is_not_ok, asks_for, coded}

-- nothing lacks: all parts are long enough
none_cond : {A : Type 0} (t : Bool) (x : A) (r : Option A) → cond t (Some x) r ≡ None → (t ≡ false) × (r ≡ None)
none_cond true x r h = let z : ◌≡◌ {A = ℕ} 0 1 = cc in absurd (omega arith)
none_cond false x r h = (refl, h)

pub fits_from : (K M : ℕ) (h : Held) → lacking K M h ≡ None → Fits K M h
fits_from K M h e =
    let berths = cond (ltb (length h.berths) (K * M)) (Some Berths) None in
    let beside = ltb (length h.numbers) M || ltb (length h.committed) M in
    let a = none_cond (ltb (length h.entries) (K * M) || beside) Entries (cond (ltb (length h.accounts) M) (Some Accounts) berths) e in
    let b = none_cond (ltb (length h.accounts) M) Accounts berths a.1 in
    let d = none_cond (ltb (length h.berths) (K * M)) Berths None b.1 in
    let p = or_parts (ltb (length h.entries) (K * M)) beside a.0 in
    let q = or_parts (ltb (length h.numbers) M) (ltb (length h.committed) M) p.1 in
    record {
      entries = ltb-false (length h.entries) (K * M) p.0;
      numbers = ltb-false (length h.numbers) M q.0;
      committed = ltb-false (length h.committed) M q.1;
      accounts = ltb-false (length h.accounts) M b.0;
      berths = ltb-false (length h.berths) (K * M) d.0;
    }

-- what stands behind an order
pub record Judged (K M : ℕ) (h : Held) (m : List ℕ) (o : Order) : Type 0 where
  pub fits : Fits K M h
  pub twelve : length m ≡ 12
  pub rule : Ordered K M (position K M h) (fields m) o

ok_short : {A : Type 0} (p : Option Part) (r : Result A Refusal) (x : A) → unless_short p r ≡ Ok x → (p ≡ None) × (r ≡ Ok x)
ok_short None r x h = (refl, h)
ok_short (Some p) r x h = absurd (err_is_not_ok (Short p) x h)

pub judged_ok : (K M : ℕ) (h : Held) (m : List ℕ) (o : Order) → judged K M h m ≡ Ok o → Judged K M h m o
judged_ok K M h m o e =
    let a = ok_short (lacking K M h) (and_then (message_of m) (λ f. ruling K M (position K M h) f)) o e in
    let b = ok_and_then (message_of m) (λ f. ruling K M (position K M h) f) o a.1 in
    let d = ok_cond (eqb (length m) 12) (Ok (fields m)) (Length (length m)) b.0 b.1 in
    let same : fields m ≡ b.0 = cc d.1 in
    record {
      fits = fits_from K M h a.0;
      twelve = eqb-true (length m) 12 d.0;
      rule = ordered K M (position K M h) (fields m) o (ap (ruling K M (position K M h)) same ∙ b.2);
    }

-- slots of different members, and of different kinds, are apart
apart_members : (k l i j M : ℕ) → i < M → j < M → i ≢ j → k * M + i ≢ l * M + j
apart_members k l i j M hi hj d e = d (sym (mod-mul-add k M i hi) ∙ ap (λ (n : ℕ). n % M) e ∙ mod-mul-add l M j hj)

apart_kinds : (k l i M : ℕ) → i < M → k ≢ l → k * M + i ≢ l * M + i
apart_kinds k l i M hi d e = d (sym (div-mul-add k M i hi) ∙ ap (λ (n : ℕ). n / M) e ∙ div-mul-add l M i hi)

-- a position in which the entries and the last number are others
same_position : (K M : ℕ) (h : Held) (i : ℕ) (codes numbers committed : List ℕ) (p : Position) → p.berths ≡ (position K M h i).berths → p.account ≡ (position K M h i).account → ((k : ℕ) → entry_at M codes i k ≡ p.entry k) → get_or numbers i 0 ≡ p.last → get_or committed i 0 ≡ p.committed → position K M (record { entries = codes; numbers = numbers; committed = committed; accounts = h.accounts; berths = h.berths }) i ≡ p
same_position K M h i codes numbers committed p eb ea ee el ec =
    λ x. record { entry = λ k. ee k x; berths = sym eb x; account = sym ea x; last = el x; committed = ec x }

module _ (K M : ℕ) (h : Held) (m : List ℕ) (i : ℕ) (within : i < M) where
  abbrev Left : Result Order Refusal → Held
  Left r = record { entries = entries_after M h.entries r; numbers = numbers_after h.numbers r; committed = committed_after h.committed r; accounts = h.accounts; berths = h.berths }

  -- another's message leaves the position as it was
  pub other_stays : is_of i m ≡ false → position K M (held_after K M h m) i ≡ position K M h i
  other_stays no_own = go (judged K M h m) refl
    where
      go : (r : Result Order Refusal) → judged K M h m ≡ r → position K M (Left r) i ≡ position K M h i
      go (Err e) j = refl
      go (Ok o) j =
          let b = judged_ok K M h m o j in
          let from : o.member.0 ≡ word2 m 0 = ap (λ (q : Order). q.member.0) b.rule.same in
          let other : o.member.0 ≢ i =
          λ e. both_ways (is_of i m) no_own (and_from (eqb (length m) 12) (eqb (word2 m 0) i) (eq-eqb (length m) 12 b.twelve) (eq-eqb (word2 m 0) i (sym from ∙ e))) in
          let inside : o.member.0 < M = omega (arith, from, b.rule.member) in
          same_position K M h i (entries_after M h.entries (Ok o)) (numbers_after h.numbers (Ok o)) (committed_after h.committed (Ok o)) (position K M h i) refl refl
          (λ k. ap entry_of (get_or-set_other h.entries (o.kind.0 * M + o.member.0) (k * M + i) (unwrap_or (encoded o.entry) 0) 0 (apart_members k o.kind.0 i o.member.0 M within inside (λ e. other (sym e)))))
          (get_or-set_other h.numbers o.member.0 i o.number 0 (λ e. other (sym e)))
          (get_or-set_other h.committed o.member.0 i o.committed.0 0 (λ e. other (sym e)))

  -- one's own leaves what its order says
  pub own_moves : is_of i m ≡ true → position K M (held_after K M h m) i ≡ moved (position K M h i) (judged K M h m)
  own_moves is-own = go (judged K M h m) refl
    where
      go : (r : Result Order Refusal) → judged K M h m ≡ r → position K M (Left r) i ≡ moved (position K M h i) r
      go (Err e) j = refl
      go (Ok o) j =
          let b = judged_ok K M h m o j in
          let sender : word2 m 0 ≡ i = eqb-true (word2 m 0) i (and_parts (eqb (length m) 12) (eqb (word2 m 0) i) is-own).1 in
          let from : o.member.0 ≡ i = ap (λ (q : Order). q.member.0) b.rule.same ∙ sender in
          let kind : o.kind.0 < K = omega (arith, ap (λ (q : Order). q.kind.0) b.rule.same, b.rule.kind) in
          let code = unwrap_or (encoded o.entry) 0 in
          let read : entry_of code ≡ o.entry =
          let e : o.entry ≡ b.rule.entry = ap (λ (q : Order). q.entry) b.rule.same in
          ap (λ (x : Entry). entry_of (unwrap_or (encoded x) 0)) e ∙ coded (fields m).sort (fields m).cents b.rule.entry (asks_for (fields m).sort (fields m).cents b.rule.entry b.rule.asks) ∙ sym e in
          let slot : o.kind.0 * M + i < length h.entries = omega (arith, mul-add-lt o.kind.0 M i K kind within, b.fits.entries) in
          let here : (k : ℕ) → k ≡ o.kind.0 → entry_at M (set h.entries (o.kind.0 * M + i) code) i k ≡ with_entry (entry_at M h.entries i) o.kind.0 o.entry k =
          λ k e. rw (e, eq-eqb o.kind.0 o.kind.0 refl) (ap entry_of (get_or-set_same h.entries (o.kind.0 * M + i) code 0 slot) ∙ read) in
          let there : (k : ℕ) → (k ≡ o.kind.0 → ⊥) → entry_at M (set h.entries (o.kind.0 * M + i) code) i k ≡ with_entry (entry_at M h.entries i) o.kind.0 o.entry k =
          λ k d. rw (ne_eqb k o.kind.0 d) (ap entry_of (get_or-set_other h.entries (o.kind.0 * M + i) (k * M + i) code 0 (apart_kinds k o.kind.0 i M within d))) in
          same_position K M h i (entries_after M h.entries (Ok o)) (numbers_after h.numbers (Ok o)) (committed_after h.committed (Ok o)) (moved (position K M h i) (Ok o)) refl refl
          (λ k. ap (λ (n : ℕ). entry_at M (set h.entries (o.kind.0 * M + n) code) i k) from ∙ ⊎_elim (here k) (there k) (cases_eq k o.kind.0))
          (ap (λ (n : ℕ). get_or (set h.numbers n o.number) i 0) from ∙ get_or-set_same h.numbers i o.number 0 (omega (arith, b.fits.numbers)))
          (ap (λ (n : ℕ). get_or (set h.committed n o.committed.0) i 0) from ∙ get_or-set_same h.committed i o.committed.0 0 (omega (arith, b.fits.committed)))
