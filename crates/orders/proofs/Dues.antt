-- A message is taken exactly when it is due.
use Rattle.std.proofs.Common.{◌≡◌, ℕ, ◌*◌, ◌<◌, ◌≤◌, Bool, true, eqb, leb, ◌⊎◌, List, length, is_ok, Ok, Err, Result, refl, ap, ◌∙◌, subst, ⊎_elim, arith}
use Rattle.std.proofs.lemmas.Bool.{leb-true, lt-ltb, le-leb, eq-eqb, eqb-true, and_parts, and_from}
use Rattle.std.proofs.lemmas.Bool.Decides.{Decides-at}
use Rattle.orders.specs.declared.refusal.Refusal.TheVariants.{Length}
use Rattle.orders.specs.Messages.{fields, message_of}
use Rattle.orders.specs.Lent.{Held, position, judged, answer}
use Rattle.orders.specs.declared.entry.Entry.{Entry}
use Rattle.orders.specs.declared.entry.Entry.TheVariants.{Bid}
use Rattle.orders.specs.declared.message.Message.{Message}
use Rattle.orders.specs.declared.order.Order.{Order}
use Rattle.orders.specs.declared.refusal.Refusal.{Refusal}
use Rattle.orders.specs.Range.{in_range}
use Rattle.orders.specs.Taking.{Position, committed_with, asked, allowed, and_then, ruling}
use Rattle.orders.specs.Members.{bids, with_entry, Backed, Sound, written, Due}
use Rattle.orders.specs.Statements.{TakenWhenDue}
use Rattle.orders.proofs.Rulings.{Ordered, ordered, ok_cond, ok_and_then, Asks, for_nothing, for_bid, for_ask, asks_for}
use Rattle.orders.proofs.Soundness.{allowed_sound}
use Rattle.orders.proofs.Sums.{committed_kept}
use Rattle.orders.proofs.Openings.{lacks_nothing}

ok_value : {A : Type 0} (r : Result A Refusal) → is_ok r ≡ true → (x : A) × (r ≡ Ok x)
ok_value (Ok x) h = (x, refl)
ok_value (Err e) h = let z : ◌≡◌ {A = ℕ} 0 1 = cc in absurd (omega arith)

due_if_taken : (K M : ℕ) (P : ℕ → Position) (m : Message) → (m.member < M → Sound K (P m.member)) → is_ok (ruling K M P m) ≡ true → Due K M (P m.member) m
due_if_taken K M P m s t = go (asks_for m.sort m.cents r.entry r.asks)
  where
    got : (o : Order) × (ruling K M P m ≡ Ok o)
    got = ok_value (ruling K M P m) t

    r : Ordered K M P m got.0
    r = ordered K M P m got.0 got.1

    a : (2 * bids (with_entry (P m.member).entry m.kind r.entry) K ≤ (P m.member).account) × Backed r.entry ((P m.member).berths m.kind)
    a = allowed_sound K (P m.member) m.kind r.entry r.kind (s r.member) r.allows

    covered : r.entry ≡ written m → 2 * bids (with_entry (P m.member).entry m.kind (written m)) K ≤ (P m.member).account
    covered e = subst (λ (x : Entry). 2 * bids (with_entry (P m.member).entry m.kind x) K ≤ (P m.member).account) e a.0

    bounds : in_range m.cents ≡ true → (1 ≤ m.cents) × (m.cents ≤ 10000000)
    bounds h = let p = and_parts (leb 1 m.cents) (leb m.cents 10000000) h in (leb-true 1 m.cents p.0, leb-true m.cents 10000000 p.1)

    go : Asks m.sort m.cents r.entry → Due K M (P m.member) m
    go (for_nothing z c e) =
        record {
          member_exists = r.member;
          kind_exists = r.kind;
          number_is_new = r.newer;
          sort_is_known = omega arith;
          nothing_is_free = λ _. c;
          cents_least = λ h. absurd (omega arith);
          cents_most = λ h. absurd (omega arith);
          bids_are_covered = covered (e ∙ rw z);
          ask_is_backed = λ h. absurd (omega arith);
          bid_is_counted = λ h. absurd (omega arith);
        }
    go (for_bid z c e) =
        record {
          member_exists = r.member;
          kind_exists = r.kind;
          number_is_new = r.newer;
          sort_is_known = omega arith;
          nothing_is_free = λ h. absurd (omega arith);
          cents_least = λ _. (bounds c).0;
          cents_most = λ _. (bounds c).1;
          bids_are_covered = covered (e ∙ rw z);
          ask_is_backed = λ h. absurd (omega arith);
          bid_is_counted = λ _. subst (λ (x : Entry). Backed x ((P m.member).berths m.kind)) e a.1;
        }
    go (for_ask z c e) =
        record {
          member_exists = r.member;
          kind_exists = r.kind;
          number_is_new = r.newer;
          sort_is_known = omega arith;
          nothing_is_free = λ h. absurd (omega arith);
          cents_least = λ _. (bounds c).0;
          cents_most = λ _. (bounds c).1;
          bids_are_covered = covered (e ∙ rw z);
          ask_is_backed = λ _. subst (λ (x : Entry). Backed x ((P m.member).berths m.kind)) e a.1;
          bid_is_counted = λ h. absurd (omega arith);
        }

answer_ok : {A : Type 0} (r : Result A Refusal) → is_ok (answer r) ≡ is_ok r
answer_ok (Ok x) = refl
answer_ok (Err e) = refl

-- an entry that is due is asked for and allowed
due_entry : (K M : ℕ) (p : Position) (m : Message) → Sound K p → Due K M p m → (asked m.sort m.cents ≡ Ok (written m)) × (allowed p m.kind (written m) ≡ Ok (committed_with p m.kind (written m)))
due_entry K M p m s d = ⊎_elim nothing (⊎_elim bid ask) sorts
  where
    Goal : Type 0
    Goal = (asked m.sort m.cents ≡ Ok (written m)) × (allowed p m.kind (written m) ≡ Ok (committed_with p m.kind (written m)))

    sorts : (m.sort ≡ 0) ⊎ ((m.sort ≡ 1) ⊎ (m.sort ≡ 2))
    sorts = grind (arith, d.sort_is_known)

    range : 1 ≤ m.sort → in_range m.cents ≡ true
    range h = and_from (leb 1 m.cents) (leb m.cents 10000000) (le-leb 1 m.cents (d.cents_least h)) (le-leb m.cents 10000000 (d.cents_most h))

    covered : leb (committed_with p m.kind (written m)) p.account ≡ true
    covered = le-leb (committed_with p m.kind (written m)) p.account (omega (arith, committed_kept p m.kind (written m) K d.kind_exists s.kept, d.bids_are_covered))

    nothing : m.sort ≡ 0 → Goal
    nothing z = (rw (z, d.nothing_is_free z), rw z)

    bid : m.sort ≡ 1 → Goal
    bid z =
        let w : written m ≡ Bid (record { 0 = m.cents }) = rw z in
        (rw (z, range (omega arith)), rw (w, rw w at covered, lt-ltb (p.berths m.kind) 255 (d.bid_is_counted z)))

    ask : m.sort ≡ 2 → Goal
    ask z = (rw (z, range (omega arith)), rw (z, lt-ltb 0 (p.berths m.kind) (d.ask_is_backed z)))

taken_if_due : (K M : ℕ) (P : ℕ → Position) (m : Message) → (m.member < M → Sound K (P m.member)) → Due K M (P m.member) m → is_ok (ruling K M P m) ≡ true
taken_if_due K M P m s d =
    let e = due_entry K M (P m.member) m (s d.member_exists) d in
    rw (lt-ltb m.member M d.member_exists, lt-ltb (P m.member).last m.number d.number_is_new, lt-ltb m.kind K d.kind_exists, e.0, e.1)

pub taken_when_due : (K M : ℕ) (h : Held) (bytes : List ℕ) (taken : Bool) → taken ≡ is_ok (answer (judged K M h bytes)) → TakenWhenDue K M h bytes taken
taken_when_due K M h bytes taken e f s = Decides-at taken (is_ok (ruled (message_of bytes))) (e ∙ rw (lacks_nothing K M h f) (answered (message_of bytes))) (forth, back)
  where
    P : ℕ → Position
    P = position K M h

    ruled : Result Message Refusal → Result Order Refusal
    ruled r = and_then r (λ m. ruling K M P m)

    answered : (r : Result Message Refusal) → is_ok (answer (ruled r)) ≡ is_ok (ruled r)
    answered r = answer_ok (ruled r)

    forth : is_ok (ruled (message_of bytes)) ≡ true → (length bytes ≡ 12) × Due K M (P (fields bytes).member) (fields bytes)
    forth t =
        let v = ok_value (ruled (message_of bytes)) t in
        let a = ok_and_then (message_of bytes) (λ m. ruling K M P m) v.0 v.1 in
        let b = ok_cond (eqb (length bytes) 12) (Ok (fields bytes)) (Length (length bytes)) a.0 a.1 in
        let same : fields bytes ≡ a.0 = cc b.1 in (
          eqb-true (length bytes) 12 b.0,
          due_if_taken K M P (fields bytes) (s (fields bytes).member) (ap (λ (m : Message). is_ok (ruling K M P m)) same ∙ ap is_ok a.2),
        )

    back : (length bytes ≡ 12) × Due K M (P (fields bytes).member) (fields bytes) → is_ok (ruled (message_of bytes)) ≡ true
    back d = rw (eq-eqb (length bytes) 12 d.0) (taken_if_due K M P (fields bytes) (s (fields bytes).member) d.1)
