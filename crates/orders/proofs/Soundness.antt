-- A member's bids stay covered and its entries backed, whatever messages come.
use Rattle.std.proofs.Common.{◌≡◌, ℕ, ◌*◌, ◌<◌, ◌≤◌, Bool, true, false, cond, eqb, ltb, leb, List, [], ◌∷◌, length, Ok, Err, Result, sym, refl, subst, ⊎_elim, arith}
use Rattle.std.proofs.lemmas.Bool.{leb-true, ltb-true, eqb-true, and_parts, cases_eq}
use Rattle.orders.specs.declared.entry.Entry.{Entry}
use Rattle.orders.specs.declared.entry.Entry.TheVariants.{Nothing, Bid, Ask}
use Rattle.orders.specs.declared.message.Message.{Message}
use Rattle.orders.specs.declared.order.Order.{Order}
use Rattle.orders.specs.declared.refusal.Refusal.{Refusal}
use Rattle.orders.specs.declared.refusal.Refusal.TheVariants.{Uncovered, Full, Unbacked}
use Rattle.orders.specs.Taking.{Position, committed_with, allowed}
use Rattle.orders.specs.Words.{word2}
use Rattle.orders.specs.Messages.{fields}
use Rattle.orders.specs.Lent.{Held, position, judged, held_after}
use Rattle.orders.specs.Members.{is_of, bids, with_entry, moved, Backed, Sound}
use Rattle.orders.specs.Running.{run}
use Rattle.orders.specs.Statements.{AllSound}
use Rattle.orders.proofs.Positions.{judged_ok, other_stays, own_moves}
use Rattle.orders.proofs.Rulings.{Ordered, ok_cond}
use Rattle.orders.proofs.Sums.{with_entry_at, with_entry_off, committed_kept}

-- what is allowed is covered and backed
pub allowed_sound : (K : ℕ) (p : Position) (k : ℕ) (e : Entry) → k < K → Sound K p → allowed p k e ≡ Ok (committed_with p k e) → (2 * bids (with_entry p.entry k e) K ≤ p.account) × Backed e (p.berths k)
allowed_sound K p k Nothing l s h = (omega (arith, committed_kept p k Nothing K l s.kept, s.kept, s.covered), tt)
allowed_sound K p k (Bid c) l s h =
    let x = committed_with p k (Bid c) in
    let a = ok_cond (leb x p.account) (cond (ltb (p.berths k) 255) (Ok x) (Err Full)) Uncovered x h in
    let b = ok_cond (ltb (p.berths k) 255) (Ok x) Full x a.1 in
    (omega (arith, committed_kept p k (Bid c) K l s.kept, leb-true x p.account a.0), ltb-true (p.berths k) 255 b.0)
allowed_sound K p k (Ask c) l s h =
    let a = ok_cond (ltb 0 (p.berths k)) (Ok (committed_with p k (Ask c))) Unbacked (committed_with p k (Ask c)) h in
    (omega (arith, committed_kept p k (Ask c) K l s.kept, s.kept, s.covered), ltb-true 0 (p.berths k) a.0)

-- the position with such an entry is sound
entry_sound : (K : ℕ) (p : Position) (k last : ℕ) (e : Entry) → k < K → Sound K p → allowed p k e ≡ Ok (committed_with p k e) → Sound K (record { entry = with_entry p.entry k e; berths = p.berths; account = p.account; last = last; committed = committed_with p k e })
entry_sound K p k last e l s h =
    let a = allowed_sound K p k e l s h in
    record {
      kept = committed_kept p k e K l s.kept;
      covered = a.0;
      backed =
          λ j q.
          ⊎_elim
          (λ i. subst (λ (x : Entry). Backed x (p.berths j)) (sym (with_entry_at p.entry k e j i)) (subst (λ (n : ℕ). Backed e (p.berths n)) (sym i) a.1))
          (λ d. subst (λ (x : Entry). Backed x (p.berths j)) (sym (with_entry_off p.entry k e j d)) (s.backed j q))
          (cases_eq j k);
    }

pub order_sound : (K M : ℕ) (P : ℕ → Position) (m : Message) (o : Order) → Ordered K M P m o → Sound K (P m.member) → Sound K (moved (P m.member) (Ok o))
order_sound K M P m o r s =
    subst (λ (q : Order). Sound K (moved (P m.member) (Ok q))) (sym r.same)
    (entry_sound K (P m.member) m.kind m.number r.entry r.kind s r.allows)

module _ (K M : ℕ) where
  -- one message leaves all positions sound
  sound_after : (h : Held) (m : List ℕ) → AllSound K M h → AllSound K M (held_after K M h m)
  sound_after h m s i l = go (is_of i m) refl
    where
      own : (r : Result Order Refusal) → judged K M h m ≡ r → is_of i m ≡ true → Sound K (moved (position K M h i) r)
      own (Err e) j t = s i l
      own (Ok o) j t =
          let b = judged_ok K M h m o j in
          let q : word2 m 0 ≡ i = eqb-true (word2 m 0) i (and_parts (eqb (length m) 12) (eqb (word2 m 0) i) t).1 in
          subst (λ (n : ℕ). Sound K (moved (position K M h n) (Ok o))) q
          (order_sound K M (position K M h) (fields m) o b.rule (subst (λ (n : ℕ). Sound K (position K M h n)) (sym q) (s i l)))

      go : (t : Bool) → is_of i m ≡ t → Sound K (position K M (held_after K M h m) i)
      go true t = subst (Sound K) (sym (own_moves K M h m i l t)) (own (judged K M h m) refl t)
      go false t = subst (Sound K) (sym (other_stays K M h m i l t)) (s i l)

  pub sound_run : (h : Held) (ms : List (List ℕ)) → AllSound K M h → AllSound K M (run K M h ms)
  unfolding run
  sound_run h [] s = s
  sound_run h (m ∷ ms) s = sound_run (held_after K M h m) ms (sound_after h m s)
