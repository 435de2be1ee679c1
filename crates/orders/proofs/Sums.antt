-- What is bid in all kinds, with another entry in one of them.
use Rattle.std.proofs.Common.{◌≡◌, ℕ, zero, suc, ◌+◌, ◌*◌, ◌<◌, ◌≤◌, refl, ap, ⊎_elim, arith}
use Rattle.std.proofs.lemmas.Bool.{eq-eqb, ne_eqb, cases_eq}
use Rattle.orders.specs.declared.entry.Entry.{Entry}
use Rattle.orders.specs.declared.entry.Entry.TheVariants.{Nothing}
use Rattle.orders.specs.Entries.{bid_in}
use Rattle.orders.specs.Taking.{Position, committed_with}
use Rattle.orders.specs.Members.{bids, with_entry}

pub with_entry_at : (f : ℕ → Entry) (k : ℕ) (e : Entry) (j : ℕ) → j ≡ k → with_entry f k e j ≡ e
with_entry_at f k e j h = rw (eq-eqb j k h)

pub with_entry_off : (f : ℕ → Entry) (k : ℕ) (e : Entry) (j : ℕ) → (j ≡ k → ⊥) → with_entry f k e j ≡ f j
with_entry_off f k e j h = rw (ne_eqb j k h)

-- below kind k nothing changes
bids_before : (f : ℕ → Entry) (k : ℕ) (e : Entry) (n : ℕ) → n ≤ k → bids (with_entry f k e) n ≡ bids f n
bids_before f k e zero h = refl
bids_before f k e (suc n) h =
    omega (arith, bids_before f k e n (omega arith), ap bid_in (with_entry_off f k e n (λ q. omega arith)))

bids_with : (f : ℕ → Entry) (k : ℕ) (e : Entry) (n : ℕ) → k < n → bids (with_entry f k e) n + bid_in (f k) ≡ bids f n + bid_in e
bids_with f k e zero h = absurd (omega arith)
bids_with f k e (suc n) h = ⊎_elim here (there (bids_with f k e n)) (cases_eq n k)
  where
    Goal : Type 0
    Goal = bids (with_entry f k e) (suc n) + bid_in (f k) ≡ bids f (suc n) + bid_in e

    here : n ≡ k → Goal
    here q = omega (arith, bids_before f k e n (omega arith), ap bid_in (with_entry_at f k e n q), ap (λ (j : ℕ). bid_in (f j)) q)

    there : (k < n → bids (with_entry f k e) n + bid_in (f k) ≡ bids f n + bid_in e) → (n ≡ k → ⊥) → Goal
    there rest d = omega (arith, rest (omega arith), ap bid_in (with_entry_off f k e n d))

-- a sum of bids that was kept is kept
pub committed_kept : (p : Position) (k : ℕ) (e : Entry) (K : ℕ) → k < K → p.committed ≡ 2 * bids p.entry K → committed_with p k e ≡ 2 * bids (with_entry p.entry k e) K
committed_kept p k e K h kept = omega (arith, bids_with p.entry k e K h, bids_with p.entry k Nothing K h)
