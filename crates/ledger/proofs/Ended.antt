-- From settled kinds to a closed evening.
use Rattle.std.proofs.Common.{◌≡◌, ℕ, ◌+◌, ◌*◌, Bool, true, false, ◌||◌, ltb, List, length, Some, None, Ok, Err, Option, Result, sym, refl, ap, ◌∙◌, subst, arith}
use Rattle.std.proofs.lemmas.Bool.{or_parts, ltb-false}
use Rattle.std.specs.Result.{MatchResult}
use Rattle.orders.specs.declared.refusal.Part.{Part}
use Rattle.orders.specs.declared.refusal.Refusal.{Refusal}
use Rattle.orders.specs.Lent.{Held}
use Rattle.orders.specs.Opening.{emptied}
use Rattle.ranking.specs.Indexes.{Index}
use Rattle.ranking.specs.declared.ranked.Ranked.{Ranked}
use Rattle.ledger.specs.Closing.{Settled, ClosedAs}
use Rattle.ledger.specs.Refusing.{no_room, short_or, refused_with}
use Rattle.ledger.specs.Underway.{Underway, Closable}

-- where nothing is refused, no part is too short, and there is room
pub none_short : (part : Option Part) (tight : Bool) → None ≡ short_or part tight → (part ≡ None) × (tight ≡ false)
none_short None false e = (refl, refl)
none_short None true e = let z : ◌≡◌ {A = ℕ} 0 1 = cc in absurd (omega arith)
none_short (Some p) tight e = let z : ◌≡◌ {A = ℕ} 0 1 = cc in absurd (omega arith)

pub closable : (K M fund : ℕ) (h : Held) (ix : Index) (sheet : List ℕ) (buyers sellers : List Ranked) →
    no_room K M (length sheet) (length buyers) (length sellers) ≡ false → Underway K M fund h ix → Closable K M fund h ix sheet buyers sellers
closable K M fund h ix sheet buyers sellers room u =
    let a = or_parts (ltb (length sheet) (K * (16 + 6 * M))) (ltb (length buyers) M || ltb (length sellers) M) room in
    let b = or_parts (ltb (length buyers) M) (ltb (length sellers) M) a.1 in
    record {
      underway = u;
      sheet_room = ltb-false (length sheet) (K * (16 + 6 * M)) a.0;
      buyers_room = ltb-false (length buyers) M b.0;
      sellers_room = ltb-false (length sellers) M b.1;
    }

-- what was not refused is there, with what it hands back taken off or not
pub not_refused_is : {A S : Type 0} (P : S × Refusal → Type 0) (r : Result A (S × Refusal)) (q : Result A Refusal) → refused_with r ≡ None →
    MatchResult r (λ x. q ≡ Ok x) P → (x : A) × (r ≡ Ok x) × (q ≡ Ok x)
not_refused_is P (Ok x) q n m = (x, refl, m)
not_refused_is P (Err e) q n m = let z : ◌≡◌ {A = ℕ} 0 1 = cc in absurd (omega arith)

-- m after the kinds are settled, g after the entries are emptied
pub closed_as : (K M fund : ℕ) (h m g : Held) (f f' : ℕ) → Settled K M fund h K m.accounts m.berths f → m.entries ≡ h.entries →
    m.numbers ≡ h.numbers → m.committed ≡ h.committed → g.accounts ≡ m.accounts → g.berths ≡ m.berths →
    g.entries ≡ emptied None (K * M) m.entries → g.committed ≡ emptied None M m.committed → g.numbers ≡ m.numbers → f' ≡ f →
    ClosedAs K M fund h g f'
closed_as K M fund h m g f f' s me mn mc ga gb ge gc gn ef =
    record {
      settled =
          subst (λ xs. Settled K M fund h K xs g.berths f') (sym ga)
          (subst (λ ys. Settled K M fund h K m.accounts ys f') (sym gb) (subst (λ n. Settled K M fund h K m.accounts m.berths n) (sym ef) s));
      entries = ge ∙ ap (emptied None (K * M)) me;
      committed = gc ∙ ap (emptied None M) mc;
      numbers = gn ∙ mn;
    }
