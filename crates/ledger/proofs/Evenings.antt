-- A whole evening is under way from its opening to its closing, and all that is promised of it holds.
use Rattle.std.proofs.Common.{◌≡◌, ℕ, ◌*◌, ◌≤◌, false, List, length, get_or, None, sym, refl, ap, ◌∙◌, subst, arith}
use Rattle.std.proofs.lemmas.Bool.{le-ltb}
use Rattle.orders.specs.Lent.{Held, Fits}
use Rattle.orders.specs.Opening.{opening}
use Rattle.orders.specs.Running.{run, answers_to}
use Rattle.orders.specs.Statements.{AllSound}
use Rattle.orders.proofs.Openings.{opens, lacks_nothing, length_emptied, opened_sound}
use Rattle.orders.proofs.Soundness.{sound_run}
use Rattle.ranking.specs.Indexes.{Index}
use Rattle.ledger.specs.Indexed.{Indexed}
use Rattle.ledger.specs.Refusing.{no_room, closing, holding}
use Rattle.ledger.specs.Underway.{InBounds, Underway}
use Rattle.ledger.specs.Whole.{opened, at_closing, Fair, FairFromMessages}
use Rattle.ledger.proofs.Conservation.{order_is_free}
use Rattle.ledger.proofs.Limits.{conserved, all_but_one_in}
use Rattle.ledger.proofs.Truths.{loses_nothing, one_true_number, true_evenings, fits_run, run_accounts}

pub fair : (K M fund : ℕ) (h : Held) → InBounds K M fund h → Fair K M fund h
fair K M fund h b =
    record {
      no_loss = loses_nothing K M h b.fits b.sound;
      conserved = conserved K M fund h b;
      any_order = order_is_free K M h b.fits b.sound b.some_members fund;
      all_but_one = λ k l. all_but_one_in _;
    }

module _ (K M fund : ℕ) (h : Held) (e : None ≡ opening K M fund h) where
  fits_opened : Fits K M (opened K M h)
  fits_opened =
      let f = (opens K M fund h e).fits in
      record {
        entries = omega (arith, f.entries, length_emptied (K * M) h.entries f.entries);
        numbers = omega (arith, f.numbers, length_emptied M h.numbers f.numbers);
        committed = omega (arith, f.committed, length_emptied M h.committed f.committed);
        accounts = f.accounts;
        berths = f.berths;
      }

  sound_opened : AllSound K M (opened K M h)
  sound_opened = opened_sound K M (opened K M h) h.entries h.committed refl refl

  pub bounds : (ms : List (List ℕ)) → InBounds K M fund (at_closing K M h ms)
  bounds ms =
      let o = opens K M fund h e in
      record {
        few_kinds = o.few_kinds;
        some_members = o.some_members;
        few_members = o.few_members;
        fits = fits_run K M (opened K M h) ms fits_opened;
        sound = sound_run K M (opened K M h) ms sound_opened;
        accounts = λ i l. omega (arith, o.low_accounts i l, ap (λ xs. get_or xs i 0) (run_accounts K M (opened K M h) ms));
        low_fund = o.low_fund;
      }

  pub fair_from_messages : (ms : List (List ℕ)) → FairFromMessages K M fund h ms
  fair_from_messages ms =
      record {
        true_number = one_true_number K M (opened K M h) ms fits_opened sound_opened;
        true_evenings = true_evenings K M (opened K M h) ms fits_opened sound_opened;
        closing = fair K M fund (at_closing K M h ms) (bounds ms);
      }

  pub nothing_refused : (copy sheet buyers sellers : ℕ) → K * M ≤ copy → no_room K M sheet buyers sellers ≡ false →
      holding K M fund h copy sheet buyers sellers ≡ None
  nothing_refused copy sheet buyers sellers l room = rw (sym e, le-ltb copy (K * M) l, room)

  -- and it can be closed, where there is room
  pub closes : (ms : List (List ℕ)) (sheet buyers sellers : ℕ) → no_room K M sheet buyers sellers ≡ false →
      closing K M (at_closing K M h ms) sheet buyers sellers ≡ None
  closes ms sheet buyers sellers room = rw (lacks_nothing K M (at_closing K M h ms) (bounds ms).fits, room)

pub room_in_run : (K M K₀ M₀ : ℕ) (h₁ h₂ : Held) (ms : List (List ℕ)) → K₀ ≡ K → M₀ ≡ M → Fits K M h₁ → h₂ ≡ run K₀ M₀ h₁ ms → K * M ≤ length h₂.entries
room_in_run K M K₀ M₀ h₁ h₂ ms ek em f r =
    let same : h₂ ≡ run K M h₁ ms = r ∙ ap (λ k. run k M₀ h₁ ms) ek ∙ ap (λ m. run K m h₁ ms) em in
    omega (arith, (fits_run K M h₁ ms f).entries, ap (λ (x : Held). length x.entries) same)

-- An evening from call to call: the token that each call hands on has the same kinds, members and fund as the opening.
module _ (K M fund : ℕ) (h : Held) (e : None ≡ opening K M fund h) (K₀ M₀ K₁ M₁ fund₁ : ℕ) (ek₀ : K₀ ≡ K) (em₀ : M₀ ≡ M) (ek₁ : K₁ ≡ K) (em₁ : M₁ ≡ M)
    (ef₁ : fund₁ ≡ fund) (ms : List (List ℕ)) (h₁ h₂ : Held) (o : h₁ ≡ opened K M h) (r : h₂ ≡ run K₀ M₀ h₁ ms) where
  pub run_is : h₂ ≡ at_closing K M h ms
  run_is = r ∙ ap (λ k. run k M₀ h₁ ms) ek₀ ∙ ap (λ m. run K m h₁ ms) em₀ ∙ ap (λ x. run K M x ms) o

  pub answers_are : answers_to K₀ M₀ h₁ ms ≡ answers_to K M (opened K M h) ms
  answers_are = ap (λ k. answers_to k M₀ h₁ ms) ek₀ ∙ ap (λ m. answers_to K m h₁ ms) em₀ ∙ ap (λ x. answers_to K M x ms) o

  pub carried : (P : ℕ → ℕ → ℕ → Held → Type 0) → P K₁ M₁ fund₁ h₂ → P K M fund (at_closing K M h ms)
  carried P p =
      subst (P K M fund) run_is (subst (λ f. P K M f h₂) ef₁ (subst (λ m. P K m fund₁ h₂) em₁ (subst (λ k. P k M₁ fund₁ h₂) ek₁ p)))

  carried_back : (P : ℕ → ℕ → ℕ → Held → Type 0) → P K M fund (at_closing K M h ms) → P K₁ M₁ fund₁ h₂
  carried_back P p =
      subst (λ k. P k M₁ fund₁ h₂) (sym ek₁) (subst (λ m. P K m fund₁ h₂) (sym em₁) (subst (λ f. P K M f h₂) (sym ef₁) (subst (P K M fund) (sym run_is) p)))

  pub still_underway : (ix₀ ix₁ : Index) → Indexed K M h₁.entries ix₀ → (Indexed K₀ M₀ h₁.entries ix₀ → Indexed K₀ M₀ h₂.entries ix₁) →
      Underway K₁ M₁ fund₁ h₂ ix₁
  still_underway ix₀ ix₁ was kept =
      let before : Indexed K₀ M₀ h₁.entries ix₀ =
      subst (λ k. Indexed k M₀ h₁.entries ix₀) (sym ek₀) (subst (λ m. Indexed K m h₁.entries ix₀) (sym em₀) was) in
      let after : Indexed K M h₂.entries ix₁ =
      subst (λ m. Indexed K m h₂.entries ix₁) em₀ (subst (λ k. Indexed k M₀ h₂.entries ix₁) ek₀ (kept before)) in
      carried_back (λ k m f x. Underway k m f x ix₁)
      (record { in_bounds = bounds K M fund h e ms; indexed = subst (λ x. Indexed K M x.entries ix₁) run_is after })

  pub still_closes : (sheet buyers sellers : ℕ) → no_room K M sheet buyers sellers ≡ false → closing K₁ M₁ h₂ sheet buyers sellers ≡ None
  still_closes sheet buyers sellers room =
      carried_back (λ k m f x. closing k m x sheet buyers sellers ≡ None) (closes K M fund h e ms sheet buyers sellers room)
