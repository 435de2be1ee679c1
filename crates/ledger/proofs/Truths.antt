-- From what is in memory to what a member is worth: nobody loses, and of two evenings that differ in nothing but a member's
-- cents the first leaves that member worth as much.
use Rattle.std.proofs.Common.{◌≡◌, ℕ, zero, suc, ◌+◌, ◌*◌, ◌<◌, ◌≤◌, List, [], ◌∷◌, ◌++◌, length, get_or, set, Ok, Err, Result, unwrap_or, sym, refl, ap, ◌∙◌, subst, ⊎_elim, arith}
use Rattle.std.proofs.lemmas.List.{same_lists, length-set, get_or-set_same, get_or-set_other, get_or_default, set-get_or}
use Rattle.std.proofs.lemmas.Bool.{cases_eq}
use Rattle.orders.specs.declared.entry.Entry.{Entry}
use Rattle.orders.specs.declared.entry.Entry.TheVariants.{Nothing}
use Rattle.orders.specs.declared.order.Order.{Order}
use Rattle.orders.specs.declared.refusal.Refusal.{Refusal}
use Rattle.orders.specs.Entries.{encoded, kind_row, bid_in}
use Rattle.orders.specs.Lent.{Held, Fits, entry_at, position, judged, entries_after, numbers_after, committed_after, held_after}
use Rattle.orders.specs.Taking.{Position}
use Rattle.orders.specs.Members.{own as own_messages, own_answers, bids, Backed, Sound}
use Rattle.orders.specs.Running.{run, answers_to}
use Rattle.orders.specs.Statements.{AllSound}
use Rattle.orders.specs.Words.{byte_at, word2}
use Rattle.orders.proofs.Alone.{alone_for}
use Rattle.orders.proofs.Rows.{row_within}
use Rattle.orders.proofs.Soundness.{sound_run}
use Rattle.ledger.specs.Worth.{sort_of, cents_in}
use Rattle.ledger.specs.Statements.{worth_after, ButForCents, TrueNumbers, TrueEvenings, NoWorse, TrueNumber, NoLoss}
use Rattle.ledger.proofs.Kept.{length_row, get_or_row}
use Rattle.ledger.proofs.OneNumber.{Alike, both_runs, others_write}
use Rattle.ledger.proofs.Sums.{covered}
use Rattle.ledger.proofs.Trading.{moves, BetterIn, true_number}
use Rattle.ledger.proofs.Worths.{Holds, no_loss, true_best, true_in_kind, same_elsewhere}

bids_same : (f g : ℕ → Entry) (n : ℕ) → ((k : ℕ) → k < n → f k ≡ g k) → bids f n ≡ bids g n
bids_same f g zero h = refl
bids_same f g (suc n) h =
    omega (arith, bids_same f g n (λ k l. h k (omega arith)), ap bid_in (h n (omega arith)))

module _ (K M : ℕ) where
  abbrev rows : Held → ℕ → List Entry
  rows h = kind_row M h.entries

  within : (h : Held) (i k : ℕ) → i < M → k < K → Fits K M h → k * M + M ≤ length h.entries
  within h i k l m fits = row_within k K M (length h.entries) (omega arith) m fits.entries

  pub row_entry : (h : Held) (i k : ℕ) → i < M → k < K → Fits K M h → get_or (rows h k) i Nothing ≡ entry_at M h.entries i k
  row_entry h i k l m fits = get_or_row M k i h.entries l (within h i k l m fits)

  pub row_length : (h : Held) (i k : ℕ) → i < M → k < K → Fits K M h → length (rows h k) ≡ M
  row_length h i k l m fits = length_row M k i h.entries l (within h i k l m fits)

  pub holds : (h : Held) (i : ℕ) → i < M → Fits K M h → Sound K (position K M h i) →
      Holds (rows h) K i (entry_at M h.entries i) (get_or h.accounts i 0) (λ k. get_or h.berths (i * K + k) 0)
  holds h i l fits s =
      record {
        entries = λ k m. row_entry h i k l m fits;
        cover =
            covered (rows h) i K (get_or h.accounts i 0)
            (omega (arith, s.covered, bids_same (λ k. get_or (rows h k) i Nothing) (entry_at M h.entries i) K (λ k m. row_entry h i k l m fits)));
        backing = λ k m.
            (moves (rows h k) i).backed (get_or h.berths (i * K + k) 0)
            (subst (λ e. Backed e (get_or h.berths (i * K + k) 0)) (sym (row_entry h i k l m fits)) (s.backed k m));
      }

  pub loses_nothing : (h : Held) → Fits K M h → AllSound K M h → NoLoss K M h
  loses_nothing h fits s i l =
      no_loss (rows h) K i (entry_at M h.entries i) (get_or h.accounts i 0) (λ k. get_or h.berths (i * K + k) 0) (holds h i l fits (s i l))

  -- rows that differ in member i's entry alone
  abbrev pub Others : ℕ → Held → Held → Type 0
  Others i h g = (j k : ℕ) → j < M → k < K → (j ≡ i → ⊥) → entry_at M g.entries j k ≡ entry_at M h.entries j k

  pub row_is_set : (h g : Held) (i k : ℕ) → i < M → k < K → Fits K M h → Fits K M g → Others i h g →
      rows g k ≡ set (rows h k) i (entry_at M g.entries i k)
  row_is_set h g i k l m fh fg o =
      same_lists (rows g k) (set (rows h k) i e) (row_length g i k l m fg ∙ sym (length-set (rows h k) i e ∙ row_length h i k l m fh))
      (λ j d q.
      let in_row : j < M = omega (arith, row_length g i k l m fg) in
      get_or_default (rows g k) j d Nothing q ∙ row_entry g j k in_row m fg
      ∙ ⊎_elim
      (λ same. ap (λ n. entry_at M g.entries n k) same
      ∙ sym (get_or-set_same (rows h k) i e d (omega (arith, row_length h i k l m fh))) ∙ ap (λ n. get_or (set (rows h k) i e) n d) (sym same))
      (λ differ. o j k in_row m differ ∙ sym (row_entry h j k in_row m fh)
      ∙ get_or_default (rows h k) j Nothing d (omega (arith, row_length h i k l m fh))
      ∙ sym (get_or-set_other (rows h k) i j e d differ))
      (cases_eq j i))
    where
      e : Entry
      e = entry_at M g.entries i k

  pub better_in : (h g : Held) (i k : ℕ) → i < M → k < K → Fits K M h → Fits K M g → Others i h g →
      sort_of (entry_at M h.entries i k) ≡ sort_of (entry_at M g.entries i k) →
      BetterIn (rows h k) (rows g k) i (cents_in (entry_at M h.entries i k))
  better_in h g i k l m fh fg o same =
      subst (λ e. BetterIn (rows h k) (rows g k) i (cents_in e)) (row_entry h i k l m fh)
      (subst (λ r. BetterIn (rows h k) r i (cents_in (get_or (rows h k) i Nothing))) (sym (row_is_set h g i k l m fh fg o))
      (true_number (rows h k) i (omega (arith, row_length h i k l m fh)) (entry_at M g.entries i k) (ap sort_of (row_entry h i k l m fh) ∙ same)))

  -- of two evenings that differ in nothing but member i's cents, what holds of the second with the first's accounts and berths
  module _ (h g : Held) (i : ℕ) (l : i < M) (fh : Fits K M h) (fg : Fits K M g) (sh : Sound K (position K M h i))
      (sg : Sound K (position K M g i)) (b : ButForCents K M i h g) where
    abbrev entries_there : ℕ → Entry
    entries_there = entry_at M h.entries i

    abbrev berths_there : ℕ → ℕ
    berths_there k = get_or h.berths (i * K + k) 0

    abbrev moved_to : List ℕ → List ℕ → Held
    moved_to as' bs = record { entries = g.entries; numbers = g.numbers; committed = g.committed; accounts = as'; berths = bs }

    likewise : (P : Held → Type 0) → P (moved_to h.accounts h.berths) → P g
    likewise P p =
        subst (λ bs. P (moved_to g.accounts bs)) (sym b.berths) (subst (λ as'. P (moved_to as' h.berths)) (sym b.accounts) p)

    has : Holds (rows g) K i (entry_at M g.entries i) (get_or h.accounts i 0) berths_there
    has =
        subst (λ bs. Holds (rows g) K i (entry_at M g.entries i) (get_or h.accounts i 0) (λ k. get_or bs (i * K + k) 0)) b.berths
        (subst (λ as'. Holds (rows g) K i (entry_at M g.entries i) (get_or as' i 0) (λ k. get_or g.berths (i * K + k) 0)) b.accounts
        (holds g i l fg sg))

    better : (k : ℕ) → k < K → BetterIn (rows h k) (rows g k) i (cents_in (entries_there k))
    better k m = better_in h g i k l m fh fg b.others (b.sorts k m)

    pub in_all_kinds : worth_after K M g entries_there i ≤ worth_after K M h entries_there i
    in_all_kinds =
        likewise (λ x. worth_after K M x entries_there i ≤ worth_after K M h entries_there i)
        (true_best (rows h) K i entries_there (get_or h.accounts i 0) berths_there (holds h i l fh sh) (rows g) (entry_at M g.entries i) has better)

    pub in_one_kind : (k : ℕ) → k < K → ((j : ℕ) → j < K → (j ≡ k → ⊥) → entry_at M g.entries i j ≡ entries_there j) → NoWorse K M i k h g
    in_one_kind k m same =
        likewise (NoWorse K M i k h)
        (record {
          worth_most =
              true_in_kind (rows h) K i entries_there (get_or h.accounts i 0) berths_there (holds h i l fh sh) (rows g) (entry_at M g.entries i)
              has better k m same_row;
          other_kinds = λ j q d.
              same_elsewhere (rows h) K i entries_there (get_or h.accounts i 0) berths_there (holds h i l fh sh) (rows g) (entry_at M g.entries i)
              has better k j q (same_row j q d);
        })
      where
        same_row : (j : ℕ) → j < K → (j ≡ k → ⊥) → rows g j ≡ rows h j
        same_row j q d =
            row_is_set h g i j l q fh fg b.others
            ∙ ap (set (rows h j) i) (same j q d ∙ sym (row_entry h i j l q fh)) ∙ set-get_or (rows h j) i Nothing

  pub true_numbers : (h : Held) → TrueNumbers K M h
  true_numbers h g i l fh fg sh sg b = in_all_kinds h g i l fh fg sh sg b

  -- messages change neither accounts nor berths, nor any length
  pub run_accounts : (h : Held) (ms : List (List ℕ)) → (run K M h ms).accounts ≡ h.accounts
  unfolding run
  run_accounts h [] = refl
  run_accounts h (m ∷ ms) = run_accounts (held_after K M h m) ms

  pub run_berths : (h : Held) (ms : List (List ℕ)) → (run K M h ms).berths ≡ h.berths
  unfolding run
  run_berths h [] = refl
  run_berths h (m ∷ ms) = run_berths (held_after K M h m) ms

  fits_after : (h : Held) (m : List ℕ) → Fits K M h → Fits K M (held_after K M h m)
  fits_after h m f = go (judged K M h m)
    where
      go : (r : Result Order Refusal) → Fits K M (record { entries = entries_after M h.entries r; numbers = numbers_after h.numbers r; committed = committed_after h.committed r; accounts = h.accounts; berths = h.berths })
      go (Err e) = f
      go (Ok o) =
          record {
            entries = omega (arith, f.entries, length-set h.entries (o.kind.0 * M + o.member.0) (unwrap_or (encoded o.entry) 0));
            numbers = omega (arith, f.numbers, length-set h.numbers o.member.0 o.number);
            committed = omega (arith, f.committed, length-set h.committed o.member.0 o.committed.0);
            accounts = f.accounts;
            berths = f.berths;
          }

  pub fits_run : (h : Held) (ms : List (List ℕ)) → Fits K M h → Fits K M (run K M h ms)
  unfolding run
  fits_run h [] f = f
  fits_run h (m ∷ ms) f = fits_run (held_after K M h m) ms (fits_after h m f)

  -- others who write the same have the same entries
  pub others_same : (h : Held) (ms ns : List (List ℕ)) (i : ℕ) →
      ((j : ℕ) → j < M → (j ≡ i → ⊥) → own_messages j ns ≡ own_messages j ms) → Others i (run K M h ms) (run K M h ns)
  others_same h ms ns i o j k l m d =
      ap (λ (p : Position). p.entry k)
      ((alone_for K M j l h ns).0 ∙ ap (λ xs. position K M (run K M h xs) j) (o j l d) ∙ sym (alone_for K M j l h ms).0)

  -- of two rows of messages in which only member i's differ, and leave it entries of the same sorts
  abbrev Sorts : Held → List (List ℕ) → List (List ℕ) → ℕ → Type 0
  Sorts h ms ns i =
      (k : ℕ) → k < K → sort_of (entry_at M (run K M h ms).entries i k) ≡ sort_of (entry_at M (run K M h ns).entries i k)

  runs_differ : (h : Held) (ms ns : List (List ℕ)) (i : ℕ) →
      ((j : ℕ) → j < M → (j ≡ i → ⊥) → own_messages j ns ≡ own_messages j ms) → Sorts h ms ns i →
      ButForCents K M i (run K M h ms) (run K M h ns)
  runs_differ h ms ns i o same =
      record {
        others = others_same h ms ns i o;
        sorts = same;
        accounts = run_accounts h ns ∙ sym (run_accounts h ms);
        berths = run_berths h ns ∙ sym (run_berths h ms);
      }

  pub true_evenings : (h : Held) (ms : List (List ℕ)) → Fits K M h → AllSound K M h → TrueEvenings K M h ms
  true_evenings h ms fits s ns i l o same =
      in_all_kinds (run K M h ms) (run K M h ns) i l (fits_run h ms fits) (fits_run h ns fits)
      (sound_run K M h ms s i l) (sound_run K M h ns s i l) (runs_differ h ms ns i o same)

  pub one_true_number : (h : Held) (ms : List (List ℕ)) → Fits K M h → AllSound K M h → TrueNumber K M h ms
  one_true_number h ms fits s xs ys m n e c l lk same =
      subst (λ zs. NoWorse K M i k (run K M h zs) (run K M h changed)) (sym e)
      (in_one_kind (run K M h kept) (run K M h changed) i l (fits_run h kept fits) (fits_run h changed fits)
      (sound_run K M h kept s i l) (sound_run K M h changed s i l)
      (runs_differ h kept changed i (λ j q d. others_write K M i k l m n c refl refl xs ys j d) sorts)
      k lk (λ j q d. alike.elsewhere j d))
    where
      i : ℕ
      i = word2 m 0

      k : ℕ
      k = byte_at m 6

      kept : List (List ℕ)
      kept = xs ++ m ∷ ys

      changed : List (List ℕ)
      changed = xs ++ n ∷ ys

      alike : Alike k (entry_at M (run K M h kept).entries i) (entry_at M (run K M h changed).entries i)
      alike =
          both_runs K M i k l m n c refl refl xs ys h (same ∙ ap (λ zs. own_answers i zs (answers_to K M h zs)) e)

      sorts : Sorts h kept changed i
      sorts j q =
          ⊎_elim
          (λ z. subst (λ t. sort_of (entry_at M (run K M h kept).entries i t) ≡ sort_of (entry_at M (run K M h changed).entries i t)) (sym z) alike.sort)
          (λ d. sym (ap sort_of (alike.elsewhere j d))) (cases_eq j k)
