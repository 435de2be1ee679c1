-- One message further in a row of them.
use Rattle.std.proofs.Common.{◌≡◌, ℕ, zero, suc, ◌+◌, ◌-◌, ◌<◌, ◌≤◌, min, List, [], ◌∷◌, ◌++◌, length, take, drop, set, Result, sym, refl, ap, ◌∙◌, append_assoc, arith}
use Rattle.std.proofs.lemmas.List.{take_more_set, drop-set-lt, drop-drop, length-take-le, append-nil, take-append-drop}
use Rattle.std.proofs.lemmas.Bool.{ne_eqb, eq-eqb}
use Rattle.orders.specs.declared.books.Books.{Books}
use Rattle.orders.specs.declared.refusal.Refusal.{Refusal}
use Rattle.orders.specs.Lent.{Held, judged, answer, held_after, SameLoans}
use Rattle.orders.specs.Running.{messages, run, answers_to, written_over}
use Rattle.orders.proofs.Cuts.{take_min}

abbrev Answer : Type 0
Answer = Result (Unit {0}) Refusal

messages_next : (n : ℕ) (rest : List ℕ) → 0 < length rest → messages (suc n) rest ≡ take 12 rest ∷ messages n (drop 12 rest)
messages_next n rest h = rw (ne_eqb (length rest) 0 (omega arith))

pub messages_more : (n i s : ℕ) (rest : List ℕ) → i < n → 0 < length rest → s ≡ min (length rest) 12 → messages (n - i) rest ≡ take s rest ∷ messages (n - (i + 1)) (drop s rest)
messages_more n i s rest h l e =
    let t = take_min rest 12 s e in
    let k : n - i ≡ suc (n - (i + 1)) = omega arith in
    ap (λ (j : ℕ). messages j rest) k ∙ messages_next (n - (i + 1)) rest l ∙ rw (t.0, t.1)

pub messages_none : (n : ℕ) (rest : List ℕ) → length rest ≡ 0 → messages n rest ≡ []
messages_none zero rest h = refl
messages_none (suc n) rest h = rw (eq-eqb (length rest) 0 h)

pub messages_done : (n i : ℕ) (rest : List ℕ) → n ≤ i → messages (n - i) rest ≡ []
messages_done n i rest h = let k : n - i ≡ 0 = omega arith in rw k

run_next : (K M : ℕ) (h h' : Held) (m : List ℕ) (ms : List (List ℕ)) → h' ≡ held_after K M h m → run K M h' ms ≡ run K M h (m ∷ ms)
unfolding run
run_next K M h h' m ms e = ap (λ (x : Held). run K M x ms) e

answers_next : (K M : ℕ) (h h' : Held) (m : List ℕ) (ms : List (List ℕ)) (a : Answer) → h' ≡ held_after K M h m → a ≡ answer (judged K M h m) → a ∷ answers_to K M h' ms ≡ answers_to K M h (m ∷ ms)
unfolding answers_to
answers_next K M h h' m ms a e f = ap (λ (x : Held). a ∷ answers_to K M x ms) e ∙ ap (λ (x : Answer). x ∷ answers_to K M (held_after K M h m) ms) f

pub same_loans : (a b c : Books) → SameLoans a b → SameLoans b c → SameLoans a c
same_loans a b c p q =
    record {
      entries = q.entries ∙ p.entries;
      numbers = q.numbers ∙ p.numbers;
      committed = q.committed ∙ p.committed;
      accounts = q.accounts ∙ p.accounts;
      berths = q.berths ∙ p.berths;
    }

-- What is left leads to the same end as the whole: of the messages in `bytes`, begun with h₀ in memory and ys for answers,
-- i are answered; then h is in memory, `rest` is left, and the answers are xs.
pub record Leads (K M : ℕ) (h₀ h : Held) (bytes rest : List ℕ) (ys xs : List Answer) (i : ℕ) : Type 0 where
  pub memory : run K M h (messages (length ys - i) rest) ≡ run K M h₀ (messages (length ys) bytes)
  pub answered : take i xs ++ answers_to K M h (messages (length ys - i) rest) ≡ answers_to K M h₀ (messages (length ys) bytes)
  pub open_answers : drop i xs ≡ drop i ys

pub leads_none : (K M : ℕ) (h : Held) (bytes : List ℕ) (ys : List Answer) → Leads K M h h bytes bytes ys ys 0
leads_none K M h bytes ys =
    let k : length ys - 0 ≡ length ys = omega arith in
    record { memory = rw k; answered = rw k; open_answers = refl }

module _ (K M : ℕ) (h₀ h : Held) (bytes rest : List ℕ) (ys xs : List Answer) (i : ℕ) (was : Leads K M h₀ h bytes rest ys xs i) (same : length xs ≡ length ys) where
  pub leads_more : (h' : Held) (s : ℕ) (m after : List ℕ) (a : Answer) → i < length ys → 0 < length rest → s ≡ min (length rest) 12 → m ≡ take s rest → after ≡ drop s rest → a ≡ answer (judged K M h m) → h' ≡ held_after K M h m → Leads K M h₀ h' bytes after ys (set xs i a) (i + 1)
  leads_more h' s m after a l n e em ea aa eh =
      let left = messages (length ys - (i + 1)) after in
      let next : messages (length ys - i) rest ≡ m ∷ left = messages_more (length ys) i s rest l n e ∙ rw (em, ea) in
      record {
        memory = run_next K M h h' m left eh ∙ ap (run K M h) (sym next) ∙ was.memory;
        answered =
            ap (λ (z : List Answer). z ++ answers_to K M h' left) (take_more_set xs i a (omega arith))
            ∙ append_assoc (take i xs) (a ∷ []) (answers_to K M h' left)
            ∙ ap (λ (z : List Answer). take i xs ++ z) (answers_next K M h h' m left a eh aa ∙ ap (answers_to K M h) (sym next))
            ∙ was.answered;
        open_answers =
            drop-set-lt (i + 1) xs i a (omega arith) ∙ sym (drop-drop 1 i xs) ∙ ap (drop 1) was.open_answers ∙ drop-drop 1 i ys;
      }

  pub leads_all : i ≤ length ys → messages (length ys - i) rest ≡ [] → (h ≡ run K M h₀ (messages (length ys) bytes)) × (xs ≡ written_over (answers_to K M h₀ (messages (length ys) bytes)) ys)
  unfolding run answers_to
  leads_all l e =
      let all = answers_to K M h₀ (messages (length ys) bytes) in
      let front : take i xs ≡ all = sym (append-nil (take i xs)) ∙ ap (λ (ms : List (List ℕ)). take i xs ++ answers_to K M h ms) (sym e) ∙ was.answered in
      let long : length all ≡ i = ap length (sym front) ∙ length-take-le i xs (omega arith) in (
        ap (run K M h) (sym e) ∙ was.memory,
        sym (take-append-drop i xs) ∙ ap (λ (z : List Answer). z ++ drop i xs) front ∙ ap (λ (z : List Answer). all ++ z) (was.open_answers ∙ ap (λ (k : ℕ). drop k ys) (sym long)),
      )
