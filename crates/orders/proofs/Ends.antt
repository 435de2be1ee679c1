-- What is known when a row of messages has been taken.
use Rattle.std.proofs.Common.{◌≡◌, ℕ, ◌-◌, ◌≤◌, List, [], length, Result, sym, subst}
use Rattle.orders.specs.declared.refusal.Refusal.{Refusal}
use Rattle.orders.specs.Lent.{Held}
use Rattle.orders.specs.Running.{messages, run, answers_to, written_over}
use Rattle.orders.specs.Statements.{Alone, AllSound}
use Rattle.orders.proofs.Alone.{alone}
use Rattle.orders.proofs.Runs.{Leads, leads_all}
use Rattle.orders.proofs.Soundness.{sound_run}

pub record Ended (K M : ℕ) (before now : Held) (ms : List (List ℕ)) (ys xs : List (Result (Unit {0}) Refusal)) : Type 0 where
  pub after : now ≡ run K M before ms
  pub answers : xs ≡ written_over (answers_to K M before ms) ys
  pub alone : Alone K M before now ms xs
  pub sound : AllSound K M before → AllSound K M now

pub ended : (K M : ℕ) (before now : Held) (bytes rest : List ℕ) (ys xs : List (Result (Unit {0}) Refusal)) (i : ℕ) → Leads K M before now bytes rest ys xs i → length xs ≡ length ys → i ≤ length ys → messages (length ys - i) rest ≡ [] → Ended K M before now (messages (length ys) bytes) ys xs
ended K M before now bytes rest ys xs i w s l e =
    let a = leads_all K M before now bytes rest ys xs i w s l e in
    let ms = messages (length ys) bytes in
    record {
      after = a.0;
      answers = a.1;
      alone = alone K M before now ms xs ys a.0 a.1;
      sound = λ q. subst (AllSound K M) (sym a.0) (sound_run K M before ms q);
    }
