use Rattle.ledger.proofs.Truths.{true_numbers}
use Rattle.ledger.proofs.promises.true_numbers.Goals as goal

pub returns : goal.returns
returns c = λ K M h. true_numbers K M h
