use Rattle.std.proofs.Common.{◌≡◌, ℕ, Some, None, Option, sym, refl, ap, ◌∙◌, arith, rules}
use Rattle.std.specs.Option.{ok_or}
use Rattle.std.specs.Result.{result_ok}
use Rattle.orders.specs.Words.{byte_at}
use Rattle.letter.specs.declared.tie.Tie.{Tie}
use Rattle.letter.specs.declared.tie.UnknownTie.{UnknownTie}
use Rattle.letter.specs.Lines.{tie_in, line_in}
use Rattle.letter.specs.Words.{number_at}
use Rattle.letter.proofs.Spelling.{by_words, no_trade, no_tie, trade_unknown}
use Rattle.letter.proofs.line.Line.read.Goals as goal
use Rattle.letter.proofs.line.Line.read.Goals.{in-1-default, in-0-eq0}

ok_again : (o : Option Tie) (e : UnknownTie) → result_ok (ok_or o e) ≡ o
ok_again None e = refl
ok_again (Some x) e = refl

-- what a try of a tie's byte gave
tie_is : (n : ℕ) (e : UnknownTie) {o : Option Tie} → o ≡ result_ok (ok_or (tie_in n) e) → tie_in n ≡ o
tie_is n e h = sym (ok_again (tie_in n) e) ∙ sym h

pub returns-then-bytes-ne-BYTES : goal.returns-then-bytes-ne-BYTES
unfolding line_in
returns-then-bytes-ne-BYTES c = search rules

pub returns-in_err-side : goal.returns-in_err-side
unfolding line_in
returns-in_err-side c = search rules

pub returns-in_err-tie : goal.returns-in_err-tie
returns-in_err-tie c =
    let tie = tie_is (byte_at c.args.bytes.now 27) _ (c.ok.ensures.value ∙ ap result_ok c.try_from.ensures) ∙ c.in_err-tie.was in
    c.from_residual-in_err-tie.ensures
    ∙ sym (by_words c.args.bytes.now c.if-bytes-ne-BYTES.false refl refl tie ∙ no_tie c.args.bytes.now _ _)

pub returns-in_default : goal.returns-in_default
unfolding number_at
returns-in_default c =
    let bs = c.args.bytes.now in
    let trade = trade_unknown (byte_at bs 6) _ (λ e. omega (arith, c.in_default.is-0)) (λ e f. c.in_default.is-1.1 (c.word_u32-price.ensures ∙ f)) in
    sym (by_words bs c.if-bytes-ne-BYTES.false refl trade refl ∙ no_trade bs _ _)

pub returns-in_default-2 : goal.returns-in_default-2
returns-in_default-2 c =
    let bs = c.args.bytes.now in
    let trade = trade_unknown (byte_at bs 6) _ (λ e. c.in_default.is-0.0.1 e) (λ e f. c.in_default.is-0.1 e) in
    sym (by_words bs c.if-bytes-ne-BYTES.false refl trade refl ∙ no_trade bs _ _)

pub returns : goal.returns
unfolding line_in number_at
returns c = elim c.match-bytes.branch [ in-1-default w ↦ search rules | in-0-eq0 w ↦ search rules ]
