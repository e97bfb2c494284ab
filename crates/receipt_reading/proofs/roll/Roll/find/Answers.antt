use Rattle.std.proofs.Common.{ℕ, ◌+◌, ◌-◌, ◌∙◌, ◌≡◌, ◌≤◌, Bool, List, ap, arith, drop, is_some, length, length-take}
use Rattle.{std.proofs.Common.{option_to_list, subst, take}, receipt_reading.specs.ReceiptSearch.{IsReceiptSearch}}
use Rattle.receipt_reading.specs.Reading.{Place}
use Rattle.receipt_reading.proofs.Rolls.{ahead_after, fewer_looked, goes_looked, nothing_looked}
use Rattle.receipt_reading.proofs.roll.Roll.find.Goals as goal

-- what is ahead of the reader
ahead_is : (c : goal.After-self-1) →
    take (c.self.inside.to - c.self.inside.from) (drop c.self.inside.from c.self.inside.window) ≡ c.args.self.now.ahead
ahead_is c = ap (λ (p : Place). p.ahead) c.self.view_is

-- what was found there
looks : (c : goal.After-self-1) → IsReceiptSearch c.is_some-ended.result c.args.self.now.ahead
    c.find_receipt-count.result.0 (option_to_list c.find_receipt-count.result.1)
looks c = subst (λ (t : List ℕ). IsReceiptSearch c.is_some-ended.result t c.find_receipt-count.result.0
    (option_to_list c.find_receipt-count.result.1)) (ahead_is c) c.find_receipt-count.ensures.looks

-- what is ahead of it then
left_is : (c : goal.After-self-1) → let from = c.self.inside.from + c.find_receipt-count.result.0 in
    take (c.self.inside.to - from) (drop from c.self.inside.window)
    ≡ drop c.find_receipt-count.result.0 c.args.self.now.ahead
left_is c =
    let inside = c.self.inside in
    let n = c.find_receipt-count.result.0 in
    let fits : inside.from + n ≤ inside.to = omega (
      arith,
      (looks c).within,
      ap length (ahead_is c),
      length-take (inside.to - inside.from) (drop inside.from inside.window),
      c.self.invariant.0,
    ) in
    ahead_after inside.from inside.to n inside.window fits ∙ ap (drop n) (ahead_is c)

pub returns-clause-goes : goal.returns-clause-goes
returns-clause-goes c =
    let n = c.find_receipt-count.result.0 in
    let records = option_to_list c.find_receipt-count.result.1 in
    let ended : c.is_some-ended.result ≡ is_some c.args.self.now.end =
    c.is_some-ended.ensures ∙ ap (λ (p : Place). is_some p.end) c.self.view_is in
    goes_looked c.args.self.now _ n records
    (subst (λ (b : Bool). IsReceiptSearch b c.args.self.now.ahead n records) ended (looks c)) (left_is c)
    (ap (λ (p : Place). p.left) c.self.view_is) (ap (λ (p : Place). p.end) c.self.view_is)

pub returns-clause-fewer : goal.returns-clause-fewer
returns-clause-fewer c =
    fewer_looked c.is_some-ended.result c.args.self.now.ahead _ c.find_receipt-count.result.0
    c.find_receipt-count.result.1 (looks c) (left_is c)

pub returns-clause-nothing : goal.returns-clause-nothing
returns-clause-nothing c = λ none.
    nothing_looked c.is_some-ended.result c.args.self.now _ c.find_receipt-count.result.0
    c.find_receipt-count.result.1 (looks c) (left_is c)
    (ap (λ (p : Place). p.left) c.self.view_is) (ap (λ (p : Place). p.end) c.self.view_is) none
