use Rattle.std.{specs.Option.{unwrap_or}, proofs.Common.{ℕ, ◌∙◌, ◌≡◌, List, Option, ap, get_or}}
use Rattle.verify_bench.specs.{Common.{Context, context_of, context_on, lines_of, local_at}, Settings.{setting_under}}
use Rattle.verify_bench.specs.Groups.{rate_place_of}
use Rattle.verify_bench.proofs.teller.Teller.rate_line.Goals as goal

pub returns : goal.returns
returns c = λ m hired stands.
    let s = setting_under c.args.checked.now c.args.params.now in
    let x : c.context-x.result ≡ context_of s m =
    c.context-x.ensures m hired stands ∙ ap (λ (second : ℕ). context_on s (local_at s second) m) stands.began in
    let place : c.unwrap_or-place.result ≡ rate_place_of s (context_of s m) =
    c.unwrap_or-place.ensures
    ∙ (ap (λ (o : Option ℕ). unwrap_or o 0) c.rate_of.ensures ∙ ap (λ (y : Context). rate_place_of s y) x) in
    c.line_at.ensures
    ∙ (ap (λ (lines : List ℕ). get_or lines c.unwrap_or-place.result 0) c.rates.ensures.value.numbers
    ∙ ap (λ (at : ℕ). get_or (lines_of s.tariff.rates) at 0) place)
