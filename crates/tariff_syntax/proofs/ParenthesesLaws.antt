-- No pair of parentheses of a printed form could go.
use Rattle.std.proofs.Common.{[], ℕ, ◌++◌, ◌∙◌, ◌∷◌, ◌≡◌, List, ap, arith, codes, subst, sym}
use Rattle.{std.proofs.lemmas.List.{append-nil}, tariff_syntax.specs.Parentheses.{NeedsParentheses, with_pair}}
use Rattle.tariff_syntax.{specs.{Common.{Condition}, Spelled.{IsSpelled}, Weight.{weight}}, proofs.ShownGrammar.{shown}}
use Rattle.tariff_syntax.{specs.PrintedCondition.{condition_text, whole}, proofs.ConditionAgain.{weight-append}}
use Rattle.tariff_syntax.{specs.Token.{sign}, proofs.Shows.{line_feed}}
use Rattle.tariff_syntax.{specs.TokenReading.{tokens_of}, proofs.{ShownConditions.{fits}, TokenLaws.{spelled_alone}}}

-- the law of parentheses: a condition has no fewer `(` than its printed form
pub parentheses_stay : (c : Condition) → NeedsParentheses c
unfolding condition_text
parentheses_stay c line before inside behind cut spelled other =
    let short = before ++ (inside ++ behind) in
    let long = with_pair before inside behind in
    let is = shown whole c (weight short) (fits whole short c other) in
    let end = is.show (codes "\n") [] [] (line_feed []) in
    let same : end.text ≡ line = let both : end.text ∷ [] ≡ line ∷ [] = sym end.cut ∙ cut in cc in
    let printed : tokens_of line ≡ is.used = spelled_alone line is.used (subst (λ (xs : List ℕ). IsSpelled xs is.used)
    same (subst (IsSpelled end.text) (append-nil is.used) end.spelled)) in
    let tokens : is.used ≡ long = sym printed ∙ spelled_alone line long spelled in
    omega (
      arith,
      is.few,
      ap weight tokens,
      weight-append before (sign (codes "(") ∷ (inside ++ sign (codes ")") ∷ behind)),
      weight-append inside (sign (codes ")") ∷ behind),
      weight-append before (inside ++ behind),
      weight-append inside behind,
    )
