-- Lists that are appended one after the other.
use Rattle.std.proofs.Common.{◌++◌, ◌∙◌, ◌≡◌, List, ap, append_assoc}

-- what was appended, and more behind it
pub appended_behind : {X : Type 0} (start one two middle last : List X) → middle ≡ start ++ one → last ≡ middle ++ two
    → last ≡ start ++ (one ++ two)
appended_behind start one two middle last first second =
    second ∙ ap (λ (l : List _). l ++ two) first ∙ append_assoc start one two
