-- Rules: the command `compare TARIFF OTHER CONSTANT`.
use Rattle.std.specs.Prelude.{[], ℕ, Bool, Err, None, Ok, Result, false, is_some, true}
use Rattle.tariff_compare.specs.{DifferenceTexts.{comparison_text}, Differences.{difference_of}}
use Rattle.call_ends.specs.{Plan.{Last, Next}, Tariffs.{bad_other}, TextCommands.{text_command}}
use Rattle.tariff_commands.specs.Common.{Answer, Command, HasTariff, Refusal, Tree, bad_tariff, tariff_in}

-- the status of a comparison is 11 if the tariffs differ, and else 0
abbrev pub comparing_status : (differ : Bool) → ℕ
comparing_status true = 11
comparing_status false = 0

-- the answer to two sound tariffs shows what differs first between them. To other texts it says why the first one has
-- no sound tariff, or else why the other has none.
abbrev pub compare_answer : (k : ℕ) → (one other : Result Tree Refusal) → Answer
compare_answer k (Err why) other = bad_tariff why
compare_answer k (Ok t) (Err why) = bad_other why
compare_answer k (Ok t) (Ok u) = record {
  status = comparing_status (is_some (difference_of t u k));
  shown = comparison_text t u k (difference_of t u k);
  line = [];
}

-- the command `compare` reads its tariff, then the other if the first is sound, and prints the text in as few pieces as
-- it can be. It takes a step for each piece, and one for the last line.
abbrev pub compare_command : (k : ℕ) → Command
compare_command k = text_command
    (Next 1 (λ contents image taken. Unit {0}) (Last 2 (λ contents image taken. HasTariff (contents 1)))) None
    (λ contents taken. Unit {0}) (λ contents. compare_answer k (tariff_in (contents 1)) (tariff_in (contents 2)))
