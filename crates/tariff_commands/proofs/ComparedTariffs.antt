-- Two tariffs, compared, or the one of them that wasn't read.
use Rattle.std.proofs.Common.{[], ℕ, ◌≡◌, ◌≢◌, Bool, List, None, ap, ap₂, false, inl, inr, refl, sym, true}
use Rattle.call_ends.specs.{LastLine.{status_of}, declared.ending.Ended.TheVariants.{BadOther, BoardFault, ReadFault}}
use Rattle.call_ends.{specs.{Making.{is_plain}, Plan.{Last, Next}, Reads.{FailsOr}}, proofs.Laws.{MakesText, text_is}}
use Rattle.tariff_commands.specs.Common.{Ended, HasTariff, Refusal, TextFault, answer_with, tariff_in}
use Rattle.tariff_commands.specs.Compare.{compare_answer, compare_command, comparing_status}
use Rattle.tariff_commands.specs.CompareSteps.{ended_comparing, ended_for_other}
use Rattle.call_ends.specs.declared.tariff.TextFault.TheVariants as texts

pub compares : (k : ℕ) → MakesText (compare_command k)
compares k = text_is
    (Next 1 (λ contents image taken. Unit {0}) (Last 2 (λ contents image taken. HasTariff (contents 1)))) None
    (λ contents taken. Unit {0}) (λ contents. compare_answer k (tariff_in (contents 1)) (tariff_in (contents 2))) refl

-- the other one wasn't read
pub fails_other : {refuses : Ended → Type 0} (fault : TextFault)
    → ((why : Refusal) → fault ≡ texts.Refused why → refuses (BadOther why)) → FailsOr refuses (ended_for_other fault)
fails_other texts.ReadFault refused = record { how = inl refl }
fails_other (texts.Refused why) refused = record { how = inr (inr (refused why refl)) }
fails_other texts.NoMemory refused = record { how = inr (inl refl) }

pub read_other : (fault : TextFault) → ended_for_other fault ≡ ReadFault → fault ≡ texts.ReadFault
read_other texts.ReadFault e = refl
read_other (texts.Refused why) e = absurd cc
read_other texts.NoMemory e = absurd cc

pub board_other : (fault : TextFault) → ended_for_other fault ≢ BoardFault
board_other texts.ReadFault e = absurd cc
board_other (texts.Refused why) e = absurd cc
board_other texts.NoMemory e = absurd cc

-- a comparison is the answer
pub compared_answer : (differ : Bool) {end : Ended} {text shown : List ℕ} → end ≡ ended_comparing differ
    → shown ≡ text → record { status = comparing_status differ; shown = text; line = [] } ≡ answer_with shown end
compared_answer true e same = ap₂ answer_with (sym same) (sym e)
compared_answer false e same = ap₂ answer_with (sym same) (sym e)

pub plain_comparing : (differ : Bool) {end : Ended} → end ≡ ended_comparing differ → is_plain (status_of end) ≡ true
plain_comparing true e = ap (λ (w : Ended). is_plain (status_of w)) e
plain_comparing false e = ap (λ (w : Ended). is_plain (status_of w)) e
