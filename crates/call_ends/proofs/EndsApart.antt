-- Ends of a command that are not one another, by their statuses.
use Rattle.std.proofs.{Common.{ℕ, ◌≡◌, ◌≢◌, ap, eqb, false, refl}, lemmas.Bool.{eqb-false}}
use Rattle.call_ends.specs.{Common.{BoardFault, Done, Ended, ReadFault}, Ending.{IsRefusal}, LastLine.{status_of}}

pub not_status : (end : Ended) (status : ℕ) → eqb (status_of end) status ≡ false → status_of end ≢ status
not_status end status apart = eqb-false (status_of end) status apart

pub ends_apart : (one other : Ended) → eqb (status_of one) (status_of other) ≡ false → one ≢ other
ends_apart one other apart e = not_status one (status_of other) apart (ap status_of e)

pub done_not_read : Done ≢ ReadFault
done_not_read = ends_apart Done ReadFault refl

pub done_not_board : Done ≢ BoardFault
done_not_board = ends_apart Done BoardFault refl

pub board_not_read : BoardFault ≢ ReadFault
board_not_read = ends_apart BoardFault ReadFault refl

-- an end with another status than 0, 3 and 11 is a refusal
pub refusal_by : (why : Ended) → eqb (status_of why) 0 ≡ false → eqb (status_of why) 3 ≡ false
    → eqb (status_of why) 11 ≡ false → IsRefusal why
refusal_by why apart_0 apart_3 apart_11 = record {
  not_0 = not_status why 0 apart_0;
  not_3 = not_status why 3 apart_3;
  not_11 = not_status why 11 apart_11;
}
