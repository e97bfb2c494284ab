-- Whether a command ended by a fault of the board.
use Rattle.std.proofs.Common.{◌≡◌, ◌≢◌, ◌⊎◌, inl, inr, refl}
use Rattle.call_ends.specs.{Common.{Ended}, LastLine.{status_of}}
use Rattle.call_ends.specs.declared.ending.Ended.TheVariants as ended

-- a fault of the board is the one end with status 8
pub board_or_not : (end : Ended) → (end ≡ ended.BoardFault) ⊎ ((end ≢ ended.BoardFault) × (status_of end ≢ 8))
board_or_not ended.BoardFault = inl refl
board_or_not end = inr (λ e. absurd cc, λ z. absurd cc)
