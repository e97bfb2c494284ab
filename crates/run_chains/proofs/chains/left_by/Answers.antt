use Rattle.std.proofs.Common.{[], ℕ, ◌≡◌, ◌⊎◌, List, Option, arith, inl, refl, subst, sym}
use Rattle.memory_devices.{specs.Calls.{opened}, proofs.Laws.{counts_now}}
use Rattle.run_chains.specs.{Common.{Fill, image_of, left_since_of, text_of}, Link.{text_before}}
use Rattle.run_chains.proofs.chains.left_by.Goals as goal

pub returns-in-None-clause-left : goal.returns-in-None-clause-left
returns-in-None-clause-left c =
    let board = c.args.board.now in
    subst (λ (cut : Option (ℕ × Fill)). left_since_of board.state 0 c.image.result.now (text_before cut board.state)
    ⊎ ((c.image.result.now ≡ c.args.image.now) × (text_before cut board.state ≡ []))) (sym c.in-None.is)
    (inl (subst (λ (image : List ℕ). left_since_of board.state 0 image (text_of board.state)) (sym c.image.ensures)
    (counts_now (opened board.state.start) board.state.calls 0 (image_of board.state)
    (text_of board.state) (omega arith)
    (record {
      bytes = record { size = refl; rest = λ place outside. refl };
      small = board.is_image.small;
      text = refl;
    }))))
