use Rattle.std.proofs.Common.{[], ◌≡◌, List, rules, subst, sym}
use Rattle.memory_devices.{specs.{Calls.{CallOutcome, after_all, opened}, Common.{IsImage}}, proofs.Bytes.{is_image}}
use Rattle.memory_devices.proofs.memory_state.MemoryState.new.Goals as goal

pub returns-clause-is_image : goal.returns-clause-is_image
returns-clause-is_image g c =
    let start = c.in-Ok-from_slice.start.items in
    let none : c.new-2.result.items ≡ [] = search rules in
    subst (λ (calls : List CallOutcome). IsImage g.row.N (after_all (opened start) calls).image) (sym none)
    (subst (IsImage g.row.N) (sym c.in-Ok-from_slice.ensures.items)
    (is_image c.args.image.now c.requires.image c.type_inv.image))
