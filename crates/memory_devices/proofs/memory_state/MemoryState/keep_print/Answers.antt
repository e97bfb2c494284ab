use Rattle.std.proofs.{Common.{arith}, lemmas.Grind.{common_steps}}
use Rattle.memory_devices.proofs.memory_state.MemoryState.keep_print.Goals as goal

pub invariant_of-self-in_default-add_call : goal.invariant_of-self-in_default-add_call
invariant_of-self-in_default-add_call g c = grind (arith, common_steps) steps 2000000

pub invariant_of-self-then-failed : goal.invariant_of-self-then-failed
invariant_of-self-then-failed g c = grind (arith, common_steps) steps 2000000
