use Rattle.std.proofs.Common.{◌∙◌, List, ap}
use Rattle.memory_devices.{specs.Calls.{CallOutcome, after_all}, proofs.OneMoreCall.{after_pushed}}
use Rattle.memory_devices.specs.Requests.{call_of}
use Rattle.memory_devices.proofs.memory_state.add_call.Goals as goal

pub returns-clause-leaves : goal.returns-clause-leaves
returns-clause-leaves g c held =
    ap (λ (l : List CallOutcome). after_all held l) c.in-Ok.ensures.items ∙ after_pushed held c.args.calls.now.items
    (record { call = call_of c.args.request; failed = c.contains-failed.result })
