use Rattle.std.{specs.Prelude.{Option}, proofs.Common.{◌∙◌, ap, inl, refl, subst, sym}}
use Rattle.near_commands.specs.{Common.{CheckFault, IsWritable, Tree, fault_of, tree_of}, NearSteps.{IsFault}}
use Rattle.near_commands.proofs.PlainTariff.{plain_fault, plain_writable}
use Rattle.near_commands.proofs.near.other_fault.Goals as goal

pub first_fault-requires : goal.first_fault-requires
first_fault-requires c =
    let t = tree_of c.args.tariff.now in
    subst IsWritable (sym c.in-Ok.ensures) (plain_writable t c.requires)

pub returns-in-Ok : goal.returns-in-Ok
returns-in-Ok c =
    let t = tree_of c.args.tariff.now in
    subst (λ (there : Option CheckFault). IsFault there c.first_fault.result)
    (ap fault_of c.in-Ok.ensures ∙ plain_fault t) c.first_fault.ensures
