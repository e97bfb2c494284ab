-- For proofs: how a command ends by the run of its drive.
use Rattle.{std.specs.Prelude.{Err, Ok, Result}, drive_commands.specs.Common.{Ended, RunFault}}
use Rattle.call_ends.specs.declared.ending.Ended.TheVariants.{BadDrive, BoardFault, Done, EndlessDrive, ReadFault}
use Rattle.meter_run.specs.declared.fault.RunFault.TheVariants as faults

-- how a command ended that ran its drive
abbrev pub ended_by : {T : Type 0} → Result T RunFault → Ended
ended_by (Ok done) = Done
ended_by (Err faults.ReadFault) = ReadFault
ended_by (Err faults.BoardFault) = BoardFault
ended_by (Err (faults.BadDrive line)) = BadDrive line
ended_by (Err faults.TooLong) = EndlessDrive
