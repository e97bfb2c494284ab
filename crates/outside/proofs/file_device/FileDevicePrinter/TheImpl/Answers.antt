-- A print of a board that tells nothing leaves nothing in flight, by its meanings.
use Rattle.{std.proofs.Common.{refl}, outside.proofs.Untold.{untold_time}}
use Rattle.outside.proofs.file_device.FileDevicePrinter.TheImpl.Goals as goal

pub print-tells : goal.print-tells
print-tells g c = record {
  whole = λ told. absurd told;
  begun = λ told. absurd told;
  image = refl;
  flight = λ place flies. flies;
  time = untold_time _;
  cause = c.ensures.cause;
  step = c.ensures.step;
}
