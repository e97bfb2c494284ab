-- A board that tells nothing has nothing in flight, prints nothing and leaves nothing, by its meanings.
use Rattle.{std.proofs.Common.{refl}, outside.proofs.Untold.{on_ok, untold_time}}
use Rattle.outside.proofs.file_device.FileDeviceBoard.TheImpl.Goals as goal

pub read-tells : goal.read-tells
read-tells g c = record {
  bytes = λ told. absurd told;
  image = refl;
  flight = λ place flies. flies;
  text = refl;
  time = untold_time _;
  cause = c.ensures.cause;
  step = c.ensures.step;
}

pub write_at-tells : goal.write_at-tells
write_at-tells g c = record {
  written = λ told. absurd told;
  image = record { size = refl; rest = λ place outside. refl };
  flight = λ place flies. absurd flies;
  text = refl;
  time = untold_time _;
  cause = c.ensures.cause;
  step = c.ensures.step;
}

pub sync-tells : goal.sync-tells
sync-tells g c = record {
  durable = λ told. absurd told;
  same = on_ok c.result refl;
  image = record { size = refl; rest = λ place outside. refl };
  flight = λ place flies. flies;
  text = refl;
  time = untold_time _;
  cause = c.ensures.cause;
  step = c.ensures.step;
}
