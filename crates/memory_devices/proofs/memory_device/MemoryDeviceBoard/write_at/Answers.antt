use Rattle.{std.proofs.Common.{arith, rules, sym}, memory_devices.specs.{Common.{AreBytes}, MemoryBoard.{contents_of}}}
use Rattle.memory_devices.specs.Calls.{Write}
use Rattle.memory_devices.proofs.CallEffects.{became, became_done, cause_is, time_is, time_of_call, write_flight}
use Rattle.memory_devices.proofs.CallEffects.{write_image, write_is_image, write_text, write_written}
use Rattle.memory_devices.proofs.memory_device.MemoryDeviceBoard.write_at.Goals as goal

pub returns-clause-writes : goal.returns-clause-writes
returns-clause-writes g c =
    let old = c.self.inside.state in
    let new = c.keep_write.new.self in
    let came = became old new
    (Write c.args.at c.args.bytes.now) c.keep_write.result c.keep_write.ensures.kept c.keep_write.ensures.failed in
    let time = time_is old new
    (Write c.args.at c.args.bytes.now) c.keep_write.result c.keep_write.ensures.kept c.keep_write.ensures.failed in
    rw (sym c.self.view_is) (record {
      written = write_written (contents_of old) (contents_of new) c.args.at c.args.bytes.now c.keep_write.result
          (omega (arith, c.self.inside.is_image.long, c.requires.inside))
          (became_done old new (Write c.args.at c.args.bytes.now) c.keep_write.result c.keep_write.ensures.kept);
      image = write_image (contents_of old) (contents_of new) c.args.at c.args.bytes.now
          (omega (arith, c.self.inside.is_image.long, c.requires.inside)) came;
      flight = write_flight (contents_of old) (contents_of new) c.args.at c.args.bytes.now came;
      text = write_text (contents_of old) (contents_of new) c.args.at c.args.bytes.now came;
      time = time_of_call old new (Write c.args.at c.args.bytes.now) (λ i x amid. amid) time;
      cause = cause_is old new (Write c.args.at c.args.bytes.now) c.keep_write.result c.keep_write.ensures.kept
          c.keep_write.ensures.failed;
      kept = c.keep_write.ensures.kept;
      failed = c.keep_write.ensures.failed;
    })

pub invariant_of-self-inside : goal.invariant_of-self-inside
invariant_of-self-inside g c = (
  write_is_image (contents_of c.self.inside.state)
      (contents_of c.keep_write.new.self) c.args.at c.args.bytes.now g.row.N c.self.inside.is_image c.requires.inside
      (let small : AreBytes c.args.bytes.now = search rules in small) (became c.self.inside.state c.keep_write.new.self
      (Write c.args.at c.args.bytes.now) c.keep_write.result c.keep_write.ensures.kept c.keep_write.ensures.failed),
  tt,
)
