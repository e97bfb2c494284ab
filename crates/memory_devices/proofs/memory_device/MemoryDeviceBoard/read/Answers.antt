use Rattle.{std.proofs.Common.{ap, subst, sym}, memory_devices.specs.Calls.{Contents, IsInSome, Read}}
use Rattle.memory_devices.specs.{Common.{IsImage}, MemoryBoard.{contents_of}}
use Rattle.memory_devices.proofs.CallEffects.{became, cause_is, read_same, time_is, time_of_call}
use Rattle.memory_devices.proofs.memory_device.MemoryDeviceBoard.read.Goals as goal

pub returns-clause-reads : goal.returns-clause-reads
returns-clause-reads g c =
    let old = c.self.inside.state in
    let new = c.keep_read.new.self in
    let came = became old new Read c.keep_read.result c.keep_read.ensures.kept c.keep_read.ensures.failed in
    let time = time_is old new Read c.keep_read.result c.keep_read.ensures.kept c.keep_read.ensures.failed in
    rw (sym c.self.view_is) (record {
      bytes = c.keep_read.ensures.bytes;
      image = ap (λ (h : Contents). h.image) (read_same (contents_of old) (contents_of new) came);
      flight = λ place flies. subst (λ (h : Contents). IsInSome h.ranges place)
          (read_same (contents_of old) (contents_of new) came) flies;
      text = ap (λ (h : Contents). h.text) (read_same (contents_of old) (contents_of new) came);
      time = time_of_call old new Read (λ i x amid. amid) time;
      cause = cause_is old new Read c.keep_read.result c.keep_read.ensures.kept c.keep_read.ensures.failed;
      kept = c.keep_read.ensures.kept;
      failed = c.keep_read.ensures.failed;
    })

pub invariant_of-self-inside : goal.invariant_of-self-inside
invariant_of-self-inside g c = (
  subst (λ (h : Contents). IsImage g.row.N h.image) (sym (read_same (contents_of c.self.inside.state)
      (contents_of c.keep_read.new.self) (became c.self.inside.state c.keep_read.new.self Read c.keep_read.result
      c.keep_read.ensures.kept c.keep_read.ensures.failed))) c.self.inside.is_image,
  tt,
)
