use Rattle.{std.proofs.Common.{subst, sym}, memory_devices.specs.MemoryBoard.{contents_of, image_of}}
use Rattle.memory_devices.specs.Calls.{IsInSome, Sync}
use Rattle.memory_devices.{specs.Common.{IsImage}, proofs.CallEffects.{sync_image, sync_text, time_is, time_of_call}}
use Rattle.memory_devices.proofs.CallEffects.{became, became_done, cause_is, on_ok, same_but, sync_durable, sync_flight}
use Rattle.memory_devices.proofs.memory_device.MemoryDeviceBoard.sync.Goals as goal

pub returns-clause-syncs : goal.returns-clause-syncs
returns-clause-syncs g c =
    let old = c.self.inside.state in
    let new = c.keep_sync.new.self in
    let came = became old new Sync c.keep_sync.result c.keep_sync.ensures.kept c.keep_sync.ensures.failed in
    let time = time_is old new Sync c.keep_sync.result c.keep_sync.ensures.kept c.keep_sync.ensures.failed in
    rw (sym c.self.view_is) (record {
      durable = sync_durable (contents_of old) (contents_of new) c.keep_sync.result
          (became_done old new Sync c.keep_sync.result c.keep_sync.ensures.kept);
      same = on_ok c.keep_sync.result (sync_image (contents_of old) (contents_of new) came);
      image = same_but (IsInSome (contents_of old).ranges) (image_of old) (image_of new)
          (sync_image (contents_of old) (contents_of new) came);
      flight = sync_flight (contents_of old) (contents_of new) came;
      text = sync_text (contents_of old) (contents_of new) came;
      time = time_of_call old new Sync (λ i x amid. amid) time;
      cause = cause_is old new Sync c.keep_sync.result c.keep_sync.ensures.kept c.keep_sync.ensures.failed;
      kept = c.keep_sync.ensures.kept;
      failed = c.keep_sync.ensures.failed;
    })

pub invariant_of-self-inside : goal.invariant_of-self-inside
invariant_of-self-inside g c = (
  subst (IsImage g.row.N) (sym (sync_image (contents_of c.self.inside.state) (contents_of c.keep_sync.new.self)
      (became c.self.inside.state c.keep_sync.new.self Sync c.keep_sync.result c.keep_sync.ensures.kept
      c.keep_sync.ensures.failed))) c.self.inside.is_image,
  tt,
)
