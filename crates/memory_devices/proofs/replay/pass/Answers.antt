use Rattle.std.proofs.Common.{ℕ, ◌∙◌, ◌≡◌, List, ap, false, get_or, length, sym}
use Rattle.memory_devices.specs.{Calls.{CallOutcome, Contents, Sync, after}, Replays.{AreLeftOf}, Requests.{call_of}}
use Rattle.memory_devices.proofs.replay.pass.Goals as goal

-- after a good sync nothing is in flight
synced : (held : Contents) (kept : CallOutcome) (image left : List ℕ) → kept.failed ≡ false → kept.call ≡ Sync
    → image ≡ held.image → left ≡ image → AreLeftOf (after held kept) image left
synced held kept image left good call is same =
    let alike : left ≡ held.image = same ∙ is in
    rw (good, call) (record {
      image_is = is;
      left_is = record {
        size = ap length alike;
        rest = λ place apart. ap (λ (bytes : List ℕ). get_or bytes place 0) alike;
      };
    })

pub returns-in-Sync : goal.returns-in-Sync
returns-in-Sync c held are =
    synced held c.args.kept.now c.args.image.now _
    (ap (λ (kept : CallOutcome). kept.failed) (sym c.kept.view_is) ∙ c.if-kept.false)
    (ap (λ (kept : CallOutcome). kept.call) (sym c.kept.view_is) ∙ ap call_of c.in-Sync.is)
    are.image_is c.copy_from_slice-in-Sync.ensures.after
