use Rattle.{std.proofs.Common.{ℕ, List, subst, sym}, memory_devices.specs.{Calls.{IsInSome, Print}, Common.{IsImage}}}
use Rattle.memory_devices.{specs.MemoryBoard.{contents_of}, proofs.CallEffects.{print_whole, time_is, time_of_print}}
use Rattle.memory_devices.proofs.CallEffects.{became, became_done, cause_is, print_image, print_ranges, print_text}
use Rattle.memory_devices.proofs.memory_device.MemoryDevicePrinter.print.Goals as goal

pub returns-clause-prints : goal.returns-clause-prints
returns-clause-prints g c =
    let old = c.self.inside.state in
    let new = c.keep_print.new.self in
    let came =
    became old new (Print c.args.bytes.now) c.keep_print.result c.keep_print.ensures.kept c.keep_print.ensures.failed in
    let time = time_is old new
    (Print c.args.bytes.now) c.keep_print.result c.keep_print.ensures.kept c.keep_print.ensures.failed in
    rw (sym c.self.view_is) (record {
      whole = print_whole (contents_of old) (contents_of new) c.args.bytes.now c.keep_print.result
          (became_done old new (Print c.args.bytes.now) c.keep_print.result c.keep_print.ensures.kept);
      begun = print_text (contents_of old) (contents_of new) c.args.bytes.now came;
      image = print_image (contents_of old) (contents_of new) c.args.bytes.now came;
      flight = λ place flies. subst (λ (r : List (ℕ × ℕ)). IsInSome r place)
          (print_ranges (contents_of old) (contents_of new) c.args.bytes.now came) flies;
      time = time_of_print old new c.args.bytes.now came time;
      cause = cause_is old new (Print c.args.bytes.now) c.keep_print.result c.keep_print.ensures.kept
          c.keep_print.ensures.failed;
      kept = c.keep_print.ensures.kept;
      failed = c.keep_print.ensures.failed;
    })

pub invariant_of-self-inside : goal.invariant_of-self-inside
invariant_of-self-inside g c = (
  subst (IsImage g.row.N) (sym (print_image (contents_of c.self.inside.state) (contents_of c.keep_print.new.self)
      c.args.bytes.now (became c.self.inside.state c.keep_print.new.self (Print c.args.bytes.now) c.keep_print.result
      c.keep_print.ensures.kept c.keep_print.ensures.failed))) c.self.inside.is_image,
  tt,
)
