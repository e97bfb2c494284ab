use Rattle.{std.specs.Prelude.{option_to_list}, verify_bench.specs.Story.{is_in_trip, key_told, latch_told, whys_in}}
use Rattle.std.proofs.Common.{[], ◌∙◌, ◌≡◌, Bool, None, Option, Some, ap, false, refl, rules, subst, sym, true}
use Rattle.verify_bench.specs.Bench.{BenchStands}
use Rattle.verify_bench.specs.{Common.{Key, Operating, Why, context_now}, TripExplanations.{hired_by}}
use Rattle.verify_bench.proofs.teller.Teller.key_acted.Goals as goal

pub returns-in-Some : goal.returns-in-Some
returns-in-Some c = λ s m o hired operating latch whys stands kept.
    let key = c.in-Some.key in
    let meter = c.args.self.now.meter in
    let waits : m.latch ≡ Some key = sym latch ∙ c.in-Some.is in
    let amid : is_in_trip meter.operating ≡ true = search rules in
    let there : is_in_trip o.next.operating ≡ true =
    subst (λ (p : Operating). is_in_trip p ≡ true) stands.operating amid in
    let accepted : c.args.before.refusal ≡ None = search rules in
    let none : whys_in o.acts ≡ [] = whys there ∙ ap option_to_list accepted in
    let here : BenchStands s (hired_by (Some key) c.args.before.operating (context_now s m) hired) meter o.next =
    subst (λ (p : Operating). BenchStands s (hired_by (Some key) p (context_now s m) hired) meter o.next) (sym operating)
    (subst (λ (k : Option Key). BenchStands s (hired_by k m.operating (context_now s m) hired) meter o.next) waits
    stands) in
    let told : option_to_list c.key_told.result ≡ key_told s key m.operating m o.next =
    subst (λ (p : Operating). option_to_list c.key_told.result ≡ key_told s key p m o.next) operating
    (c.key_told.ensures s m o.next hired here there kept) in
    subst (λ (k : Option Key). option_to_list c.key_told.result ≡ latch_told s k m o) (sym waits)
    (rw (there, none) told)
