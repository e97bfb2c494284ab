use Rattle.{std.specs.Prelude.{option_to_list}, verify_bench.specs.{Story.{moment_of, moments_at}, Told.{Adds}}}
use Rattle.std.proofs.{Common.{List, subst, sym}, lemmas.{List.{map-append}, Result.{on_ok_weaker}}}
use Rattle.verify_bench.{specs.Common.{Moment, stamp_at}, proofs.Tellings.{adds_then}}
use Rattle.verify_bench.proofs.teller.Teller.put_both.Goals as goal

pub returns : goal.returns
returns c =
    let first = option_to_list c.args.happenings.own in
    let second = option_to_list c.args.happenings.refusal in
    on_ok_weaker c.put-2.result (λ adds s m hired offsets stands.
    subst (λ (list : List Moment). Adds list c.args.stories.now c.put-2.new.stories)
    (sym (map-append (moment_of m.trip (stamp_at s m.clock)) first second))
    (adds_then (moments_at s m first) (moments_at s m second) c.args.stories.now c.put.new.stories c.put-2.new.stories
    (c.in_ok-put.ensures s m hired offsets stands) (adds s m hired offsets stands)))
    c.put-2.ensures
