use Rattle.std.proofs.Common.{ℕ, ◌+◌, ◌<◌, ◌∙◌, ◌≡◌, List, ap, arith, false, length, refl, sym, true}
use Rattle.data_port.specs.Items.{item_count}
use Rattle.data_port.{specs.{ReadingStages.{follows, has_all}, State.{standing_of}}, proofs.Streams.{room_for}}
use Rattle.data_port.proofs.state.State.take.Goals as goal

pub push-requires-else-is_whole : goal.push-requires-else-is_whole
push-requires-else-is_whole c =
    let fits : follows c.args.self.now.part.items c.args.byte ≡ true =
    ap (λ (part : List ℕ). follows part c.args.byte) (sym c.as_slice.ensures.value)
    ∙ (sym c.may_follow.ensures ∙ c.if-not-may_follow.false) in
    let left : has_all c.args.self.now.part.items ≡ false =
    ap has_all (sym c.as_slice-2.ensures.value) ∙ (sym c.is_whole.ensures ∙ c.if-is_whole.false) in
    let room : length c.args.self.now.part.items < item_count + 2 =
    room_for (standing_of c.args.self.now) c.args.byte c.requires.sense c.requires.going fits left in
    (omega arith, room)

pub returns-then-not-may_follow-clause-err : goal.returns-then-not-may_follow-clause-err
returns-then-not-may_follow-clause-err c = (refl, refl)
