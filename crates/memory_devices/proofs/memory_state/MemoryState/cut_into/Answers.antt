use Rattle.std.{specs.List.{All}, proofs.{Common.{refl, rules, subst, suc, sym, take}, lemmas.List.{take_more}}}
use Rattle.std.proofs.Common.{[], ℕ, ◌+◌, ◌-◌, ◌<◌, ◌∙◌, ◌≡◌, List, ap, arith, get_or, get_or-take, length, length-take}
use Rattle.memory_devices.specs.Calls.{CallOutcome, Contents, IsInSome, after, after_all, begun, opened}
use Rattle.memory_devices.{specs.{Common.{SameBut}, Moments.{LeftBy}}, proofs.Bytes.{are_bytes}}
use Rattle.memory_devices.specs.{MemoryBoard.{BoardState, contents_inside}, Replays.{AreLeftOf, IsInStore}}
use Rattle.memory_devices.proofs.{Cutting.{inside_is, left_first, left_inside, settled_is}, OneMoreCall.{after_pushed}}
use Rattle.memory_devices.proofs.memory_state.MemoryState.cut_into.Given as given
use Rattle.memory_devices.proofs.memory_state.MemoryState.cut_into.Goals as goal

pub loop-kept-preserved : goal.loop-kept-preserved
loop-kept-preserved g c =
    let start = c.args.self.now.start in
    let calls = c.args.self.now.calls in
    let n = c.args.call - 1 in
    let k = c.loop-kept.kept-index in
    let kept = c.kept-item.result in
    let calls_are : c.deref.result.now ≡ calls =
    c.deref.ensures.value ∙ ap (λ (b : BoardState). b.calls) c.self.view_is in
    let under : k < n = omega (arith, length-take n c.deref.result.now, c.loop-kept-test.true) in
    let below : k < length calls =
    omega (arith, length-take n c.deref.result.now, ap length calls_are, c.loop-kept-test.true) in
    let is : kept ≡ get_or calls k kept = c.kept-item.is ∙ get_or-take n c.deref.result.now k kept under
    ∙ ap (λ (l : List CallOutcome). get_or l k kept) calls_are in
    let next : after_all (opened start) (take (k + 1) calls) ≡ after (after_all (opened start) (take k calls)) kept =
    ap (after_all (opened start)) (take_more calls k kept below) ∙ after_pushed (opened start) (take k calls)
    (get_or calls k kept) ∙ ap (after (after_all (opened start) (take k calls))) (sym is) in
    record {
      image_size = c.pass.auto.image ∙ c.loop-kept.invariant.image_size;
      settled_size = c.pass.auto.settled ∙ c.loop-kept.invariant.settled_size;
      left_size = c.pass.auto.left ∙ c.loop-kept.invariant.left_size;
      follows = subst (λ (h : Contents). AreLeftOf h c.pass.new.image c.pass.new.left) (sym next)
          (c.pass.ensures (after_all (opened start) (take k calls)) c.loop-kept.invariant.follows);
    }

inside_of : (g : given.Over) (c : goal.After-slice_known-7-1 g)
    → SameBut (IsInSome (contents_inside c.args.self.now c.args.call).ranges)
    (contents_inside c.args.self.now c.args.call).image c.begin.new.left
inside_of g c =
    let start = c.args.self.now.start in
    let calls = c.args.self.now.calls in
    let n = c.args.call - 1 in
    let calls_are : c.self.inside.calls.items ≡ calls = ap (λ (b : BoardState). b.calls) c.self.view_is in
    let number_is : c.args.call ≡ suc n = omega (arith, c.if-count-eq0.false) in
    let below : n < length calls = omega (arith, c.requires.call, number_is) in
    let all : c.loop-kept.kept-index ≡ n = omega (
      arith,
      length-take n c.deref.result.now,
      ap length c.deref.ensures.value,
      ap length calls_are,
      c.loop-kept.auto.kept-index-end,
      c.loop-kept-test.false,
      below,
    ) in
    let is : c.index.result.now ≡ get_or calls n c.index.result.now =
    c.index.ensures ∙ ap (λ (l : List CallOutcome). get_or l n c.index.result.now) calls_are in
    let follows = c.begin.ensures (after_all (opened start) (take n calls)) c.loop-kept.image
    (subst (λ (k : ℕ). AreLeftOf (after_all (opened start) (take k calls)) c.loop-kept.image c.loop-kept.left) all
    c.loop-kept.invariant.follows) in
    let found : contents_inside c.args.self.now c.args.call
    ≡ begun (after_all (opened start) (take n calls)) c.index.result.now.call =
    ap (λ (k : ℕ). contents_inside c.args.self.now k) number_is
    ∙ inside_is (opened start) calls n c.index.result.now below is in
    subst (λ (h : Contents). SameBut (IsInSome h.ranges) h.image c.begin.new.left) (sym found) follows.left_is

pub returns-clause-inside : goal.returns-clause-inside
returns-clause-inside g c = inside_of g c

pub returns-clause-left : goal.returns-clause-left
returns-clause-left g c =
    left_inside g.row.N (opened c.args.self.now.start) c.args.self.now.calls c.args.call c.begin.new.left
    (are_bytes c.begin.new.left (search rules))
    (ap (λ (b : BoardState). length b.start) (sym c.self.view_is) ∙ c.self.invariant.3)
    (subst (λ (b : BoardState). All (IsInStore g.row.N) b.calls) c.self.view_is c.self.invariant.1) (inside_of g c)

pub returns-clause-settled : goal.returns-clause-settled
returns-clause-settled g c none =
    settled_is (contents_inside c.args.self.now c.args.call) c.begin.new.left none (inside_of g c)

pub returns-then-count-eq0-clause-left : goal.returns-then-count-eq0-clause-left
returns-then-count-eq0-clause-left g c =
    let start = c.args.self.now.start in
    let left = c.copy_from_slice.new.self in
    let start_is : left ≡ start =
    c.copy_from_slice.ensures.after ∙ c.as_slice.ensures.value ∙ ap (λ (b : BoardState). b.start) c.self.view_is in
    let zero_is : 0 ≡ c.args.call = omega (arith, c.if-count-eq0.true) in
    subst (λ (k : ℕ). LeftBy (opened start) c.args.self.now.calls left (contents_inside c.args.self.now k).text) zero_is
    (left_first (opened start) c.args.self.now.calls left [] (record {
      bytes = record {
        size = ap length start_is;
        rest = λ place _. ap (λ (l : List ℕ). get_or l place 0) start_is;
      };
      small = are_bytes left (search rules);
      text = refl;
    }))
