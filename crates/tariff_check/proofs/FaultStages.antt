-- The first fault, stage by stage.
use Rattle.std.{specs.{Option.{option_or}, Prelude.{nat_lt}}, proofs.Common.{arith, false, refl, subst, sym, true}}
use Rattle.std.proofs.Common.{[], ℕ, ◌++◌, ◌^◌, ◌||◌, ◌∙◌, ◌∷◌, ◌≡◌, ◌≤◌, All, Bool, List, None, Option, Some, ap}
use Rattle.std.proofs.lemmas.{Bool.{le-ltb}, List.Elements.{All-cons, All-head, All-nil, All-tail}}
use Rattle.tariff_check.{specs.{Cells.{cells_of}, Measure.{measure_of}}, proofs.FirstLine.{never}}
use Rattle.tariff_check.specs.Common.{CheckFault, Line, MeasureZero, NoCommonMeasure, NoMemory, TooManyCells, Tree}
use Rattle.tariff_check.specs.Faults.{HasNone, IsSound, fault_at, fault_if, fault_of, faults_before_cuts}
use Rattle.tariff_check.specs.{Faults.{faults_from_cuts, faults_of, first_some, number_faults}, Stages.{step_fault}}
use Rattle.tariff_check.{specs.Lines.{first_line, has_measure_zero, is_for_nothing}, proofs.MeasureLaws.{IsMeasured}}
use Rattle.tariff_check.specs.Stages.{cut_fault, default_fault, early_fault, late_fault, line_fault, number_fault}

pub or_assoc : {A : Type 0} (x y z : Option A) → option_or (option_or x y) z ≡ option_or x (option_or y z)
or_assoc None y z = refl
or_assoc (Some a) y z = refl

pub or_none : {A : Type 0} (x : Option A) → option_or x None ≡ x
or_none None = refl
or_none (Some a) = refl

-- the first of two is there or the second
pub or_parts : {A : Type 0} (x y : Option A) → option_or x y ≡ None → (x ≡ None) × (y ≡ None)
or_parts None y h = (refl, h)
or_parts (Some a) y h = absurd cc

-- the first fault is that of lines, or else that of their numbers together
pub staged : (ls : List Line) → first_some (faults_of ls) ≡ option_or (early_fault ls) (late_fault ls)
staged ls = simp (or_assoc, or_none)

-- nothing is there first if nothing is there
pub none_each : {A : Type 0} (xs : List (Option A)) → first_some xs ≡ None → All (λ (x : Option A). x ≡ None) xs
none_each {A} [] h = All-nil (λ (x : Option A). x ≡ None)
none_each {A} (x ∷ xs) h =
    let parts = or_parts x (first_some xs) h in
    All-cons (λ (y : Option A). y ≡ None) x xs parts.0 (none_each xs parts.1)

pub none_first : {A : Type 0} (xs : List (Option A)) → All (λ (x : Option A). x ≡ None) xs → first_some xs ≡ None
none_first {A} [] h = refl
none_first {A} (x ∷ xs) h =
    let here = All-head (λ (y : Option A). y ≡ None) x xs h in
    rw here (none_first xs (All-tail (λ (y : Option A). y ≡ None) x xs h))

-- a tariff without a first fault is sound, and a sound one has none
pub sound_if_none : (t : Tree) → fault_of t ≡ None → IsSound t
sound_if_none t h = none_each (faults_of t.lines) h

pub none_if_sound : (t : Tree) → IsSound t → fault_of t ≡ None
none_if_sound t h = none_first (faults_of t.lines) h

-- each of some values is none, one beside the other: the tactic `assumption` finds each by what it says
abbrev pub AreNone : {A : Type 0} → List (Option A) → Type 0
AreNone [] = Unit {0}
AreNone (x ∷ xs) = (x ≡ None) × AreNone xs

are_none : {A : Type 0} (xs : List (Option A)) → All (λ (x : Option A). x ≡ None) xs → AreNone xs
are_none {A} [] h = tt
are_none {A} (x ∷ xs) h =
    (All-head (λ (y : Option A). y ≡ None) x xs h, are_none xs (All-tail (λ (y : Option A). y ≡ None) x xs h))

-- so are the faults of a sound tariff
pub faults_none : (t : Tree) → IsSound t → AreNone (faults_of t.lines)
faults_none t h = are_none (faults_of t.lines) h

-- what a fault that isn't there tells
pub not_if : (b : Bool) (fault : CheckFault) → fault_if b fault ≡ None → b ≡ false
not_if true fault h = absurd cc
not_if false fault h = refl

pub nowhere : (fault : ℕ → CheckFault) (line : Option ℕ) → fault_at fault line ≡ None → line ≡ None
nowhere fault None h = refl
nowhere fault (Some n) h = absurd cc

pub or_false : (a b : Bool) → (a || b) ≡ false → (a ≡ false) × (b ≡ false)
or_false true b h = absurd cc
or_false false b h = (refl, h)

-- without a fault of lines each rate has measures above 0
pub measured_if : (ls : List Line) → early_fault ls ≡ None → All IsMeasured ls
measured_if ls h =
    let after_step = or_parts (step_fault ls) _ h in
    let after_line = or_parts (line_fault ls) _ after_step.1 in
    let after_default = or_parts (default_fault ls) (number_fault ls) after_line.1 in
    let none = are_none (number_faults ls) (none_each (number_faults ls) after_default.1) in
    never has_measure_zero is_for_nothing (λ before x e. (or_false (is_for_nothing x) _ e).0) [] ls
    (nowhere MeasureZero (first_line has_measure_zero ls) (assumption none))

-- the first fault is one of lines
pub early_is_first : (ls : List Line) (fault : CheckFault) → Some fault ≡ early_fault ls
    → first_some (faults_of ls) ≡ Some fault
early_is_first ls fault h = staged ls ∙ ap (λ (o : Option CheckFault). option_or o (late_fault ls)) (sym h)

-- or, before them, one of the display step
pub step_is_first : (ls : List Line) (fault : CheckFault) → step_fault ls ≡ Some fault
    → first_some (faults_of ls) ≡ Some fault
step_is_first ls fault h =
    let early : Some fault ≡ early_fault ls = rw h refl in
    early_is_first ls fault early

-- or else too many cuts
pub cuts_are_first : (ls : List Line) (fault : CheckFault) → None ≡ early_fault ls → measure_of ls ≤ 10 ^ 18
    → cut_fault ls ≡ Some fault → first_some (faults_of ls) ≡ Some fault
cuts_are_first ls fault early common h =
    let late : late_fault ls ≡ option_or (cut_fault ls) (fault_if (nat_lt 64512 (cells_of ls))
    (TooManyCells (cells_of ls))) = rw (le-ltb (10 ^ 18) (measure_of ls) common) refl in
    staged ls ∙ (ap (λ (o : Option CheckFault). option_or o (late_fault ls)) (sym early)
    ∙ (late ∙ ap
    (λ (o : Option CheckFault). option_or o (fault_if (nat_lt 64512 (cells_of ls)) (TooManyCells (cells_of ls)))) h))

-- a fault that isn't one of lines
abbrev is_late : CheckFault → Bool
is_late NoCommonMeasure = true
is_late NoMemory = true
is_late fault = false

-- what is there is one of lines
abbrev IsEarly : Option CheckFault → Type 0
IsEarly o = (fault : CheckFault) → o ≡ Some fault → is_late fault ≡ false

step_is_early : (ls : List Line) → IsEarly (step_fault ls)
step_is_early ls fault is = grind arith

early_is_early : (ls : List Line) → IsEarly (early_fault ls)
early_is_early ls fault is = grind arith

late_false : (fault late : CheckFault) → is_late fault ≡ false → is_late late ≡ true → fault ≡ late → ⊥
late_false fault late early is same = absurd (cc (subst (λ f. is_late f ≡ false) same early))

-- that memory ran out is no fault of lines
pub step_no_memory : (ls : List Line) (fault : CheckFault) → step_fault ls ≡ Some fault → fault ≡ NoMemory → ⊥
step_no_memory ls fault is same = late_false fault NoMemory (step_is_early ls fault is) refl same

pub early_no_memory : (ls : List Line) (fault : CheckFault) → early_fault ls ≡ Some fault → fault ≡ NoMemory → ⊥
early_no_memory ls fault is same = late_false fault NoMemory (early_is_early ls fault is) refl same

no_fault_first : (x y : Option CheckFault) → IsEarly x → option_or x y ≡ Some NoCommonMeasure → x ≡ None
no_fault_first None y early h = refl
no_fault_first (Some f) y early h = absurd (late_false f NoCommonMeasure (early f refl) refl cc)

-- and if the common measure is refused, no fault of lines is there
pub no_early_fault : (t : Tree) → fault_of t ≡ Some NoCommonMeasure → early_fault t.lines ≡ None
no_early_fault t h =
    no_fault_first (early_fault t.lines) (late_fault t.lines) (early_is_early t.lines) (sym (staged t.lines) ∙ h)

-- without a fault of lines, and with a common measure, none is there before those of cuts
pub none_before_cuts : (ls : List Line) → early_fault ls ≡ None → measure_of ls ≤ 10 ^ 18
    → HasNone (faults_before_cuts ls)
none_before_cuts ls early common =
    let before : first_some (faults_before_cuts ls) ≡ option_or (early_fault ls)
    (fault_if (nat_lt (10 ^ 18) (measure_of ls)) NoCommonMeasure) = simp (or_assoc, or_none) in
    none_each (faults_before_cuts ls) (before ∙ rw (early, le-ltb (10 ^ 18) (measure_of ls) common) refl)

-- what is nowhere in a list is nowhere in its beginning
first_left : {A : Type 0} (xs ys : List (Option A)) → first_some (xs ++ ys) ≡ None → first_some xs ≡ None
first_left [] ys h = refl
first_left (x ∷ xs) ys h =
    let parts = or_parts x (first_some (xs ++ ys)) h in
    rw parts.0 (first_left xs ys parts.1)

-- if no fault is there, none is there before those of cuts
pub none_before : (ls : List Line) → first_some (faults_of ls) ≡ None → HasNone (faults_before_cuts ls)
none_before ls h = none_each (faults_before_cuts ls) (first_left (faults_before_cuts ls) (faults_from_cuts ls) h)
