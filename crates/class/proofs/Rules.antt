-- The rules of the table, each proved once over the whole of it.
use Rattle.std.specs.Prelude.{ℕ, ◌+◌, ◌-◌, ◌*◌, ◌/◌, ◌%◌, ◌≤◌, ◌<◌, Bool, true, ◌&&◌, ◌≡◌, refl, leb, ltb, eqb, get_or}
use Rattle.std.proofs.Common.{arith, ◌∙◌, leb-true, ltb-true, eqb-true, le-leb}
use Rattle.std.proofs.lemmas.Bool.{agree_below, agree_below_at}
use Rattle.class.specs.Meaning.{class_at, class_rows, importance, in_table}
use Rattle.logic.specs.Laws.{conjuncts, and_right}

-- what the range test tells
pub record InTable (priority classes : ℕ) : Type 0 where
  pub priority_high : priority ≤ 7
  pub classes_low : 1 ≤ classes
  pub classes_high : classes ≤ 8

pub in_table_lem : (priority classes : ℕ) → in_table priority classes ≡ true → InTable priority classes
in_table_lem priority classes e =
    record {
      priority_high = leb-true priority 7 (search conjuncts);
      classes_low = leb-true 1 classes (search conjuncts);
      classes_high = leb-true classes 8 (search conjuncts);
    }

-- place `k` of eight rows of eight: its row, and the count of classes of its column
abbrev priority_at : ℕ → ℕ
priority_at k = k / 8

abbrev count_at : ℕ → ℕ
count_at k = k % 8 + 1

-- where a priority and a count of classes stand
abbrev place_of : ℕ → ℕ → ℕ
place_of priority classes = priority * 8 + classes - 1

place_priority : (priority classes : ℕ) → 1 ≤ classes → classes ≤ 8 → priority_at (place_of priority classes) ≡ priority
place_priority priority classes low high = omega arith

place_count : (priority classes : ℕ) → 1 ≤ classes → classes ≤ 8 → count_at (place_of priority classes) ≡ classes
place_count priority classes low high = omega arith

-- what each rule is tested against
abbrev always : ℕ → Bool
always k = true

-- a class is one of those that there are
below : ℕ → Bool
below k = ltb (class_at (priority_at k) (count_at k)) (count_at k)

all_below : agree_below below always 64 ≡ true
unfolding below class_rows
all_below = refl

pub class_below : (priority classes : ℕ) → InTable priority classes → class_at priority classes < classes
unfolding below
class_below priority classes k =
    let e = agree_below_at below always 64 (place_of priority classes) all_below (omega arith) in
    ltb-true _ _ (rw (place_priority priority classes k.classes_low k.classes_high, place_count priority classes k.classes_low k.classes_high) at e)

-- the highest of them is that of priority 7
highest : ℕ → Bool
highest k = eqb (class_at 7 (k + 1)) k

all_highest : agree_below highest always 8 ≡ true
unfolding highest class_rows
all_highest = refl

pub class_highest : (classes : ℕ) → 1 ≤ classes → classes ≤ 8 → class_at 7 classes ≡ classes - 1
unfolding highest
class_highest classes low high =
    let count : classes - 1 + 1 ≡ classes = omega arith in
    let e = agree_below_at highest always 8 (classes - 1) all_highest (omega arith) in
    eqb-true _ _ (rw count at e)

-- a more important priority never has a lower class: k stands for two places in `importance` and a count
more_important : ℕ → Bool
more_important k = leb (k / 64) (k / 8 % 8)

ordered : ℕ → Bool
ordered k = leb (k / 64) (k / 8 % 8) && leb (class_at (get_or importance (k / 64) 0) (count_at k)) (class_at (get_or importance (k / 8 % 8) 0) (count_at k))

all_ordered : agree_below ordered more_important 512 ≡ true
unfolding ordered more_important class_rows
all_ordered = refl

pub class_ordered : (i j classes : ℕ) → i ≤ j → j ≤ 7 → 1 ≤ classes → classes ≤ 8 → class_at (get_or importance i 0) classes ≤ class_at (get_or importance j 0) classes
unfolding ordered more_important
class_ordered i j classes less top low high =
    let k : ℕ = i * 64 + j * 8 + classes - 1 in
    let first : k / 64 ≡ i = omega arith in
    let second : k / 8 % 8 ≡ j = omega arith in
    let count : count_at k ≡ classes = omega arith in
    let e = agree_below_at ordered more_important 512 k all_ordered (omega arith) in
    leb-true _ _ (and_right _ _ (rw (first, second, count) at e ∙ le-leb _ _ less))
