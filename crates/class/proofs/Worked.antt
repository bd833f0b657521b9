-- ★L, computed.
use Rattle.std.specs.Prelude.{Some, ◌≡◌, refl}
use Rattle.class.specs.Meaning.{traffic_class_of, class_rows}

-- ★L priority 0 of 8 classes: 1
pub case_l : traffic_class_of 0 8 ≡ Some 1
unfolding traffic_class_of class_rows
case_l = refl
