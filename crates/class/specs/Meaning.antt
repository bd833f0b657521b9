-- The traffic class of an internal priority: the standard's recommended mapping (01, A frame's path).
use Rattle.std.specs.Prelude.{ℕ, ◌-◌, Bool, cond, ◌&&◌, List, [], ◌∷◌, Option, Some, None, leb, get_or}

-- a row for each priority: its class where there are 1 to 8 classes
abbrev priority0 : List ℕ
priority0 = 0 ∷ 0 ∷ 0 ∷ 0 ∷ 0 ∷ 1 ∷ 1 ∷ 1 ∷ []

abbrev priority1 : List ℕ
priority1 = 0 ∷ 0 ∷ 0 ∷ 0 ∷ 0 ∷ 0 ∷ 0 ∷ 0 ∷ []

abbrev priority2 : List ℕ
priority2 = 0 ∷ 0 ∷ 0 ∷ 1 ∷ 1 ∷ 2 ∷ 2 ∷ 2 ∷ []

abbrev priority3 : List ℕ
priority3 = 0 ∷ 0 ∷ 0 ∷ 1 ∷ 1 ∷ 2 ∷ 3 ∷ 3 ∷ []

abbrev priority4 : List ℕ
priority4 = 0 ∷ 1 ∷ 1 ∷ 2 ∷ 2 ∷ 3 ∷ 4 ∷ 4 ∷ []

abbrev priority5 : List ℕ
priority5 = 0 ∷ 1 ∷ 1 ∷ 2 ∷ 2 ∷ 3 ∷ 4 ∷ 5 ∷ []

abbrev priority6 : List ℕ
priority6 = 0 ∷ 1 ∷ 2 ∷ 3 ∷ 3 ∷ 4 ∷ 5 ∷ 6 ∷ []

abbrev priority7 : List ℕ
priority7 = 0 ∷ 1 ∷ 2 ∷ 3 ∷ 4 ∷ 5 ∷ 6 ∷ 7 ∷ []

unfoldable pub class_rows : List (List ℕ)
class_rows = priority0 ∷ priority1 ∷ priority2 ∷ priority3 ∷ priority4 ∷ priority5 ∷ priority6 ∷ priority7 ∷ []

-- the class of a priority of 0 to 7 where there are 1 to 8 classes
abbrev pub class_at : ℕ → ℕ → ℕ
class_at priority classes = get_or (get_or class_rows priority []) (classes - 1) 0

-- the priorities from the least important to the most: 1 is background traffic, below the default 0
abbrev pub importance : List ℕ
importance = 1 ∷ 0 ∷ 2 ∷ 3 ∷ 4 ∷ 5 ∷ 6 ∷ 7 ∷ []

-- a priority and a count of classes that the table has
abbrev pub in_table : ℕ → ℕ → Bool
in_table priority classes = leb priority 7 && leb 1 classes && leb classes 8

-- any other is a number out of range, and has no class
unfoldable pub traffic_class_of : ℕ → ℕ → Option ℕ
traffic_class_of priority classes = cond (in_table priority classes) (Some (class_at priority classes)) None

-- document 01's number for an answer: refusal 3; 0 where there is a class
abbrev pub class_number_of : Option ℕ → ℕ
class_number_of (Some class) = 0
class_number_of None = 3
