-- The worked figures of a gate, computed (01, Worked figures): base 5000; open 1000 ns with 600 octets, closed 1000 ns; record state open, no blocks.
use Rattle.std.specs.Prelude.{ℕ, true, false, cond, Option, Some, None, List, [], ◌∷◌, ◌++◌, ◌≡◌, refl, eqb}
use Rattle.gate.specs.declared.Entry.{Entry}
use Rattle.gate.specs.declared.Found.{Found}
use Rattle.gate.specs.declared.Gate.{Gate}
use Rattle.gate.specs.Meaning.{entries_from, entries_of, cycle_of, found_of, in_force_of, gate_number_of, no_limit, spent_of, left_of, limited_of, passed_of, gate_step_of, Frame, gate_after}

-- a frame's drop number, 0 where it passes, and the octets then left in the interval of its time, no_limit where there is no limit
pub record Row : Type 0 where
  pub number : ℕ
  pub left : ℕ

abbrev pub row : ℕ → ℕ → Row
row number left = record { number = number; left = left }

abbrev pub left_in : Gate → Option Found → ℕ
left_in g None = no_limit
left_in g (Some f) = cond (eqb f.entry.maximum no_limit) no_limit (left_of g f)

unfoldable pub figures_of : Gate → List Entry → List Frame → List Row
figures_of g es [] = []
figures_of g es (a ∷ more) = let r = gate_step_of g es a.time a.octets in row (gate_number_of r.outcome) (left_in r.gate (in_force_of es g.base a.time)) ∷ figures_of r.gate es more

-- ---- the gate, and its list as octets
abbrev pub figure_gate : Gate
figure_gate = record {
  opened = true;
  ipv = 8;
  invalid_receive_block = false;
  octets_block = false;
  base = 5000;
  invalid_receive_flag = false;
  octets_flag = false;
  since = 0;
  spent = 0;
}

abbrev pub figure_list : List ℕ
figure_list = 0 ∷ 1 ∷ 8 ∷ 0 ∷ 0 ∷ 3 ∷ 232 ∷ 0 ∷ 0 ∷ 2 ∷ 88 ∷ 0 ∷ 0 ∷ 8 ∷ 0 ∷ 0 ∷ 3 ∷ 232 ∷ 255 ∷ 255 ∷ 255 ∷ 255 ∷ []

abbrev pub at : ℕ → ℕ → Frame
at t n = record { time = t; octets = n }

-- ---- the cases, each after the frames of those before it
abbrev pub CaseOf : List Frame → List Frame → List Row → Type 0
CaseOf earlier frames rows = figures_of (gate_after figure_gate (entries_of figure_list) earlier) (entries_of figure_list) frames ≡ rows

abbrev pub frames_f : List Frame
frames_f = at 4999 2000 ∷ []

abbrev pub frames_g : List Frame
frames_g = at 5000 600 ∷ []

abbrev pub frames_h : List Frame
frames_h = at 5999 1 ∷ at 5999 0 ∷ []

abbrev pub frames_i : List Frame
frames_i = at 6000 0 ∷ []

abbrev pub frames_again : List Frame
frames_again = at 7000 0 ∷ at 7000 601 ∷ at 7000 600 ∷ []

-- ★F 4999: passes, no limit
abbrev pub CaseF : Type 0
CaseF = CaseOf [] frames_f (row 0 no_limit ∷ [])

-- ★G 5000, 600 octets: passes, 0 left
abbrev pub CaseG : Type 0
CaseG = CaseOf frames_f frames_g (row 0 0 ∷ [])

-- ★H 5999, 1 octet: drop 5; 0 octets: passes
abbrev pub CaseH : Type 0
CaseH = CaseOf (frames_f ++ frames_g) frames_h (row 5 0 ∷ row 0 0 ∷ [])

-- ★I 6000: drop 4
abbrev pub CaseI : Type 0
CaseI = CaseOf (frames_f ++ frames_g ++ frames_h) frames_i (row 4 no_limit ∷ [])

-- 7000: 600 left again. 601 octets are too many, and 600 leave 0
abbrev pub CaseAgain : Type 0
CaseAgain = CaseOf (frames_f ++ frames_g ++ frames_h ++ frames_i) frames_again (row 0 600 ∷ row 5 600 ∷ row 0 0 ∷ [])

pub figures : CaseF × CaseG × CaseH × CaseI × CaseAgain
unfolding entries_from cycle_of found_of in_force_of spent_of limited_of passed_of gate_step_of gate_after figures_of
figures = (refl, refl, refl, refl, refl)
