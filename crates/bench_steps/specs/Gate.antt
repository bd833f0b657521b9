-- A gate kept in nine words, one for each field in its order, and what one step leaves there.
use Rattle.std.specs.Prelude.{ℕ, ◌+◌, ◌*◌, ◌%◌, List, get_or, set}
use mir.Val.{bool_byte}
use Rattle.gate.specs.declared.Gate.{Gate}
use Rattle.gate.specs.declared.Outcome.{Outcome}
use Rattle.gate.specs.declared.Outcome.TheVariants.{Passed, Blocked, Closed, TooManyOctets}
use Rattle.gate.specs.declared.Stepped.{Stepped as Gated}
use Rattle.gate.specs.Meaning.{gate_number_of, entries_of, gate_step_of}
use Rattle.bench_steps.specs.Words.{Stepped, is_set}

abbrev pub gate_of : List ℕ → Gate
gate_of words = record {
  opened = is_set words 0;
  ipv = get_or words 1 0 % 256;
  invalid_receive_block = is_set words 2;
  octets_block = is_set words 3;
  base = get_or words 4 0;
  invalid_receive_flag = is_set words 5;
  octets_flag = is_set words 6;
  since = get_or words 7 0;
  spent = get_or words 8 0;
}

-- what a step changes: both flags and the count
abbrev pub put_of : List ℕ → Gate → List ℕ
put_of words g = set (set (set (set words 5 (bool_byte g.invalid_receive_flag)) 6 (bool_byte g.octets_flag)) 7 g.since) 8 g.spent

-- the IPV of a frame that passed, and of a drop none
abbrev pub ipv_of : Outcome → ℕ
ipv_of (Passed ipv) = ipv
ipv_of Blocked = 0
ipv_of Closed = 0
ipv_of TooManyOctets = 0

abbrev pub code_of : Outcome → ℕ
code_of o = gate_number_of o * 256 + ipv_of o

abbrev pub told_by : List ℕ → Gated → Stepped
told_by words r = record { words = put_of words r.gate; answer = code_of r.outcome }

unfoldable pub gated_of : List ℕ → List ℕ → ℕ → ℕ → Stepped
gated_of words list time msdu = told_by words (gate_step_of (gate_of words) (entries_of list) time msdu)
