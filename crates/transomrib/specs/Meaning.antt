-- What C sees: an answer as a struct of numbers, and the counters and flags under the numbers that include/transomrib.h names.
use Rattle.std.specs.Prelude.{ℕ, List, cond, eqb, ltb}
use mir.Val.{bool_byte}
use Rattle.sizes.specs.Meaning.{filter_count, gate_count, meter_count, port_count}
use Rattle.record.specs.Meaning.{refusal_number_of}
use Rattle.bank.specs.Meaning.{Rows, port, counters, gate, meter}
use Rattle.filter.specs.declared.Filter.{Filter}
use Rattle.verdict.specs.Meaning.{Verdict, Refused, Taken, Passed, Dropped, Answer, drop_number_of}
use Rattle.stage.specs.Meaning.{Bridge, Took, bridge, take_of}
use Rattle.transomrib.specs.declared.Reply.{Reply}
use Rattle.gate.specs.declared.Gate.{Gate}
use Rattle.meter.specs.declared.Meter.{Meter}
use Rattle.bank.specs.declared.Counters.{Counters}
use Rattle.bank.specs.declared.Port.{Port}

-- a reply to all but a frame that passes
abbrev pub short_reply : ℕ → ℕ → ℕ → Reply
short_reply used verdict number =
    record { eligible = 0; used = used; verdict = verdict; number = number; priority = 0; class = 0; drop_mark = 0; timed = 0 }

-- 0 refused, 1 taken, 2 passed, 3 dropped
abbrev pub spelled_of : ℕ → Verdict → Reply
spelled_of used (Refused r) = short_reply used 0 (refusal_number_of r)
spelled_of used Taken = short_reply used 1 0
spelled_of used (Passed p) =
    record {
      eligible = p.eligible;
      used = used;
      verdict = 2;
      number = 0;
      priority = p.priority;
      class = p.class;
      drop_mark = p.drop_mark;
      timed = bool_byte p.timed;
    }
spelled_of used (Dropped d) = short_reply used 3 (drop_number_of d)

abbrev pub reply_of : Answer → Reply
reply_of a = spelled_of a.used a.verdict

-- what a call leaves of the bridge, and its reply
pub record Replied : Type 0 where
  pub after : Bridge
  pub reply : Reply

abbrev pub replied : List Filter → Rows → List ℕ → Reply → Replied
replied table s lists r = record { after = bridge table s lists; reply = r }

abbrev pub replied_by : Took → Replied
replied_by t = record { after = t.after; reply = reply_of t.answer }

abbrev pub replied_of : Bridge → List ℕ → Replied
replied_of b input = replied_by (take_of b input)

-- 0 past the table
abbrev pub if_in_table : ℕ → ℕ → ℕ → ℕ
if_in_table index size n = cond (ltb index size) n 0

-- 1 to 7: MatchingFrames, PassingSDU, NotPassingSDU, PassingFrames, NotPassingFrames, REDFrames and the oversize flag of a filter;
-- 8 and 9: the invalid-receive and the octets flag of a gate; 10: the red flag of a meter; 11: DiscardedFrames of a port; any other: 0
unfoldable pub chosen_of : ℕ → ℕ → Counters → Gate → Meter → Port → ℕ
chosen_of what i c g m p =
    cond (eqb what 1) (if_in_table i filter_count c.matching)
    (cond (eqb what 2) (if_in_table i filter_count c.passing_sdu)
    (cond (eqb what 3) (if_in_table i filter_count c.not_passing_sdu)
    (cond (eqb what 4) (if_in_table i filter_count c.passing)
    (cond (eqb what 5) (if_in_table i filter_count c.not_passing)
    (cond (eqb what 6) (if_in_table i filter_count c.red)
    (cond (eqb what 7) (if_in_table i filter_count (bool_byte c.oversize))
    (cond (eqb what 8) (if_in_table i gate_count (bool_byte g.invalid_receive_flag))
    (cond (eqb what 9) (if_in_table i gate_count (bool_byte g.octets_flag))
    (cond (eqb what 10) (if_in_table i meter_count (bool_byte m.red_flag))
    (cond (eqb what 11) (if_in_table i port_count p.discarded) 0))))))))))

abbrev pub named_of : Rows → ℕ → ℕ → ℕ
named_of s what i = chosen_of what i (counters s i) (gate s i) (meter s i) (port s i)
