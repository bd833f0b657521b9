-- A run over a piece of input: one record after another, up to a refusal or to where the page is nearly full.
use Rattle.std.specs.Prelude.{ℕ, zero, suc, ◌+◌, ◌%◌, ◌^◌, Bool, true, false, cond, List, length, drop, nat_le}
use Rattle.record.specs.Meaning.{refusal_number_of}
use Rattle.bank.specs.Meaning.{Rows}
use Rattle.filter.specs.declared.Filter.{Filter}
use Rattle.verdict.specs.Meaning.{Verdict, Refused, Taken, Passed, Dropped, Answer}
use Rattle.stage.specs.Meaning.{Bridge, bridge, take_of}
use Rattle.text.specs.Meaning.{Page, written, pass_line_of, drop_line_of, line_room}
use Rattle.run.specs.declared.Progress.{Progress}

-- ---- how far a run is

-- before the first piece
abbrev pub fresh_progress_of : Bool → Progress
fresh_progress_of quiet = record { at = 0; records = 0; arrivals = 0; refusal = 0; quiet = quiet; more = true }

-- before another piece
abbrev pub again_of : Progress → Progress
again_of p = record { at = 0; records = p.records; arrivals = p.arrivals; refusal = 0; quiet = p.quiet; more = true }

-- there is room for a line
abbrev pub room_of : Page → Bool
room_of w = nat_le (w.filled + line_room) (length w.octets)

-- one record more, of so many octets
abbrev pub advanced_of : Progress → ℕ → ℕ → Bool → Progress
advanced_of p used arrivals more = record { at = (p.at + used) % 2 ^ 64; records = (p.records + 1) % 2 ^ 64; arrivals = arrivals; refusal = 0; quiet = p.quiet; more = more }

-- a refusal of that number
abbrev pub stopped_of : Progress → ℕ → Progress
stopped_of p n = record { at = p.at; records = p.records; arrivals = p.arrivals; refusal = n; quiet = p.quiet; more = false }

-- ---- what is told of an answer

pub record Printed : Type 0 where
  pub page : Page
  pub progress : Progress

abbrev pub printed : Page → Progress → Printed
printed w p = record { page = w; progress = p }

-- the page with a line more, unless nothing is to be told of arrivals
abbrev pub said_of : Progress → Page → List ℕ → Page
said_of p w line = cond p.quiet w (written w line)

-- one record more, and the page after it
abbrev pub moved_of : Progress → ℕ → ℕ → Page → Printed
moved_of p used arrivals w = printed w (advanced_of p used arrivals (room_of w))

-- the number of the next arrival
abbrev pub next_of : Progress → ℕ
next_of p = (p.arrivals + 1) % 2 ^ 64

unfoldable pub printed_by : Page → Progress → ℕ → Verdict → Printed
printed_by w p used (Refused why) = printed w (stopped_of p (refusal_number_of why))
printed_by w p used Taken = moved_of p used p.arrivals w
printed_by w p used (Passed v) = moved_of p used (next_of p) (said_of p w (pass_line_of (next_of p) v))
printed_by w p used (Dropped d) = moved_of p used (next_of p) (said_of p w (drop_line_of (next_of p) d))

abbrev pub printed_of : Page → Progress → Answer → Printed
printed_of w p a = printed_by w p a.used a.verdict

-- ---- the run

pub record Ran : Type 0 where
  pub after : Bridge
  pub page : Page
  pub progress : Progress

abbrev pub ran_to : Bridge → Printed → Ran
ran_to b t = record { after = b; page = t.page; progress = t.progress }

abbrev pub ran : List Filter → Rows → List ℕ → Page → Progress → Ran
ran table s lists w p = ran_to (bridge table s lists) (printed w p)

-- at most so many records, each the octets from where the last one ended
unfoldable pub piece_run_of : ℕ → List ℕ → Bridge → Page → Progress → Ran
piece_run_of zero input b w p = ran_to b (printed w p)
piece_run_of (suc n) input b w p =
    let t = take_of b (drop p.at input) in
    let d = printed_of w p t.answer in
    cond d.progress.more (piece_run_of n input t.after d.page d.progress) (ran_to t.after d)
