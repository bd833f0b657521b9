-- The calls that an input of many records is, and what a run over a piece of it is to leave.
use Rattle.std.specs.Prelude.{ℕ, ◌+◌, ◌%◌, ◌^◌, ◌<◌, ◌≤◌, true, false, List, [], ◌∷◌, ◌++◌, ◌≡◌, length, drop}
use Rattle.record.specs.declared.Refusal.{Refusal}
use Rattle.record.specs.Meaning.{refusal_number_of}
use Rattle.verdict.specs.Meaning.{Answer, Verdict, Refused}
use Rattle.stage.specs.Meaning.{Bridge, take_of}
use Rattle.text.specs.Meaning.{line_room, Page, page, written}
use Rattle.run.specs.declared.Progress.{Progress}
use Rattle.run.specs.Meaning.{again_of, room_of, Ran, piece_run_of}
use Rattle.run.specs.Input.Meaning.{Front, used_in, arrivals_in, verdict_line_of, told_of}
use Rattle.promises.specs.Meaning.{Call}

-- each record is a call that is given all the octets from there on
abbrev pub calls_of : List ℕ → List Answer → List Call
calls_of s [] = []
calls_of s (a ∷ answers) = s ∷ calls_of (drop a.used s) answers

-- no line of an answer is longer than the room that is kept for a line
abbrev pub Brief : Verdict → Type 0
Brief v = (n : ℕ) → length (verdict_line_of n v) ≤ line_room

abbrev pub EachBrief : List Answer → Type 0
EachBrief [] = Unit {0}
EachBrief (a ∷ answers) = Brief a.verdict × EachBrief answers

-- a progress from which a run may begin or go on, within the piece
pub record Going (input : List ℕ) (p : Progress) : Type 0 where
  pub within : p.at ≤ length input
  pub none : p.refusal ≡ 0
  pub records : p.records < 2 ^ 64
  pub arrivals : p.arrivals < 2 ^ 64

-- a run stops at a refusal, where there is no room for another line, or where no octet is left
pub data Stops (b : Bridge) (rest : List ℕ) (p : Progress) : Type 0 where
  refused : (why : Refusal) → (take_of b rest).answer.verdict ≡ Refused why → p.refusal ≡ refusal_number_of why → Stops b rest p
  full : p.refusal ≡ 0 → p.more ≡ false → Stops b rest p
  used_up : p.refusal ≡ 0 → rest ≡ [] → Stops b rest p

-- a run over the octets `input` from the progress p on took records at their front: it left the bridge and the octets as these leave them, counted them
-- (modulo 2^64), and put their lines on the page w
pub record RunIs (input : List ℕ) (b : Bridge) (w : Page) (p : Progress) (r : Ran) : Type 0 where
  pub answers : List Answer
  pub front : Front b (drop p.at input) answers r.after (drop r.progress.at input)
  pub at : r.progress.at ≡ p.at + used_in answers
  pub within : r.progress.at ≤ length input
  pub records : r.progress.records ≡ (p.records + length answers) % 2 ^ 64
  pub arrivals : r.progress.arrivals ≡ (p.arrivals + arrivals_in answers) % 2 ^ 64
  pub quiet : r.progress.quiet ≡ p.quiet
  pub text : r.page ≡ written w (told_of p.quiet p.arrivals answers)
  pub stops : Stops r.after (drop r.progress.at input) r.progress
  -- with room for a line at first, all their octets found a place
  pub whole : room_of w ≡ true → EachBrief answers → w.filled + length (told_of p.quiet p.arrivals answers) ≤ length w.octets

-- runs one after another, from the octets s and the later pieces on: each over what the last one left, with the next piece behind it, and into a page of its
-- own. `last` is what the last of them leaves, and `rest` the octets that it does not take
pub data RunsOn : Bridge → List ℕ → Progress → List (List ℕ) → Ran → List ℕ → Type 0 where
  ends : {b : Bridge} {s : List ℕ} {p : Progress} (octets : List ℕ) (r : Ran) → length s < 2 ^ 64 → r ≡ piece_run_of (length s) s b (page octets 0) (again_of p) → RunsOn b s p [] r (drop r.progress.at s)
  goes : {b : Bridge} {s rest : List ℕ} {p : Progress} {pieces : List (List ℕ)} {last : Ran} (octets : List ℕ) (r : Ran) (piece : List ℕ) → length s < 2 ^ 64 → r ≡ piece_run_of (length s) s b (page octets 0) (again_of p)
      → RunsOn r.after (drop r.progress.at s ++ piece) r.progress pieces last rest → RunsOn b s p (piece ∷ pieces) last rest

abbrev pub joined : List (List ℕ) → List ℕ
joined [] = []
joined (piece ∷ pieces) = piece ++ joined pieces

-- all of them together took records at the front of all the octets
pub record RunsAre (all : List ℕ) (b : Bridge) (p : Progress) (last : Ran) (rest : List ℕ) : Type 0 where
  pub answers : List Answer
  pub front : Front b all answers last.after rest
  pub records : last.progress.records ≡ (p.records + length answers) % 2 ^ 64
  pub arrivals : last.progress.arrivals ≡ (p.arrivals + arrivals_in answers) % 2 ^ 64
  pub stops : Stops last.after rest last.progress
