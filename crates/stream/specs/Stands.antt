-- Where a stream stands between two pieces, from the first bridge on: what was read is taken but for the octets that wait at the front of the buffer.
use Rattle.std.specs.Prelude.{◌≡◌, ℕ, ◌%◌, ◌^◌, ◌<◌, ◌≤◌, List, [], ◌++◌, length, take, drop}
use Rattle.sizes.specs.Meaning.{filter_count}
use Rattle.bank.specs.Meaning.{Rows}
use Rattle.verdict.specs.Meaning.{Answer}
use Rattle.stage.specs.Meaning.{Bridge, bridge}
use Rattle.text.specs.Meaning.{Page, page}
use Rattle.run.specs.Meaning.{again_of, ran, piece_run_of}
use Rattle.run.specs.Input.Meaning.{Front, used_in, arrivals_in}
use Rattle.promises.specs.Pieces.Meaning.{Stops}
use Rattle.stream.specs.declared.Stream.{Stream}

pub record Stands {n : ℕ} (b : Bridge) (s : Stream n) (bank : Rows) (lists : List ℕ) : Type 0 where
  pub input : List ℕ
  pub answers : List Answer
  pub front : Front b input answers (bridge s.table bank lists) (take s.kept s.buffer)
  pub within : s.kept ≤ length s.buffer
  pub full : length b.table ≡ filter_count
  pub records : s.progress.records ≡ length answers % 2 ^ 64
  pub arrivals : s.progress.arrivals ≡ arrivals_in answers % 2 ^ 64
  pub octets : s.octets ≡ used_in answers % 2 ^ 64
  pub stops : Stops (bridge s.table bank lists) (take s.kept s.buffer) s.progress

-- what is put so far
abbrev pub text_of : Page → List ℕ
text_of w = take w.filled w.octets

-- what a turn does: nothing is taken, and the page is empty; or what waited, with what was read behind it, is run from the front of an empty page, as each run of
-- `RunsOn` is, and what that leaves waits
pub data Turned {n : ℕ} (s : Stream n) (bank : Rows) (lists : List ℕ) (s' : Stream n) (bank' : Rows) (lists' : List ℕ) : Type 0 where
  idle : s'.page.filled ≡ 0 → s'.progress ≡ s.progress → bridge s'.table bank' lists' ≡ bridge s.table bank lists → Turned s bank lists s' bank' lists'
  with_run : (octets piece read : List ℕ) → piece ≡ take s.kept s.buffer ++ read → length piece < 2 ^ 64
      → ran s'.table bank' lists' s'.page s'.progress ≡ piece_run_of (length piece) piece (bridge s.table bank lists) (page octets 0) (again_of s.progress)
      → take s'.kept s'.buffer ≡ drop s'.progress.at piece → Turned s bank lists s' bank' lists'

-- turn after turn, and the texts of their pages one behind the other
pub data Turns {n : ℕ} (s : Stream n) (bank : Rows) (lists : List ℕ) : Stream n → Rows → List ℕ → List ℕ → Type 0 where
  none : Turns s bank lists s bank lists []
  one_more : {s' s″ : Stream n} {bank' bank″ : Rows} {lists' lists″ text : List ℕ} → Turns s bank lists s' bank' lists' text → Turned s' bank' lists' s″ bank″ lists″
      → Turns s bank lists s″ bank″ lists″ (text ++ text_of s″.page)
