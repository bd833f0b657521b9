-- Histories: calls one after another on one bridge, and what each of them did.
use Rattle.std.specs.Prelude.{ℕ, zero, suc, List, [], ◌∷◌, ◌≡◌, Ok, Err, None}
use Rattle.sizes.specs.Meaning.{filter_count, lists_octets}
use Rattle.record.specs.declared.Record.{Record}
use Rattle.record.specs.Meaning.{Reading}
use Rattle.record.specs.Meaning.{read_of, of_arrival}
use Rattle.bank.specs.Meaning.{Rows}
use Rattle.filter.specs.Meaning.{Fits}
use Rattle.filter.specs.Meaning.{Found}
use Rattle.filter.specs.Meaning.{no_row}
use Rattle.verdict.specs.Meaning.{Verdict}
use Rattle.verdict.specs.Meaning.{Answer}
use Rattle.stage.specs.Meaning.{Bridge, bridge, key_of, first_row, started_of, take_of, took}

-- a call is the octet string that it is given
abbrev pub Call : Type 0
Call = List ℕ

-- the bridge after the calls
unfoldable pub run_of : Bridge → List Call → Bridge
run_of b [] = b
run_of b (c ∷ cs) = run_of (take_of b c).after cs

-- what they answer, one after another
unfoldable pub answers_of : Bridge → List Call → List Answer
answers_of b [] = []
answers_of b (c ∷ cs) = (take_of b c).answer ∷ answers_of (take_of b c).after cs

-- ---- the fresh bridge: every place empty, every word 0, every octet of the lists 0

abbrev pub repeated : {A : Type 0} → A → ℕ → List A
repeated x zero = []
repeated x (suc n) = x ∷ repeated x n

abbrev pub no_words : Rows
no_words r = 0 ∷ 0 ∷ 0 ∷ 0 ∷ 0 ∷ 0 ∷ 0 ∷ 0 ∷ []

unfoldable pub fresh : Bridge
fresh = bridge (repeated no_row filter_count) no_words (repeated 0 lists_octets)

-- ---- what a call did

-- the record as read, the filter that an arrival uses (no other record uses one), and the verdict
pub record Event : Type 0 where
  pub reading : Reading
  pub filter : Found
  pub verdict : Verdict

abbrev pub used_by : Bridge → Record → Found
used_by b = of_arrival (λ a. first_row b Fits (key_of a)) None

abbrev pub filter_in : Bridge → Reading → Found
filter_in b (Err why) = None
filter_in b (Ok (r, used)) = used_by b r

abbrev pub reading_of : Bridge → Call → Reading
reading_of b c = read_of c (started_of b.bank)

abbrev pub event_of : Bridge → Call → Event
event_of b c = record { reading = reading_of b c; filter = filter_in b (reading_of b c); verdict = (take_of b c).answer.verdict }

unfoldable pub events_of : Bridge → List Call → List Event
events_of b [] = []
events_of b (c ∷ cs) = event_of b c ∷ events_of (take_of b c).after cs

pub data History : Bridge → List Call → List Answer → Bridge → Type 0 where
  done : {b : Bridge} → History b [] [] b
  call : {b b' b'' : Bridge} {c : Call} {cs : List Call} {a : Answer} {answers : List Answer} → took b'.table b'.bank b'.lists a ≡ take_of b c → History b' cs answers b'' → History b (c ∷ cs) (a ∷ answers) b''
